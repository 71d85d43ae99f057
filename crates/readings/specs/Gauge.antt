-- What a gauge list means.
--   content ps n      the value of point n, or nothing where it is missing or not listed
--   difference        how far a value lies on that side of a limit
--   reading d v       the margin that definition d gives at a point's value v
--   kept h            a margin as lists keep it
--   measured ps d     the margin of definition d over the points
--   margins ps ds     the list of a gauge: the first 64 definitions count
use Rattle.std.specs.Prelude.{ℕ, List, map, ℤ, pos, ◌-ℤ◌, Some, None, Option, slice_index_or}
use Rattle.kinds.specs.Margin.{Held, held}
use Rattle.kinds.specs.declared.margin.Margin.{Margin}
use Rattle.readings.specs.Lists.{front}
use Rattle.readings.specs.declared.gauge.Definition.{Definition}
use Rattle.readings.specs.declared.gauge.Side.{Side}
use Rattle.readings.specs.declared.gauge.Side.TheVariants.{Above, Below}

abbrev pub content : List (Option ℕ) → ℕ → Option ℕ
content ps n = slice_index_or ps n None

abbrev pub difference : Side → ℕ → ℕ → ℤ
difference Above value limit = pos value -ℤ pos limit
difference Below value limit = pos limit -ℤ pos value

abbrev pub reading : Definition → Option ℕ → Held
reading d None = held (pos 0)
reading d (Some value) = held (difference d.side value d.limit)

abbrev pub kept : Held → Margin
kept h = record { 0 = h.value }

abbrev pub measured : List (Option ℕ) → Definition → Margin
measured ps d = kept (reading d (content ps d.point))

abbrev pub margins : List (Option ℕ) → List Definition → List Margin
margins ps ds = map (measured ps) (front ds)
