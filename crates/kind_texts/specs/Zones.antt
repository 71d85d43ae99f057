-- How a zone word is written: how many zones hold, and the lowest that does not.
--   zones_from i k    k zones in order, from zone i on
--   every             the 64 zones in order
--   lowest_text m     the lowest zone that does not hold, where as many as m hold before it: none where all do
--   counted_text n m  the text where n zones hold, and m of them before the lowest that does not
--   zone_text v       the text of a value of the zone kind
use Rattle.std.specs.Prelude.{ℕ, zero, suc, ◌+◌, ◌<◌, ◌≤◌, Bool, cond, List, [], ◌∷◌, ◌++◌, codes, decimal, count_by, ◌==◌}
use Rattle.std.proofs.Common.{arith}
use Rattle.std.specs.List.{prefix_len}
use Rattle.kinds.specs.Zones.{Zone}

-- the numbers of those zones stay below 64
pub first_within : (i k : ℕ) → i + suc k ≤ 64 → i < 64
first_within i k within = omega arith

pub rest_within : (i k : ℕ) → i + suc k ≤ 64 → i + 1 + k ≤ 64
rest_within i k within = omega arith

pub all_within : 0 + 64 ≤ 64
all_within = omega arith

unfoldable pub zones_from : (i k : ℕ) → i + k ≤ 64 → List Zone
zones_from i zero within = []
zones_from i (suc k) within = record { index = i; below = first_within i k within } ∷ zones_from (i + 1) k (rest_within i k within)

unfoldable pub every : List Zone
every = zones_from 0 64 all_within

abbrev pub lowest_text : ℕ → List ℕ
lowest_text m = cond (m == 64) (codes "none") (decimal m)

abbrev pub counted_text : ℕ → ℕ → List ℕ
counted_text n m = decimal n ++ codes " first " ++ lowest_text m

abbrev pub zone_text : (Zone → Bool) → List ℕ
zone_text v = counted_text (count_by v every) (prefix_len v every)
