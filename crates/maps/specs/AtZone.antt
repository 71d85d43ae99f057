-- One zone to two-valued.
--   two_of b   yes where b is true
--   asked m w  whether the zone that m asks for holds in the word w
--   Asks n r   r is the map that asks for zone n, or nothing where there is no zone n
use Rattle.std.specs.Prelude.{◌≡◌, ℕ, ◌<◌, ◌≤◌, Bool, true, false, Some, None, Option}
use Rattle.kinds.specs.Zones.{bit}
use Rattle.kinds.specs.declared.two.Two.{Two}
use Rattle.kinds.specs.declared.two.Two.TheVariants.{No, Yes}
use Rattle.kinds.specs.declared.zones.Zones.{Zones}
use Rattle.maps.specs.declared.zone.AtZone.{AtZone}

abbrev pub two_of : Bool → Two
two_of true = Yes
two_of false = No

abbrev pub asked : AtZone → Zones → Two
asked m w = two_of (bit w.0 m.zone)

abbrev pub Asks : ℕ → Option AtZone → Type 0
Asks n (Some m) = (n < 64) × (m.zone ≡ n)
Asks n None = 64 ≤ n
