-- The two-valued kind.
--   two              true, false and the operations of Bool
--   two_means x      whether x is yes
use Rattle.std.specs.Prelude.{Bool, true, false, not, ◌&&◌, ◌||◌}
use Rattle.kinds.specs.Algebra.{Algebra}
use Rattle.kinds.specs.declared.two.Two.{Two}
use Rattle.kinds.specs.declared.two.Two.TheVariants.{No, Yes}

abbrev pub two : Algebra
two = record { Val = Bool; true = true; false = false; not = not; and = ◌&&◌; or = ◌||◌ }

abbrev pub two_means : Two → Bool
two_means No = false
two_means Yes = true
