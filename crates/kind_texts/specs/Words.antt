-- The words that values are written as.
--   two_text b         of a two-valued value
--   three_text x       of a three-valued value
use Rattle.std.specs.Prelude.{ℕ, Bool, true, false, List, codes}
use Rattle.kinds.specs.declared.three.Three.{Three}
use Rattle.kinds.specs.declared.three.Three.TheVariants.{No, Unknown, Yes}

abbrev pub two_text : Bool → List ℕ
two_text true = codes "yes"
two_text false = codes "no"

abbrev pub three_text : Three → List ℕ
three_text No = codes "no"
three_text Unknown = codes "unknown"
three_text Yes = codes "yes"
