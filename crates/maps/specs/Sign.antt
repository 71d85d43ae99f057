-- A margin's sign.
--   sign_of z  of a number: below 0 no, 0 unknown, above 0 yes
--   sign x     of a margin
use Rattle.std.specs.Prelude.{zero, suc, ℤ, pos, negsuc}
use Rattle.kinds.specs.Margin.{Held}
use Rattle.kinds.specs.declared.three.Three.{Three}
use Rattle.kinds.specs.declared.three.Three.TheVariants.{No, Unknown, Yes}

abbrev pub sign_of : ℤ → Three
sign_of (pos zero) = Unknown
sign_of (pos (suc n)) = Yes
sign_of (negsuc n) = No

abbrev pub sign : Held → Three
sign x = sign_of x.value
