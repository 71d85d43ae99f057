-- The three-valued kind: no, unknown, yes, in that order.
--   opposite x                     yes for no, and no for yes
--   lesser x y, greater x y        of two values, by that order
--   three                          and is the lesser, or the greater, not the opposite
use Rattle.kinds.specs.Algebra.{Algebra}
use Rattle.kinds.specs.declared.three.Three.{Three}
use Rattle.kinds.specs.declared.three.Three.TheVariants.{No, Unknown, Yes}

abbrev pub opposite : Three → Three
opposite No = Yes
opposite Unknown = Unknown
opposite Yes = No

abbrev pub lesser : Three → Three → Three
lesser No y = No
lesser Unknown No = No
lesser Unknown Unknown = Unknown
lesser Unknown Yes = Unknown
lesser Yes y = y

abbrev pub greater : Three → Three → Three
greater No y = y
greater Unknown No = Unknown
greater Unknown Unknown = Unknown
greater Unknown Yes = Yes
greater Yes y = Yes

abbrev pub three : Algebra
three = record { Val = Three; true = Yes; false = No; not = opposite; and = lesser; or = greater }
