-- Two-valued into three-valued.
--   widened x      no to no, yes to yes
use Rattle.kinds.specs.declared.two.Two.{Two}
use Rattle.kinds.specs.declared.three.Three.{Three}

abbrev pub widened : Two → Three
widened Two.No = Three.No
widened Two.Yes = Three.Yes
