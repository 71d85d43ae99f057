-- The lists that sources mean.
--   most            how many values a source has at most
--   front xs        the first of a list, as many as count
--   bits w          the 64 predicates of a word: predicate n is bit n, bit 0 the lowest
--   paired xs ys    two lists side by side, as long as both last
use Rattle.std.specs.Prelude.{ℕ, List, [], ◌∷◌, map, take}
use Rattle.std.specs.List.{range_with_len}
use Rattle.kinds.specs.Zones.{bit}
use Rattle.kinds.specs.declared.pair.Pair.{Pair}
use Rattle.kinds.specs.declared.two.Two.{Two}
use Rattle.maps.specs.AtZone.{two_of}

abbrev pub most : ℕ
most = 64

abbrev pub front : {X : Type 0} → List X → List X
front xs = take most xs

unfoldable pub bits : ℕ → List Two
bits w = map (λ n. two_of (bit w n)) (range_with_len 0 most)

abbrev pub paired : {X Y : Type 0} → List X → List Y → List (Pair X Y)
paired [] ys = []
paired (x ∷ xs) [] = []
paired (x ∷ xs) (y ∷ ys) = record { first = x; second = y } ∷ paired xs ys
