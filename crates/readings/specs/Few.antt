-- That the list of each source has at most 64 values, as its `few` says.
use Rattle.std.specs.Prelude.{◌≡◌, ℕ, ◌≤◌, min, List, [], ◌∷◌, map, length, Option}
use Rattle.std.proofs.Common.{arith, length-take}
use Rattle.std.proofs.lemmas.List.{length-map}
use Rattle.std.proofs.lemmas.List.FromFn.{length-map-range_with_len}
use Rattle.kinds.specs.Zones.{bit}
use Rattle.maps.specs.AtZone.{two_of}
use Rattle.readings.specs.Gauge.{margins, measured}
use Rattle.readings.specs.declared.gauge.Definition.{Definition}
use Rattle.readings.specs.Lists.{most, front, bits, paired}

pub front_few : {X : Type 0} (xs : List X) → length (front xs) ≤ most
front_few xs = omega (arith, length-take 64 xs)

pub length_bits : (w : ℕ) → length (bits w) ≡ 64
unfolding bits
length_bits w = length-map-range_with_len (λ n. two_of (bit w n)) 0 64

pub bits_few : (w : ℕ) → length (bits w) ≤ most
bits_few w = omega (arith, length_bits w)

pub length_paired : {X Y : Type 0} (xs : List X) (ys : List Y) → length (paired xs ys) ≡ min (length xs) (length ys)
length_paired [] ys = omega arith
length_paired (x ∷ xs) [] = omega arith
length_paired (x ∷ xs) (y ∷ ys) = omega (arith, length_paired xs ys)

pub paired_few : {X Y : Type 0} (xs : List X) (ys : List Y) → length xs ≤ most → length (paired xs ys) ≤ most
paired_few xs ys h = omega (arith, length_paired xs ys)

pub map_few : {X Y : Type 0} (f : X → Y) (xs : List X) → length xs ≤ most → length (map f xs) ≤ most
map_few f xs h = simp length-map h

pub margins_few : (ps : List (Option ℕ)) (ds : List Definition) → length (margins ps ds) ≤ most
margins_few ps ds = map_few (measured ps) (front ds) (front_few ds)
