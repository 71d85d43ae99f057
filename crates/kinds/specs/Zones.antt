-- The zone kind: for each of 64 zones, whether it holds.
--   Zone               one of the 64 zones
--   everywhere I a     the algebra a at each place of I
--   zones              two-valued at each zone
--   bit n i            bit i of a number, bit 0 the lowest
--   zones_means w      bit i of the word says whether zone i holds
use Rattle.std.specs.Prelude.{ℕ, ◌/◌, ◌%◌, ◌^◌, ◌<◌, Bool, ◌==◌}
use Rattle.kinds.specs.Algebra.{Algebra}
use Rattle.kinds.specs.Two.{two}
use Rattle.kinds.specs.declared.zones.Zones.{Zones}

pub record Zone : Type 0 where
  pub index : ℕ
  pub below : index < 64

abbrev pub everywhere : Type 0 → Algebra → Algebra
everywhere I a = record {
  Val = I → a.Val;
  true = λ i. a.true;
  false = λ i. a.false;
  not = λ x i. a.not (x i);
  and = λ x y i. a.and (x i) (y i);
  or = λ x y i. a.or (x i) (y i);
}

abbrev pub zones : Algebra
zones = everywhere Zone two

unfoldable pub bit : ℕ → ℕ → Bool
bit n i = n / 2 ^ i % 2 == 1

abbrev pub zones_means : Zones → Zone → Bool
zones_means w z = bit w.0 z.index
