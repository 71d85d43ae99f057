-- The margin kind: a whole number between two ends, in hundredths of a percent of moisture.
--   end                            the greatest margin; the least is its negation
--   Held                           the margins
--   held z                         the margin that a kept number means: itself, or the end that it lies beyond
--   opposite x                     the margin with the other sign
--   lesser x y, greater x y        of two margins
--   margin                         and is the lesser, or the greater, not the opposite, the ends are false and true
--   margin_means m                 what a kept margin means
use Rattle.std.specs.Prelude.{ℤ, pos, neg_ℤ, ◌≤ℤ◌}
use Rattle.std.proofs.Common.{arith}
use Rattle.std.specs.Int.{int_min, int_max}
use Rattle.std.proofs.lemmas.Int.{ints, clamps}
use Rattle.kinds.specs.Algebra.{Algebra}
use Rattle.kinds.specs.declared.margin.Margin.{Margin}

abbrev pub end : ℤ
end = pos 32767

pub record Held : Type 0 where
  pub value : ℤ
  pub low : neg_ℤ end ≤ℤ value
  pub high : value ≤ℤ end

abbrev pub held : ℤ → Held
held z = record {
  value = int_max (neg_ℤ end) (int_min z end);
  low = omega (arith, ints, clamps);
  high = omega (arith, ints, clamps);
}

abbrev pub opposite : Held → Held
opposite x = record { value = neg_ℤ x.value; low = omega (arith, ints); high = omega (arith, ints) }

abbrev pub lesser : Held → Held → Held
lesser x y = record { value = int_min x.value y.value; low = omega (arith, ints, clamps); high = omega (arith, ints, clamps) }

abbrev pub greater : Held → Held → Held
greater x y = record { value = int_max x.value y.value; low = omega (arith, ints, clamps); high = omega (arith, ints, clamps) }

abbrev pub margin : Algebra
margin = record { Val = Held; true = held end; false = held (neg_ℤ end); not = opposite; and = lesser; or = greater }

abbrev pub margin_means : Margin → Held
margin_means m = held m.0
