-- That the margin kind keeps the laws, as its impl has to show: margins of one value are one, and the rest is arithmetic.
use Rattle.std.specs.Prelude.{◌≡◌, ℤ, neg_ℤ, ◌≤ℤ◌, int_le}
use Rattle.std.proofs.Common.{ap, arith}
use Rattle.std.proofs.Math.Dec.{T_prop}
use mathlib.Core.HLevel.{is_prop→PathP}
use Rattle.std.proofs.lemmas.Int.{ints, clamps}
use Rattle.kinds.specs.Algebra.{Laws}
use Rattle.kinds.specs.Margin.{Held, margin, end}

≤ℤ_prop : (a b : ℤ) → IsProp (a ≤ℤ b)
≤ℤ_prop a b p q = λ i. record { le = T_prop (int_le a b) p.le q.le i }

pub same : (x y : Held) → x.value ≡ y.value → x ≡ y
same x y e = λ i. record {
  value = e i;
  low = is_prop→PathP (λ j. neg_ℤ end ≤ℤ e j) (λ j. ≤ℤ_prop (neg_ℤ end) (e j)) x.low y.low i;
  high = is_prop→PathP (λ j. e j ≤ℤ end) (λ j. ≤ℤ_prop (e j) end) x.high y.high i;
}

pub margin_laws : Laws margin
margin_laws = record {
  and_assoc = λ x y z. same _ _ (omega (arith, ints, clamps));
  and_comm = λ x y. same _ _ (omega (arith, ints, clamps));
  or_assoc = λ x y z. same _ _ (omega (arith, ints, clamps));
  or_comm = λ x y. same _ _ (omega (arith, ints, clamps));
  and_or = λ x y z. same _ _ (omega (arith, ints, clamps));
  and_true = λ x. same _ _ (omega (arith, ints, clamps));
  or_false = λ x. same _ _ (omega (arith, ints, clamps));
  and_false = λ x. same _ _ (omega (arith, ints, clamps));
  not_not = λ x. same _ _ (omega (arith, ints, clamps));
  not_and = λ x y. same _ _ (omega (arith, ints, clamps));
  differ = λ e. let v = ap (λ (x : Held). x.value) e in omega (arith, ints, clamps);
}
