-- The pair of two kinds, worked part by part.
--   both a b     the algebra of pairs
use Rattle.kinds.specs.Algebra.{Algebra}

abbrev pub both : Algebra → Algebra → Algebra
both a b = record {
  Val = a.Val × b.Val;
  true = (a.true, b.true);
  false = (a.false, b.false);
  not = λ x. (a.not x.0, b.not x.1);
  and = λ x y. (a.and x.0 y.0, b.and x.1 y.1);
  or = λ x y. (a.or x.0 y.0, b.or x.1 y.1);
}
