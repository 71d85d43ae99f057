-- That a pair of kinds keeps the laws, as its impl has to show: part by part.
use Rattle.std.proofs.Common.{ap}
use Rattle.kinds.specs.Algebra.{Algebra, Laws}
use Rattle.kinds.specs.Pair.{both}

pub both_laws : (a b : Algebra) → Laws a → Laws b → Laws (both a b)
both_laws a b l m = record {
  and_assoc = λ x y z i. (l.and_assoc x.0 y.0 z.0 i, m.and_assoc x.1 y.1 z.1 i);
  and_comm = λ x y i. (l.and_comm x.0 y.0 i, m.and_comm x.1 y.1 i);
  or_assoc = λ x y z i. (l.or_assoc x.0 y.0 z.0 i, m.or_assoc x.1 y.1 z.1 i);
  or_comm = λ x y i. (l.or_comm x.0 y.0 i, m.or_comm x.1 y.1 i);
  and_or = λ x y z i. (l.and_or x.0 y.0 z.0 i, m.and_or x.1 y.1 z.1 i);
  and_true = λ x i. (l.and_true x.0 i, m.and_true x.1 i);
  or_false = λ x i. (l.or_false x.0 i, m.or_false x.1 i);
  and_false = λ x i. (l.and_false x.0 i, m.and_false x.1 i);
  not_not = λ x i. (l.not_not x.0 i, m.not_not x.1 i);
  not_and = λ x y i. (l.not_and x.0 y.0 i, m.not_and x.1 y.1 i);
  differ = λ e. l.differ (ap (λ p. p.0) e);
}
