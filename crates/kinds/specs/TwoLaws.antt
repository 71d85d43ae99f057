-- That the two-valued kind keeps the laws, as its impl has to show.
use Rattle.std.proofs.Math.Bool
use Rattle.std.specs.Prelude.{true, false, refl}
use Rattle.std.proofs.Common.{true≢false}
use Rattle.std.proofs.Math.Bool.{and_assoc, and_comm, or_assoc, or_comm, and-or_distrib_left}
use Rattle.kinds.specs.Algebra.{Laws}
use Rattle.kinds.specs.Two.{two}

pub two_laws : Laws two
two_laws = record {
  and_assoc = and_assoc;
  and_comm = and_comm;
  or_assoc = or_assoc;
  or_comm = or_comm;
  and_or = and-or_distrib_left;
  and_true = λ x. refl;
  or_false = λ x. refl;
  and_false = λ x. refl;
  not_not = Bool.not-not;
  not_and = elim [ true ↦ λ y. refl | false ↦ λ y. refl ];
  differ = true≢false;
}
