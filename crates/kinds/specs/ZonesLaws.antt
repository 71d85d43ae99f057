-- That the zone kind keeps the laws, as its impl has to show: they hold at each zone, and there is a zone.
use Rattle.std.proofs.Common.{ap, arith}
use Rattle.kinds.specs.Algebra.{Algebra, Laws}
use Rattle.kinds.specs.TwoLaws.{two_laws}
use Rattle.kinds.specs.Two.{two}
use Rattle.kinds.specs.Zones.{Zone, everywhere, zones}

everywhere_laws : (I : Type 0) (a : Algebra) → I → Laws a → Laws (everywhere I a)
everywhere_laws I a here l = record {
  and_assoc = λ x y z i p. l.and_assoc (x p) (y p) (z p) i;
  and_comm = λ x y i p. l.and_comm (x p) (y p) i;
  or_assoc = λ x y z i p. l.or_assoc (x p) (y p) (z p) i;
  or_comm = λ x y i p. l.or_comm (x p) (y p) i;
  and_or = λ x y z i p. l.and_or (x p) (y p) (z p) i;
  and_true = λ x i p. l.and_true (x p) i;
  or_false = λ x i p. l.or_false (x p) i;
  and_false = λ x i p. l.and_false (x p) i;
  not_not = λ x i p. l.not_not (x p) i;
  not_and = λ x y i p. l.not_and (x p) (y p) i;
  differ = λ e. l.differ (ap (λ f. f here) e);
}

pub zones_laws : Laws zones
zones_laws = everywhere_laws Zone two (record { index = 0; below = omega arith }) two_laws
