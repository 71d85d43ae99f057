use Rattle.evaluation.proofs.Watching.{fresh_first, evaluated, copies}
use Rattle.evaluation.proofs.evaluation_stands.Goals as goal

pub returns : goal.returns
returns g c = record {
  fresh = fresh_first g.K.TruthKind.algebra g.K.TruthKind.laws;
  evaluates = evaluated g.K.TruthKind.algebra g.K.TruthKind.laws;
  copies = copies g.K.TruthKind.algebra g.K.TruthKind.laws;
}
