-- The cases, computed; what a text comes to is computed by the machine of the grammar's theory.
use Rattle.std.proofs.Common.{refl, arith}
use Rattle.words.specs.Lookup.{lookup}
use Rattle.grammar.specs.Lexemes.{lexemes}
use Rattle.grammar.specs.Machine.{items_of, step, unit_done, depth, runs, outcome}
use Rattle.grammar.specs.declared.TextFault.TheVariants.{Misplaced, EndsEarly}
use Rattle.grammar.proofs.Outcome.{accepted_sound, refused_sound}
use Rattle.reels.specs.Reels.{nothing, a_step, a_routine}
use Rattle.history.specs.Moments.{events, readings, numbered, tally, open_at, latest, over, call_of, hides, seen, prior}
use Rattle.history.specs.Value.{earlier, before, value}
use Rattle.watching.specs.declared.EventFault.TheVariants.{BeginDue, NotInnermost}
use Rattle.watching.specs.declared.WatchFault.TheVariants.{AtEvent}
use Rattle.promise.specs.Cases.{Worked}
use Rattle.runs.proofs.Twinned.{error_of}

pub worked : Worked
unfolding value events readings numbered tally open_at latest over call_of hides seen prior before earlier lookup lexemes items_of step unit_done depth runs outcome
worked = record {
  nested = a_step (a_routine (omega arith) (a_step nothing) (a_step nothing));
  before_p1 = record { reads = accepted_sound _ _ refl; values = refl };
  rbefore_p1 = record { reads = accepted_sound _ _ refl; values = refl };
  once_both = record { reads = accepted_sound _ _ refl; values = refl };
  ronce_both = record { reads = accepted_sound _ _ refl; values = refl };
  rise_p0 = record { reads = accepted_sound _ _ refl; values = refl };
  empty_text = (EndsEarly 0, refused_sound _ _ refl, refl, refl);
  without_parentheses = (Misplaced 10, refused_sound _ _ refl, refl, refl);
  end_first = λ t d r a k. (AtEvent 1 NotInnermost, error_of a (AtEvent 1 NotInnermost) k.fault, refl, refl);
  begin_of_another = λ t d r a k. (AtEvent 2 BeginDue, error_of a (AtEvent 2 BeginDue) k.fault, refl, refl);
  margin_text = accepted_sound _ _ refl;
  margin_15 = refl;
}
