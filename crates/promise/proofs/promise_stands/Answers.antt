use Rattle.promise.proofs.Right.{kept_by_some}
use Rattle.promise.proofs.Shut.{first_event_only, later_events_too, one_verdict, no_cells, source_not_asked, made_up_numbers, refused_numbered, refused_without_cause, too_deep_early}
use Rattle.promise.proofs.Makings.{making_refused_without_cause, making_refuses_all}
use Rattle.promise.proofs.promise_stands.Goals as goal

pub returns : goal.returns
returns c = record {
  kept_by_some = kept_by_some;
  first_event_only = first_event_only;
  later_events_too = later_events_too;
  one_verdict = one_verdict;
  no_cells = no_cells;
  source_not_asked = source_not_asked;
  made_up_numbers = made_up_numbers;
  refused_numbered = refused_numbered;
  refused_without_cause = refused_without_cause;
  too_deep_early = too_deep_early;
  making_refused_without_cause = making_refused_without_cause;
  making_refuses_all = making_refuses_all;
}
