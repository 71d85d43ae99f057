use Rattle.std.proofs.Common.{◌≡◌, ◌++◌, ◌∷◌, [], max, length, Some, ap, ◌∙◌, arith}
use Rattle.fixed_vec.specs.Elements.{elements}
use Rattle.grammar.specs.Limits.{max_words}
use Rattle.evaluation.specs.Plan.{cell_of, if_plain, if_routine}
use Rattle.evaluation.specs.Steps.{source}
use Rattle.program.specs.Parts.{in_plain, in_routine}
use Rattle.program.proofs.Drafting.{Keeps, none_more, put_in, one_more, pushed_sources, pushed_asked, pushed_few, pushed_nodes}
use Rattle.program.proofs.parts.Parts.add.Goals as goal
use Rattle.program.proofs.parts.Parts.add.Goals.{in-None, in-Some-Plain, in-Some-Routine, After-push-2}

-- what the numbers are after the match
keeps : (c : After-push-2) → Keeps (elements c.args.self.now.plain) (elements c.args.self.now.routine) (elements c.match-kept_by.self.1.1.0) (elements c.match-kept_by.self.1.1.1.0) c.kept_by.result
keeps c =
    let p = elements c.args.self.now.plain in
    let q = elements c.args.self.now.routine in
    elim c.match-kept_by.branch [
      | in-None w ↦ record {
        plain = none_more p (ap (λ z. elements z.1.1.0) w.self-is) (ap in_plain w.in-None.is);
        routine = none_more q (ap (λ z. elements z.1.1.1.0) w.self-is) (ap in_routine w.in-None.is);
      }
      | in-Some-Plain w ↦
          let kept = w.in-Some-Plain.is ∙ ap Some w.in-Some-Plain.field-0-is in record {
            plain = one_more p _ _ (ap (λ z. elements z.1.1.0) w.self-is) (put_in p max_words _ _ _ _ w.push.ensures.pushed (omega arith)) (ap in_plain kept);
            routine = none_more q (ap (λ z. elements z.1.1.1.0) w.self-is) (ap in_routine kept);
          }
      | in-Some-Routine w ↦
          let kept = w.in-Some-Routine.is ∙ ap Some w.in-Some-Routine.field-0-is in record {
            plain = none_more p (ap (λ z. elements z.1.1.0) w.self-is) (ap in_plain kept);
            routine = one_more q _ _ (ap (λ z. elements z.1.1.1.0) w.self-is) (put_in q max_words _ _ _ _ w.push-in-Some-Routine.ensures.pushed (omega arith)) (ap in_routine kept);
          }
    ]

module _ (c : After-push-2) where
  steps_are : elements c.push-2.new.self ≡ elements c.args.self.now.steps ++ c.step_of-step.result ∷ []
  steps_are = put_in (elements c.args.self.now.steps) max_words _ _ _ _ c.push-2.ensures.pushed (omega arith)

  kept_plain : in_plain c.kept_by.result ≡ if_plain (cell_of c.step_of-step.result) (source c.step_of-step.result (length (elements c.args.self.now.steps)))
  kept_plain = c.kept_by.ensures.plain ∙ ap (λ i. if_plain (cell_of c.step_of-step.result) (source c.step_of-step.result i)) c.number_of.ensures.value

  kept_routine : in_routine c.kept_by.result ≡ if_routine (cell_of c.step_of-step.result) (source c.step_of-step.result (length (elements c.args.self.now.steps)))
  kept_routine = c.kept_by.ensures.routine ∙ ap (λ i. if_routine (cell_of c.step_of-step.result) (source c.step_of-step.result i)) c.number_of.ensures.value

pub invariant_of-self : goal.invariant_of-self
invariant_of-self c =
    let d = c.args.self.now in
    let s = c.step_of-step.result in
    let k = keeps c in
    record {
      few_cells = pushed_few _ _ s (steps_are c) _ _ _ _ _ k _ (kept_plain c) (kept_routine c) d.few_cells;
      all_plain = pushed_sources _ _ s (steps_are c) if_plain _ _ _ d.all_plain k.plain (kept_plain c);
      all_routine = pushed_sources _ _ s (steps_are c) if_routine _ _ _ d.all_routine k.routine (kept_routine c);
      all_predicates = pushed_asked _ _ s (steps_are c) d.predicates _ d.all_predicates (c.max-self.ensures ∙ ap (max d.predicates) c.asked_by.ensures.value);
    }

pub returns-clause-nodes : goal.returns-clause-nodes
returns-clause-nodes c =
    let m = (goal.at.returns-clause-nodes c).After-push-2 in
    λ ns. pushed_nodes _ _ m.step_of-step.result (steps_are m) _ _ _ _ _ (keeps m) _ (kept_plain m) (kept_routine m) _ ns m.step_of-step.ensures.value
