-- The numbers of the steps whose values cells keep, and what steps ask for, of steps behind other steps.
use Rattle.std.proofs.Common.{◌≡◌, ℕ, suc, ◌+◌, max, List, [], ◌∷◌, ◌++◌, length, sym, ap, ◌∙◌, append_assoc, append-nil, arith}
use Rattle.evaluation.specs.declared.Step.{Step}
use Rattle.evaluation.specs.Plan.{Cell, cell_of}
use Rattle.evaluation.specs.Steps.{source, sources}
use Rattle.program.specs.Planned.{asked, asked_by}

pub sources_append : (pick : Cell → ℕ → List ℕ) (i : ℕ) (ss us : List Step) → sources pick i (ss ++ us) ≡ sources pick i ss ++ sources pick (i + length ss) us
unfolding sources
sources_append pick i [] us = ap (λ k. sources pick k us) (omega arith)
sources_append pick i (s ∷ ss) us =
    ap (λ l. pick (cell_of s) (source s i) ++ l) (sources_append pick (suc i) ss us ∙ ap (λ k. sources pick (suc i) ss ++ sources pick k us) (omega arith)) ∙
    sym (append_assoc (pick (cell_of s) (source s i)) (sources pick (suc i) ss) (sources pick (i + length (s ∷ ss)) us))

pub sources_one : (pick : Cell → ℕ → List ℕ) (i : ℕ) (s : Step) → sources pick i (s ∷ []) ≡ pick (cell_of s) (source s i)
unfolding sources
sources_one pick i s = append-nil (pick (cell_of s) (source s i))

pub asked_append : (ss us : List Step) → asked (ss ++ us) ≡ max (asked ss) (asked us)
unfolding asked
asked_append [] us = omega arith
asked_append (s ∷ ss) us = let h = asked_append ss us in omega arith

pub asked_one : (s : Step) → asked (s ∷ []) ≡ asked_by s
unfolding asked
asked_one s = omega arith
