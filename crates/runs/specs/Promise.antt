-- What a watcher promises of its answers.
--   Answered         the right answer to an event after the accepted moments h, for a rule with the tree t under the depth limit d
--   LooksBack        in every run of a watcher, every event is answered so
--   node_values t h m  the values of the nodes of the tree t at the moment m after the accepted moments h, in the order of the nodes
use Rattle.std.specs.Prelude.{◌≡◌, ℕ, suc, ◌<◌, true, ◌↔◌, List, [], ◌∷◌, ◌++◌, map, length, is_err, None, Ok, Option}
use Rattle.std.specs.Result.{result_err}
use Rattle.grammar.specs.Grammar.{Tree}
use Rattle.kinds.specs.Algebra.{Algebra}
use Rattle.reels.specs.Reels.{Begins}
use Rattle.reels.specs.Nesting.{start, follow, judged}
use Rattle.reels.specs.declared.Event.{Event}
use Rattle.history.specs.Moments.{Moment, events}
use Rattle.history.specs.Value.{value}
use Rattle.reader.specs.Rules.{TreeOf}
use Rattle.evaluation.specs.Plan.{subtrees}
use Rattle.program.specs.Programs.{predicates, HasAll}
use Rattle.program.specs.declared.program.Program.{Program}
use Rattle.watching.specs.Faults.{max_events}
use Rattle.watching.specs.Memory.{Own, short_list}
use Rattle.watching.specs.Refusals.{refusal_by}
use Rattle.watching.specs.Calls.{Given}
use Rattle.watching.specs.declared.LentList.{LentList}
use Rattle.watching.specs.declared.Nesting.{Nesting}
use Rattle.watching.specs.declared.Verdict.{Verdict}
use Rattle.runs.specs.Runs.{Answer, moment, accepted, Run}

module _ (A : Algebra) {K : Type 0} (means : K → A.Val) where
  -- the event e with the reading r, and its answer a; `short` is the first list that is too short
  pub record Answered (t : Tree) (d : ℕ) (h : List (Moment A.Val)) (short : Option LentList) (e : Event) (r : List K) (a : Answer K) : Type 0 where
    -- an accepted event is answered with its number, and with the value by looking back over all accepted events
    pub verdict : (v : Verdict K) → a ≡ Ok v → (v.number ≡ suc (length h)) × (means v.value ≡ value A t (h ++ moment A means e r ∷ []) (suc (length h)))
    -- with memory, predicates and event numbers enough, it is refused exactly when no well-nested reel within the depth limit
    -- begins with the accepted events and then this one
    pub refused : short ≡ None → HasAll (length r) t → length h < max_events → (is_err a ≡ true) ↔ (Begins d (events h ++ e ∷ []) → ⊥)
    -- and which refusal it is follows from the accepted events
    pub fault : result_err a ≡ refusal_by short (suc (length h)) (judged d (follow start (events h)) e) (predicates t) (length r) (length h)

  abbrev pub LooksBack : Type 0
  LooksBack = (p : Program) (t : Tree) → TreeOf p.rule t → (d : ℕ) (n n' : Nesting) (o o' : Own K) (w w' : List K) (e : Event) (r : List K) (a : Answer K) → Given A means p n o w e r a n' o' w' → (xs : List _) → Run A means p d xs n o → Answered t d (accepted A means xs) (short_list p d o (length w)) e r a

  abbrev pub node_values : Tree → List (Moment A.Val) → Moment A.Val → List A.Val
  node_values t h m = map (λ u. value A u (h ++ m ∷ []) (suc (length h))) (subtrees t)
