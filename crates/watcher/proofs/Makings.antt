-- What a making answers and leaves, from what it answers for the program of its rule.
use Rattle.std.proofs.Common.{◌≡◌, ℕ, ◌*◌, ◌≤◌, true, cond, List, [], length, is_ok, IfOk, Some, None, Ok, Err, Result, sym, refl, ap, ◌∙◌, subst, ap₂, le-ltb}
use Rattle.std.proofs.lemmas.Option.{none-some}
use Rattle.std.specs.Result.{result_err}
use Rattle.grammar.specs.Grammar.{Tree}
use Rattle.grammar.specs.Nodes.{size}
use Rattle.kinds.specs.Algebra.{Algebra}
use Rattle.reader.specs.declared.rule.Rule.{Rule}
use Rattle.reader.specs.Rules.{TreeOf}
use Rattle.evaluation.specs.Plan.{plain_cells as tree_plain, routine_cells as tree_routine}
use Rattle.evaluation.proofs.Orders.{plan_length}
use Rattle.program.specs.Programs.{Runs}
use Rattle.program.specs.declared.program.Program.{Program}
use Rattle.program.proofs.Facts.{plain_count, routine_count}
use Rattle.watching.specs.Faults.{max_limit}
use Rattle.watching.specs.Memory.{Own, plain_cells, routine_cells, node_count, short_for, short_list}
use Rattle.watching.specs.Refusals.{making_refusal, making_refusal_by}
use Rattle.watching.specs.Calls.{Made, Fresh}
use Rattle.watching.specs.declared.WatchFault.{WatchFault}
use Rattle.watching.specs.declared.WatchFault.TheVariants.{LimitTooHigh}
use Rattle.monitor.specs.Nestings.{nesting_in}
use Rattle.monitor.specs.declared.watcher.Watcher.{Watcher}
use Rattle.runs.specs.Runs.{Run, made as run_made}
use Rattle.watcher.specs.Making.{short_of, refusal_of, LongEnough, Left}

-- the counts of a program are those of the tree that it runs
short_tree : {V : Type 0} (p : Program) (t : Tree) → Runs p t → (d : ℕ) (o : Own V) (n : ℕ) → short_list p d o n ≡ short_of t d o n
short_tree {V} p t runs d o n =
    let plain : plain_cells p ≡ tree_plain t = ap length runs.plain ∙ plain_count t in
    let routine : routine_cells p ≡ tree_routine t = ap length runs.routine ∙ routine_count t in
    let nodes : node_count p ≡ size t = ap length runs.steps ∙ plan_length 0 0 0 t in
    ap₂ (λ a b. short_for a b (node_count p) d o n) plain routine ∙ ap (λ k. short_for (tree_plain t) (tree_routine t) k d o n) nodes

-- with every list long enough there is none that is too short
enough_long : {V : Type 0} (t : Tree) (d : ℕ) (o : Own V) (n : ℕ) → LongEnough t d o n → short_of t d o n ≡ None
enough_long t d o n e =
    rw (le-ltb (length o.plain) (tree_plain t) e.plain, le-ltb (length o.routine) (tree_routine t) e.routine, le-ltb (length o.stack) (tree_routine t * d) e.stack, le-ltb (length o.opened) d e.opened, le-ltb n (size t) e.working)

not_refused : {V : Type 0} (t : Tree) (d : ℕ) (o : Own V) (n : ℕ) → d ≤ max_limit → LongEnough t d o n → refusal_of t d o n ≡ None
not_refused t d o n h e = ap₂ making_refusal_by {x = d} refl (enough_long t d o n e) ∙ ap (λ b. cond b (Some LimitTooHigh) None) (le-ltb max_limit d h)

ok_answer : {X E : Type 0} (r : Result X E) → result_err r ≡ None → is_ok r ≡ true
ok_answer (Ok x) e = refl
ok_answer (Err f) e = absurd (none-some _ (sym e))

module _ (A : Algebra) {K : Type 0} (means : K → A.Val) (p : Program) (rule : Rule) (from : p.rule ≡ rule) (runs : (t : Tree) → TreeOf rule t → Runs p t) (d : ℕ) (o o' : Own K) (w w' : List K) where
  made_fault : (r : Result Watcher WatchFault) → Made A means p d o w (nesting_in r) o' w' → result_err r ≡ making_refusal p d o (length w)
  made_fault (Ok x) m = sym m.0
  made_fault (Err f) m = sym m.0

  module _ (r : Result Watcher WatchFault) (made : Made A means p d o w (nesting_in r) o' w') (t : Tree) (tree : TreeOf rule t) where
    pub made_refusal : result_err r ≡ refusal_of t d o (length w)
    made_refusal = made_fault r made ∙ ap (making_refusal_by d) (short_tree p t (runs t tree) d o (length w))

    pub made_accepts : d ≤ max_limit → LongEnough t d o (length w) → is_ok r ≡ true
    made_accepts h e = ok_answer r (made_refusal ∙ not_refused t d o (length w) h e)

  pub made_left : (r : Result Watcher WatchFault) → Made A means p d o w (nesting_in r) o' w' → IfOk r (λ x. x.program ≡ p) → Left A means rule d o w r o' w'
  made_left (Ok x) m e = record { rule = ap (λ (q : Program). q.rule) e ∙ from; runs = λ t tree. subst (λ q. Runs q t) (sym e) (runs t tree); nesting = m.1; cells = subst (λ q. Fresh A means q o w o' w') (sym e) m.2 }
  made_left (Err f) m e = (m.1, m.2)

  pub made_begins : (r : Result Watcher WatchFault) → Made A means p d o w (nesting_in r) o' w' → IfOk r (λ x. x.program ≡ p) → IfOk r (λ x. Run A means x.program d [] x.nesting o')
  made_begins (Ok x) m e = subst (λ q. Run A means q d [] x.nesting o') (sym e) (run_made o w w' m)
  made_begins (Err f) m e = tt
