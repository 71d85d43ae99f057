-- What a giving answers and leaves after any run of its watcher. The watcher has the program p and the nesting n, its lists 1 to 4
-- hold o; it is given the event e with the reading r, and answers a.
--   LooksBackAfter w       the answer is the one by looking back over the accepted events; list 5 holds w, which says only how long it is
--   LeavesNodes w'         of an accepted event, list 5 is left as w': its first places, one for each node of the rule's tree, hold
--                          the values of the nodes by looking back, in the order of the nodes
--   GoesOn p' n' o'        the run goes on: what the watcher then is and what the lists 1 to 4 then hold is one event further
use Rattle.std.specs.Prelude.{◌≡◌, List, [], ◌∷◌, ◌++◌, map, length, take, IfOk}
use Rattle.grammar.specs.Grammar.{Tree}
use Rattle.grammar.specs.Nodes.{size}
use Rattle.kinds.specs.Algebra.{Algebra}
use Rattle.reader.specs.Rules.{TreeOf}
use Rattle.reels.specs.declared.Event.{Event}
use Rattle.program.specs.declared.program.Program.{Program}
use Rattle.watching.specs.Memory.{Own, short_list}
use Rattle.watching.specs.declared.Nesting.{Nesting}
use Rattle.runs.specs.Promise.{Answered, node_values}
use Rattle.runs.specs.Runs.{Answer, Exchange, exchange, moment, accepted, Run}

module _ (A : Algebra) {K : Type 0} (means : K → A.Val) (p : Program) (n : Nesting) (o : Own K) (e : Event) (r : List K) (a : Answer K) where
  abbrev pub LooksBackAfter : List K → Type 0
  LooksBackAfter w = (t : Tree) → TreeOf p.rule t → (xs : List (Exchange K)) → Run A means p n.limit xs n o → Answered A means t n.limit (accepted A means xs) (short_list p n.limit o (length w)) e r a

  abbrev pub LeavesNodes : List K → Type 0
  LeavesNodes w' = (t : Tree) → TreeOf p.rule t → (xs : List (Exchange K)) → Run A means p n.limit xs n o → IfOk a (λ v. map means (take (size t) w') ≡ node_values A means t (accepted A means xs) (moment A means e r))

  abbrev pub GoesOn : Program → Nesting → Own K → Type 0
  GoesOn p' n' o' = (xs : List (Exchange K)) → Run A means p n.limit xs n o → Run A means p' n'.limit (xs ++ exchange e r a ∷ []) n' o'
