-- What a making answers, from the rule's tree.
--   short_of t d o n      the first list that is too short for a rule with the tree t under the depth limit d; n is the length of list 5
--   refusal_of t d o n    the refusal of a making, or nothing where a watcher is made
--   LongEnough t d o n   every list is long enough
--   Left                 what a making leaves: of a watcher, its rule, that its program runs it, its nesting and its cells; of a
--                        refusal, every list as it was
use Rattle.std.specs.Prelude.{◌≡◌, ℕ, ◌*◌, ◌≤◌, List, length, Ok, Err, Option, Result}
use Rattle.grammar.specs.Grammar.{Tree}
use Rattle.grammar.specs.Nodes.{size}
use Rattle.kinds.specs.Algebra.{Algebra}
use Rattle.reader.specs.declared.rule.Rule.{Rule}
use Rattle.reader.specs.Rules.{TreeOf}
use Rattle.program.specs.Programs.{Runs}
use Rattle.evaluation.specs.Plan.{plain_cells, routine_cells}
use Rattle.watching.specs.Memory.{Own, short_for}
use Rattle.watching.specs.Refusals.{making_refusal_by}
use Rattle.watching.specs.Calls.{first_nesting, Fresh}
use Rattle.watching.specs.declared.LentList.{LentList}
use Rattle.watching.specs.declared.WatchFault.{WatchFault}
use Rattle.monitor.specs.declared.watcher.Watcher.{Watcher}

abbrev pub short_of : {V : Type 0} → Tree → ℕ → Own V → ℕ → Option LentList
short_of t d o n = short_for (plain_cells t) (routine_cells t) (size t) d o n

abbrev pub refusal_of : {V : Type 0} → Tree → ℕ → Own V → ℕ → Option WatchFault
refusal_of t d o n = making_refusal_by d (short_of t d o n)

pub record LongEnough {V : Type 0} (t : Tree) (d : ℕ) (o : Own V) (n : ℕ) : Type 0 where
  pub plain : plain_cells t ≤ length o.plain
  pub routine : routine_cells t ≤ length o.routine
  pub stack : routine_cells t * d ≤ length o.stack
  pub opened : d ≤ length o.opened
  pub working : size t ≤ n

module _ (A : Algebra) {K : Type 0} (means : K → A.Val) where
  pub record Ready (from : Rule) (d : ℕ) (o : Own K) (w : List K) (watcher : Watcher) (o' : Own K) (w' : List K) : Type 0 where
    pub rule : watcher.program.rule ≡ from
    pub runs : (t : Tree) → TreeOf from t → Runs watcher.program t
    pub nesting : watcher.nesting ≡ first_nesting d
    pub cells : Fresh A means watcher.program o w o' w'

  abbrev pub Left : Rule → ℕ → Own K → List K → Result Watcher WatchFault → Own K → List K → Type 0
  Left rule d o w (Ok watcher) o' w' = Ready rule d o w watcher o' w'
  Left rule d o w (Err f) o' w' = (o' ≡ o) × (w' ≡ w)
