-- The theorems on the cells: fresh before the first event, and from each event to the next.
use Rattle.std.proofs.Common.{◌≡◌, ℕ, suc, ◌-◌, List, [], ◌∷◌, ◌++◌, map, length, get_or, sym, refl, ap, ◌∙◌, subst, ap₂, append-nil, arith, length-append}
use lib.ListN.{length-map}
use Rattle.grammar.specs.Grammar.{Tree}
use Rattle.grammar.specs.Nodes.{size}
use Rattle.kinds.specs.Algebra.{Algebra, Laws}
use Rattle.reels.specs.Reels.{nothing}
use Rattle.history.specs.Moments.{Moment, numbered, events, prior}
use Rattle.history.specs.Calls.{calls}
use Rattle.history.specs.Value.{value}
use Rattle.history.specs.Theorems.{Plain, Along}
use Rattle.history.proofs.Alike.{prior_le}
use Rattle.history.proofs.Prefix.{event_newest, reading_newest}
use Rattle.history.proofs.Looking.{recurrences}
use Rattle.evaluation.specs.Plan.{Cell, if_plain, if_routine, subtrees, plain_trees, routine_trees, rule_plan}
use Rattle.evaluation.specs.Steps.{Cells, Memory, settled, evaluate, new_cells, picked_cells}
use Rattle.evaluation.specs.Cells.{held, cells_at, back, memory_at}
use Rattle.evaluation.specs.Theorems.{Fresh, Evaluated, Evaluates, Copies, values_at, new_cells_at}
use Rattle.evaluation.proofs.Places.{At, at_own, writes, writes_all}
use Rattle.evaluation.proofs.Orders.{last_value}
use Rattle.evaluation.proofs.Words.{Kin, no_cells, plains, routines, IfCell}
use Rattle.evaluation.proofs.Running.{e, r, Holds, evaluates, renewed, freshly}
use Rattle.evaluation.proofs.Copying.{copied}
use Rattle.evaluation.proofs.Growing.{map_same, held_prefix, prior_back}
use Rattle.evaluation.proofs.Pushes.{remembered}

at_all : {V : Type 0} (d : V) (xs : List V) → At d xs 0 xs
at_all d xs = subst (λ l. At d l 0 xs) (append-nil xs) (at_own d [] xs [] 0 refl)

pick_plain : (A : Algebra) (a b : ℕ) (c k : Cell) → Kin a b c k → (f : Tree → A.Val) (v : A.Val) (u : Tree) → IfCell c (v ≡ f u) → if_plain c v ≡ map f (if_plain k u)
pick_plain A a b c k no_cells f v u q = refl
pick_plain A a b c k plains f v u q = ap {B = List A.Val} (λ x. x ∷ []) q
pick_plain A a b c k routines f v u q = refl

pick_routine : (A : Algebra) (a b : ℕ) (c k : Cell) → Kin a b c k → (f : Tree → A.Val) (v : A.Val) (u : Tree) → IfCell c (v ≡ f u) → if_routine c v ≡ map f (if_routine k u)
pick_routine A a b c k no_cells f v u q = refl
pick_routine A a b c k plains f v u q = refl
pick_routine A a b c k routines f v u q = ap {B = List A.Val} (λ x. x ∷ []) q

-- the same of the places of values
place_plain : (A : Algebra) (a b : ℕ) (c k : Cell) → Kin a b c k → (f : Tree → A.Val) (g : ℕ → A.Val) (i : ℕ) (u : Tree) → IfCell c (g i ≡ f u) → map g (if_plain c i) ≡ map f (if_plain k u)
place_plain A a b c k no_cells f g i u q = refl
place_plain A a b c k plains f g i u q = ap {B = List A.Val} (λ x. x ∷ []) q
place_plain A a b c k routines f g i u q = refl

place_routine : (A : Algebra) (a b : ℕ) (c k : Cell) → Kin a b c k → (f : Tree → A.Val) (g : ℕ → A.Val) (i : ℕ) (u : Tree) → IfCell c (g i ≡ f u) → map g (if_routine c i) ≡ map f (if_routine k u)
place_routine A a b c k no_cells f g i u q = refl
place_routine A a b c k plains f g i u q = refl
place_routine A a b c k routines f g i u q = ap {B = List A.Val} (λ x. x ∷ []) q

pub fresh_first : (A : Algebra) → Laws A → Fresh A
unfolding numbered events calls
fresh_first A L t =
    let P : Plain A 0 = (recurrences A L 0).0 in
    let R : Along A [] 0 (prior [] 1) = (recurrences A L 0).1 0 [] ([], nothing) in
    sym (ap₂ {C = Memory A.Val} (λ x y. record { cells = record { plain = x; routine = y }; stack = [] }) (freshly A [] 0 P R if_plain if_plain (pick_plain A) t 0 0 0) (freshly A [] 0 P R if_routine if_routine (pick_routine A) t 0 0 0))

pub evaluated : (A : Algebra) → Laws A → Evaluates A
evaluated A L t d h m b = record { nodes = nodes; rule = rule; cells = cells; memory = ap (settled m.event.kind (memory_at A t h)) cells ∙ remembered A t h m d b }
  where
    h' : List (Moment A.Val)
    h' = h ++ m ∷ []

    n : ℕ
    n = length h

    p : ℕ
    p = prior (events h') (suc n)

    P : Plain A n
    P = (recurrences A L n).0

    R : Along A (events h') n p
    R = (recurrences A L n).1 d (events h') b

    vals : List A.Val
    vals = map (λ u. value A u h' (suc n)) (subtrees t)

    cs : Cells A.Val
    cs = record { plain = map (held A h' n) (plain_trees t); routine = map (held A h' p) (routine_trees t) }

    old : cells_at A t h (back (events h)) ≡ cs
    old = ap (cells_at A t h) (sym (prior_back d h m b)) ∙ ap₂ {C = Cells A.Val} (λ x y. record { plain = x; routine = y }) (map_same _ _ (λ u. sym (held_prefix A h (m ∷ []) n (omega arith) u)) (plain_trees t)) (map_same _ _ (λ u. sym (held_prefix A h (m ∷ []) p (prior_le (events h') n) u)) (routine_trees t))

    holds : Holds A h' n P R cs 0 0 (plain_trees t) (routine_trees t)
    holds = record { plains = at_all A.false cs.plain; routines = at_all A.false cs.routine }

    nodes : values_at A t h m ≡ vals
    nodes = ap₂ (λ x y. evaluate A x y (cells_at A t h (back (events h))) (rule_plan t) []) (sym (event_newest h m)) (sym (reading_newest h m)) ∙ (ap (λ c. evaluate A (e A h' n P R) (r A h' n P R) c (rule_plan t) []) old ∙ evaluates A h' n P R t 0 0 0 cs [] refl holds)

    rule : get_or (values_at A t h m) (size t - 1) A.false ≡ value A t h' (suc n)
    rule = ap₂ (λ vs i. get_or vs i A.false) nodes (omega arith) ∙ last_value A.false (λ u. value A u h' (suc n)) vals 0 t (at_all A.false vals)

    overwritten : (q : ℕ) (us : List Tree) → writes (map (held A h' q) us) 0 (map (held A h' (suc n)) us) ≡ map (held A h' (suc n)) us
    overwritten q us = writes_all [] (map (held A h' q) us) (map (held A h' (suc n)) us) 0 refl (length-map us (held A h' q) ∙ sym (length-map us (held A h' (suc n))))

    longer : suc n ≡ length h'
    longer = omega (arith, length-append h (m ∷ []))

    cells : new_cells A (values_at A t h m) 0 (rule_plan t) (cells_at A t h (back (events h))) ≡ cells_at A t h' (suc n)
    cells = ap₂ (λ vs c. new_cells A vs 0 (rule_plan t) c) nodes old ∙ (renewed A h' n P R t 0 0 0 cs vals (at_all A.false vals) ∙ (ap₂ {C = Cells A.Val} (λ x y. record { plain = x; routine = y }) (overwritten n (plain_trees t)) (overwritten p (routine_trees t)) ∙ ap (λ k. record { plain = map (held A h' k) (plain_trees t); routine = map (held A h' (suc n)) (routine_trees t) }) longer))

pub copies : (A : Algebra) → Laws A → Copies A
copies A L t d h m b =
    let h' = h ++ m ∷ [] in
    let n = length h in
    let P : Plain A n = (recurrences A L n).0 in
    let R : Along A (events h') n (prior (events h') (suc n)) = (recurrences A L n).1 d (events h') b in
    let at : (x : Evaluated A t h m) → picked_cells A (values_at A t h m) (rule_plan t) ≡ new_cells_at A t h m = λ x.
    let all : At A.false (values_at A t h m) 0 (map (λ u. value A u h' (suc n)) (subtrees t)) = subst (λ l. At A.false l 0 (map (λ u. value A u h' (suc n)) (subtrees t))) (sym x.nodes) (at_all A.false (map (λ u. value A u h' (suc n)) (subtrees t))) in
    let longer : suc n ≡ length h' = omega (arith, length-append h (m ∷ [])) in
    let cells : picked_cells A (values_at A t h m) (rule_plan t) ≡ cells_at A t h' (suc n) = ap₂ {C = Cells A.Val} (λ x y. record { plain = x; routine = y }) (copied A h' n P R if_plain if_plain (place_plain A) (values_at A t h m) t 0 0 0 all) (copied A h' n P R if_routine if_routine (place_routine A) (values_at A t h m) t 0 0 0 all) ∙ ap (λ k. record { plain = map (held A h' k) (plain_trees t); routine = map (held A h' (suc n)) (routine_trees t) }) longer in
    cells ∙ sym x.cells in
    at (evaluated A L t d h m b)
