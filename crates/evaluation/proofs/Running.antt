-- A rule's steps, where its cells hold what looking back says: their values, and the cells after them.
use Rattle.std.proofs.Common.{◌≡◌, ℕ, suc, ◌+◌, ◌-◌, List, [], ◌∷◌, ◌++◌, map, length, get_or, sym, refl, ap, ◌∙◌, subst, ap₂, append_assoc, append-nil, arith, length-append}
use mathlib.Core.List.{map-append}
use lib.ListN.{length-map}
use Rattle.grammar.specs.Grammar.{Tree, leaf, one, two}
use Rattle.grammar.specs.Nodes.{size}
use Rattle.kinds.specs.Algebra.{Algebra}
use Rattle.reels.specs.declared.Event.{Event}
use Rattle.history.specs.Moments.{Moment, events, event_at, reading_at, prior}
use Rattle.history.specs.Value.{value}
use Rattle.history.specs.Theorems.{Plain, Along}
use Rattle.evaluation.specs.declared.Step.{Step}
use Rattle.evaluation.specs.Plan.{Cell, if_plain, if_routine, cell_of, own, step_of, in_order, subtrees, plain_trees, routine_trees, plain_cells, routine_cells, plan}
use Rattle.evaluation.specs.Steps.{Cells, put, kept, left_of, left, operand, in_cell, step_value, result, evaluate, new_cells, fresh, fresh_of}
use Rattle.evaluation.specs.Cells.{held}
use Rattle.evaluation.proofs.Places.{At, at_front, at_rest, at_moved, at_own, writes, writes_append}
use Rattle.evaluation.proofs.Orders.{subtrees_length, plan_length, last_value}
use Rattle.evaluation.proofs.Words.{Kin, no_cells, plains, routines, IfCell, from, Own, none_does, one_does, two_does, does}

module _ (A : Algebra) where
  pub evaluate_append : (e : Event) (r : List A.Val) (cs : Cells A.Val) (ss us : List Step) (vs : List A.Val) → evaluate A e r cs (ss ++ us) vs ≡ evaluate A e r cs us (evaluate A e r cs ss vs)
  unfolding evaluate
  evaluate_append e r cs [] us vs = refl
  evaluate_append e r cs (s ∷ ss) us vs = evaluate_append e r cs ss us (vs ++ step_value A e r cs s vs ∷ [])

  pub new_cells_append : (vs : List A.Val) (i : ℕ) (ss us : List Step) (cs : Cells A.Val) → new_cells A vs i (ss ++ us) cs ≡ new_cells A vs (i + length ss) us (new_cells A vs i ss cs)
  unfolding new_cells
  new_cells_append vs i [] us cs = ap (λ k. new_cells A vs k us cs) (omega arith)
  new_cells_append vs i (s ∷ ss) us cs = new_cells_append vs (suc i) ss us _ ∙ ap (λ k. new_cells A vs k us (new_cells A vs i (s ∷ ss) cs)) (omega arith)

  pub fresh_append : (pick : Cell → A.Val → List A.Val) (ss us : List Step) → fresh_of A pick (ss ++ us) ≡ fresh_of A pick ss ++ fresh_of A pick us
  unfolding fresh_of
  fresh_append pick [] us = refl
  fresh_append pick (s ∷ ss) us = ap (λ l. pick (cell_of s) (fresh A s) ++ l) (fresh_append pick ss us) ∙ sym (append_assoc (pick (cell_of s) (fresh A s)) (fresh_of A pick ss) (fresh_of A pick us))

  -- a step reads its own cell
  reads : {a b : ℕ} {c k : Cell} → Kin a b c k → (cs : Cells A.Val) (f g : Tree → A.Val) (u : Tree) → At A.false cs.plain a (map f (if_plain k u)) → At A.false cs.routine b (map g (if_routine k u)) → in_cell A c cs ≡ from A c (f u) (g u)
  reads no_cells cs f g u p q = refl
  reads plains cs f g u p q = p.0
  reads routines cs f g u p q = q.0

  -- and writes its own cell
  puts : {a b : ℕ} {c k : Cell} → Kin a b c k → (cs : Cells A.Val) (v : A.Val) (f : Tree → A.Val) (u : Tree) → IfCell c (v ≡ f u) → put c v cs ≡ record { plain = writes cs.plain a (map f (if_plain k u)); routine = writes cs.routine b (map f (if_routine k u)) }
  puts no_cells cs v f u q = refl
  puts {a = a} plains cs v f u q = ap (λ x. put (Cell.plain a) x cs) q
  puts {b = b} routines cs v f u q = ap (λ x. put (Cell.routine b) x cs) q

module _ (A : Algebra) (h : List (Moment A.Val)) (n : ℕ) (P : Plain A n) (R : Along A (events h) n (prior (events h) (suc n))) where
  abbrev pub p : ℕ
  p = prior (events h) (suc n)

  abbrev pub e : Event
  e = event_at (events h) (suc n)

  abbrev pub r : List A.Val
  r = reading_at h (suc n)

  abbrev pub val : Tree → A.Val
  val u = value A u h (suc n)

  -- the operands' values are at hand
  abbrev pub Ready : (ℕ → A.Val) → A.Val → ℕ → Tree → Type 0
  Ready at x l (leaf w) = Unit {0}
  Ready at x l (one w t) = x ≡ val t
  Ready at x l (two w t u) = (at l ≡ val t) × (x ≡ val u)

  pub own_node : (u : Tree) (l a b : ℕ) (at : ℕ → A.Val) (x : A.Val) → Ready at x l u → Own A e r n p (own l a b u) (step_of u) a b (at (left_of (own l a b u))) x (val u) (λ q. held A h q u)
  unfolding value
  own_node (leaf w) l a b at x q = none_does A e r n p (does A e r (events h) n P R w.operator) w.number a b _ _ _
  own_node (one w t) l a b at x q = rw q (one_does A e r n p (does A e r (events h) n P R w.operator) a b _ (value A t h))
  own_node (two w t u) l a b at x q = rw q.1 (two_does A e r n p (does A e r (events h) n P R w.operator) l a b at (value A t h) (value A u h) q.0)

  -- a tree's values behind those before it: the last is its own
  behind : (vs ws : List A.Val) (t : Tree) (k : ℕ) → length vs ≡ k → get_or (vs ++ (map val (subtrees t) ++ ws)) (k + size t - 1) A.false ≡ val t
  behind vs ws t k q = last_value A.false val _ k t (at_own A.false vs (map val (subtrees t)) ws k q)

  operand_behind : (vs : List A.Val) (t : Tree) → operand A (vs ++ map val (subtrees t)) ≡ val t
  operand_behind vs t =
      let long : length (vs ++ map val (subtrees t)) - 1 ≡ length vs + size t - 1 = omega (arith, length-append vs (map val (subtrees t)), length-map (subtrees t) val, subtrees_length t) in
      ap₂ (λ l i. get_or l i A.false) (sym (ap (λ l. vs ++ l) (append-nil (map val (subtrees t))))) long ∙ behind vs [] t (length vs) refl

  -- the cells of a tree's words hold what looking back says
  pub record Holds (cs : Cells A.Val) (a b : ℕ) (us ws : List Tree) : Type 0 where
    pub plains : At A.false cs.plain a (map (held A h n) us)
    pub routines : At A.false cs.routine b (map (held A h p) ws)

  holds_front : (cs : Cells A.Val) (a b : ℕ) (us us' ws ws' : List Tree) → Holds cs a b (us ++ us') (ws ++ ws') → Holds cs a b us ws
  holds_front cs a b us us' ws ws' g = record {
    plains = at_front A.false cs.plain _ _ a (subst (At A.false cs.plain a) (map-append (held A h n) us us') g.plains);
    routines = at_front A.false cs.routine _ _ b (subst (At A.false cs.routine b) (map-append (held A h p) ws ws') g.routines);
  }

  holds_rest : (cs : Cells A.Val) (a b : ℕ) (us us' ws ws' : List Tree) → Holds cs a b (us ++ us') (ws ++ ws') → Holds cs (a + length us) (b + length ws) us' ws'
  holds_rest cs a b us us' ws ws' g = record {
    plains = at_moved A.false cs.plain _ (ap (λ k. a + k) (length-map us (held A h n))) (at_rest A.false cs.plain _ _ a (subst (At A.false cs.plain a) (map-append (held A h n) us us') g.plains));
    routines = at_moved A.false cs.routine _ (ap (λ k. b + k) (length-map ws (held A h p))) (at_rest A.false cs.routine _ _ b (subst (At A.false cs.routine b) (map-append (held A h p) ws ws') g.routines));
  }

  own_value : (u : Tree) (l a b : ℕ) (cs : Cells A.Val) (vs : List A.Val) → Ready (λ i. get_or vs i A.false) (operand A vs) l u → Holds cs a b (if_plain (cell_of (step_of u)) u) (if_routine (cell_of (step_of u)) u) → step_value A e r cs (own l a b u) vs ≡ val u
  own_value u l a b cs vs q g =
      let o = own_node u l a b (λ i. get_or vs i A.false) (operand A vs) q in
      ap (result A e r (own l a b u) (left A (own l a b u) vs) (operand A vs)) (reads A o.kin cs (held A h n) (held A h p) u g.plains g.routines) ∙ o.works

  -- one more value at the end of those of other trees
  one_more : (vs : List A.Val) (us : List Tree) (u : Tree) → (vs ++ map val us) ++ val u ∷ [] ≡ vs ++ map val (us ++ u ∷ [])
  one_more vs us u = append_assoc vs (map val us) (val u ∷ []) ∙ ap (λ l. vs ++ l) (sym (map-append val us (u ∷ [])))

  pub evaluates : (t : Tree) (k a b : ℕ) (cs : Cells A.Val) (vs : List A.Val) → length vs ≡ k → Holds cs a b (plain_trees t) (routine_trees t) → evaluate A e r cs (plan k a b t) vs ≡ vs ++ map val (subtrees t)
  unfolding evaluate plan in_order
  evaluates (leaf w) k a b cs vs q g = ap (λ v. vs ++ v ∷ []) (own_value (leaf w) 0 a b cs vs tt g)
  evaluates (one w t) k a b cs vs q g =
      let u = one w t in
      let ws = vs ++ map val (subtrees t) in
      let first = evaluates t k a b cs vs q (holds_front cs a b (plain_trees t) _ (routine_trees t) _ g) in
      let last = own_value u 0 (a + plain_cells t) (b + routine_cells t) cs ws (operand_behind vs t) (holds_rest cs a b (plain_trees t) _ (routine_trees t) _ g) in
      evaluate_append A e r cs (plan k a b t) _ vs ∙ (ap (evaluate A e r cs (own 0 (a + plain_cells t) (b + routine_cells t) u ∷ [])) first ∙ (ap (λ v. ws ++ v ∷ []) last ∙ one_more vs (subtrees t) u))
  evaluates (two w t t') k a b cs vs q g =
      let u = two w t t' in
      let a' = a + plain_cells t in
      let b' = b + routine_cells t in
      let us = map val (subtrees t) in
      let ws = (vs ++ us) ++ map val (subtrees t') in
      let s = own (k + size t - 1) (a' + plain_cells t') (b' + routine_cells t') u in
      let long : length (vs ++ us) ≡ k + size t = omega (arith, length-append vs us, length-map (subtrees t) val, subtrees_length t) in
      let more = holds_rest cs a b (plain_trees t) _ (routine_trees t) _ g in
      let first = evaluates t k a b cs vs q (holds_front cs a b (plain_trees t) _ (routine_trees t) _ g) in
      let second = evaluates t' (k + size t) a' b' cs (vs ++ us) long (holds_front cs a' b' (plain_trees t') _ (routine_trees t') _ more) in
      let lefts : get_or ws (k + size t - 1) A.false ≡ val t = ap (λ l. get_or l (k + size t - 1) A.false) (append_assoc vs us (map val (subtrees t'))) ∙ behind vs (map val (subtrees t')) t k q in
      let last = own_value u (k + size t - 1) (a' + plain_cells t') (b' + routine_cells t') cs ws (lefts, operand_behind (vs ++ us) t') (holds_rest cs a' b' (plain_trees t') _ (routine_trees t') _ more) in
      let both : evaluate A e r cs (plan (k + size t) a' b' t' ++ s ∷ []) (vs ++ us) ≡ (vs ++ us) ++ map val (subtrees t' ++ u ∷ []) = evaluate_append A e r cs (plan (k + size t) a' b' t') (s ∷ []) (vs ++ us) ∙ (ap (evaluate A e r cs (s ∷ [])) second ∙ (ap (λ v. ws ++ v ∷ []) last ∙ one_more (vs ++ us) (subtrees t') u)) in
      evaluate_append A e r cs (plan k a b t) (plan (k + size t) a' b' t' ++ s ∷ []) vs ∙ (ap (evaluate A e r cs (plan (k + size t) a' b' t' ++ s ∷ [])) first ∙ (both ∙ (append_assoc vs us _ ∙ ap (λ l. vs ++ l) (sym (map-append val (subtrees t) (subtrees t' ++ u ∷ []))))))

  -- the cells of these trees as they are after the event
  abbrev pub written : Cells A.Val → ℕ → ℕ → List Tree → List Tree → Cells A.Val
  written cs a b us ws = record { plain = writes cs.plain a (map (held A h (suc n)) us); routine = writes cs.routine b (map (held A h (suc n)) ws) }

  writes_both : (l : List A.Val) (a : ℕ) (us us' : List Tree) → writes (writes l a (map (held A h (suc n)) us)) (a + length us) (map (held A h (suc n)) us') ≡ writes l a (map (held A h (suc n)) (us ++ us'))
  writes_both l a us us' =
      let f = held A h (suc n) in
      ap (λ k. writes (writes l a (map f us)) (a + k) (map f us')) (sym (length-map us f)) ∙ (sym (writes_append l a (map f us) (map f us')) ∙ ap (writes l a) (sym (map-append f us us')))

  written_both : (cs : Cells A.Val) (a b : ℕ) (us us' ws ws' : List Tree) → written (written cs a b us ws) (a + length us) (b + length ws) us' ws' ≡ written cs a b (us ++ us') (ws ++ ws')
  written_both cs a b us us' ws ws' = ap₂ (λ x y. record { plain = x; routine = y }) (writes_both cs.plain a us us') (writes_both cs.routine b ws ws')

  own_renewed : (u : Tree) (l a b : ℕ) (cs : Cells A.Val) (vs : List A.Val) (i : ℕ) → Ready (λ j. get_or vs j A.false) (get_or vs (i - 1) A.false) l u → get_or vs i A.false ≡ val u → new_cells A vs i (own l a b u ∷ []) cs ≡ written cs a b (if_plain (cell_of (step_of u)) u) (if_routine (cell_of (step_of u)) u)
  unfolding new_cells
  own_renewed u l a b cs vs i q v =
      let o = own_node u l a b (λ j. get_or vs j A.false) (get_or vs (i - 1) A.false) q in
      let s = own l a b u in
      ap (λ x. put (cell_of s) (kept s (get_or vs (i - 1) A.false) x) cs) v ∙ puts A o.kin cs _ (held A h (suc n)) u o.keeps

  pub values_front : (vs : List A.Val) (k : ℕ) (us ws : List Tree) → At A.false vs k (map val (us ++ ws)) → At A.false vs k (map val us)
  values_front vs k us ws g = at_front A.false vs _ _ k (subst (At A.false vs k) (map-append val us ws) g)

  pub values_rest : (vs : List A.Val) (k : ℕ) (t : Tree) (ws : List Tree) → At A.false vs k (map val (subtrees t ++ ws)) → At A.false vs (k + size t) (map val ws)
  values_rest vs k t ws g = at_moved A.false vs _ (ap (λ i. k + i) (length-map (subtrees t) val ∙ subtrees_length t)) (at_rest A.false vs _ _ k (subst (At A.false vs k) (map-append val (subtrees t) ws) g))

  -- the steps of a tree, and then others
  then : (t : Tree) (k a b : ℕ) (ss : List Step) (cs : Cells A.Val) (vs : List A.Val) → new_cells A vs k (plan k a b t ++ ss) cs ≡ new_cells A vs (k + size t) ss (new_cells A vs k (plan k a b t) cs)
  then t k a b ss cs vs = new_cells_append A vs k (plan k a b t) ss cs ∙ ap (λ i. new_cells A vs (k + i) ss (new_cells A vs k (plan k a b t) cs)) (plan_length k a b t)

  pub renewed : (t : Tree) (k a b : ℕ) (cs : Cells A.Val) (vs : List A.Val) → At A.false vs k (map val (subtrees t)) → new_cells A vs k (plan k a b t) cs ≡ written cs a b (plain_trees t) (routine_trees t)
  unfolding plan in_order
  renewed (leaf w) k a b cs vs g = own_renewed (leaf w) 0 a b cs vs k tt g.0
  renewed (one w t) k a b cs vs g =
      let s = own 0 (a + plain_cells t) (b + routine_cells t) (one w t) in
      let front = values_front vs k (subtrees t) _ g in
      let rest = values_rest vs k t (one w t ∷ []) g in
      then t k a b (s ∷ []) cs vs ∙ (ap (new_cells A vs (k + size t) (s ∷ [])) (renewed t k a b cs vs front) ∙ (own_renewed (one w t) 0 (a + plain_cells t) (b + routine_cells t) _ vs (k + size t) (last_value A.false val vs k t front) rest.0 ∙ written_both cs a b (plain_trees t) _ (routine_trees t) _))
  renewed (two w t t') k a b cs vs g =
      let u = two w t t' in
      let a' = a + plain_cells t in
      let b' = b + routine_cells t in
      let k' = k + size t in
      let s = own (k + size t - 1) (a' + plain_cells t') (b' + routine_cells t') u in
      let front = values_front vs k (subtrees t) _ g in
      let rest = values_rest vs k t (subtrees t' ++ u ∷ []) g in
      let front' = values_front vs k' (subtrees t') _ rest in
      let rest' = values_rest vs k' t' (u ∷ []) rest in
      let cs' = written cs a b (plain_trees t) (routine_trees t) in
      let last = own_renewed u (k + size t - 1) (a' + plain_cells t') (b' + routine_cells t') (written cs' a' b' (plain_trees t') (routine_trees t')) vs (k' + size t') (last_value A.false val vs k t front, last_value A.false val vs k' t' front') rest'.0 in
      let both : new_cells A vs k' (plan k' a' b' t' ++ s ∷ []) cs' ≡ written cs' a' b' (plain_trees t' ++ if_plain (cell_of (step_of u)) u) (routine_trees t' ++ if_routine (cell_of (step_of u)) u) = then t' k' a' b' (s ∷ []) cs' vs ∙ (ap (new_cells A vs (k' + size t') (s ∷ [])) (renewed t' k' a' b' cs' vs front') ∙ (last ∙ written_both cs' a' b' (plain_trees t') _ (routine_trees t') _)) in
      then t k a b (plan k' a' b' t' ++ s ∷ []) cs vs ∙ (ap (new_cells A vs k' (plan k' a' b' t' ++ s ∷ [])) (renewed t k a b cs vs front) ∙ (both ∙ written_both cs a b (plain_trees t) _ (routine_trees t) _))

  -- the fresh cells that are picked, by steps and by trees
  module _ (pick : Cell → A.Val → List A.Val) (pick_tree : Cell → Tree → List Tree) (picks : (a b : ℕ) (c k : Cell) → Kin a b c k → (f : Tree → A.Val) (v : A.Val) (u : Tree) → IfCell c (v ≡ f u) → pick c v ≡ map f (pick_tree k u)) where
    own_fresh : (u : Tree) (l a b : ℕ) (at : ℕ → A.Val) (x : A.Val) → Ready at x l u → fresh_of A pick (own l a b u ∷ []) ≡ map (held A h 0) (pick_tree (cell_of (step_of u)) u)
    unfolding fresh_of
    own_fresh u l a b at x q = let o = own_node u l a b at x q in append-nil _ ∙ picks a b _ _ o.kin (held A h 0) _ u o.start

    pub freshly : (t : Tree) (k a b : ℕ) → fresh_of A pick (plan k a b t) ≡ map (held A h 0) (in_order (λ u. pick_tree (cell_of (step_of u)) u) t)
    unfolding plan in_order
    freshly (leaf w) k a b = own_fresh (leaf w) 0 a b (λ i. A.false) A.false tt
    freshly (one w t) k a b = fresh_append A pick (plan k a b t) _ ∙ (ap₂ ◌++◌ (freshly t k a b) (own_fresh (one w t) 0 (a + plain_cells t) (b + routine_cells t) (λ i. A.false) (val t) refl) ∙ sym (map-append (held A h 0) (in_order (λ u. pick_tree (cell_of (step_of u)) u) t) _))
    freshly (two w t t') k a b =
        let own_trees : Tree → List Tree = λ u. pick_tree (cell_of (step_of u)) u in
        let right = fresh_append A pick (plan (k + size t) (a + plain_cells t) (b + routine_cells t) t') _ ∙ (ap₂ ◌++◌ (freshly t' (k + size t) (a + plain_cells t) (b + routine_cells t)) (own_fresh (two w t t') (k + size t - 1) (a + plain_cells t + plain_cells t') (b + routine_cells t + routine_cells t') (λ i. val t) (val t') (refl, refl)) ∙ sym (map-append (held A h 0) (in_order own_trees t') (own_trees (two w t t')))) in
        fresh_append A pick (plan k a b t) _ ∙ (ap₂ ◌++◌ (freshly t k a b) right ∙ sym (map-append (held A h 0) (in_order own_trees t) (in_order own_trees t' ++ own_trees (two w t t'))))
