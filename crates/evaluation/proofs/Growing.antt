-- A history that grows by a moment: what is held at the events before it stays.
use Rattle.std.proofs.Common.{◌≡◌, ℕ, zero, suc, ◌≤◌, cond, List, [], ◌∷◌, ◌++◌, map, length, sym, refl, ◌∙◌, subst, ap₂}
use lib.ListN.{length-map}
use Rattle.grammar.specs.Grammar.{Tree}
use Rattle.kinds.specs.Algebra.{Algebra}
use Rattle.reels.specs.Reels.{Begins}
use Rattle.history.specs.Moments.{Moment, events, prior}
use Rattle.history.specs.Value.{earlier}
use Rattle.history.proofs.Prefix.{events_append, value_prefix}
use Rattle.evaluation.specs.Plan.{step_of, routine_trees}
use Rattle.evaluation.specs.Steps.{keeps_operand}
use Rattle.evaluation.specs.Cells.{only_operand, held, routine_at, back}
use Rattle.evaluation.proofs.Backs.{looks_back}

pub map_same : {X Y : Type 0} (f g : X → Y) → ((x : X) → f x ≡ g x) → (xs : List X) → map f xs ≡ map g xs
map_same f g h [] = refl
map_same {X} {Y} f g h (x ∷ xs) = ap₂ {C = List Y} (λ y ys. y ∷ ys) (h x) (map_same f g h xs)

earlier_same : (A : Algebra) (F G : ℕ → A.Val) (q : ℕ) → F q ≡ G q → earlier A F q ≡ earlier A G q
unfolding earlier
earlier_same A F G zero h = refl
earlier_same A F G (suc q) h = h

-- what is held at an event depends on the moments up to it only
pub held_prefix : (A : Algebra) (h more : List (Moment A.Val)) (q : ℕ) → q ≤ length h → (u : Tree) → held A (h ++ more) q u ≡ held A h q u
held_prefix A h more q l u = ap₂ (λ x y. cond (keeps_operand (step_of u)) x y) (earlier_same A _ _ q (value_prefix A (only_operand u) h more q l)) (value_prefix A u h more q l)

pub events_more : {V : Type 0} (h : List (Moment V)) (m : Moment V) → events (h ++ m ∷ []) ≡ events h ++ m.event ∷ []
unfolding events
events_more h m = events_append h (m ∷ [])

pub events_length : {V : Type 0} (h : List (Moment V)) → length (events h) ≡ length h
unfolding events
events_length h = length-map h (λ m. m.event)

pub prior_back : {V : Type 0} (d : ℕ) (h : List (Moment V)) (m : Moment V) → Begins d (events (h ++ m ∷ [])) → prior (events (h ++ m ∷ [])) (suc (length h)) ≡ back (events h)
prior_back d h m b = ap₂ (λ es n. prior es (suc n)) (events_more h m) (sym (events_length h)) ∙ looks_back d (events h) m.event (subst (Begins d) (events_more h m) b)

pub routines_prefix : (A : Algebra) (t : Tree) (h more : List (Moment A.Val)) (q : ℕ) → q ≤ length h → routine_at A t (h ++ more) q ≡ routine_at A t h q
routines_prefix A t h more q l = map_same _ _ (held_prefix A h more q l) (routine_trees t)
