-- A function that keeps the five operations carries every rule's values.
use Rattle.std.proofs.Common.{◌≡◌, ℕ, zero, suc, List, [], ◌∷◌, map, get_or, sym, refl, ap, ◌∙◌, ap₂, arith}
use Rattle.kinds.specs.Algebra.{Algebra}
use Rattle.reels.specs.declared.Event.{Event}
use Rattle.history.specs.Moments.{Moment, blank, events, readings, numbered, reading_at}
use Rattle.history.specs.Theorems.{Kept, carried, Carried}
use Rattle.history.proofs.Related.{value_related}

-- a function that keeps the five operations, as a relation
pub function_kept : (A B : Algebra) (f : A.Val → B.Val) → f A.true ≡ B.true → f A.false ≡ B.false → ((x : A.Val) → f (A.not x) ≡ B.not (f x)) → ((x y : A.Val) → f (A.and x y) ≡ B.and (f x) (f y)) → ((x y : A.Val) → f (A.or x y) ≡ B.or (f x) (f y)) → Kept A B (λ x y. f x ≡ y)
function_kept A B f t e n a o = record {
  true = t;
  false = e;
  not = λ {x} {y} p. n x ∙ ap B.not p;
  and = λ {x} {u} {y} {v} p q. a x u ∙ ap₂ B.and p q;
  or = λ {x} {u} {y} {v} p q. o x u ∙ ap₂ B.or p q;
}

same_events : {V W : Type 0} (f : V → W) (h : List (Moment V)) → events h ≡ events (carried f h)
unfolding events
same_events f [] = refl
same_events f (m ∷ h) = ap {B = List Event} (λ es. m.event ∷ es) (same_events f h)

numbered_readings : {V W : Type 0} (f : V → W) (h : List (Moment V)) (i : ℕ) → reading_at (carried f h) i ≡ map f (reading_at h i)
unfolding readings numbered
numbered_readings f h zero = refl
numbered_readings f [] (suc i) = refl
numbered_readings f (m ∷ h) (suc zero) = refl
numbered_readings f (m ∷ h) (suc (suc i)) = numbered_readings f h (suc i)

read_mapped : {V W : Type 0} (f : V → W) (d : V) (e : W) → f d ≡ e → (r : List V) (n : ℕ) → f (get_or r n d) ≡ get_or (map f r) n e
read_mapped f d e p [] n = p
read_mapped f d e p (x ∷ r) zero = refl
read_mapped f d e p (x ∷ r) (suc n) = read_mapped f d e p r n

pub value_carried : (A B : Algebra) → Carried A B
value_carried A B f K t h i = value_related A B (λ x y. f x ≡ y) K i h (carried f h) (record {
  same = λ j l. ap (λ es. numbered blank es j) (same_events f h);
  reads = λ j l n. read_mapped f A.false B.false K.false (reading_at h j) n ∙ sym (ap (λ r. get_or r n B.false) (numbered_readings f h j));
}) t i (omega arith)
