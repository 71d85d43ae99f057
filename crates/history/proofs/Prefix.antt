-- A history that grows, and that a rule's value depends on the moments up to its event only.
use Rattle.std.proofs.Common.{◌≡◌, ℕ, suc, ◌≤◌, List, [], ◌∷◌, ◌++◌, map, length, get_or, sym, refl, ap, ◌∙◌, subst, ap₂}
use mathlib.Core.List.{map-append}
use lib.ListN.{length-map}
use Rattle.std.proofs.lemmas.List.{get_or_push}
use Rattle.kinds.specs.Algebra.{Algebra}
use Rattle.history.specs.Moments.{Moment, blank, events, readings, numbered, event_at, reading_at}
use Rattle.history.specs.Theorems.{Kept, Prefix}
use Rattle.history.proofs.Alike.{Alike, numbered_append}
use Rattle.history.proofs.Related.{value_related}

mapped : {X Y : Type 0} (f : X → Y) (d : Y) (xs ys : List X) (i : ℕ) → i ≤ length xs → numbered d (map f (xs ++ ys)) i ≡ numbered d (map f xs) i
mapped f d xs ys i h = ap (λ l. numbered d l i) (map-append f xs ys) ∙ numbered_append d (map f xs) (map f ys) i (subst (λ n. i ≤ n) (sym (length-map xs f)) h)

-- a history that grows: what was stays, and the newest moment has the next number
pub events_append : {V : Type 0} (h more : List (Moment V)) → events (h ++ more) ≡ events h ++ events more
unfolding events
events_append h more = map-append (λ m. m.event) h more

pub history_alike : {V : Type 0} (h more : List (Moment V)) → Alike (length h) (events (h ++ more)) (events h)
unfolding events
history_alike h more i l = mapped (λ m. m.event) blank h more i l

newest : {X Y : Type 0} (f : X → Y) (d : Y) (xs : List X) (x : X) → numbered d (map f (xs ++ x ∷ [])) (suc (length xs)) ≡ f x
unfolding numbered
newest f d xs x = ap (λ l. get_or l (length xs) d) (map-append f xs (x ∷ [])) ∙ get_or_push (map f xs) (f x) d (length xs) (length-map xs f)

pub event_newest : {V : Type 0} (h : List (Moment V)) (m : Moment V) → event_at (events (h ++ m ∷ [])) (suc (length h)) ≡ m.event
unfolding events
event_newest h m = newest (λ x. x.event) blank h m

pub reading_newest : {V : Type 0} (h : List (Moment V)) (m : Moment V) → reading_at (h ++ m ∷ []) (suc (length h)) ≡ m.reading
unfolding readings
reading_newest h m = newest (λ x. x.reading) [] h m

pub equal_kept : (A : Algebra) → Kept A A ◌≡◌
equal_kept A = record { true = refl; false = refl; not = ap A.not; and = ap₂ A.and; or = ap₂ A.or }

pub value_prefix : (A : Algebra) → Prefix A
unfolding events readings
value_prefix A t h more i l = value_related A A ◌≡◌ (equal_kept A) (length h) (h ++ more) h (record { same = history_alike h more; reads = λ j k n. ap (λ r. get_or r n A.false) (mapped _ [] h more j k) }) t i l
