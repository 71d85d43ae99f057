-- The machine's steps, one for each way through the reader's functions.
use Rattle.std.proofs.Common.{◌≡◌, ℕ, suc, ◌<◌, ◌≤◌, leb, List, [], ◌∷◌, Some, None, Option, sym, refl, ap, ◌∙◌, arith}
use Rattle.std.proofs.lemmas.Bool.{cond-true, cond-false, le-leb, lt-leb}
use Rattle.words.specs.declared.Word.{Word}
use Rattle.words.specs.declared.Operands.{Operands}
use Rattle.words.specs.declared.Operands.TheVariants.{Zero, One, Two}
use Rattle.grammar.specs.Limits.{max_depth, max_words}
use Rattle.grammar.specs.Grammar.{Tree, one, two, rule, unit, takes}
use Rattle.grammar.specs.Machine.{Item, token, bad, Context, whole, inside, first, second, under, depth, State, want, had, full, state_depth, unit_done, want_word, had_word, step, refused, ends, counted, goes_on, runs}
use Rattle.grammar.specs.declared.Token.{Token}
use Rattle.grammar.specs.declared.Token.TheVariants.{Open, Close, Word as word}
use Rattle.grammar.specs.declared.TextFault.{TextFault}
use Rattle.grammar.specs.declared.TextFault.TheVariants.{Misplaced, TooDeep, TooManyWords}

-- one token, by the state that it leads to
taken : (n p k : ℕ) (S : State) (t : Token) (xs : List Item) (r : Option State) → step S t ≡ r → runs n S k (token p t ∷ xs) ≡ goes_on p (counted t k) r (λ S'. runs n S' (counted t k) xs)
unfolding runs
taken n p k S t xs r e = ap (λ r. goes_on p (counted t k) r (λ S'. runs n S' (counted t k) xs)) e

pub moves : (n p k : ℕ) (S S' : State) (t : Token) (xs : List Item) → step S t ≡ Some S' → state_depth S' ≤ max_depth → counted t k ≤ max_words → runs n S k (token p t ∷ xs) ≡ runs n S' (counted t k) xs
moves n p k S S' t xs e d w =
    taken n p k S t xs (Some S') e ∙ cond-true (leb (state_depth S') max_depth) _ _ (le-leb (state_depth S') max_depth d)
    ∙ cond-true (leb (counted t k) max_words) _ _ (le-leb (counted t k) max_words w)

pub misplaced : (n p k : ℕ) (S : State) (t : Token) (xs : List Item) → step S t ≡ None → runs n S k (token p t ∷ xs) ≡ refused (Misplaced p)
misplaced n p k S t xs e = taken n p k S t xs None e

pub too_deep : (n p k : ℕ) (S S' : State) (t : Token) (xs : List Item) → step S t ≡ Some S' → max_depth < state_depth S' → runs n S k (token p t ∷ xs) ≡ refused (TooDeep p)
too_deep n p k S S' t xs e d = taken n p k S t xs (Some S') e ∙ cond-false (leb (state_depth S') max_depth) _ _ (lt-leb (state_depth S') max_depth d)

pub too_many : (n p k : ℕ) (S S' : State) (t : Token) (xs : List Item) → step S t ≡ Some S' → state_depth S' ≤ max_depth → max_words < counted t k → runs n S k (token p t ∷ xs) ≡ refused (TooManyWords p)
too_many n p k S S' t xs e d w =
    taken n p k S t xs (Some S') e ∙ cond-true (leb (state_depth S') max_depth) _ _ (le-leb (state_depth S') max_depth d)
    ∙ cond-false (leb (counted t k) max_words) _ _ (lt-leb (counted t k) max_words w)

-- the end of the text, and a piece that is no token
pub at_end : (n k : ℕ) (S : State) → runs n S k [] ≡ ends n S
unfolding runs
at_end n k S = refl

pub at_bad : (n k : ℕ) (S : State) (f : TextFault) (xs : List Item) → runs n S k (bad f ∷ xs) ≡ refused f
unfolding runs
at_bad n k S f xs = refl

-- a complete unit lies no deeper than where it was wanted
pub done_depth : (K : Context unit) (t : Tree) → state_depth (unit_done K t) ≤ depth K
unfolding depth unit_done
done_depth (first K) t = omega arith
done_depth (second w l K) t = omega arith
done_depth (under w K) t = let ih = done_depth K (one w t) in omega arith

-- where a unit is wanted
pub want_open : (K : Context unit) → step (want K) Open ≡ Some (want (first (inside K)))
unfolding step
want_open K = refl

pub want_close : (K : Context unit) → step (want K) Close ≡ None
unfolding step
want_close K = refl

pub want_word_lem : (K : Context unit) (w : Word) (o : Operands) → takes w ≡ o → step (want K) (word w) ≡ want_word o w K
unfolding step
want_word_lem K w o e = ap (λ x. want_word x w K) e

pub inside_depth : (K : Context unit) → depth (first (inside K)) ≡ suc (depth K)
unfolding depth
inside_depth K = refl

pub under_depth : (w : Word) (K : Context unit) → depth (under w K) ≡ suc (depth K)
unfolding depth
under_depth w K = refl

pub first_depth : (K : Context rule) → depth (first K) ≡ depth K
unfolding depth
first_depth K = refl

pub second_depth : (w : Word) (l : Tree) (K : Context rule) → depth (second w l K) ≡ depth K
unfolding depth
second_depth w l K = refl

pub under_done : (w : Word) (K : Context unit) (t : Tree) → unit_done (under w K) t ≡ unit_done K (one w t)
unfolding unit_done
under_done w K t = refl

pub first_done : (K : Context rule) (t : Tree) → unit_done (first K) t ≡ had t K
unfolding unit_done
first_done K t = refl

pub second_done : (w : Word) (l : Tree) (K : Context rule) (t : Tree) → unit_done (second w l K) t ≡ full (two w l t) K
unfolding unit_done
second_done w l K t = refl

-- where a rule's first unit stands
pub had_two : (t : Tree) (K : Context rule) (w : Word) → takes w ≡ Two → step (had t K) (word w) ≡ Some (want (second w t K))
unfolding step
had_two t K w e = ap (λ x. had_word x w t K) e

-- a token that is no two-sided word
abbrev pub NoTwo : Token → Type 0
NoTwo Open = Unit {0}
NoTwo Close = Unit {0}
NoTwo (word w) = takes w ≡ Two → ⊥

no_two : (o : Operands) (w : Word) (t : Tree) (K : Context rule) → (o ≡ Two → ⊥) → had_word o w t K ≡ None
no_two Zero w t K h = refl
no_two One w t K h = refl
no_two Two w t K h = absurd (h refl)

same_step : (t : Tree) (K : Context rule) (x : Token) → NoTwo x → step (had t K) x ≡ step (full t K) x
unfolding step
same_step t K Open h = refl
same_step t K Close h = refl
same_step t K (word w) h = no_two (takes w) w t K h

-- then a rule stands as well
pub as_full : (n p k : ℕ) (t : Tree) (K : Context rule) (x : Token) (xs : List Item) → NoTwo x → runs n (had t K) k (token p x ∷ xs) ≡ runs n (full t K) k (token p x ∷ xs)
as_full n p k t K x xs h = taken n p k (had t K) x xs (step (full t K) x) (same_step t K x h) ∙ sym (taken n p k (full t K) x xs (step (full t K) x) refl)

-- where a whole rule stands
pub full_close : (t : Tree) (K : Context unit) → step (full t (inside K)) Close ≡ Some (unit_done K t)
unfolding step
full_close t K = refl

abbrev pub NoClose : Token → Type 0
NoClose Open = Unit {0}
NoClose Close = ⊥
NoClose (word w) = Unit {0}

pub full_other : (t : Tree) (K : Context rule) (x : Token) → NoClose x → step (full t K) x ≡ None
unfolding step
full_other t K Open h = refl
full_other t K Close h = absurd h
full_other t K (word w) h = refl

pub full_whole : (t : Tree) (x : Token) → step (full t whole) x ≡ None
unfolding step
full_whole t Open = refl
full_whole t Close = refl
full_whole t (word w) = refl
