-- The machine's way over tokens.
--   Goes ok S ts T     from the state S the tokens ts lead to the state T, by states of allowed depths
--   Stands K t S       in the state S a whole rule with the tree t stands at the context K
--   Finishes S         some tokens lead from the state S to the end of a rule
use Rattle.std.proofs.Common.{◌≡◌, ℕ, suc, ◌≤◌, ◌⊎◌, List, [], ◌∷◌, ◌++◌, Some, None, Option, sym, refl, ap, ◌∙◌, subst, inl, inr, arith}
use Rattle.words.specs.declared.Word.{Word}
use Rattle.words.specs.declared.Operands.TheVariants.{Zero, One, Two}
use Rattle.words.specs.declared.Operator.TheVariants.{True}
use Rattle.grammar.specs.Grammar.{Tree, leaf, one, two, Part, rule, unit, takes, Reads, a_leaf, one_sided, in_parens, a_unit, two_sided}
use Rattle.grammar.specs.Machine.{Context, whole, inside, first, second, under, depth, State, want, had, full, state_depth, unit_done, want_word, had_word, step}
use Rattle.grammar.specs.declared.Token.{Token}
use Rattle.grammar.specs.declared.Token.TheVariants.{Open, Close, Word as word}

pub data Goes (ok : ℕ → Type 0) : State → List Token → State → Type 0 where
  stays : {S : State} → Goes ok S [] S
  takes_on : {S M T : State} {t : Token} {ts : List Token} → step S t ≡ Some M → ok (state_depth M) → Goes ok M ts T → Goes ok S (t ∷ ts) T

abbrev IsSome : {A : Type 0} → Option A → Type 0
IsSome None = ⊥
IsSome (Some x) = Unit {0}

pub none_some : {A : Type 0} {x : A} → Path (Option A) None (Some x) → ⊥
none_some e = subst IsSome (sym e) tt

abbrev or_else : {A : Type 0} → A → Option A → A
or_else x None = x
or_else x (Some y) = y

pub some_inj : {A : Type 0} {x y : A} → Path (Option A) (Some x) (Some y) → x ≡ y
some_inj {x = x} e = ap (or_else x) e

-- a way over a front and a way over the rest make one, and the other way round
pub goes_append : {ok : ℕ → Type 0} {S T U : State} {ts us : List Token} → Goes ok S ts T → Goes ok T us U → Goes ok S (ts ++ us) U
goes_append stays h = h
goes_append (takes_on e o g) h = takes_on e o (goes_append g h)

pub goes_split : {ok : ℕ → Type 0} (ts : List Token) {us : List Token} {S U : State} → Goes ok S (ts ++ us) U → (T : State) × Goes ok S ts T × Goes ok T us U
goes_split [] {S = S} g = (S, stays, g)
goes_split (t ∷ ts) (takes_on e o g) =
    let r = goes_split ts g in
    (r.0, takes_on e o r.1, r.2)

-- one state at most is reached, whatever depths are allowed
pub goes_once : {ok ok' : ℕ → Type 0} {S T U : State} {ts : List Token} → Goes ok S ts T → Goes ok' S ts U → T ≡ U
goes_once stays stays = refl
goes_once {ok' = ok'} {U = U} (takes_on e o g) (takes_on {ts = ts} e' o' h) = goes_once g (subst (λ A. Goes ok' A ts U) (some_inj (sym e' ∙ e)) h)

pub goes_wider : {ok ok' : ℕ → Type 0} {S T : State} {ts : List Token} → ((d : ℕ) → ok d → ok' d) → Goes ok S ts T → Goes ok' S ts T
goes_wider wide stays = stays
goes_wider wide (takes_on {M = M} e o g) = takes_on e (wide (state_depth M) o) (goes_wider wide g)

abbrev pub Stands : Context rule → Tree → State → Type 0
Stands K t S = (S ≡ had t K) ⊎ (S ≡ full t K)

-- the depth behind a unit is no greater than before it
pub done_depth : (K : Context unit) (t : Tree) → state_depth (unit_done K t) ≤ depth K
unfolding unit_done depth
done_depth (first K) t = omega arith
done_depth (second w l K) t = omega arith
done_depth (under w K) t = let h = done_depth K (one w t) in omega arith

-- a closing parenthesis behind the whole rule inside it
stands_close : (K : Context unit) (t : Tree) (S : State) → Stands (inside K) t S → step S Close ≡ Some (unit_done K t)
unfolding step
stands_close K t S (inl e) = ap (λ A. step A Close) e
stands_close K t S (inr e) = ap (λ A. step A Close) e

-- a rule or a unit is read from a context to the state behind it
module _ (ok : ℕ → Type 0) (lower : (a b : ℕ) → a ≤ b → ok b → ok a) where
  abbrev Read : Part → ℕ → List Token → Tree → Type 0
  Read rule d ts t = (K : Context rule) → depth K ≡ d → ok d → (S : State) × Goes ok (want (first K)) ts S × Stands K t S
  Read unit d ts t = (K : Context unit) → depth K ≡ d → ok d → Goes ok (want K) ts (unit_done K t)

  done_ok : (K : Context unit) (t : Tree) {d : ℕ} → depth K ≡ d → ok d → ok (state_depth (unit_done K t))
  done_ok K t e o = lower (state_depth (unit_done K t)) (depth K) (done_depth K t) (subst ok (sym e) o)

  read_leaf : {d : ℕ} (w : Word) → takes w ≡ Zero → Read unit d (word w ∷ []) (leaf w)
  unfolding step
  read_leaf w z K e o = takes_on (ap (λ n. want_word n w K) z) (done_ok K (leaf w) e o) stays

  read_one : {d : ℕ} (w : Word) {ts : List Token} (t : Tree) → takes w ≡ One → ok (suc d) → Read unit (suc d) ts t → Read unit d (word w ∷ ts) (one w t)
  unfolding step depth unit_done
  read_one w t z deeper r K e o = takes_on (ap (λ n. want_word n w K) z) (subst (λ n. ok (suc n)) (sym e) deeper) (r (under w K) (ap suc e) deeper)

  read_parens : {d : ℕ} {ts : List Token} {t : Tree} → ok (suc d) → Read rule (suc d) ts t → Read unit d (Open ∷ (ts ++ Close ∷ [])) t
  unfolding step depth
  read_parens {t = t} deeper r K e o =
      let s = r (inside K) (ap suc e) deeper in
      takes_on refl (subst (λ n. ok (suc n)) (sym e) deeper) (goes_append s.1 (takes_on (stands_close K t s.0 s.2) (done_ok K t e o) stays))

  read_unit : {d : ℕ} {ts : List Token} {t : Tree} → Read unit d ts t → Read rule d ts t
  unfolding depth unit_done
  read_unit {t = t} r K e o = (had t K, r (first K) e o, inl refl)

  read_two : {d : ℕ} (w : Word) {ts us : List Token} {l r : Tree} → takes w ≡ Two → Read unit d ts l → Read unit d us r → Read rule d (ts ++ word w ∷ us) (two w l r)
  unfolding step depth unit_done
  read_two w {l = l} {r = r} z p q K e o =
      (full (two w l r) K, goes_append (p (first K) e o) (takes_on (ap (λ n. had_word n w l K) z) (subst ok (sym e) o) (q (second w l K) e o)), inr refl)

  pub read : {d : ℕ} {p : Part} {ts : List Token} {t : Tree} → Reads ok d p ts t → Read p d ts t
  read (a_leaf {w = w} z) = read_leaf w z
  read (one_sided {w = w} {t = t} z deeper r) = read_one w t z deeper (read r)
  read (in_parens deeper r) = read_parens deeper (read r)
  read (a_unit r) = read_unit (read r)
  read (two_sided {w = w} z l r) = read_two w z (read l) (read r)

  -- every state finishes, and what finishes it opens nothing
  abbrev pub Finishes : State → Type 0
  Finishes S = (ts : List Token) × (t : Tree) × (T : State) × Goes ok S ts T × Stands whole t T

  finish_on : (S T : State) (t : Token) → step S t ≡ Some T → ok (state_depth T) → Finishes T → Finishes S
  finish_on S T t e o f = (t ∷ f.0, f.1, f.2, takes_on e o f.3, f.4)

  abbrev Closes : (p : Part) → Context p → Type 0
  Closes rule K = ok (depth K) → (t : Tree) (S : State) → Stands K t S → Finishes S
  Closes unit K = ok (depth K) → (t : Tree) → Finishes (unit_done K t)

  closes : {p : Part} (K : Context p) → Closes p K
  unfolding unit_done depth
  closes whole = λ o t S s. ([], t, S, stays, s)
  closes (inside K) = λ o t S s.
      let o' : ok (depth K) = lower (depth K) (suc (depth K)) (omega arith) o in
      finish_on S (unit_done K t) Close (stands_close K t S s) (done_ok K t refl o') (closes K o' t)
  closes (first K) = λ o t. closes K o t (had t K) (inl refl)
  closes (second w l K) = λ o t. closes K o (two w l t) (full (two w l t) K) (inr refl)
  closes (under w K) = λ o t. closes K (lower (depth K) (suc (depth K)) (omega arith) o) (one w t)

  true_word : Word
  true_word = record { operator = True; number = 0 }

  pub finishes : (S : State) → ok (state_depth S) → Finishes S
  unfolding step true_word
  finishes (want K) o = finish_on (want K) (unit_done K (leaf true_word)) (word true_word) refl (done_ok K (leaf true_word) refl o) (closes K o (leaf true_word))
  finishes (had t K) o = closes K o t (had t K) (inl refl)
  finishes (full t K) o = closes K o t (full t K) (inr refl)
