-- What may still follow in a state of the machine, and that what the machine takes is of the grammar.
--   Rest K x us t      behind the tree x at the context K, the tokens us end the rule with the tree t
--   Follows S us t     in the state S, the tokens us end the rule with the tree t
use Rattle.std.proofs.Common.{◌≡◌, ℕ, List, [], ◌∷◌, ◌++◌, Some, Option, sym, refl, ap, ◌∙◌, subst, inl, inr, append_assoc, append-nil}
use Rattle.words.specs.declared.Word.{Word}
use Rattle.words.specs.declared.Operands.{Operands}
use Rattle.words.specs.declared.Operands.TheVariants.{Zero, One, Two}
use Rattle.grammar.specs.Grammar.{Tree, leaf, one, two, Part, rule, unit, takes, Reads, IsRule, a_leaf, one_sided, in_parens, a_unit, two_sided}
use Rattle.grammar.specs.Machine.{Context, whole, inside, first, second, under, depth, State, want, had, full, state_depth, unit_done, closed, want_word, had_word, step, start}
use Rattle.grammar.specs.declared.Token.{Token}
use Rattle.grammar.specs.declared.Token.TheVariants.{Open, Close, Word as word}
use Rattle.grammar.proofs.Walks.{Goes, stays, takes_on, Stands, none_some, some_inj}

parts : {us ws ys : List Token} (vs xs zs : List Token) → us ≡ vs ++ ws → ws ≡ xs ++ ys → ys ≡ Close ∷ zs → us ≡ ((vs ++ xs) ++ Close ∷ []) ++ zs
parts vs xs zs p q r = p ∙ ap (λ l. vs ++ l) (q ∙ ap (λ l. xs ++ l) r) ∙ sym (append_assoc vs xs (Close ∷ zs)) ∙ sym (append_assoc (vs ++ xs) (Close ∷ []) zs)

module _ (ok : ℕ → Type 0) where
  -- behind a unit with the tree x, the tokens vs make a rule with the tree y
  abbrev Widens : ℕ → Tree → List Token → Tree → Type 0
  Widens d x vs y = (ts : List Token) → Reads ok d unit ts x → Reads ok d rule (ts ++ vs) y

  abbrev Rest : {p : Part} → Context p → Tree → List Token → Tree → Type 0
  Rest whole x us t = (us ≡ []) × (x ≡ t)
  Rest (inside K) x us t = (vs : List Token) × (us ≡ Close ∷ vs) × Rest K x vs t
  Rest (first K) x us t = (vs : List Token) × (ws : List Token) × (y : Tree) × (us ≡ vs ++ ws) × Widens (depth K) x vs y × Rest K y ws t
  Rest (second w l K) x us t = Rest K (two w l x) us t
  Rest (under w K) x us t = Rest K (one w x) us t

  abbrev Follows : State → List Token → Tree → Type 0
  Follows (want K) us t = (vs : List Token) × (ws : List Token) × (x : Tree) × (us ≡ vs ++ ws) × Reads ok (depth K) unit vs x × Rest K x ws t
  Follows (had x K) us t = Rest (first K) x us t
  Follows (full x K) us t = Rest K x us t

  alone : (d : ℕ) (x : Tree) → Widens d x [] x
  alone d x ts r = subst (λ l. Reads ok d rule l x) (sym (append-nil ts)) (a_unit r)

  undone : (K : Context unit) (x : Tree) (us : List Token) (t : Tree) → Follows (unit_done K x) us t → Rest K x us t
  unfolding unit_done
  undone (first K) x us t f = f
  undone (second w l K) x us t f = f
  undone (under w K) x us t f = undone K (one w x) us t f

  module _ (us : List Token) (t : Tree) (T : State) (o : ok (state_depth T)) (f : Follows T us t) where
    -- the state T is known by the step that leads to it
    known_ok : {S : State} → Path (Option State) (Some S) (Some T) → ok (state_depth S)
    known_ok e = subst (λ A. ok (state_depth A)) (sym (some_inj e)) o

    known : {S : State} → Path (Option State) (Some S) (Some T) → Follows S us t
    known e = subst (λ A. Follows A us t) (sym (some_inj e)) f

    back_word : (K : Context unit) (w : Word) (n : Operands) → takes w ≡ n → want_word n w K ≡ Some T → Follows (want K) (word w ∷ us) t
    unfolding depth
    back_word K w Zero z e = (word w ∷ [], us, leaf w, refl, a_leaf z, undone K (leaf w) us t (known e))
    back_word K w One z e =
        let g = known e in
        (word w ∷ g.0, g.1, one w g.2, ap (λ l. word w ∷ l) g.3, one_sided z (known_ok e) g.4, g.5)
    back_word K w Two z e = absurd (none_some e)

    back_open : (K : Context unit) → Path (Option State) (Some (want (first (inside K)))) (Some T) → Follows (want K) (Open ∷ us) t
    unfolding depth
    back_open K e =
        let g = known e in
        let h = g.5 in
        let i = h.5 in
        (Open ∷ ((g.0 ++ h.0) ++ Close ∷ []), i.0, h.2, ap (λ l. Open ∷ l) (parts g.0 h.0 i.0 g.3 h.3 i.1), in_parens (known_ok e) (h.4 g.0 g.4), i.2)

    back_close : (K : Context rule) (x : Tree) → closed K x ≡ Some T → Rest K x (Close ∷ us) t
    back_close whole x e = absurd (none_some e)
    back_close (inside K) x e = (us, refl, undone K x us t (known e))

    back_two : (K : Context rule) (x : Tree) (w : Word) (n : Operands) → takes w ≡ n → had_word n w x K ≡ Some T → Follows (had x K) (word w ∷ us) t
    unfolding depth
    back_two K x w Zero z e = absurd (none_some e)
    back_two K x w One z e = absurd (none_some e)
    back_two K x w Two z e =
        let g = known e in
        (word w ∷ g.0, g.1, two w x g.2, ap (λ l. word w ∷ l) g.3, (λ ts r. two_sided z r g.4), g.5)

    back : (S : State) (a : Token) → step S a ≡ Some T → Follows S (a ∷ us) t
    unfolding step
    back (want K) Open e = back_open K e
    back (want K) Close e = absurd (none_some e)
    back (want K) (word w) e = back_word K w (takes w) refl e
    back (had x K) Open e = absurd (none_some e)
    back (had x K) Close e = ([], Close ∷ us, x, refl, alone (depth K) x, back_close K x e)
    back (had x K) (word w) e = back_two K x w (takes w) refl e
    back (full x K) Open e = absurd (none_some e)
    back (full x K) Close e = back_close K x e
    back (full x K) (word w) e = absurd (none_some e)

  at_end : (t : Tree) (S : State) → Stands whole t S → Follows S [] t
  at_end t S (inl e) = subst (λ A. Follows A [] t) (sym e) ([], [], t, refl, alone (depth whole) t, (refl, refl))
  at_end t S (inr e) = subst (λ A. Follows A [] t) (sym e) (refl, refl)

  follows : {S T : State} {ts : List Token} (t : Tree) → Goes ok S ts T → Stands whole t T → Follows S ts t
  follows {S} t stays s = at_end t S s
  follows {S} {T} t (takes_on {M = M} {t = a} {ts = us} e o g) s = back us t M o (follows t g s) S a e

  -- tokens over which the machine goes to a whole rule are that rule
  pub is_rule : {ts : List Token} {T : State} (t : Tree) → Goes ok start ts T → Stands whole t T → IsRule ok ts t
  unfolding depth
  is_rule t g s =
      let f = follows t g s in
      let h = f.5 in
      let joined = f.3 ∙ ap (λ l. f.0 ++ l) (h.3 ∙ ap (λ l. h.0 ++ l) h.5.0 ∙ append-nil h.0) in
      subst (λ l. Reads ok 0 rule l t) (sym joined) (subst (Reads ok 0 rule (f.0 ++ h.0)) h.5.1 (h.4 f.0 f.4))
