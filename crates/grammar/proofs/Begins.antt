-- The rules are what the machine takes to a whole rule, and the beginnings of rules are what it takes at all.
use Rattle.std.proofs.Common.{◌≡◌, ℕ, ◌≤◌, List, [], ◌∷◌, ◌++◌, Some, refl, ap, ◌∙◌, arith}
use Rattle.grammar.specs.Grammar.{Tree, IsRule, Begins, any_depth, in_depth}
use Rattle.grammar.specs.Machine.{State, whole, state_depth, depth, step, start}
use Rattle.grammar.specs.declared.Token.{Token}
use Rattle.grammar.proofs.Walks.{Goes, stays, takes_on, goes_append, goes_split, goes_once, Stands, read, finishes}
use Rattle.grammar.proofs.Rests.{is_rule}

-- an allowed depth allows the smaller ones, and 0 is allowed
abbrev pub Limit : (ℕ → Type 0) → Type 0
Limit ok = ((a b : ℕ) → a ≤ b → ok b → ok a) × ok 0

pub any_limit : Limit any_depth
any_limit = ((λ a b h o. tt), tt)

pub in_limit : Limit in_depth
in_limit = ((λ a b h o. omega arith), omega arith)

pub goes_ok : {ok : ℕ → Type 0} {S T : State} {ts : List Token} → ok (state_depth S) → Goes ok S ts T → ok (state_depth T)
goes_ok o stays = o
goes_ok o (takes_on e o' g) = goes_ok o' g

only_step : {ok : ℕ → Type 0} {S T : State} {a : Token} → Goes ok S (a ∷ []) T → (step S a ≡ Some T) × ok (state_depth T)
only_step (takes_on e o stays) = (e, o)

module _ (ok : ℕ → Type 0) (limit : Limit ok) where
  start_ok : ok (state_depth start)
  unfolding depth
  start_ok = limit.1

  pub rule_goes : {ts : List Token} {t : Tree} → IsRule ok ts t → (S : State) × Goes ok start ts S × Stands whole t S
  unfolding depth
  rule_goes r = read ok limit.0 r whole refl limit.1

  pub begins_goes : (ts : List Token) → Begins ok ts → (S : State) × Goes ok start ts S
  begins_goes ts b =
      let g = rule_goes b.2 in
      let s = goes_split ts g.1 in
      (s.0, s.1)

  pub goes_begins : {ts : List Token} {S : State} → Goes ok start ts S → Begins ok ts
  goes_begins {S = S} g =
      let f = finishes ok limit.0 S (goes_ok start_ok g) in
      (f.0, f.1, is_rule ok f.1 (goes_append g f.3) f.4)

  -- behind the tokens ts, a rule begins with one token more just where the machine takes it
  pub step_begins : {ts : List Token} {S T : State} (a : Token) → Goes ok start ts S → step S a ≡ Some T → ok (state_depth T) → Begins ok (ts ++ a ∷ [])
  step_begins a g e o = goes_begins (goes_append g (takes_on e o stays))

  pub begins_step : {ok' : ℕ → Type 0} {ts : List Token} {S : State} (a : Token) → Goes ok' start ts S → Begins ok (ts ++ a ∷ []) → (T : State) × (step S a ≡ Some T) × ok (state_depth T)
  begins_step {ts = ts} a g b =
      let h = begins_goes (ts ++ a ∷ []) b in
      let s = goes_split ts h.1 in
      let l = only_step s.2 in
      (h.0, ap (λ A. step A a) (goes_once g s.1) ∙ l.0, l.1)
