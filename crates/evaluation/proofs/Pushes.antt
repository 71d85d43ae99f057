-- The stack of routine cells over an event.
use Rattle.std.proofs.Common.{◌≡◌, ℕ, zero, suc, ◌-◌, ◌≤◌, Bool, true, false, cond, ◌||◌, List, [], ◌∷◌, ◌++◌, map, reverse, length, take, drop, sym, refl, ap, ◌∙◌, subst, ap₂, arith, length-append}
use mathlib.Core.List.{reverse-cons}
use borrow.Author.Tests.{clash}
use Rattle.std.proofs.lemmas.List.{get_or_push, take-append-le, take_all}
use Rattle.grammar.specs.Grammar.{Tree}
use Rattle.kinds.specs.Algebra.{Algebra}
use Rattle.reels.specs.declared.Event.{Event}
use Rattle.reels.specs.declared.EventKind.{EventKind}
use Rattle.reels.specs.declared.EventKind.TheVariants.{Step, Call, Begin, End, Return}
use Rattle.reels.specs.Reels.{Begins}
use Rattle.reels.specs.Nesting.{outer}
use Rattle.history.specs.Moments.{Moment, events, numbered, event_at, same_kind, is, prior}
use Rattle.history.specs.Calls.{after, calls}
use Rattle.history.proofs.Alike.{calls_alike, alike_append, prior_le}
use Rattle.history.proofs.Runs.{Phase, calm, called, ended, Run, on_step, on_call, on_begin, on_end, on_return, begins_runs}
use Rattle.history.proofs.Stacks.{UpTo}
use Rattle.history.proofs.Views.{reached}
use Rattle.evaluation.specs.Steps.{Cells, Memory, top, lower, settled}
use Rattle.evaluation.specs.Cells.{last_is, innermost, back, begun, routine_at, cells_at, stack, memory_at}
use Rattle.evaluation.proofs.Backs.{is_called, is_ended, last_of, next_event}
use Rattle.evaluation.proofs.Growing.{routines_prefix, prior_back, events_more, events_length}

-- a call is the innermost that has not returned
called_top : (es : List Event) (n : ℕ) → is Call (event_at es n) ≡ true → calls es n ≡ n ∷ outer (calls es n)
unfolding calls numbered
called_top es zero q = absurd (clash q)
called_top es (suc n) q = at (event_at es (suc n)).kind q
  where
    at : (k : EventKind) → same_kind Call k ≡ true → Path (List ℕ) (after k (suc n) (calls es n)) (suc n ∷ outer (after k (suc n) (calls es n)))
    at Step q = absurd (clash q)
    at Call q = refl
    at Begin q = absurd (clash q)
    at End q = absurd (clash q)
    at Return q = absurd (clash q)

outer_upto : (m : ℕ) (cs : List ℕ) → UpTo m cs → UpTo m (outer cs)
outer_upto m [] u = tt
outer_upto m (c ∷ cs) u = u.1

calls_upto : (es : List Event) (i m : ℕ) → i ≤ m → UpTo m (calls es i)
unfolding calls
calls_upto es zero m l = tt
calls_upto es (suc i) m l = at (event_at es (suc i)).kind (calls es i) (calls_upto es i m (omega arith))
  where
    at : (k : EventKind) (cs : List ℕ) → UpTo m cs → UpTo m (after k (suc i) cs)
    at Step cs u = u
    at Call cs u = (l, u)
    at Begin cs u = u
    at End cs u = u
    at Return cs u = outer_upto m cs u

begun_upto : (es : List Event) → UpTo (length es) (begun es)
begun_upto es = at (last_is Call es || last_is End es) (calls_upto es (length es) (length es) (omega arith))
  where
    at : (b : Bool) → UpTo (length es) (calls es (length es)) → UpTo (length es) (cond b (outer (calls es (length es))) (calls es (length es)))
    at true u = outer_upto (length es) (calls es (length es)) u
    at false u = u

-- an end comes where a routine is open
end_open : {k : ℕ} {ph : Phase} (e : Event) → Run k ph (e ∷ []) → is End e ≡ true → 1 ≤ k
end_open e (on_step q r) h = absurd (clash (sym (ap (same_kind End) q) ∙ h))
end_open e (on_call q r) h = absurd (clash (sym (ap (same_kind End) q) ∙ h))
end_open e (on_begin q r) h = absurd (clash (sym (ap (same_kind End) q) ∙ h))
end_open e (on_end q r) h = omega arith
end_open e (on_return q r) h = absurd (clash (sym (ap (same_kind End) q) ∙ h))

some_call : (cs : List ℕ) → 1 ≤ length cs → Path (List ℕ) cs (innermost cs ∷ outer cs)
some_call [] l = absurd (omega arith)
some_call (c ∷ cs) l = refl

drop_last : (es : List Event) (e : Event) → drop (length es) (es ++ e ∷ []) ≡ e ∷ []
drop_last [] e = refl
drop_last (x ∷ es) e = drop_last es e

end_call : (d : ℕ) (es : List Event) (e : Event) → Begins d (es ++ e ∷ []) → is End e ≡ true → 1 ≤ length (calls es (length es))
end_call d es e b q =
    let es' = es ++ e ∷ [] in
    let at = reached es' (begins_runs d es' b) (length es) (omega (arith, length-append es (e ∷ []))) in
    let more : 1 ≤ at.k = end_open e (subst (Run at.k at.ph) (drop_last es e) at.run) q in
    let same : length (calls es' (length es)) ≡ length (calls es (length es)) = ap length (calls_alike es' es (length es) (alike_append es (e ∷ []))) in
    omega (arith, at.state.depth)

-- the open routines' calls before an event in a phase, where cs have not returned; after an event i of a kind
abbrev open_before : Phase → List ℕ → List ℕ
open_before ph cs = cond (is_called ph || is_ended ph) (outer cs) cs

abbrev open_after : EventKind → ℕ → List ℕ → List ℕ
open_after k i cs = cond (same_kind Call k || same_kind End k) (outer (after k i cs)) (after k i cs)

abbrev Turn : ℕ → List ℕ → Phase → EventKind → Type 0
Turn n cs ph Step = open_after Step (suc n) cs ≡ open_before ph cs
Turn n cs ph Call = open_after Call (suc n) cs ≡ open_before ph cs
Turn n cs ph Begin = open_after Begin (suc n) cs ≡ cond (is_ended ph) (innermost cs) n ∷ open_before ph cs
Turn n cs ph End = open_before ph cs ≡ innermost cs ∷ open_after End (suc n) cs
Turn n cs ph Return = open_after Return (suc n) cs ≡ open_before ph cs

turn : {k : ℕ} {ph : Phase} (n : ℕ) (cs : List ℕ) (e : Event) → Run k ph (e ∷ []) → (is_called ph ≡ true → cs ≡ n ∷ outer cs) → (is End e ≡ true → cs ≡ innermost cs ∷ outer cs) → Turn n cs ph e.kind
turn n cs e (on_step q r) f g = subst (Turn n cs calm) (sym q) refl
turn n cs e (on_call q r) f g = subst (Turn n cs calm) (sym q) refl
turn n cs e (on_begin q r) f g = subst (Turn n cs called) (sym q) (f refl)
turn n cs e (on_end q r) f g = subst (Turn n cs calm) (sym q) (g (ap (same_kind End) q))
turn n cs e (on_return q r) f g = subst (Turn n cs ended) (sym q) refl

-- the open routines' calls over an event of a kind
abbrev pub Turned : List Event → List Event → EventKind → Type 0
Turned es fs Step = begun fs ≡ begun es
Turned es fs Call = begun fs ≡ begun es
Turned es fs Begin = begun fs ≡ back es ∷ begun es
Turned es fs End = begun es ≡ back fs ∷ begun fs
Turned es fs Return = begun fs ≡ begun es

turned_by : (es fs : List Event) (n : ℕ) (cs : List ℕ) (ph : Phase) (k : EventKind) → Turn n cs ph k → begun es ≡ open_before ph cs → begun fs ≡ open_after k (suc n) cs → back es ≡ cond (is_ended ph) (innermost cs) n → back fs ≡ cond (same_kind End k) (innermost (after k (suc n) cs)) (suc n) → Turned es fs k
turned_by es fs n cs ph Step t p q r s = q ∙ (t ∙ sym p)
turned_by es fs n cs ph Call t p q r s = q ∙ (t ∙ sym p)
turned_by es fs n cs ph Begin t p q r s = q ∙ (t ∙ ap₂ {C = List ℕ} (λ x xs. x ∷ xs) (sym r) (sym p))
turned_by es fs n cs ph End t p q r s = p ∙ (t ∙ ap₂ {C = List ℕ} (λ x xs. x ∷ xs) (sym s) (sym q))
turned_by es fs n cs ph Return t p q r s = q ∙ (t ∙ sym p)

module _ (es : List Event) (e : Event) where
  longer : length (es ++ e ∷ []) ≡ suc (length es)
  longer = omega (arith, length-append es (e ∷ []))

  last_event : (k : EventKind) → last_is k (es ++ e ∷ []) ≡ is k e
  last_event k = ap (λ i. is k (event_at (es ++ e ∷ []) i)) longer ∙ ap (is k) (next_event es e)

  calls_after : calls (es ++ e ∷ []) (length (es ++ e ∷ [])) ≡ after e.kind (suc (length es)) (calls es (length es))
  unfolding calls
  calls_after = ap (calls (es ++ e ∷ [])) longer ∙ ap₂ (λ x cs. after x.kind (suc (length es)) cs) (next_event es e) (calls_alike (es ++ e ∷ []) es (length es) (alike_append es (e ∷ [])))

  back_after : back (es ++ e ∷ []) ≡ cond (is End e) (innermost (after e.kind (suc (length es)) (calls es (length es)))) (suc (length es))
  back_after = ap₂ (λ b c. cond b (innermost c) (length (es ++ e ∷ []))) (last_event End) calls_after ∙ ap (λ i. cond (is End e) (innermost (after e.kind (suc (length es)) (calls es (length es)))) i) longer

  begun_after : begun (es ++ e ∷ []) ≡ open_after e.kind (suc (length es)) (calls es (length es))
  begun_after = ap₂ (λ b cs. cond b (outer cs) cs) (ap₂ ◌||◌ (last_event Call) (last_event End)) calls_after

  pub turned : (d : ℕ) → Begins d (es ++ e ∷ []) → Turned es (es ++ e ∷ []) e.kind
  turned d b =
      let n = length es in
      let cs = calls es n in
      let at = last_of es e (begins_runs d (es ++ e ∷ []) b) in
      let t : Turn n cs at.ph e.kind = turn n cs e at.run (λ q. called_top es n (at.a_call ∙ q)) (λ q. some_call cs (end_call d es e b q)) in
      turned_by es (es ++ e ∷ []) n cs at.ph e.kind t (ap₂ (λ x y. cond (x || y) (outer cs) cs) at.a_call at.an_end) begun_after (ap (λ x. cond x (innermost cs) n) at.an_end) back_after

map_upto : {X : Type 0} (f g : ℕ → X) (m : ℕ) → ((q : ℕ) → q ≤ m → f q ≡ g q) → (cs : List ℕ) → UpTo m cs → map f cs ≡ map g cs
map_upto f g m h [] u = refl
map_upto {X} f g m h (c ∷ cs) u = ap₂ {C = List X} (λ x xs. x ∷ xs) (h c u.0) (map_upto f g m h cs u.1)

top_pushed : {V : Type 0} (ps : List (List V)) (p : List V) → top (ps ++ p ∷ []) ≡ p
top_pushed ps p = get_or_push ps p [] _ (omega (arith, length-append ps (p ∷ [])))

lower_pushed : {V : Type 0} (ps : List (List V)) (p : List V) → lower (ps ++ p ∷ []) ≡ ps
lower_pushed ps p =
    let same : length (ps ++ p ∷ []) - 1 ≡ length ps = omega (arith, length-append ps (p ∷ [])) in
    ap (λ i. take i (ps ++ p ∷ [])) same ∙ (take-append-le (length ps) ps (p ∷ []) (omega arith) ∙ take_all (length ps) ps (omega arith))

module _ (A : Algebra) (t : Tree) (h : List (Moment A.Val)) (m : Moment A.Val) where
  abbrev grown : List (Moment A.Val)
  grown = h ++ m ∷ []

  abbrev new : Cells A.Val
  new = cells_at A t grown (suc (length h))

  -- the routine cells at the calls before the moment are the same after it
  stack_same : stack A t h ≡ reverse (map (routine_at A t grown) (begun (events h)))
  stack_same = ap reverse (sym (map_upto _ _ (length (events h)) (λ q l. routines_prefix A t h (m ∷ []) q (omega (arith, events_length h))) (begun (events h)) (begun_upto (events h))))

  pushed : (c : ℕ) (cs : List ℕ) → reverse (map (routine_at A t grown) (c ∷ cs)) ≡ reverse (map (routine_at A t grown) cs) ++ routine_at A t grown c ∷ []
  pushed c cs = reverse-cons (routine_at A t grown c) (map (routine_at A t grown) cs)

  stays : begun (events grown) ≡ begun (events h) → back (events grown) ≡ suc (length h) → Path (Memory A.Val) (record { cells = new; stack = stack A t h }) (memory_at A t grown)
  stays q b = ap₂ {C = Memory A.Val} (λ c ps. record { cells = c; stack = ps }) (ap (cells_at A t grown) (sym b)) (stack_same ∙ ap (λ cs. reverse (map (routine_at A t grown) cs)) (sym q))

  settles : (k : EventKind) → Turned (events h) (events grown) k → back (events h) ≤ length h → (same_kind End k ≡ false → back (events grown) ≡ suc (length h)) → settled k (memory_at A t h) new ≡ memory_at A t grown
  settles Step q l b = stays q (b refl)
  settles Call q l b = stays q (b refl)
  settles Begin q l b =
      let old = back (events h) in
      let stacks : stack A t h ++ routine_at A t h old ∷ [] ≡ stack A t grown = ap₂ (λ ps c. ps ++ c ∷ []) stack_same (sym (routines_prefix A t h (m ∷ []) old l)) ∙ (sym (pushed old (begun (events h))) ∙ ap (λ cs. reverse (map (routine_at A t grown) cs)) (sym q)) in
      ap₂ {C = Memory A.Val} (λ c ps. record { cells = c; stack = ps }) (ap (cells_at A t grown) (sym (b refl))) stacks
  settles End q l b =
      let c = back (events grown) in
      let stacks : stack A t h ≡ stack A t grown ++ routine_at A t grown c ∷ [] = stack_same ∙ (ap (λ cs. reverse (map (routine_at A t grown) cs)) q ∙ pushed c (begun (events grown))) in
      ap₂ {C = Memory A.Val} (λ x ps. record { cells = record { plain = new.plain; routine = x }; stack = ps }) (ap top stacks ∙ top_pushed (stack A t grown) (routine_at A t grown c)) (ap lower stacks ∙ lower_pushed (stack A t grown) (routine_at A t grown c))
  settles Return q l b = stays q (b refl)

  pub remembered : (d : ℕ) → Begins d (events grown) → settled m.event.kind (memory_at A t h) new ≡ memory_at A t grown
  remembered d b =
      let es = events h in
      let e = m.event in
      let more = events_more h m in
      let moves = subst (λ fs. Turned es fs e.kind) (sym more) (turned es e d (subst (Begins d) more b)) in
      let short : prior (events grown) (suc (length h)) ≤ length h = prior_le (events grown) (length h) in
      let within : back es ≤ length h = subst (λ i. i ≤ length h) (prior_back d h m b) short in
      settles e.kind moves within (λ q. ap back more ∙ (back_after es e ∙ (ap (λ x. cond x (innermost (after e.kind (suc (length es)) (calls es (length es)))) (suc (length es))) q ∙ ap suc (events_length h))))
