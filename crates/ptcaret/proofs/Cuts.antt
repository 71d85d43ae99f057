-- The abstract prefix of the first events of a history: it ends at the event that routine words look back to.
--   state h n        the state of event n + 1
--   cut_back         an abstract prefix ends there
--   cuts_back        and what ends there is one
use Prim.Native.Nat.{ℕ, zero, suc, ◌+◌, ◌-◌, ◌≤◌, ◌<◌}
use mathlib.Core.Bool.{Bool, true, false, cond, ◌&&◌}
use mathlib.Core.List.{List, [], ◌∷◌, ◌++◌, append_assoc}
use mathlib.Core.Path.{◌≡◌, refl, sym, ap, ap₂, subst, ◌∙◌}
use native.Mathlib.Omega.{arith}
use native.Mathlib.Decide.{dec_le}
use borrow.Author.Tests.{clash, eq-eqb, ne_eqb}
use lib.Dec.{eqb}
use lib.ListN.{length, get_or, take, drop, get_or-map, take-append-drop, length-append, length-map}
use lib.Seq.{take-suc, take_at, length-take-le, get_or_at, drop-cons}
use Rattle.reels.specs.Reels.{Begins}
use Rattle.reels.specs.declared.Event.{Event}
use Rattle.reels.specs.declared.EventKind.{EventKind}
use Rattle.reels.specs.declared.EventKind.TheVariants.{Call, Begin, End, Return}
use Rattle.history.specs.Moments.{blank, events, numbered, event_at, is, tally, open_at, latest, call_of, prior}
use Rattle.history.proofs.Views.{open_counts}
use Rattle.ptcaret.specs.Traces.{State, Trace, Kind, Abstraction, AbstractPrefix, no_return, a_return}
use Rattle.ptcaret.proofs.Counts.{others, unlike, count, count_out, count_append}
use Rattle.ptcaret.proofs.Nested.{begins_whole, Place, other, an_end, a_return as at_return_lem, place, no_more}
use Rattle.ptcaret.proofs.Erasing.{Keeps, abstraction_keeps, balanced, inside, some_left, head_call, abstracted}

-- what stands where a history has no state
abbrev none : State
none = record { event = blank; reading = [] }

abbrev pub state : Trace → ℕ → State
state h n = get_or h n none

pub state_event : (h : Trace) (n : ℕ) → (state h n).event ≡ event_at (events h) (suc n)
unfolding events numbered
state_event h n = sym (get_or-map (λ m. m.event) h n none)

pub first_more : (h : Trace) (n : ℕ) → n < length h → take (suc n) h ≡ take n h ++ state h n ∷ []
first_more h n l = take-suc h n none l

module _ (k : EventKind) where
  tally_take : (h : Trace) (n : ℕ) → n ≤ length h → tally k (events h) n ≡ count k (take n h)
  unfolding tally count
  tally_take h zero l = refl
  tally_take h (suc n) l =
      let i = tally_take h n (omega arith) in
      let joined = ap (count k) (first_more h n l) ∙ count_append k (take n h) (state h n ∷ []) in
      let here : is k (event_at (events h) (suc n)) ≡ is k (state h n).event = ap (is k) (sym (state_event h n)) in
      ap₂ (λ b m. cond b (suc m) m) here i ∙ (at (is k (state h n).event) (count k (take n h)) ∙ sym joined)
    where
      at : (b : Bool) (m : ℕ) → cond b (suc m) m ≡ m + cond b 1 0
      at true m = omega arith
      at false m = omega arith

  -- in the front part w of a history
  pub tally_front : (h w z : Trace) → h ≡ w ++ z → tally k (events h) (length w) ≡ count k w
  tally_front h w z e =
      let long : length h ≡ length w + length z = ap length e ∙ length-append w z in
      tally_take h (length w) (omega arith) ∙ ap (count k) (ap (take (length w)) e ∙ take_at w z (length w) refl)

  -- and at a state of another kind behind it
  tally_next : (h w : Trace) (s : State) (z : Trace) → h ≡ w ++ s ∷ z → is k s.event ≡ false → tally k (events h) (suc (length w)) ≡ count k w
  unfolding count
  tally_next h w s z e o =
      let long = length-append w (s ∷ []) in
      let one : suc (length w) ≡ length (w ++ s ∷ []) = omega arith in
      let front = tally_front h (w ++ s ∷ []) z (e ∙ sym (append_assoc w (s ∷ []) z)) in
      let more = count_append k w (s ∷ []) in
      let other = count_out k s [] o in
      ap (tally k (events h)) one ∙ (front ∙ (omega arith))

  count_over : (u : Trace) (s : State) (w : Trace) → is k s.event ≡ false → count k (u ++ s ∷ w) ≡ count k u + count k w
  count_over u s w o =
      let x = count_append k u (s ∷ w) in
      let y = count_out k s w o in
      omega arith

length_events : (h : Trace) → length (events h) ≡ length h
unfolding events
length_events h = length-map h (λ m. m.event)

pub event_front : (h w : Trace) (s : State) (z : Trace) → h ≡ w ++ s ∷ z → event_at (events h) (suc (length w)) ≡ s.event
event_front h w s z e = sym (state_event h (length w)) ∙ ap (λ m. m.event) (ap (λ m. state m (length w)) e ∙ get_or_at w s z none (length w) refl)

latest_is : (P : ℕ → Bool) (a n : ℕ) → a < n → P (suc a) ≡ true → ((j : ℕ) → suc a < j → j ≤ n → P j ≡ false) → latest P n ≡ suc a
unfolding latest
latest_is P a zero l h f = absurd (omega arith)
latest_is P a (suc n) l h f =
    elim (dec_le n a) [
      | yes m ↦ let same : a ≡ n = omega arith in subst (λ j. cond (P (suc j)) (suc j) (latest P j) ≡ suc a) same (ap (λ b. cond b (suc a) (latest P a)) h)
      | no m ↦ ap (λ b. cond b (suc n) (latest P n)) (f (suc n) (omega arith) (omega arith)) ∙ latest_is P a n (omega arith) h (λ j x y. f j x (omega arith))
    ]

-- a call and then states in which as many routines begin as end, and at every further call more are open: a return behind them belongs to it
module _ (h u k z : Trace) (c : State) (d n : ℕ) (joined : h ≡ (u ++ c ∷ k) ++ z) (last : length (u ++ c ∷ k) ≡ suc n) (nested : Begins d (events h)) (kc : Kind Call c) (even : count Begin k ≡ count End k) (deeper : (p : Trace) (s : State) (q : Trace) → k ≡ p ++ s ∷ q → Kind Call s → count End p < count Begin p) where
  from_call : h ≡ u ++ c ∷ (k ++ z)
  from_call = joined ∙ append_assoc u (c ∷ k) z

  none_less : count End u ≤ count Begin u
  none_less =
      let long : length h ≡ length u + length (c ∷ (k ++ z)) = ap length from_call ∙ length-append u (c ∷ (k ++ z)) in
      let same = length_events h in
      let o = open_counts d (events h) nested (length u) (omega arith) in
      let x = tally_front Begin h u (c ∷ (k ++ z)) from_call in
      let y = tally_front End h u (c ∷ (k ++ z)) from_call in
      omega arith

  tally_last : (l : EventKind) → is l c.event ≡ false → tally l (events h) (suc n) ≡ count l u + count l k
  tally_last l o = ap (tally l (events h)) (sym last) ∙ (tally_front l h (u ++ c ∷ k) z joined ∙ count_over l u c k o)

  open_same : open_at (events h) (suc (length u)) ≡ open_at (events h) (suc n)
  unfolding open_at
  open_same =
      let b = others Call Begin c kc in
      let e = others Call End c kc in
      let x = tally_next Begin h u c (k ++ z) from_call b in
      let y = tally_next End h u c (k ++ z) from_call e in
      let x' = tally_last Begin b in
      let y' = tally_last End e in
      omega arith

  place_of : (p : Trace) (s : State) (q : Trace) → k ≡ p ++ s ∷ q → h ≡ (u ++ c ∷ p) ++ s ∷ (q ++ z)
  place_of p s q e = joined ∙ (ap (λ m. (u ++ c ∷ m) ++ z) e ∙ simp append_assoc)

  more_open : (p : Trace) (s : State) (q : Trace) → k ≡ p ++ s ∷ q → Kind Call s → open_at (events h) (suc n) < open_at (events h) (suc (length (u ++ c ∷ p)))
  unfolding open_at
  more_open p s q e i =
      let here = place_of p s q e in
      let b = others Call Begin c kc in
      let f = others Call End c kc in
      let x = tally_next Begin h (u ++ c ∷ p) s (q ++ z) here (others Call Begin s i) ∙ count_over Begin u c p b in
      let y = tally_next End h (u ++ c ∷ p) s (q ++ z) here (others Call End s i) ∙ count_over End u c p f in
      let x' = tally_last Begin b in
      let y' = tally_last End f in
      let more = deeper p s q e i in
      let less = none_less in
      omega arith

  test : ℕ → Bool
  test j = is Call (event_at (events h) j) && eqb (open_at (events h) j) (open_at (events h) (suc n))

  test_call : test (suc (length u)) ≡ true
  unfolding test
  test_call = ap₂ ◌&&◌ (ap (is Call) (event_front h u c (k ++ z) from_call) ∙ kc) (eq-eqb _ _ open_same)

  test_later : (p : Trace) (s : State) (q : Trace) → k ≡ p ++ s ∷ q → test (suc (length (u ++ c ∷ p))) ≡ false
  unfolding test
  test_later p s q e = at (is Call s.event) refl
    where
      at_state : is Call (event_at (events h) (suc (length (u ++ c ∷ p)))) ≡ is Call s.event
      at_state = ap (is Call) (event_front h (u ++ c ∷ p) s (q ++ z) (place_of p s q e))

      at : (b : Bool) → is Call s.event ≡ b → test (suc (length (u ++ c ∷ p))) ≡ false
      at false i = ap (λ x. x && eqb (open_at (events h) (suc (length (u ++ c ∷ p)))) (open_at (events h) (suc n))) (at_state ∙ i)
      at true i = let more = more_open p s q e i in ap₂ ◌&&◌ (at_state ∙ i) (ne_eqb _ _ (λ same. omega arith))

  pub belongs : length u < n → call_of (events h) (suc n) ≡ suc (length u)
  unfolding call_of test
  belongs l = latest_is test (length u) n l test_call (λ j x y. later j x y)
    where
      later : (j : ℕ) → suc (length u) < j → j ≤ n → test j ≡ false
      later j x y =
          let m = j - suc (suc (length u)) in
          let long = length-append u (c ∷ k) in
          let room : m < length k = omega arith in
          let parts : k ≡ take m k ++ get_or k m none ∷ drop (suc m) k = sym (take-append-drop m k) ∙ ap (λ r. take m k ++ r) (drop-cons k m none room) in
          let front = length-append u (c ∷ take m k) in
          let taken = length-take-le m k (omega arith) in
          let place : suc (length (u ++ c ∷ take m k)) ≡ j = omega arith in
          subst (λ i. test i ≡ false) place (test_later (take m k) (get_or k m none) (drop (suc m) k) parts)

pub last_same : (v w : Trace) {s t : State} → v ++ s ∷ [] ≡ w ++ t ∷ [] → (v ≡ w) × (s ≡ t)
last_same [] [] e = (refl, (cc))
last_same [] (b ∷ w) {s} {t} e = let rest : [] ≡ w ++ t ∷ [] = cc in absurd (no_more w t [] rest)
last_same (a ∷ v) [] {s} {t} e = let rest : [] ≡ v ++ s ∷ [] = cc in absurd (no_more v s [] rest)
last_same (a ∷ v) (b ∷ w) {s} {t} e =
    let rest : v ++ s ∷ [] ≡ w ++ t ∷ [] = cc in
    let i = last_same v w rest in
    let one : a ≡ b = cc in
    (ap₂ (λ m r. m ∷ r) one i.0, i.1)

prior_plain : (es : List Event) (n : ℕ) → is Return (event_at es (suc n)) ≡ false → prior es (suc n) ≡ n
unfolding prior
prior_plain es n o = ap (λ b. cond b (call_of es (suc n)) n) o

prior_return : (es : List Event) (n : ℕ) → is Return (event_at es (suc n)) ≡ true → prior es (suc n) ≡ call_of es (suc n)
unfolding prior
prior_return es n o = ap (λ b. cond b (call_of es (suc n)) n) o

module _ (h : Trace) (d n : ℕ) (nested : Begins d (events h)) (room : n < length h) where
  abbrev rest : Trace
  rest = drop (suc n) h

  -- the last state, and its kind
  last_kind : {w : Trace} (v : Trace) (s : State) (k : EventKind) → w ≡ v ++ s ∷ [] → w ≡ take (suc n) h → (v ≡ take n h) × (is k (event_at (events h) (suc n)) ≡ is k s.event)
  last_kind v s k e f =
      let i = last_same v (take n h) (sym e ∙ (f ∙ first_more h n room)) in
      (i.0, ap (is k) (sym (state_event h n) ∙ ap (λ m. m.event) (sym i.1)))

  front_call : (u k : Trace) (c r : State) → Kind Call c → Kind Return r → take (suc n) h ≡ u ++ c ∷ k → Keeps 0 k (r ∷ []) → take (call_of (events h) (suc n)) h ≡ u ++ c ∷ []
  front_call u k c r kc kr e i =
      let joined : h ≡ (u ++ c ∷ k) ++ rest = sym (take-append-drop (suc n) h) ∙ ap (λ m. m ++ rest) e in
      let long : length (u ++ c ∷ k) ≡ suc n = ap length (sym e) ∙ length-take-le (suc n) h room in
      let sum = length-append u (c ∷ k) in
      let some = some_left r [] i in
      let even = balanced i in
      let call = belongs h u k rest c d n joined long nested kc (omega arith) (λ p s q w j. let m = inside i (others Return Call r kr, tt) p s q w j in omega arith) (omega arith) in
      let front = length-append u (c ∷ []) in
      let parts : (u ++ c ∷ k) ++ rest ≡ (u ++ c ∷ []) ++ (k ++ rest) = simp append_assoc in
      ap₂ take call (joined ∙ parts) ∙ take_at (u ++ c ∷ []) (k ++ rest) (suc (length u)) (omega arith)

  matching : (u x : Trace) (c r : State) → Kind Call c → Kind Return r → take (suc n) h ≡ u ++ x → Abstraction x (c ∷ r ∷ []) → take (call_of (events h) (suc n)) h ≡ u ++ c ∷ []
  matching u x c r kc kr e a =
      let g = begins_whole d h nested in
      let parts : h ≡ (u ++ x) ++ rest = sym (take-append-drop (suc n) h) ∙ ap (λ m. m ++ rest) e in
      let i = head_call (h ++ g.0) u (rest ++ g.0) c g.1 (ap (λ m. m ++ g.0) parts ∙ append_assoc (u ++ x) rest g.0) kc (abstraction_keeps c r kc kr a) in
      front_call u i.0 c r kc kr (e ∙ ap (λ m. u ++ m) i.1) i.2

  pub cut_back : {w v : Trace} → AbstractPrefix w v → w ≡ take (suc n) h → v ≡ take (prior (events h) (suc n)) h
  cut_back {v = v} (no_return s e o) f =
      let i = last_kind v s Return e f in
      i.0 ∙ ap (λ m. take m h) (sym (prior_plain (events h) n (i.1 ∙ o)))
  cut_back (a_return v u x s c r e ks p a kc kr) f =
      let i = last_kind v s Return e f in
      sym (matching u x c r kc kr (sym f ∙ p) a) ∙ ap (λ m. take m h) (sym (prior_return (events h) n (i.1 ∙ ks)))

  pub cuts_back : AbstractPrefix (take (suc n) h) (take (prior (events h) (suc n)) h)
  cuts_back = at (is Return (event_at (events h) (suc n))) refl
    where
      s : State
      s = state h n

      kind : is Return s.event ≡ is Return (event_at (events h) (suc n))
      kind = ap (is Return) (state_event h n)

      at_place : Kind Return s → (more : Trace) → Place (take n h) s (rest ++ more) → AbstractPrefix (take (suc n) h) (take (prior (events h) (suc n)) h)
      at_place k more (other i j) = absurd (clash (sym j ∙ k))
      at_place k more (an_end i q l p j) = absurd (unlike End Return s refl i k)
      at_place k more (at_return_lem i f) =
          let c = f.call in
          let x : Trace = c ∷ f.begin ∷ (f.inner ++ f.end ∷ s ∷ []) in
          let parts : take (suc n) h ≡ f.before ++ x = first_more h n room ∙ (ap (λ m. m ++ s ∷ []) f.joined ∙ simp append_assoc) in
          let one : AbstractPrefix (take (suc n) h) (f.before ++ c ∷ []) = a_return (take n h) f.before x s c s (first_more h n room) k parts (abstracted c f.begin f.end s f.is_call f.is_begin_lem f.is_end k f.within) f.is_call k in
          subst (AbstractPrefix (take (suc n) h)) (cut_back one refl) one

      at : (b : Bool) → is Return (event_at (events h) (suc n)) ≡ b → AbstractPrefix (take (suc n) h) (take (prior (events h) (suc n)) h)
      at false o = subst (λ m. AbstractPrefix (take (suc n) h) (take m h)) (sym (prior_plain (events h) n o)) (no_return s (first_more h n room) (kind ∙ o))
      at true o =
          let g = begins_whole d h nested in
          let parts : h ++ g.0 ≡ take n h ++ s ∷ (rest ++ g.0) = ap (λ m. m ++ g.0) (sym (take-append-drop (suc n) h) ∙ ap (λ m. m ++ rest) (first_more h n room)) ∙ simp append_assoc in
          at_place (kind ∙ o) g.0 (place (h ++ g.0) (take n h) s (rest ++ g.0) g.1 parts)
