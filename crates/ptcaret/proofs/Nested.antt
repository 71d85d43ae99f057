-- What stands at a place of a trace that begins a well-nested reel.
--   Whole w         the trace's events are a well-nested reel
--   Found y         y ends with a call, its begin, a whole trace and its end
--   Place y s z     what s can be, where the states y stand before it and z behind it
--   place           what stands at each place of a whole trace
use Prim.Native.Nat.{ℕ}
use mathlib.Core.Bool.{Bool, false}
use mathlib.Core.List.{List, [], ◌∷◌, ◌++◌, append_assoc, append-nil, map, map-append}
use mathlib.Core.Path.{◌≡◌, refl, sym, ap, ap₂, subst, ◌∙◌}
use mathlib.Core.Logic.{◌⊎◌, inl, inr}
use native.Mathlib.Omega.{arith}
use Rattle.reels.specs.Reels.{event, Reel, nothing, a_step, a_routine, Begins}
use Rattle.reels.specs.declared.Event.{Event}
use Rattle.reels.specs.declared.EventKind.{EventKind}
use Rattle.reels.specs.declared.EventKind.TheVariants.{Step, Call, Begin, End, Return}
use Rattle.history.specs.Moments.{is, same_kind, events}
use Rattle.ptcaret.specs.Traces.{State, Trace, Kind}
use Rattle.ptcaret.proofs.Counts.{others}

pub data Whole : Trace → Type 0 where
  empty : Whole []
  step : {s : State} {w : Trace} → Kind Step s → Whole w → Whole (s ∷ w)
  routine : (c b e r : State) {x y : Trace} → Kind Call c → Kind Begin b → Kind End e → Kind Return r → Whole x → Whole y → Whole (c ∷ b ∷ (x ++ e ∷ r ∷ y))

-- a trace by the first of its events, and by a front part of them
first : (h : Trace) (e : Event) (es : List Event) → events h ≡ e ∷ es → (s : State) × (g : Trace) × (h ≡ s ∷ g) × (s.event ≡ e) × (events g ≡ es)
unfolding events
first [] e es p = let z : ◌≡◌ {A = ℕ} 0 1 = cc in absurd (omega arith)
first (s ∷ h) e es p = (s, h, refl, (cc), (cc))

part : (h : Trace) (es fs : List Event) → events h ≡ es ++ fs → (u : Trace) × (v : Trace) × (h ≡ u ++ v) × (events u ≡ es) × (events v ≡ fs)
unfolding events
part h [] fs p = ([], h, refl, refl, p)
part h (e ∷ es) fs p =
    let f = first h e (es ++ fs) p in
    let q = part f.1 es fs f.4 in
    (f.0 ∷ q.0, q.1, f.2 ∙ ap (λ l. f.0 ∷ l) q.2, ap₂ (λ a l. a ∷ l) f.3 q.3, q.4)

kind_of : (k : EventKind) {n : ℕ} (s : State) → s.event ≡ event k n → is k s.event ≡ same_kind k k
kind_of k s p = ap (is k) p

made : (c b e r : State) {h x y : Trace} → Kind Call c → Kind Begin b → Kind End e → Kind Return r → Whole x → Whole y → h ≡ c ∷ b ∷ (x ++ e ∷ r ∷ y) → Whole h
made c b e r kc kb ke kr wx wy p = subst Whole (sym p) (routine c b e r kc kb ke kr wx wy)

whole : {d : ℕ} {es : List Event} → Reel d es → (h : Trace) → events h ≡ es → Whole h
unfolding events
whole nothing [] p = empty
whole nothing (s ∷ h) p = let z : ◌≡◌ {A = ℕ} 0 1 = cc in absurd (omega arith)
whole (a_step {es = es} r) h p =
    let f = first h (event Step 0) es p in
    subst Whole (sym f.2) (step (kind_of Step f.0 f.3) (whole r f.1 f.4))
whole (a_routine {n = n} {es = es} {fs = fs} o r q) h p =
    let c = first h (event Call n) (event Begin n ∷ (es ++ event End n ∷ event Return n ∷ fs)) p in
    let b = first c.1 (event Begin n) (es ++ event End n ∷ event Return n ∷ fs) c.4 in
    let x = part b.1 es (event End n ∷ event Return n ∷ fs) b.4 in
    let e = first x.1 (event End n) (event Return n ∷ fs) x.4 in
    let t = first e.1 (event Return n) fs e.4 in
    made c.0 b.0 e.0 t.0 (kind_of Call c.0 c.3) (kind_of Begin b.0 b.3) (kind_of End e.0 e.3) (kind_of Return t.0 t.3) (whole r x.0 x.3) (whole q t.1 t.4) (cc)

pub begins_whole : (d : ℕ) (h : Trace) → Begins d (events h) → (more : Trace) × Whole (h ++ more)
unfolding events
begins_whole d h b =
    let more : Trace = map (λ e. record { event = e; reading = [] }) b.0 in
    (more, whole b.1 (h ++ more) (map-append (λ m. m.event) h more ∙ ap (λ l. events h ++ l) (back b.0)))
  where
    back : (es : List Event) → events {V = Bool} (map (λ e. record { event = e; reading = [] }) es) ≡ es
    back [] = refl
    back (e ∷ es) = ap (λ l. e ∷ l) (back es)

pub record Found (y : Trace) : Type 0 where
  pub before : Trace
  pub inner : Trace
  pub call : State
  pub begin : State
  pub end : State
  pub joined : y ≡ before ++ call ∷ begin ∷ (inner ++ end ∷ [])
  pub is_call : Kind Call call
  pub is_begin_lem : Kind Begin begin
  pub is_end : Kind End end
  pub within : Whole inner

pub data Place (y : Trace) (s : State) (z : Trace) : Type 0 where
  other : is End s.event ≡ false → is Return s.event ≡ false → Place y s z
  an_end : Kind End s → (q : State) (l : Trace) → z ≡ q ∷ l → Kind Return q → Place y s z
  a_return : Kind Return s → Found y → Place y s z

-- more states in front
found_more : (p : Trace) {y : Trace} → Found y → Found (p ++ y)
found_more p f = record {
  before = p ++ f.before;
  inner = f.inner;
  call = f.call;
  begin = f.begin;
  end = f.end;
  joined = ap (λ l. p ++ l) f.joined ∙ sym (append_assoc p f.before (f.call ∷ f.begin ∷ (f.inner ++ f.end ∷ [])));
  is_call = f.is_call;
  is_begin_lem = f.is_begin_lem;
  is_end = f.is_end;
  within = f.within;
}

place_more : (p : Trace) {y z : Trace} {s : State} → Place y s z → Place (p ++ y) s z
place_more p (other e r) = other e r
place_more p (an_end i q l e k) = an_end i q l e k
place_more p (a_return k f) = a_return k (found_more p f)

-- s stands in g, or behind it
abbrev In : Trace → Trace → Trace → State → Trace → Type 0
In g t y s z = Place y s z ⊎ ((l : Trace) × (y ≡ g ++ l) × (t ≡ l ++ s ∷ z))

in_more : (p g : Trace) {t y z : Trace} {s : State} → In g t y s z → In (p ++ g) t (p ++ y) s z
in_more p g (inl a) = inl (place_more p a)
in_more p g (inr a) = inr (a.0, ap (λ l. p ++ l) a.1 ∙ sym (append_assoc p g a.0), a.2)

front : (k : EventKind) (s a : State) → s ≡ a → same_kind End k ≡ false → same_kind Return k ≡ false → Kind k s → {y z : Trace} → Place y a z
front k s a p e r h = let i : Kind k a = subst (Kind k) p h in other (others k End a i ∙ e) (others k Return a i ∙ r)

-- at a routine's end, at its return, or behind it
at_close : (c b e r : State) (x v t l : Trace) (s : State) (z : Trace) → Kind Call c → Kind Begin b → Kind End e → Kind Return r → Whole x → ((m : Trace) → v ++ t ≡ m ++ s ∷ z → In v t m s z) → e ∷ r ∷ (v ++ t) ≡ l ++ s ∷ z → In (c ∷ b ∷ (x ++ e ∷ r ∷ v)) t (c ∷ b ∷ (x ++ l)) s z
at_close c b e r x v t [] s z kc kb ke kr w behind p =
    let same : e ≡ s = cc in
    inl (an_end (subst (Kind End) same ke) r (v ++ t) (cc) kr)
at_close c b e r x v t (e' ∷ []) s z kc kb ke kr w behind p =
    let same : r ≡ s = cc in
    let here : c ∷ b ∷ (x ++ e' ∷ []) ≡ c ∷ b ∷ (x ++ e ∷ []) = cc in
    inl (a_return (subst (Kind Return) same kr) (record { before = []; inner = x; call = c; begin = b; end = e; joined = here; is_call = kc; is_begin_lem = kb; is_end = ke; within = w }))
at_close c b e r x v t (e' ∷ r' ∷ l) s z kc kb ke kr w behind p =
    let one : e ≡ e' = cc in
    let two : r ≡ r' = cc in
    let front : Trace = c ∷ b ∷ (x ++ e ∷ r ∷ []) in
    let more : In (front ++ v) t (front ++ l) s z = in_more front v (behind l (cc)) in
    let whole_is : front ++ v ≡ c ∷ b ∷ (x ++ e ∷ r ∷ v) = ap (λ m. c ∷ b ∷ m) (append_assoc x (e ∷ r ∷ []) v) in
    let place_is : front ++ l ≡ c ∷ b ∷ (x ++ e' ∷ r' ∷ l) = ap (λ m. c ∷ b ∷ m) (append_assoc x (e ∷ r ∷ []) l) ∙ ap₂ (λ m n. c ∷ b ∷ (x ++ m ∷ n ∷ l)) one two in
    subst (λ m. In m t (c ∷ b ∷ (x ++ e' ∷ r' ∷ l)) s z) whole_is (subst (λ m. In (front ++ v) t m s z) place_is more)

place_in : {g : Trace} → Whole g → (t y : Trace) (s : State) (z : Trace) → g ++ t ≡ y ++ s ∷ z → In g t y s z
place_in empty t y s z p = inr (y, refl, p)
place_in (step {s = a} k w) t [] s z p = inl (front Step a s (cc) refl refl k)
place_in (step {s = a} {w = g} k w) t (b ∷ y) s z p =
    let same : a ≡ b = cc in
    subst (λ m. In (a ∷ g) t (m ∷ y) s z) same (in_more (a ∷ []) g (place_in w t y s z (cc)))
place_in (routine c b e r kc kb ke kr wx wy) t [] s z p = inl (front Call c s (cc) refl refl kc)
place_in (routine c b e r kc kb ke kr wx wy) t (c' ∷ []) s z p = inl (front Begin b s (cc) refl refl kb)
place_in (routine c b e r {x = x} {y = v} kc kb ke kr wx wy) t (c' ∷ b' ∷ y) s z p =
    let tail : x ++ (e ∷ r ∷ (v ++ t)) ≡ y ++ s ∷ z = sym (append_assoc x (e ∷ r ∷ v) t) ∙ (cc) in
    at (place_in wx (e ∷ r ∷ (v ++ t)) y s z tail) (λ m. place_in wy t m s z)
  where
    at : In x (e ∷ r ∷ (v ++ t)) y s z → ((m : Trace) → v ++ t ≡ m ++ s ∷ z → In v t m s z) → In (c ∷ b ∷ (x ++ e ∷ r ∷ v)) t (c' ∷ b' ∷ y) s z
    at (inl a) behind = inl (place_more (c' ∷ b' ∷ []) a)
    at (inr a) behind =
        let place_is : c ∷ b ∷ (x ++ a.0) ≡ c' ∷ b' ∷ y = cc in
        subst (λ m. In (c ∷ b ∷ (x ++ e ∷ r ∷ v)) t m s z) place_is (at_close c b e r x v t a.0 s z kc kb ke kr wx behind a.2)

pub no_more : (l : Trace) (s : State) (z : Trace) → [] ≡ l ++ s ∷ z → ⊥
no_more [] s z p = let n : ◌≡◌ {A = ℕ} 0 1 = cc in omega arith
no_more (a ∷ l) s z p = let n : ◌≡◌ {A = ℕ} 0 1 = cc in omega arith

-- every place of a whole trace
pub place : (g y : Trace) (s : State) (z : Trace) → Whole g → g ≡ y ++ s ∷ z → Place y s z
place g y s z w p = at (place_in w [] y s z (append-nil g ∙ p))
  where
    at : In g [] y s z → Place y s z
    at (inl a) = a
    at (inr a) = absurd (no_more a.0 s z a.2)
