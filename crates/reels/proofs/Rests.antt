-- What may still follow a nest, and that what a nest takes begins a reel.
--   Rest ns fs        behind a nest where nothing is due and the routines ns are open, the events fs end a reel
--   Completes s fs    behind the nest s, the events fs end a reel
use Rattle.std.proofs.Common.{◌≡◌, ℕ, suc, ◌-◌, ◌<◌, ◌≤◌, true, eqb, ltb, List, [], ◌∷◌, ◌++◌, length, None, sym, refl, ap, ◌∙◌, subst, append_assoc, arith, ltb-true, eqb-true, leb-true}
use Rattle.reels.proofs.Tests.{passed, passed_both}
use Rattle.std.proofs.lemmas.Option.{none-some}
use Rattle.reels.specs.Reels.{fits, event, Reel, nothing, a_step, a_routine, Begins}
use Rattle.reels.specs.Nesting.{Pending, calm, called, ended, Nest, start, unfit, after_call, after_end, not_innermost, too_deep, in_turn, onward, next, Takes, follow}
use Rattle.reels.specs.declared.Event.{Event}
use Rattle.reels.specs.declared.EventKind.{EventKind}
use Rattle.reels.specs.declared.EventKind.TheVariants.{Step, Call, Begin, End, Return}

-- a routine's events around those inside it
abbrev routine : ℕ → List Event → List Event
routine n es = event Call n ∷ event Begin n ∷ (es ++ event End n ∷ event Return n ∷ [])

routine_append : (n : ℕ) (es gs : List Event) → routine n es ++ gs ≡ event Call n ∷ event Begin n ∷ (es ++ event End n ∷ event Return n ∷ gs)
routine_append n es gs = ap (λ l. event Call n ∷ event Begin n ∷ l) (append_assoc es (event End n ∷ event Return n ∷ []) gs)

module _ (d : ℕ) where
  -- how many routines more may be open together
  abbrev left : List ℕ → ℕ
  left ns = d - length ns

  abbrev Rest : List ℕ → List Event → Type 0
  Rest [] fs = Reel (left []) fs
  Rest (n ∷ ns) fs = (es : List Event) × (gs : List Event) × (fs ≡ es ++ event End n ∷ event Return n ∷ gs) × Reel (left (n ∷ ns)) es × Rest ns gs

  abbrev Due : List ℕ → Pending → List Event → Type 0
  Due ns calm fs = Rest ns fs
  Due ns (called n) fs = (gs : List Event) × (fs ≡ event Begin n ∷ gs) × Rest (n ∷ ns) gs
  Due ns (ended n) fs = (gs : List Event) × (fs ≡ event Return n ∷ gs) × Rest ns gs

  abbrev Completes : Nest → List Event → Type 0
  Completes s fs = Due s.opened s.pending fs

  -- what begins every reel of the depth that is left may stand in front
  rest_more : (ns : List ℕ) (es fs : List Event) → ((gs : List Event) → Reel (left ns) gs → Reel (left ns) (es ++ gs)) → Rest ns fs → Rest ns (es ++ fs)
  rest_more [] es fs more r = more fs r
  rest_more (n ∷ ns) es fs more r =
      (es ++ r.0, r.1, ap (λ l. es ++ l) r.2 ∙ sym (append_assoc es r.0 (event End n ∷ event Return n ∷ r.1)), more r.0 r.3, r.4)

  -- a routine in front of a reel
  routine_more : (ns : List ℕ) (n : ℕ) (es : List Event) → 1 ≤ n → length ns < d → Reel (left (n ∷ ns)) es → (gs : List Event) → Reel (left ns) gs → Reel (left ns) (routine n es ++ gs)
  routine_more ns n es one less r gs q =
      let level : left ns ≡ suc (left (n ∷ ns)) = omega arith in
      let whole = subst (Reel (suc (left (n ∷ ns)))) (sym (routine_append n es gs)) (a_routine one r (subst (λ k. Reel k gs) level q)) in
      subst (λ k. Reel k (routine n es ++ gs)) (sym level) whole

  -- one event back
  back_step : (ns : List ℕ) (fs : List Event) → Rest ns fs → Rest ns (event Step 0 ∷ fs)
  back_step ns fs r = rest_more ns (event Step 0 ∷ []) fs (λ gs q. a_step q) r

  back_call : (ns : List ℕ) (fs : List Event) (n : ℕ) → 1 ≤ n → length ns < d → Due ns (called n) fs → Rest ns (event Call n ∷ fs)
  back_call ns fs n one less c =
      let r = c.2 in
      let joined : routine n r.0 ++ r.1 ≡ event Call n ∷ fs = routine_append n r.0 r.1 ∙ ap (λ l. event Call n ∷ event Begin n ∷ l) (sym r.2) ∙ ap (λ l. event Call n ∷ l) (sym c.1) in
      subst (Rest ns) joined (rest_more ns (routine n r.0) r.1 (routine_more ns n r.0 one less r.3) r.4)

  back_end : (ns : List ℕ) (fs : List Event) (n m : ℕ) → n ≡ m → Due ns (ended m) fs → Rest (n ∷ ns) (event End m ∷ fs)
  back_end ns fs n m e c =
      let same : event End m ∷ fs ≡ event End n ∷ event Return n ∷ c.0 = ap (λ l. event End m ∷ l) c.1 ∙ ap (λ k. event End k ∷ event Return k ∷ c.0) (sym e) in
      ([], c.0, same, nothing, c.2)

  back : (ns : List ℕ) (p : Pending) (k : EventKind) (m : ℕ) (fs : List Event) → fits k m ≡ true → in_turn d ns p k m ≡ None → Completes (onward (record { opened = ns; pending = p }) k m) fs → Due ns p (event k m ∷ fs)
  back ns calm Step m fs f e c = subst (λ n. Rest ns (event Step n ∷ fs)) (sym (eqb-true m 0 f)) (back_step ns fs c)
  back ns calm Call m fs f e c = back_call ns fs m (leb-true 1 m f) (ltb-true (length ns) d (passed (ltb (length ns) d) too_deep e)) c
  back ns calm Begin m fs f e c = absurd (none-some _ (sym e))
  back [] calm End m fs f e c = absurd (none-some _ (sym e))
  back (n ∷ ns) calm End m fs f e c = back_end ns fs n m (eqb-true n m (passed (eqb n m) not_innermost e)) c
  back ns calm Return m fs f e c = absurd (none-some _ (sym e))
  back ns (called n) Step m fs f e c = absurd (none-some _ (sym e))
  back ns (called n) Call m fs f e c = absurd (none-some _ (sym e))
  back ns (called n) Begin m fs f e c =
      let q = sym (eqb-true n m (passed (eqb n m) after_call e)) in
      (fs, ap (λ k. event Begin k ∷ fs) q, subst (λ k. Rest (k ∷ ns) fs) q c)
  back ns (called n) End m fs f e c = absurd (none-some _ (sym e))
  back ns (called n) Return m fs f e c = absurd (none-some _ (sym e))
  back ns (ended n) Step m fs f e c = absurd (none-some _ (sym e))
  back ns (ended n) Call m fs f e c = absurd (none-some _ (sym e))
  back ns (ended n) Begin m fs f e c = absurd (none-some _ (sym e))
  back ns (ended n) End m fs f e c = absurd (none-some _ (sym e))
  back ns (ended n) Return m fs f e c = (fs, ap (λ k. event Return k ∷ fs) (sym (eqb-true n m (passed (eqb n m) after_end e))), c)

  -- every nest completes: the open routines end, the innermost first
  closing : (ns : List ℕ) → (fs : List Event) × Rest ns fs
  closing [] = ([], nothing)
  closing (n ∷ ns) =
      let r = closing ns in
      (event End n ∷ event Return n ∷ r.0, ([], r.0, refl, nothing, r.1))

  completes : (ns : List ℕ) (p : Pending) → (fs : List Event) × Due ns p fs
  completes ns calm = closing ns
  completes ns (called n) =
      let r = closing (n ∷ ns) in
      (event Begin n ∷ r.0, (r.0, refl, r.1))
  completes ns (ended n) =
      let r = closing ns in
      (event Return n ∷ r.0, (r.0, refl, r.1))

  taken_completes : (s : Nest) (es fs : List Event) → Takes d s es → Completes (follow s es) fs → Completes s (es ++ fs)
  taken_completes s [] fs t c = c
  taken_completes s (e ∷ es) fs t c =
      let w = passed_both (fits e.kind e.routine) (in_turn d s.opened s.pending e.kind e.routine) unfit t.0 in
      back s.opened s.pending e.kind e.routine (es ++ fs) w.0 w.1 (taken_completes (next s e) es fs t.1 c)

  pub taken_begins : (es : List Event) → Takes d start es → Begins d es
  taken_begins es t =
      let s = follow start es in
      let c = completes s.opened s.pending in
      let all : d - 0 ≡ d = omega arith in
      (c.0, subst (λ k. Reel k (es ++ c.0)) all (taken_completes start es c.0 t c.1))
