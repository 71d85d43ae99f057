-- A nest takes the events of every reel that is not too deep for it.
use Rattle.std.proofs.Common.{◌≡◌, ℕ, ◌+◌, ◌<◌, ◌≤◌, Bool, true, cond, List, [], ◌∷◌, ◌++◌, length, Some, None, Option, sym, refl, ap, ◌∙◌, subst, append_assoc, append-nil, arith, lt-ltb, eq-eqb, le-leb}
use Rattle.reels.specs.Reels.{event, Reel, nothing, a_step, a_routine, Begins}
use Rattle.reels.specs.Nesting.{calm, called, ended, Nest, start, Fault, unfit, after_call, after_end, not_innermost, too_deep, unless, judged, next, Takes}
use Rattle.reels.specs.declared.Event.{Event}
use Rattle.reels.specs.declared.EventKind.TheVariants.{Call, Begin, End, Return}

-- nothing is due, and the routines ns are open
abbrev pub at : List ℕ → Nest
at ns = record { opened = ns; pending = calm }

-- a test that holds refuses nothing
passes : {b : Bool} (f : Fault) → b ≡ true → unless b f ≡ None
passes f e = ap (λ b. unless b f) e

fair : {b : Bool} {o : Option Fault} → b ≡ true → o ≡ None → cond b o (Some unfit) ≡ None
fair {o = o} e p = ap (λ b. cond b o (Some unfit)) e ∙ p

module _ (d : ℕ) where
  take_call : (ns : List ℕ) (n : ℕ) → 1 ≤ n → length ns < d → judged d (at ns) (event Call n) ≡ None
  take_call ns n one less = fair (le-leb 1 n one) (passes too_deep (lt-ltb (length ns) d less))

  take_begin : (ns : List ℕ) (n : ℕ) → 1 ≤ n → judged d (record { opened = ns; pending = called n }) (event Begin n) ≡ None
  take_begin ns n one = fair (le-leb 1 n one) (passes after_call (eq-eqb n n refl))

  take_end : (ns : List ℕ) (n : ℕ) → 1 ≤ n → judged d (at (n ∷ ns)) (event End n) ≡ None
  take_end ns n one = fair (le-leb 1 n one) (passes not_innermost (eq-eqb n n refl))

  take_return : (ns : List ℕ) (n : ℕ) → 1 ≤ n → judged d (record { opened = ns; pending = ended n }) (event Return n) ≡ None
  take_return ns n one = fair (le-leb 1 n one) (passes after_end (eq-eqb n n refl))

  -- from the nest at ns, the events of a reel and then others
  takes_reel : {r : ℕ} {es : List Event} → Reel r es → (ns : List ℕ) → r + length ns ≤ d → (gs : List Event) → Takes d (at ns) gs → Takes d (at ns) (es ++ gs)
  takes_reel nothing ns h gs t = t
  takes_reel (a_step r) ns h gs t = (refl, takes_reel r ns h gs t)
  takes_reel (a_routine {n = n} {es = es} {fs = fs} one r q) ns h gs t =
      let ends : List Event = event End n ∷ event Return n ∷ fs in
      let after : Takes d (at (n ∷ ns)) (ends ++ gs) = (take_end ns n one, (take_return ns n one, takes_reel q ns h gs t)) in
      let inner = takes_reel r (n ∷ ns) (omega arith) (ends ++ gs) after in
      (take_call ns n one (omega arith), (take_begin ns n one, subst (Takes d (at (n ∷ ns))) (sym (append_assoc es ends gs)) inner))

  takes_front : (s : Nest) (es fs : List Event) → Takes d s (es ++ fs) → Takes d s es
  takes_front s [] fs t = tt
  takes_front s (e ∷ es) fs t = (t.0, takes_front (next s e) es fs t.1)

  pub begins_taken : (es : List Event) → Begins d es → Takes d start es
  begins_taken es b =
      let whole : Takes d start ((es ++ b.0) ++ []) = takes_reel b.1 [] (omega arith) [] tt in
      takes_front start es b.0 (subst (Takes d start) (append-nil (es ++ b.0)) whole)
