-- How the events of a well-nested reel follow one another, whatever their numbers.
--   Phase            after a call its begin is due, after an end its return
--   Run k ph es      the events es can follow where k routines are open, in the phase ph
use Rattle.std.proofs.Common.{◌≡◌, ℕ, suc, List, [], ◌∷◌, ◌++◌, sym, refl, subst, append_assoc, append-nil}
use Rattle.reels.specs.declared.Event.{Event}
use Rattle.reels.specs.declared.EventKind.TheVariants.{Step, Call, Begin, End, Return}
use Rattle.reels.specs.Reels.{Reel, nothing, a_step, a_routine, event, Begins}

pub data Phase : Type 0 where
  calm called ended : Phase

pub data Run : ℕ → Phase → List Event → Type 0 where
  done : {k : ℕ} {ph : Phase} → Run k ph []
  on_step : {k : ℕ} {e : Event} {es : List Event} → e.kind ≡ Step → Run k calm es → Run k calm (e ∷ es)
  on_call : {k : ℕ} {e : Event} {es : List Event} → e.kind ≡ Call → Run k called es → Run k calm (e ∷ es)
  on_begin : {k : ℕ} {e : Event} {es : List Event} → e.kind ≡ Begin → Run (suc k) calm es → Run k called (e ∷ es)
  on_end : {k : ℕ} {e : Event} {es : List Event} → e.kind ≡ End → Run k ended es → Run (suc k) calm (e ∷ es)
  on_return : {k : ℕ} {e : Event} {es : List Event} → e.kind ≡ Return → Run k calm es → Run k ended (e ∷ es)

-- a reel can stand in front of whatever can follow
reel_runs : {d : ℕ} {es : List Event} → Reel d es → (k : ℕ) (fs : List Event) → Run k calm fs → Run k calm (es ++ fs)
reel_runs nothing k fs r = r
reel_runs (a_step q) k fs r = on_step refl (reel_runs q k fs r)
reel_runs (a_routine {n = n} {es = inner} {fs = rest} l q p) k fs r =
    let tail : List Event = event End n ∷ event Return n ∷ rest in
    on_call refl (on_begin refl (subst (Run (suc k) calm) (sym (append_assoc inner tail fs)) (reel_runs q (suc k) (tail ++ fs) (on_end refl (on_return refl (reel_runs p k fs r))))))

run_front : (es fs : List Event) {k : ℕ} {ph : Phase} → Run k ph (es ++ fs) → Run k ph es
run_front [] fs r = done
run_front (e ∷ es) fs (on_step q r) = on_step q (run_front es fs r)
run_front (e ∷ es) fs (on_call q r) = on_call q (run_front es fs r)
run_front (e ∷ es) fs (on_begin q r) = on_begin q (run_front es fs r)
run_front (e ∷ es) fs (on_end q r) = on_end q (run_front es fs r)
run_front (e ∷ es) fs (on_return q r) = on_return q (run_front es fs r)

pub begins_runs : (d : ℕ) (es : List Event) → Begins d es → Run 0 calm es
begins_runs d es b = run_front es b.0 (subst (Run 0 calm) (append-nil (es ++ b.0)) (reel_runs b.1 0 [] done))
