-- Where the next event's routine words look back to.
use Rattle.std.proofs.Common.{◌≡◌, ℕ, suc, Bool, true, false, cond, List, [], ◌∷◌, ◌++◌, length, get_or, sym, refl, ap, ◌∙◌}
use Rattle.std.proofs.lemmas.List.{get_or_push}
use Rattle.reels.specs.declared.Event.{Event}
use Rattle.reels.specs.declared.EventKind.TheVariants.{Call, End, Return}
use Rattle.history.specs.Moments.{blank, numbered, event_at, same_kind, is, call_of, prior}
use Rattle.history.specs.Calls.{calls}
use Rattle.history.proofs.Runs.{Phase, calm, called, ended, Run, on_step, on_call, on_begin, on_end, on_return, begins_runs}
use Rattle.history.proofs.Alike.{calls_alike, alike_append}
use Rattle.history.proofs.Nests.{matching}
use Rattle.evaluation.specs.Cells.{last_is, innermost, back}
use Rattle.evaluation.specs.Theorems.{LooksBack}

abbrev pub is_called : Phase → Bool
is_called calm = false
is_called called = true
is_called ended = false

abbrev pub is_ended : Phase → Bool
is_ended calm = false
is_ended called = false
is_ended ended = true

-- the phase before the events rest, and what it says of the event before them
pub record Before (x : Event) (rest : List Event) : Type 0 where
  pub k : ℕ
  pub ph : Phase
  pub run : Run k ph rest
  pub a_call : is Call x ≡ is_called ph
  pub an_end : is End x ≡ is_ended ph

onward : {k : ℕ} {ph : Phase} (x : Event) (rest : List Event) → Run k ph (x ∷ rest) → Before x rest
onward x rest (on_step q r) = record { k = _; ph = calm; run = r; a_call = ap (same_kind Call) q; an_end = ap (same_kind End) q }
onward x rest (on_call q r) = record { k = _; ph = called; run = r; a_call = ap (same_kind Call) q; an_end = ap (same_kind End) q }
onward x rest (on_begin q r) = record { k = _; ph = calm; run = r; a_call = ap (same_kind Call) q; an_end = ap (same_kind End) q }
onward x rest (on_end q r) = record { k = _; ph = ended; run = r; a_call = ap (same_kind Call) q; an_end = ap (same_kind End) q }
onward x rest (on_return q r) = record { k = _; ph = calm; run = r; a_call = ap (same_kind Call) q; an_end = ap (same_kind End) q }

behind : (x : Event) (es : List Event) (e : Event) {k : ℕ} {ph : Phase} → Run k ph (x ∷ (es ++ e ∷ [])) → Before (get_or (x ∷ es) (length es) blank) (e ∷ [])
behind x [] e r = onward x (e ∷ []) r
behind x (y ∷ es) e r = behind y es e (onward x (y ∷ (es ++ e ∷ [])) r).run

-- the last of the events es, and one after it
pub last_of : (es : List Event) (e : Event) → Run 0 calm (es ++ e ∷ []) → Before (event_at es (length es)) (e ∷ [])
unfolding numbered
last_of [] e r = record { k = 0; ph = calm; run = r; a_call = refl; an_end = refl }
last_of (x ∷ es) e r = behind x es e r

due : {k : ℕ} {ph : Phase} (e : Event) → Run k ph (e ∷ []) → is Return e ≡ is_ended ph
due e (on_step q r) = ap (same_kind Return) q
due e (on_call q r) = ap (same_kind Return) q
due e (on_begin q r) = ap (same_kind Return) q
due e (on_end q r) = ap (same_kind Return) q
due e (on_return q r) = ap (same_kind Return) q

pub next_event : (es : List Event) (e : Event) → event_at (es ++ e ∷ []) (suc (length es)) ≡ e
unfolding numbered
next_event es e = get_or_push es e blank (length es) refl

pub looks_back : LooksBack
unfolding prior
looks_back d es e b = at (is Return (event_at (es ++ e ∷ []) (suc (length es)))) refl
  where
    es' : List Event
    es' = es ++ e ∷ []

    n : ℕ
    n = length es

    before : Before (event_at es n) (e ∷ [])
    before = last_of es e (begins_runs d es' b)

    same : is Return (event_at es' (suc n)) ≡ last_is End es
    same = ap (is Return) (next_event es e) ∙ (due e before.run ∙ sym before.an_end)

    at : (r : Bool) → is Return (event_at es' (suc n)) ≡ r → cond r (call_of es' (suc n)) n ≡ back es
    at true q = sym (ap (λ l. cond l (innermost (calls es n)) n) (sym same ∙ q) ∙ (ap innermost (sym (calls_alike es' es n (alike_append es (e ∷ [])))) ∙ ap innermost (matching d es' b n q).innermost))
    at false q = sym (ap (λ l. cond l (innermost (calls es n)) n) (sym same ∙ q))
