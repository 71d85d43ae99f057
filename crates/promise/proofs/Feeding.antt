-- What keeps the promise accepts the events with which a reel begins, and so comes to any moments that a proof asks for.
--   Fed h      exchanges came about in which just the moments h were accepted
use Rattle.std.proofs.Common.{◌≡◌, ℕ, suc, ◌+◌, ◌<◌, ◌≤◌, true, List, [], ◌∷◌, ◌++◌, map, length, is_err, Ok, Err, sym, refl, ap, ◌∙◌, subst, append_assoc, append-nil, arith, length-append}
use Rattle.grammar.specs.Grammar.{Tree}
use Rattle.kinds.specs.Two.{two, two_means}
use Rattle.kinds.specs.declared.two.Two.{Two}
use Rattle.reels.specs.Reels.{Reel, Begins}
use Rattle.reels.specs.declared.Event.{Event}
use Rattle.history.specs.Moments.{Moment, events}
use Rattle.history.specs.Value.{value}
use Rattle.evaluation.proofs.Growing.{events_more}
use Rattle.program.specs.Programs.{HasAll}
use Rattle.watching.specs.Faults.{max_events}
use Rattle.watching.specs.declared.Verdict.{Verdict}
use Rattle.runs.specs.Runs.{Answer, Exchange, if_accepted, moment, accepted}
use Rattle.runs.proofs.Looking.{accepted_push}
use Rattle.promise.specs.Watchers.{Answering, put, Exchanged, none, more, past, Gives, Keeps}

abbrev pub asked : Event → List Two → Moment two.Val
asked e r = moment two two_means e r

not_refused : (a : Answer Two) → (is_err a ≡ true → ⊥) → (v : Verdict Two) × (a ≡ Ok v)
not_refused (Ok v) n = (v, refl)
not_refused (Err g) n = absurd (n refl)

begins_front : (d : ℕ) (es fs : List Event) → Begins d (es ++ fs) → Begins d es
begins_front d es fs b = (fs ++ b.0, subst (Reel d) (append_assoc es fs b.0) b.1)

pub past_put : (f : Answering Two) (xs : List (Exchange Two)) (e : Event) (r : List Two) {v : Verdict Two} → f xs e r ≡ Ok v → past (put f xs e r) ≡ past xs ++ asked e r ∷ []
past_put f xs e r q = accepted_push two two_means xs (record { event = e; reading = r; answer = f xs e r }) ∙ ap (λ a. past xs ++ if_accepted a (asked e r)) q

events_asked : (r : List Two) (es : List Event) → events (map (λ e. asked e r) es) ≡ es
unfolding events
events_asked r [] = refl
events_asked r (e ∷ es) = ap (λ l. e ∷ l) (events_asked r es)

module _ (f : Answering Two) where
  pub record Fed (h : List (Moment two.Val)) : Type 0 where
    pub exchanges : List (Exchange Two)
    pub exchanged : Exchanged f exchanges
    pub accepted : past exchanges ≡ h

  unfoldable pub unfed : Fed []
  unfolding accepted
  unfed = record { exchanges = []; exchanged = none; accepted = refl }

  -- the verdict to one event more
  pub record Next {h : List (Moment two.Val)} (F : Fed h) (t : Tree) (e : Event) (r : List Two) : Type 0 where
    pub verdict : Verdict Two
    pub gives : Gives f F.exchanges e r verdict
    pub number : verdict.number ≡ suc (length h)
    pub value : two_means verdict.value ≡ value two t (h ++ asked e r ∷ []) (suc (length h))

  module _ (t : Tree) (d : ℕ) (keeps : Keeps t d f) where
    pub next : {h : List (Moment two.Val)} (F : Fed h) (e : Event) (r : List Two) → HasAll (length r) t → length h < max_events → Begins d (events h ++ e ∷ []) → Next F t e r
    next {h} F e r all room b =
        let k = keeps F.exchanges F.exchanged e r in
        let room' : length (past F.exchanges) < max_events = subst (λ l. length l < max_events) (sym F.accepted) room in
        let v = not_refused (f F.exchanges e r) (λ z. (k.refused refl all room').0 z (subst (λ l. Begins d (events l ++ e ∷ [])) (sym F.accepted) b)) in
        let right = k.verdict v.0 v.1 in
        record {
          verdict = v.0;
          gives = record { exchanged = F.exchanged; verdict = v.1 };
          number = right.0 ∙ ap (λ l. suc (length l)) F.accepted;
          value = right.1 ∙ ap (λ l. value two t (l ++ asked e r ∷ []) (suc (length l))) F.accepted;
        }

  unfoldable pub fed_next : {h : List (Moment two.Val)} (F : Fed h) (t : Tree) (e : Event) (r : List Two) → Next F t e r → Fed (h ++ asked e r ∷ [])
  fed_next F t e r n = record {
    exchanges = put f F.exchanges e r;
    exchanged = more F.exchanged e r;
    accepted = past_put f F.exchanges e r n.gives.verdict ∙ ap (λ l. l ++ asked e r ∷ []) F.accepted;
  }

  -- events in a row with one reading, which has all predicates
  module _ (t : Tree) (d : ℕ) (keeps : Keeps t d f) (r : List Two) (all : HasAll (length r) t) where
    feed : (h : List (Moment two.Val)) → Fed h → (es : List Event) → Begins d (events h ++ es) → length h + length es ≤ max_events → Fed (h ++ map (λ e. asked e r) es)
    feed h F [] b room = subst Fed (sym (append-nil h)) F
    feed h F (e ∷ es) b room =
        let m = asked e r in
        let whole : Begins d ((events h ++ e ∷ []) ++ es) = subst (Begins d) (sym (append_assoc (events h) (e ∷ []) es)) b in
        let n = next t d keeps F e r all (omega arith) (begins_front d (events h ++ e ∷ []) es whole) in
        let grown : Begins d (events (h ++ m ∷ []) ++ es) = subst (λ l. Begins d (l ++ es)) (sym (events_more h m)) whole in
        subst Fed (append_assoc h (m ∷ []) (map (λ e. asked e r) es)) (feed (h ++ m ∷ []) (fed_next F t e r n) es grown (simp length-append (omega arith)))

    -- exchanges in which just the events es were accepted
    pub record Walked (es : List Event) : Type 0 where
      pub moments : List (Moment two.Val)
      pub fed : Fed moments
      pub are : events moments ≡ es

    pub walk : (es : List Event) → Begins d es → length es ≤ max_events → Walked es
    unfolding events
    walk es b room = record { moments = map (λ e. asked e r) es; fed = feed [] unfed es b (omega arith); are = events_asked r es }
