-- In two runs whose readings are carried from one kind into another, every answer is the same.
use Rattle.std.proofs.Common.{◌≡◌, ℕ, suc, List, [], ◌∷◌, ◌++◌, map, length, Some, None, Ok, Err, Option, sym, refl, ap, ◌∙◌, subst, ap₂, append-nil}
use Rattle.std.proofs.lemmas.Option.{none-some}
use mathlib.Core.List.{map-append}
use lib.ListN.{length-map}
use Rattle.std.specs.Result.{result_err}
use Rattle.grammar.specs.Grammar.{Tree}
use Rattle.kinds.specs.Algebra.{Algebra, Laws}
use Rattle.maps.specs.Carries.{Carries}
use Rattle.reels.specs.Nesting.{Fault, start, follow, judged}
use Rattle.reels.specs.declared.Event.{Event}
use Rattle.history.specs.Moments.{Moment, events}
use Rattle.history.specs.Theorems.{Kept, carried}
use Rattle.history.specs.Value.{value}
use Rattle.history.proofs.Carrying.{function_kept, value_carried}
use Rattle.evaluation.proofs.Growing.{map_same}
use Rattle.reader.specs.Rules.{TreeOf}
use Rattle.program.specs.Programs.{predicates}
use Rattle.program.specs.declared.program.Program.{Program}
use Rattle.watching.specs.Memory.{Own}
use Rattle.watching.specs.Refusals.{refusal_by}
use Rattle.watching.specs.declared.LentList.{LentList}
use Rattle.watching.specs.declared.Nesting.{Nesting}
use Rattle.watching.specs.declared.WatchFault.{WatchFault}
use Rattle.watching.specs.declared.WatchFault.TheVariants.{ListTooShort}
use Rattle.runs.specs.Runs.{Answer, Exchange, if_accepted, moment, accepted, Run, made, given}
use Rattle.runs.specs.Promise.{Answered}
use Rattle.runs.specs.Twins.{SameAnswer, Alike, AllAlike, AllSame, CarriesOver}
use Rattle.runs.proofs.Keeping.{map_map}
use Rattle.runs.proofs.Looking.{accepted_push, looks_back}

pub error_of : {K : Type 0} (a : Answer K) (f : WatchFault) → result_err a ≡ Some f → a ≡ Err f
error_of (Ok v) f q = absurd (none-some _ q)
error_of (Err g) f q = cc

-- with memory enough no list was too short
none_short : {K : Type 0} (a : Answer K) (short : Option LentList) (i : ℕ) (x : Option Fault) (wanted r count : ℕ) → result_err a ≡ refusal_by short i x wanted r count → ((l : LentList) → a ≡ Err (ListTooShort l) → ⊥) → result_err a ≡ refusal_by None i x wanted r count
none_short a None i x wanted r count q e = q
none_short a (Some l) i x wanted r count q e = absurd (e l (error_of a (ListTooShort l) q))

events_carried : {V W : Type 0} (f : V → W) (h : List (Moment V)) → events (carried f h) ≡ events h
unfolding events
events_carried f [] = refl
events_carried f (m ∷ h) = ap {B = List Event} (λ es. m.event ∷ es) (events_carried f h)

module _ (A B : Algebra) {K L : Type 0} (p : K → A.Val) (q : L → B.Val) (c : K → L) (s : Carries A B p q c) where
  abbrev f : A.Val → B.Val
  f = s.map

  kept : Kept A B (λ x y. f x ≡ y)
  kept = function_kept A B f s.keeps.true s.keeps.false s.keeps.not s.keeps.and s.keeps.or

  -- an event given to both, with its readings
  module _ (e e' : Event) (r : List K) (r' : List L) (same : e' ≡ e) (reads : map q r' ≡ map (λ v. q (c v)) r) where
    carried_moment : Path (Moment B.Val) (record { event = e; reading = map f (map p r) }) (moment B q e' r')
    carried_moment = ap₂ {C = Moment B.Val} (λ x y. record { event = x; reading = y }) (sym same) (map_map f p r ∙ (map_same _ _ (λ v. sym (s.follows v)) r ∙ sym reads))

    same_length : length r' ≡ length r
    same_length = sym (length-map r' q) ∙ (ap length reads ∙ length-map r (λ v. q (c v)))

    module _ (h : List (Moment A.Val)) (k : List (Moment B.Val)) (past : carried f h ≡ k) where
      same_count : length k ≡ length h
      same_count = sym (ap length past) ∙ length-map h _

      same_events : events k ≡ events h
      same_events = sym (ap events past) ∙ events_carried f h

      carried_more : carried f (h ++ moment A p e r ∷ []) ≡ k ++ moment B q e' r' ∷ []
      carried_more = map-append _ h (moment A p e r ∷ []) ∙ ap₂ (λ l m. l ++ m ∷ []) past carried_moment

      carried_next : (a : Answer K) (b : Answer L) → SameAnswer B q c a b → carried f (h ++ if_accepted a (moment A p e r)) ≡ k ++ if_accepted b (moment B q e' r')
      carried_next (Ok v) (Ok u) z = carried_more
      carried_next (Ok v) (Err g) z = absurd z
      carried_next (Err i) (Ok u) z = absurd z
      carried_next (Err i) (Err g) z = ap (carried f) (append-nil h) ∙ (past ∙ sym (append-nil k))

      module _ (t : Tree) (d : ℕ) (short short' : Option LentList) where
        same_error : (a : Answer K) (b : Answer L) → Answered A p t d h short e r a → Answered B q t d k short' e' r' b → ((l : LentList) → a ≡ Err (ListTooShort l) → ⊥) → ((l : LentList) → b ≡ Err (ListTooShort l) → ⊥) → result_err b ≡ result_err a
        same_error a b y z enough enough' =
            let left = none_short a short _ _ (predicates t) (length r) (length h) y.fault enough in
            let right = none_short b short' _ _ (predicates t) (length r') (length k) z.fault enough' in
            right ∙ (ap₂ (λ i j. refusal_by None (suc i) (judged d (follow start (events k)) e') (predicates t) j i) same_count same_length ∙ (ap₂ (λ es x. refusal_by None (suc (length h)) (judged d (follow start es) x) (predicates t) (length r) (length h)) same_events same ∙ sym left))

        same_answer : (a : Answer K) (b : Answer L) → Answered A p t d h short e r a → Answered B q t d k short' e' r' b → result_err b ≡ result_err a → SameAnswer B q c a b
        same_answer (Ok v) (Ok u) y z x =
            let left = y.verdict v refl in
            let right = z.verdict u refl in
            let i = suc (length h) in
            let back : f (value A t (h ++ moment A p e r ∷ []) i) ≡ value B t (k ++ moment B q e' r' ∷ []) i = value_carried A B f kept t (h ++ moment A p e r ∷ []) i ∙ ap (λ l. value B t l i) carried_more in
            (right.0 ∙ (ap suc same_count ∙ sym left.0), right.1 ∙ (ap (λ n. value B t (k ++ moment B q e' r' ∷ []) (suc n)) same_count ∙ (sym back ∙ (ap f (sym left.1) ∙ sym (s.follows v.value)))))
        same_answer (Ok v) (Err g) y z x = none-some _ (sym x)
        same_answer (Err i) (Ok u) y z x = none-some _ x
        same_answer (Err i) (Err g) y z x = cc

  alike_none : (ys : List (Exchange L)) (y : Exchange L) → AllAlike B q c [] (ys ++ y ∷ []) → ⊥
  alike_none [] y a = a
  alike_none (z ∷ ys) y a = a

  none_alike : (xs : List (Exchange K)) (x : Exchange K) → AllAlike B q c (xs ++ x ∷ []) [] → ⊥
  none_alike [] x a = a
  none_alike (z ∷ xs) x a = a

  alike_last : (xs : List (Exchange K)) (ys : List (Exchange L)) (x : Exchange K) (y : Exchange L) → AllAlike B q c (xs ++ x ∷ []) (ys ++ y ∷ []) → AllAlike B q c xs ys × Alike B q c x y
  alike_last [] [] x y a = (tt, a.0)
  alike_last [] (v ∷ ys) x y a = absurd (alike_none ys y a.1)
  alike_last (u ∷ xs) [] x y a = absurd (none_alike xs x a.1)
  alike_last (u ∷ xs) (v ∷ ys) x y a = let z = alike_last xs ys x y a.1 in ((a.0, z.0), z.1)

  same_last : (xs : List (Exchange K)) (ys : List (Exchange L)) (x : Exchange K) (y : Exchange L) → AllSame B q c xs ys → SameAnswer B q c x.answer y.answer → AllSame B q c (xs ++ x ∷ []) (ys ++ y ∷ [])
  same_last [] [] x y a z = (z, tt)
  same_last [] (v ∷ ys) x y a z = absurd a
  same_last (u ∷ xs) [] x y a z = absurd a
  same_last (u ∷ xs) (v ∷ ys) x y a z = (a.0, same_last xs ys x y a.1 z)

  module _ (laws : Laws A) (twin_laws : Laws B) (program twin : Program) (t : Tree) (tree : TreeOf program.rule t) (twin_tree : TreeOf twin.rule t) (d : ℕ) where
    -- the accepted moments are carried too
    pub record Twins (xs : List (Exchange K)) (ys : List (Exchange L)) : Type 0 where
      pub answers : AllSame B q c xs ys
      pub moments : carried f (accepted A p xs) ≡ accepted B q ys

    pub twins : {n m : Nesting} {o : Own K} {u : Own L} {xs : List (Exchange K)} {ys : List (Exchange L)} → Run A p program d xs n o → Run B q twin d ys m u → AllAlike B q c xs ys → Twins xs ys
    unfolding accepted
    twins (made o w w' g) (made u v v' k) a = record { answers = tt; moments = refl }
    twins (made o w w' g) (given {xs = ys} y v v' run k) a = absurd (alike_none ys y a)
    twins (given {xs = xs} x w w' run g) (made u v v' k) a = absurd (none_alike xs x a)
    twins (given {xs = xs} {n = n} {n' = n'} {o = o} {o' = o'} x w w' run g) (given {xs = ys} {n = m} {n' = m'} {o = u} {o' = u'} y v v' ran k) a =
        let split = alike_last xs ys x y a in
        let last = split.1 in
        let past = twins run ran split.0 in
        let left = looks_back A laws p program t tree d n n' o o' w w' x.event x.reading x.answer g xs run in
        let right = looks_back B twin_laws q twin t twin_tree d m m' u u' v v' y.event y.reading y.answer k ys ran in
        let e = same_error x.event y.event x.reading y.reading last.given.event last.given.reading (accepted A p xs) (accepted B q ys) past.moments t d _ _ x.answer y.answer left right last.enough last.enough_carried in
        let z = same_answer x.event y.event x.reading y.reading last.given.event last.given.reading (accepted A p xs) (accepted B q ys) past.moments t d _ _ x.answer y.answer left right e in
        record {
          answers = same_last xs ys x y past.answers z;
          moments = ap (carried f) (accepted_push A p xs x) ∙ (carried_next x.event y.event x.reading y.reading last.given.event last.given.reading (accepted A p xs) (accepted B q ys) past.moments x.answer y.answer z ∙ sym (accepted_push B q ys y));
        }

pub carries_over : (A B : Algebra) → Laws A → Laws B → {K L : Type 0} (p : K → A.Val) (q : L → B.Val) → CarriesOver A B p q
carries_over A B laws twin_laws p q c s program twin same t tree d n m o u xs ys run ran a = (twins A B p q c s laws twin_laws program twin t tree (subst (λ r. TreeOf r t) (sym same) tree) d run ran a).answers
