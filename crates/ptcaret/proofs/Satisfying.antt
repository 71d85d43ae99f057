-- A rule's two-valued value is satisfaction.
--   Fits       a word's meaning in the logic and in values agree
use Prim.Native.Nat.{ℕ, suc}
use mathlib.Core.Bool.{Bool, true, false, cond}
use mathlib.Core.List.{List, [], ◌∷◌}
use mathlib.Core.Path.{◌≡◌, refl, sym, ap, ap₂, subst, ◌∙◌}
use mathlib.Core.Logic.{◌↔◌}
use native.Mathlib.Omega.{arith}
use borrow.Author.Tests.{eq-eqb, eqb-true, clash}
use lib.Dec.{eqb}
use lib.ListN.{length, get_or, take, get_or-map}
use lib.Seq.{take_all}
use Rattle.words.specs.declared.Operator.{Operator}
use Rattle.words.specs.declared.Operator.TheVariants.{And, Or, Implies, Since as SinceWord, Rsince, Not, Before, Rbefore, Once, Ronce, Always, Ralways, Rise, Fall, True, False, Step, Call, Begin, End, Return, Predicate, Routine}
use Rattle.grammar.specs.Grammar.{Tree, leaf, one, two}
use Rattle.kinds.specs.Two.{two as two_valued}
use Rattle.kinds.specs.TwoLaws.{two_laws}
use Rattle.reels.specs.Reels.{Begins}
use Rattle.reels.specs.declared.Event.{Event}
use Rattle.reels.specs.declared.EventKind.{EventKind}
use Rattle.history.specs.Moments.{blank, events, readings, numbered, event_at, reading_at, is, over, prior}
use Rattle.history.specs.Value.{Sense, of_event, of_one as one_value, of_two as two_values, before, sense, on_none as value_none, on_one as value_one, on_two as value_two, value}
use Rattle.history.specs.Theorems.{Plain, Along}
use Rattle.history.proofs.Alike.{prior_le}
use Rattle.history.proofs.Looking.{recurrences}
use Rattle.ptcaret.specs.Traces.{State, Trace, Kind, Prefix, AbstractPrefix, no_return, a_return}
use Rattle.ptcaret.specs.Satisfaction.{Formula, atom, previously, Meaning, of_none, of_one, of_two, meaning, on_none, on_one, on_two, Sat}
use Rattle.ptcaret.specs.Theorems.{ValueIsSatisfaction, AbstractPrefixIsPrior}
use Rattle.ptcaret.proofs.Nested.{no_more}
use Rattle.ptcaret.proofs.Cuts.{state, state_event, first_more, last_same, cut_back, cuts_back}
use Rattle.ptcaret.proofs.Agreeing.{Agrees, agrees_same, truth_agrees, falsehood_agrees, not_agrees, and_agrees, or_agrees, implies_agrees, Steps, one_less, prefix_steps, previously_agrees, since_agrees, once_agrees, always_agrees}

-- what a word makes of its number, and of operands that agree
data Fits (h : Trace) : Meaning → Sense Bool → Type 1 where
  fit_none : {f : ℕ → Formula} {g : ℕ → Event → List Bool → Bool} → ((m : ℕ) → Agrees h (f m) (λ i. g m (event_at (events h) i) (reading_at h i))) → Fits h (of_none f) (of_event g)
  fit_one : {m : Formula → Formula} {g : (ℕ → Bool) → ℕ → Bool} → ((f : Formula) (F : ℕ → Bool) → Agrees h f F → Agrees h (m f) (g F)) → Fits h (of_one m) (one_value g)
  fit_two : {m : Formula → Formula → Formula} {g : (ℕ → Bool) → (ℕ → Bool) → ℕ → Bool} → ((f f' : Formula) (F F' : ℕ → Bool) → Agrees h f F → Agrees h f' F' → Agrees h (m f f') (g F F')) → Fits h (of_two m) (two_values g)

-- no trace is cut back from nothing
no_start : {w v : Trace} → AbstractPrefix w v → w ≡ [] → ⊥
no_start {v = v} (no_return s e o) f = no_more v s [] (sym f ∙ e)
no_start (a_return v u x s c r e ks p a kc kr) f = no_more v s [] (sym f ∙ e)

state_reading : (h : Trace) (n : ℕ) → (state h n).reading ≡ reading_at h (suc n)
unfolding readings numbered
state_reading h n = sym (get_or-map (λ m. m.reading) h n (record { event = blank; reading = [] }))

module _ (h : Trace) where
  atom_agrees : (P : State → Type 0) (b : Event → List Bool → Bool) → ((s : State) → P s ↔ (b s.event s.reading ≡ true)) → Agrees h (atom P) (λ i. b (event_at (events h) i) (reading_at h i))
  atom_agrees P b e = record { at = λ n l. ((λ a. sym (same n) ∙ (e (state h n)).0 (subst P (last_same a.0 (take n h) (sym a.2 ∙ first_more h n l)).1 a.3)), (λ x. (take n h, state h n, first_more h n l, (e (state h n)).1 (same n ∙ x)))) }
    where
      same : (n : ℕ) → b (state h n).event (state h n).reading ≡ b (event_at (events h) (suc n)) (reading_at h (suc n))
      same n = ap₂ b (state_event h n) (state_reading h n)

  kind_fits : (k : EventKind) → Fits h (of_none (λ n. atom (Kind k))) (of_event (λ n e r. cond (is k e) true false))
  kind_fits k = fit_none (λ m. atom_agrees (Kind k) (λ e r. cond (is k e) true false) (λ s. ((λ x. same _ ∙ x), (λ x. sym (same _) ∙ x))))
    where
      same : (b : Bool) → cond b true false ≡ b
      same true = refl
      same false = refl

  predicate_fits : Fits h (of_none (λ n. atom (λ s. get_or s.reading n false ≡ true))) (of_event (λ n e r. get_or r n false))
  predicate_fits = fit_none (λ m. atom_agrees _ (λ e r. get_or r m false) (λ s. ((λ x. x), (λ x. x))))

  routine_fits : Fits h (of_none (λ n. atom (λ s. s.event.routine ≡ n))) (of_event (λ n e r. cond (eqb e.routine n) true false))
  routine_fits = fit_none (λ m. atom_agrees _ (λ e r. cond (eqb e.routine m) true false) (λ s. ((λ x. ap (λ b. cond b true false) (eq-eqb _ _ x)), (λ x. eqb-true _ _ (same _ x)))))
    where
      same : (b : Bool) → cond b true false ≡ true → b ≡ true
      same true x = x
      same false x = x

module _ (h : Trace) (d : ℕ) (b : Begins d (events h)) where
  plain : (n : ℕ) → Plain two_valued n
  plain n = (recurrences two_valued two_laws n).0

  along : (n : ℕ) → Along two_valued (events h) n (prior (events h) (suc n))
  along n = (recurrences two_valued two_laws n).1 d (events h) b

  past : Steps h Prefix one_less
  past = prefix_steps h

  abstract_past : Steps h AbstractPrefix (prior (events h))
  abstract_past = record {
    only = λ n l r e. cut_back h d n b l r e;
    leads = λ n l. cuts_back h d n b l;
    less = λ n. prior_le (events h) n;
    stops = λ r. no_start r refl;
  }

  before_agrees : {f : Formula} {F : ℕ → Bool} → Agrees h f F → Agrees h (previously Prefix f) (before two_valued F)
  unfolding before
  before_agrees a = agrees_same (λ n. refl) (previously_agrees past a)

  word_fits : (o : Operator) → Fits h (meaning o) (sense two_valued (events h) o)
  unfolding over
  word_fits True = fit_none (λ m. truth_agrees)
  word_fits False = fit_none (λ m. falsehood_agrees)
  word_fits Step = kind_fits h EventKind.Step
  word_fits Call = kind_fits h EventKind.Call
  word_fits Begin = kind_fits h EventKind.Begin
  word_fits End = kind_fits h EventKind.End
  word_fits Return = kind_fits h EventKind.Return
  word_fits Predicate = predicate_fits h
  word_fits Routine = routine_fits h
  word_fits Not = fit_one (λ f F a. not_agrees a)
  word_fits Before = fit_one (λ f F a. before_agrees a)
  word_fits Rbefore = fit_one (λ f F a. previously_agrees abstract_past a)
  word_fits Once = fit_one (λ f F a. once_agrees past _ a refl (λ n. (plain n).once F))
  word_fits Ronce = fit_one (λ f F a. once_agrees abstract_past _ a refl (λ n. (along n).ronce F))
  word_fits Always = fit_one (λ f F a. always_agrees past _ a refl (λ n. (plain n).always F))
  word_fits Ralways = fit_one (λ f F a. always_agrees abstract_past _ a refl (λ n. (along n).ralways F))
  word_fits Rise = fit_one (λ f F a. and_agrees a (not_agrees (before_agrees a)))
  word_fits Fall = fit_one (λ f F a. and_agrees (not_agrees a) (before_agrees a))
  word_fits And = fit_two (λ f g F G a c. and_agrees a c)
  word_fits Or = fit_two (λ f g F G a c. or_agrees a c)
  word_fits Implies = fit_two (λ f g F G a c. implies_agrees a c)
  word_fits SinceWord = fit_two (λ f g F G a c. since_agrees past _ a c refl (λ n. (plain n).since F G))
  word_fits Rsince = fit_two (λ f g F G a c. since_agrees abstract_past _ a c refl (λ n. (along n).rsince F G))

  none_fits : {m : Meaning} {s : Sense Bool} → Fits h m s → (k : ℕ) → Agrees h (on_none m k) (λ i. value_none two_valued s k (event_at (events h) i) (reading_at h i))
  none_fits (fit_none e) k = e k
  none_fits (fit_one e) k = falsehood_agrees
  none_fits (fit_two e) k = falsehood_agrees

  one_fits : {m : Meaning} {s : Sense Bool} → Fits h m s → {f : Formula} {F : ℕ → Bool} → Agrees h f F → Agrees h (on_one m f) (value_one two_valued s F)
  one_fits (fit_none e) a = falsehood_agrees
  one_fits (fit_one e) {f} {F} a = e f F a
  one_fits (fit_two e) a = falsehood_agrees

  two_fits : {m : Meaning} {s : Sense Bool} → Fits h m s → {f g : Formula} {F G : ℕ → Bool} → Agrees h f F → Agrees h g G → Agrees h (on_two m f g) (value_two two_valued s F G)
  two_fits (fit_none e) a c = falsehood_agrees
  two_fits (fit_one e) a c = falsehood_agrees
  two_fits (fit_two e) {f} {g} {F} {G} a c = e f g F G a c

  rule_fits : (t : Tree) → Agrees h (Sat t) (value two_valued t h)
  unfolding Sat value
  rule_fits (leaf w) = none_fits (word_fits w.operator) w.number
  rule_fits (one w t) = one_fits (word_fits w.operator) (rule_fits t)
  rule_fits (two w t u) = two_fits (word_fits w.operator) (rule_fits t) (rule_fits u)

-- what a value that is true exactly where P holds says of its opposite
otherwise : {P : Type 0} (v : Bool) → P ↔ (v ≡ true) → (P → ⊥) ↔ (v ≡ false)
otherwise true i = ((λ n. absurd (n (i.1 refl))), (λ e. absurd (clash (sym e))))
otherwise false i = ((λ n. refl), (λ e x. clash (i.0 x)))

pub value_is_satisfaction : ValueIsSatisfaction
value_is_satisfaction t [] d l b = absurd (omega arith)
value_is_satisfaction t (s ∷ h) d l b =
    let v = value two_valued t (s ∷ h) (suc (length h)) in
    let a : Sat t (s ∷ h) ↔ (v ≡ true) = subst (λ w. Sat t w ↔ (v ≡ true)) (take_all (suc (length h)) (s ∷ h) (omega arith)) ((rule_fits (s ∷ h) d b t).at (length h) (omega arith)) in
    (a, otherwise v a)

pub abstract_prefix_is_prior : AbstractPrefixIsPrior
abstract_prefix_is_prior h v d n l b = ((λ r. cut_back h d n b l r refl), (λ e. subst (AbstractPrefix (take (suc n) h)) (sym e) (cuts_back h d n b l)))
