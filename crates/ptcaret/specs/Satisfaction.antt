-- When a trace satisfies a rule, read as a formula of the past-time logic of calls and returns (PTCARET).
--   Formula                what a formula means: which traces satisfy it
--   truth, atom, not, and  the logic's own operators: true, what the last state shows, not, and
--   previously Back f      f is satisfied by the trace cut back, where Back w v says that w cut back is v: the prefix of w for the plain
--                          operator, its abstract prefix for the abstract one
--   Since Back f g         f since g in the same two forms
--   falsehood, or, implies, once, always  the operators that the logic derives from these
--   rise, fall             not of the logic: f from now on, f until now
--   meaning o              what the operator of a word means
--   Sat t w                the trace w satisfies the rule with the tree t
use Rattle.std.specs.Prelude.{ℕ, true, false, [], ◌∷◌, ◌++◌, ◌≡◌, get_or}
use Rattle.words.specs.declared.Operator.{Operator}
use Rattle.words.specs.declared.Operator.TheVariants.{And, Or, Implies, Since as SinceWord, Rsince, Not, Before, Rbefore, Once, Ronce, Always, Ralways, Rise, Fall, True, False, Step, Call, Begin, End, Return, Predicate, Routine}
use Rattle.grammar.specs.Grammar.{Tree, leaf, one, two}
use Rattle.reels.specs.declared.EventKind.{EventKind}
use Rattle.ptcaret.specs.Traces.{State, Trace, Kind, Last, Prefix, AbstractPrefix}

abbrev pub Formula : Type 1
Formula = Trace → Type 0

abbrev pub truth : Formula
truth w = Unit {0}

abbrev pub atom : (State → Type 0) → Formula
atom P w = (v : Trace) × (s : State) × Last w v s × P s

abbrev pub not : Formula → Formula
not f w = f w → ⊥

abbrev pub and : Formula → Formula → Formula
and f g w = f w × g w

-- Here the rule language departs from the logic: cut back, the trace may not be empty, so this is false on a trace of one state, whatever
-- f is; in the logic `not f` can hold of the empty trace.
abbrev pub previously : (Trace → Trace → Type 0) → Formula → Formula
previously Back f w = (v : Trace) × (s : State) × Back w (v ++ s ∷ []) × f (v ++ s ∷ [])

-- the trace is not empty, and it satisfies g, or it satisfies f and, cut back, f since g
pub data Since (Back : Trace → Trace → Type 0) (f g : Formula) : Trace → Type 0 where
  now : {w : Trace} (v : Trace) (s : State) → Last w v s → g w → Since Back f g w
  still : {w : Trace} (v : Trace) → Back w v → f w → Since Back f g v → Since Back f g w

abbrev pub falsehood : Formula
falsehood = not truth

abbrev pub or : Formula → Formula → Formula
or f g = not (and (not f) (not g))

abbrev pub implies : Formula → Formula → Formula
implies f g = not (and f (not g))

abbrev pub once : (Trace → Trace → Type 0) → Formula → Formula
once Back f = Since Back truth f

abbrev pub always : (Trace → Trace → Type 0) → Formula → Formula
always Back f = not (once Back (not f))

-- f now, and not previously; previously f, and not now
abbrev pub rise : Formula → Formula
rise f = and f (not (previously Prefix f))

abbrev pub fall : Formula → Formula
fall f = and (not f) (previously Prefix f)

-- what a word makes of its number, or of its operands
pub data Meaning : Type 1 where
  of_none : (ℕ → Formula) → Meaning
  of_one : (Formula → Formula) → Meaning
  of_two : (Formula → Formula → Formula) → Meaning

abbrev pub meaning : Operator → Meaning
meaning True = of_none (λ n. truth)
meaning False = of_none (λ n. falsehood)
meaning Step = of_none (λ n. atom (Kind EventKind.Step))
meaning Call = of_none (λ n. atom (Kind EventKind.Call))
meaning Begin = of_none (λ n. atom (Kind EventKind.Begin))
meaning End = of_none (λ n. atom (Kind EventKind.End))
meaning Return = of_none (λ n. atom (Kind EventKind.Return))
meaning Predicate = of_none (λ n. atom (λ s. get_or s.reading n false ≡ true))
meaning Routine = of_none (λ n. atom (λ s. s.event.routine ≡ n))
meaning Not = of_one not
meaning Before = of_one (previously Prefix)
meaning Rbefore = of_one (previously AbstractPrefix)
meaning Once = of_one (once Prefix)
meaning Ronce = of_one (once AbstractPrefix)
meaning Always = of_one (always Prefix)
meaning Ralways = of_one (always AbstractPrefix)
meaning Rise = of_one rise
meaning Fall = of_one fall
meaning And = of_two and
meaning Or = of_two or
meaning Implies = of_two implies
meaning SinceWord = of_two (Since Prefix)
meaning Rsince = of_two (Since AbstractPrefix)

-- a word with another number of operands than it takes stands in no rule, and nothing satisfies it
abbrev pub on_none : Meaning → ℕ → Formula
on_none (of_none m) n = m n
on_none (of_one m) n = falsehood
on_none (of_two m) n = falsehood

abbrev pub on_one : Meaning → Formula → Formula
on_one (of_none m) f = falsehood
on_one (of_one m) f = m f
on_one (of_two m) f = falsehood

abbrev pub on_two : Meaning → Formula → Formula → Formula
on_two (of_none m) f g = falsehood
on_two (of_one m) f g = falsehood
on_two (of_two m) f g = m f g

unfoldable pub Sat : Tree → Formula
Sat (leaf w) = on_none (meaning w.operator) w.number
Sat (one w t) = on_one (meaning w.operator) (Sat t)
Sat (two w t u) = on_two (meaning w.operator) (Sat t) (Sat u)
