-- What holds of an event that is not refused, and the answer to it.
use Rattle.std.proofs.Common.{◌≡◌, ℕ, ◌<◌, ◌≤◌, List, [], ◌∷◌, length, get_or, Some, None, Err, Result, sym, refl, ap, ◌∙◌, subst, arith}
use Rattle.kinds.specs.Algebra.{Algebra}
use Rattle.reels.specs.Nesting.{judged}
use Rattle.reels.specs.declared.Event.{Event}
use Rattle.reels.specs.declared.EventKind.{EventKind}
use Rattle.evaluation.specs.declared.Step.{Step}
use Rattle.evaluation.specs.declared.Step.TheVariants.{True, False, Kind, Predicate, Routine, Not, And, Or, Implies, Before, Rbefore, Once, Ronce, Always, Ralways, Since, Rsince, Rise, Fall}
use Rattle.program.specs.Programs.{steps, plain_numbers, routine_numbers, wanted, Fits, Sound}
use Rattle.program.specs.declared.program.Program.{Program}
use Rattle.program.proofs.Facts.{sound, plain_below, routine_below}
use Rattle.watching.specs.Calls.{Given, routine_after, stack_after, opened_after}
use Rattle.watching.specs.Memory.{Own, plain_cells, routine_cells, node_count, short_list}
use Rattle.watching.specs.Refusals.{nest_of, number_of, refusal}
use Rattle.watching.specs.declared.Nesting.{Nesting}
use Rattle.watching.specs.declared.OpenRoutine.{OpenRoutine}
use Rattle.watching.specs.declared.Verdict.{Verdict}
use Rattle.watching.specs.declared.WatchFault.{WatchFault}
use Rattle.monitor.specs.Keeping.{routine_kept, stack_kept, opened_kept}
use Rattle.watching.proofs.Passing.{Passes, passes, Long, long}

-- more cells do no harm
fits_more : (s : Step) (i a b a' b' : ℕ) → a ≤ a' → b ≤ b' → Fits s i a b → Fits s i a' b'
fits_more True i a b a' b' p q h = tt
fits_more False i a b a' b' p q h = tt
fits_more (Kind k) i a b a' b' p q h = tt
fits_more (Predicate n) i a b a' b' p q h = tt
fits_more (Routine n) i a b a' b' p q h = tt
fits_more Not i a b a' b' p q h = h
fits_more (And l) i a b a' b' p q h = h
fits_more (Or l) i a b a' b' p q h = h
fits_more (Implies l) i a b a' b' p q h = h
fits_more (Before c) i a b a' b' p q h = (h.0, omega (arith, h.1))
fits_more (Rbefore c) i a b a' b' p q h = (h.0, omega (arith, h.1))
fits_more (Once c) i a b a' b' p q h = (h.0, omega (arith, h.1))
fits_more (Ronce c) i a b a' b' p q h = (h.0, omega (arith, h.1))
fits_more (Always c) i a b a' b' p q h = (h.0, omega (arith, h.1))
fits_more (Ralways c) i a b a' b' p q h = (h.0, omega (arith, h.1))
fits_more (Since l c) i a b a' b' p q h = (h.0, omega (arith, h.1))
fits_more (Rsince l c) i a b a' b' p q h = (h.0, omega (arith, h.1))
fits_more (Rise c) i a b a' b' p q h = (h.0, omega (arith, h.1))
fits_more (Fall c) i a b a' b' p q h = (h.0, omega (arith, h.1))

sound_more : (i a b a' b' : ℕ) (ss : List Step) → a ≤ a' → b ≤ b' → Sound i a b ss → Sound i a' b' ss
unfolding Sound
sound_more i a b a' b' [] p q h = tt
sound_more i a b a' b' (s ∷ ss) p q h = (fits_more s i a b a' b' p q h.0, sound_more _ a b a' b' ss p q h.1)

-- a program's steps fit lists that are long enough
pub sound_in : (p : Program) (ss : List Step) (a b : ℕ) → ss ≡ steps p → plain_cells p ≤ a → routine_cells p ≤ b → Sound 0 a b ss
sound_in p ss a b e h k = subst (Sound 0 a b) (sym e) (sound_more 0 _ _ a b (steps p) h k (sound p))

-- the cells of a program keep values of its steps
pub plain_in : (p : Program) (ks : List ℕ) (n : ℕ) → ks ≡ plain_numbers p → node_count p ≤ n → (k d : ℕ) → k < length ks → get_or ks k d < n
plain_in p ks n e h k d l = omega (arith, plain_below p k d (subst (λ x. k < length x) e l), ap (λ x. get_or x k d) e)

pub routine_in : (p : Program) (ks : List ℕ) (n : ℕ) → ks ≡ routine_numbers p → node_count p ≤ n → (k d : ℕ) → k < length ks → get_or ks k d < n
routine_in p ks n e h k d l = omega (arith, routine_below p k d (subst (λ x. k < length x) e l), ap (λ x. get_or x k d) e)

module _ {V : Type 0} (p : Program) (n : Nesting) (o : Own V) where
  pub routine_after_lem : (k : EventKind) (ks : List ℕ) (d : V) (vs new : List V) → ks ≡ routine_numbers p → new ≡ routine_kept ks n.depth o.routine o.stack k d vs → new ≡ routine_after p n o k d vs
  routine_after_lem k ks d vs new e q = q ∙ (ap (λ x. routine_kept x n.depth o.routine o.stack k d vs) e ∙ at k)
    where
      at : (k : EventKind) → routine_kept (routine_numbers p) n.depth o.routine o.stack k d vs ≡ routine_after p n o k d vs
      at EventKind.Step = refl
      at EventKind.Call = refl
      at EventKind.Begin = refl
      at EventKind.End = refl
      at EventKind.Return = refl

  pub stack_after_lem : (k : EventKind) (ks : List ℕ) (new : List V) → ks ≡ routine_numbers p → new ≡ stack_kept (length ks) n.depth o.routine o.stack k → new ≡ stack_after p n o k
  stack_after_lem k ks new e q = q ∙ (ap (λ x. stack_kept (length x) n.depth o.routine o.stack k) e ∙ at k)
    where
      at : (k : EventKind) → stack_kept (routine_cells p) n.depth o.routine o.stack k ≡ stack_after p n o k
      at EventKind.Step = refl
      at EventKind.Call = refl
      at EventKind.Begin = refl
      at EventKind.End = refl
      at EventKind.Return = refl

  pub opened_after_lem : (k : EventKind) (r : ℕ) (new : List OpenRoutine) → new ≡ opened_kept n.depth n.accepted o.opened k r → new ≡ opened_after p n o k r
  opened_after_lem k r new q = q ∙ at k
    where
      at : (k : EventKind) → opened_kept n.depth n.accepted o.opened k r ≡ opened_after p n o k r
      at EventKind.Step = refl
      at EventKind.Call = refl
      at EventKind.Begin = refl
      at EventKind.End = refl
      at EventKind.Return = refl

module _ {V : Type 0} (p : Program) (n : Nesting) (o : Own V) (w : ℕ) (e : Event) (r : ℕ) (q : None ≡ refusal p n o w e r) where
  pub free : Passes (short_list p n.limit o w) (judged n.limit (nest_of n o.opened) e) (wanted p) r n.accepted
  free = passes (short_list p n.limit o w) (number_of n) (judged n.limit (nest_of n o.opened) e) (wanted p) r n.accepted (sym q)

  pub lists : Long p n.limit o w
  lists = long p n.limit o w free.short

-- a refusal leaves all as it was
pub refused : (A : Algebra) {K : Type 0} (means : K → A.Val) (p : Program) (n : Nesting) (o : Own K) (w : List K) (e : Event) (r : List K) (a : Result (Verdict K) WatchFault) (f : WatchFault) → a ≡ Err f → Some f ≡ refusal p n o (length w) e (length r) → Given A means p n o w e r a n o w
refused A means p n o w e r a f q fault = rw q (sym fault, refl, refl, refl)
