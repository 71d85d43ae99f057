-- The open routines' calls have the numbers of the nest's open routines.
use Rattle.std.proofs.Common.{◌≡◌, ℕ, Bool, true, false, cond, ◌||◌, List, [], ◌∷◌, map, length, get_or, None, sym, refl, ap, ◌∙◌}
use Rattle.reels.proofs.Tests.{passed_both}
use Rattle.std.proofs.lemmas.Option.{none-some}
use lib.ListN.{length-map, length-reverse}
use Rattle.grammar.specs.Grammar.{Tree}
use Rattle.kinds.specs.Algebra.{Algebra}
use Rattle.reels.specs.declared.Event.{Event}
use Rattle.reels.specs.declared.EventKind.{EventKind}
use Rattle.reels.specs.declared.EventKind.TheVariants.{Step, Call, Begin, End, Return}
use Rattle.reels.specs.Reels.{Begins, fit}
use Rattle.reels.specs.Nesting.{Pending, calm, called, ended, Nest, start, unfit, outer, in_turn, onward, next, Takes, follow}
use Rattle.reels.proofs.Taken.{begins_taken}
use Rattle.history.specs.Moments.{Moment, events, blank, numbered, same_kind, is}
use Rattle.history.specs.Calls.{calls, routine_at, with_due}
use Rattle.history.proofs.Nests.{nest_matching}
use Rattle.evaluation.specs.Cells.{last_is, begun, stack}
use Rattle.evaluation.specs.Theorems.{BegunOpened}

abbrev is_due : Pending → Bool
is_due calm = false
is_due (called n) = true
is_due (ended n) = true

-- what is due after an event that is taken: its kind says
due_after_lem : (d : ℕ) (ns : List ℕ) (pd : Pending) (k : EventKind) (m : ℕ) → in_turn d ns pd k m ≡ None → (same_kind Call k || same_kind End k) ≡ is_due (onward (record { opened = ns; pending = pd }) k m).pending
due_after_lem d ns calm Step m q = refl
due_after_lem d ns (called n) Step m q = absurd (none-some _ (sym q))
due_after_lem d ns (ended n) Step m q = absurd (none-some _ (sym q))
due_after_lem d ns pd Call m q = refl
due_after_lem d ns pd Begin m q = refl
due_after_lem d ns pd End m q = refl
due_after_lem d ns pd Return m q = refl

due_last : (d : ℕ) (x : Event) (es : List Event) (s : Nest) → Takes d s (x ∷ es) → (is Call (get_or (x ∷ es) (length es) blank) || is End (get_or (x ∷ es) (length es) blank)) ≡ is_due (follow s (x ∷ es)).pending
due_last d x [] s q = due_after_lem d s.opened s.pending x.kind x.routine (passed_both (fit x) _ unfit q.0).1
due_last d x (y ∷ es) s q = due_last d y es (next s x) q.1

due_now : (d : ℕ) (es : List Event) → Takes d start es → (last_is Call es || last_is End es) ≡ is_due (follow start es).pending
unfolding numbered
due_now d [] q = refl
due_now d (x ∷ es) q = due_last d x es start q

outer_map : (num : ℕ → ℕ) (cs : List ℕ) → map num (outer cs) ≡ outer (map num cs)
outer_map num [] = refl
outer_map num (c ∷ cs) = refl

opened_of : (num : ℕ → ℕ) (cs ns : List ℕ) (pd : Pending) → map num cs ≡ with_due pd ns → map num (cond (is_due pd) (outer cs) cs) ≡ ns
opened_of num cs ns calm q = q
opened_of num cs ns (called n) q = outer_map num cs ∙ ap outer q
opened_of num cs ns (ended n) q = outer_map num cs ∙ ap outer q

pub begun_opened : BegunOpened
begun_opened d es b =
    let cs = calls es (length es) in
    let s = follow start es in
    ap (λ x. map (routine_at es) (cond x (outer cs) cs)) (due_now d es (begins_taken d es b)) ∙ opened_of (routine_at es) cs s.opened s.pending (nest_matching d es b).0

pub stack_height : (A : Algebra) (t : Tree) (d : ℕ) (h : List (Moment A.Val)) → Begins d (events h) → length (stack A t h) ≡ length (follow start (events h)).opened
stack_height A t d h b = length-reverse _ ∙ (length-map (begun (events h)) _ ∙ (sym (length-map (begun (events h)) (routine_at (events h))) ∙ ap length (begun_opened d (events h) b)))
