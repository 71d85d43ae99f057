-- The nest that is kept while events come in has the numbers of the calls that have not returned.
--   Fits d num cs s     of the calls cs, at most d, the nest s has the routine numbers
use Rattle.std.proofs.Common.{◌≡◌, ℕ, zero, suc, ◌<◌, ◌≤◌, true, ltb, List, [], ◌∷◌, map, length, get_or, drop, None, sym, refl, ap, ◌∙◌, subst, ap₂, arith, drop-cons, ltb-true, eqb-true}
use Rattle.reels.proofs.Tests.{passed, passed_both}
use Rattle.std.proofs.lemmas.Option.{none-some}
use lib.ListN.{length-map}
use lib.Seq.{drop-length}
use borrow.Author.Tests.{clash}
use Rattle.reels.specs.declared.Event.{Event}
use Rattle.reels.specs.declared.EventKind.{EventKind}
use Rattle.reels.specs.declared.EventKind.TheVariants.{Step, Call, Begin, End, Return}
use Rattle.reels.specs.Reels.{fit}
use Rattle.reels.specs.Nesting.{Pending, calm, called, ended, Nest, start, unfit, innermost, outer, in_turn, onward, next, Takes, follow}
use Rattle.reels.proofs.Taken.{begins_taken}
use Rattle.history.specs.Moments.{blank, numbered, call_of}
use Rattle.history.specs.Calls.{after, calls, routine_at, with_due, unreturned}
use Rattle.history.specs.Theorems.{Matching, NestMatching}
use Rattle.history.proofs.Views.{return_kind, return_within, return_finds}

pub record Fits (d : ℕ) (num : ℕ → ℕ) (cs : List ℕ) (s : Nest) : Type 0 where
  pub numbers : map num cs ≡ unreturned s
  pub room : length cs ≤ d

map_outer : (num : ℕ → ℕ) (cs : List ℕ) → map num (outer cs) ≡ outer (map num cs)
map_outer num [] = refl
map_outer num (c ∷ cs) = refl

outer_shorter : (cs : List ℕ) → length (outer cs) ≤ length cs
outer_shorter [] = omega arith
outer_shorter (c ∷ cs) = omega arith

-- the end of the innermost routine leaves the others, and its own return is due
on_end : (ns : List ℕ) (m : ℕ) → innermost ns m ≡ true → Path (List ℕ) ns (m ∷ outer ns)
on_end [] m h = absurd (clash h)
on_end (n ∷ ns) m h = ap {B = List ℕ} (λ x. x ∷ ns) (eqb-true n m h)

module _ (d : ℕ) (num : ℕ → ℕ) (i : ℕ) (cs : List ℕ) (m : ℕ) (q : num i ≡ m) (room : length cs ≤ d) where
  turn : (k : EventKind) (pd : Pending) (ns : List ℕ) → in_turn d ns pd k m ≡ None → map num cs ≡ with_due pd ns → Fits d num (after k i cs) (onward (record { opened = ns; pending = pd }) k m)
  turn Step calm ns h e = record { numbers = e; room = room }
  turn Call calm ns h e = record { numbers = ap₂ {C = List ℕ} (λ x xs. x ∷ xs) q e; room = omega (arith, ltb-true _ _ (passed (ltb (length ns) d) _ h), length-map cs num, ap length e) }
  turn Begin calm ns h e = absurd (none-some _ (sym h))
  turn End calm ns h e = record { numbers = e ∙ on_end ns m (passed _ _ h); room = room }
  turn Return calm ns h e = absurd (none-some _ (sym h))
  turn Step (called n) ns h e = absurd (none-some _ (sym h))
  turn Call (called n) ns h e = absurd (none-some _ (sym h))
  turn Begin (called n) ns h e = record { numbers = e ∙ ap {B = List ℕ} (λ x. x ∷ ns) (eqb-true n m (passed _ _ h)); room = room }
  turn End (called n) ns h e = absurd (none-some _ (sym h))
  turn Return (called n) ns h e = absurd (none-some _ (sym h))
  turn Step (ended n) ns h e = absurd (none-some _ (sym h))
  turn Call (ended n) ns h e = absurd (none-some _ (sym h))
  turn Begin (ended n) ns h e = absurd (none-some _ (sym h))
  turn End (ended n) ns h e = absurd (none-some _ (sym h))
  turn Return (ended n) ns h e = record { numbers = map_outer num cs ∙ ap outer e; room = omega (arith, outer_shorter cs) }

-- the return of the routine m is due
due_return : (d : ℕ) (ns : List ℕ) (pd : Pending) (m : ℕ) → in_turn d ns pd Return m ≡ None → Path (List ℕ) (with_due pd ns) (m ∷ ns)
due_return d ns calm m h = absurd (none-some _ (sym h))
due_return d ns (called n) m h = absurd (none-some _ (sym h))
due_return d ns (ended n) m h = ap {B = List ℕ} (λ x. x ∷ ns) (eqb-true n m (passed _ _ h))

-- after n of the events
pub record Nested (d : ℕ) (es : List Event) (n : ℕ) : Type 0 where
  pub nest : Nest
  pub takes : Takes d nest (drop n es)
  pub follows : follow nest (drop n es) ≡ follow start es
  pub fits : Fits d (routine_at es) (calls es n) nest

pub nested : (d : ℕ) (es : List Event) → Takes d start es → (n : ℕ) → n ≤ length es → Nested d es n
unfolding calls numbered
nested d es t zero l = record { nest = start; takes = t; follows = refl; fits = record { numbers = refl; room = omega arith } }
nested d es t (suc n) l =
    let at = nested d es t n (omega arith) in
    let e = get_or es n blank in
    let cut : drop n es ≡ e ∷ drop (suc n) es = drop-cons es n blank l in
    let more : Takes d at.nest (e ∷ drop (suc n) es) = subst (Takes d at.nest) cut at.takes in
    record {
      nest = next at.nest e;
      takes = more.1;
      follows = ap (follow at.nest) (sym cut) ∙ at.follows;
      fits = turn d (routine_at es) (suc n) (calls es n) e.routine refl at.fits.room e.kind at.nest.pending at.nest.opened (passed_both (fit e) _ unfit more.0).1 at.fits.numbers;
    }

-- a return finds a call with its own number
pub matching : Matching
unfolding numbered
matching d es b n q = record { innermost = top; number = cc numbers }
  where
    top : calls es n ≡ call_of es (suc n) ∷ calls es (suc n)
    top = (return_finds d es b n q).matches

    l : n < length es
    l = return_within es n q

    at : Nested d es n
    at = nested d es (begins_taken d es b) n (omega (arith, l))

    more : Takes d at.nest (get_or es n blank ∷ drop (suc n) es)
    more = subst (Takes d at.nest) (drop-cons es n blank l) at.takes

    taken : in_turn d at.nest.opened at.nest.pending Return (routine_at es (suc n)) ≡ None
    taken = subst (λ k. in_turn d at.nest.opened at.nest.pending k (routine_at es (suc n)) ≡ None) (return_kind (get_or es n blank).kind q) (passed_both (fit (get_or es n blank)) _ unfit more.0).1

    numbers : map (routine_at es) (call_of es (suc n) ∷ calls es (suc n)) ≡ routine_at es (suc n) ∷ at.nest.opened
    numbers = ap (map (routine_at es)) (sym top) ∙ (at.fits.numbers ∙ due_return d at.nest.opened at.nest.pending (routine_at es (suc n)) taken)

pub nest_matching : NestMatching
nest_matching d es b =
    let at = nested d es (begins_taken d es b) (length es) (omega arith) in
    let ended : at.nest ≡ follow start es = ap (follow at.nest) (sym (drop-length es)) ∙ at.follows in
    (at.fits.numbers ∙ ap unreturned ended, at.fits.room)
