-- What erasing leaves of a trace.
--   Keeps n w a       the states a of w stand outside of all the parts from a begin to its end, where n such parts are open before w
--   abstraction_keeps what an abstraction to a call and a return keeps
--   abstracted        the abstraction of a routine's states
use Prim.Native.Nat.{ℕ, zero, suc, ◌+◌, ◌≤◌, ◌<◌}
use mathlib.Core.Bool.{false}
use mathlib.Core.List.{[], ◌∷◌, ◌++◌, append_assoc}
use mathlib.Core.Path.{◌≡◌, refl, sym, ap, subst, ◌∙◌}
use native.Mathlib.Omega.{arith}
use borrow.Author.Tests.{clash}
use lib.ListN.{length}
use Rattle.reels.specs.declared.EventKind.TheVariants.{Step, Call, Begin, End, Return}
use Rattle.history.specs.Moments.{is}
use Rattle.ptcaret.specs.Traces.{State, Trace, Kind, Plain, Erases, erase, Abstraction, done, after}
use Rattle.ptcaret.proofs.Counts.{others, unlike, count, count_in, count_out, count_append}
use Rattle.ptcaret.proofs.Nested.{Whole, empty, step, routine, Place, other, an_end, a_return, place, no_more}

-- neither a begin nor an end
pub record Neither (s : State) : Type 0 where
  pub begin : is Begin s.event ≡ false
  pub end : is End s.event ≡ false

pub data Keeps : ℕ → Trace → Trace → Type 0 where
  over : Keeps 0 [] []
  opens : {n : ℕ} {w a : Trace} (s : State) → Kind Begin s → Keeps (suc n) w a → Keeps n (s ∷ w) a
  closes : {n : ℕ} {w a : Trace} (s : State) → Kind End s → Keeps n w a → Keeps (suc n) (s ∷ w) a
  stays : {w a : Trace} (s : State) → Neither s → Keeps 0 w a → Keeps 0 (s ∷ w) (s ∷ a)
  hidden : {n : ℕ} {w a : Trace} (s : State) → Neither s → Keeps (suc n) w a → Keeps (suc n) (s ∷ w) a

-- a part that is erased can be put back
level_back : {n : ℕ} (x : Trace) {w a : Trace} → Plain x → Keeps (suc n) w a → Keeps (suc n) (x ++ w) a
level_back [] l k = k
level_back (s ∷ x) l k = hidden s (record { begin = l.0; end = l.1 }) (level_back x l.2 k)

put_back : {n : ℕ} (u x v : Trace) (b e : State) {a : Trace} → Kind Begin b → Plain x → Kind End e → Keeps n (u ++ v) a → Keeps n (u ++ b ∷ (x ++ e ∷ v)) a
put_back [] x v b e kb l ke k = opens b kb (level_back x l (closes e ke k))
put_back (s ∷ u) x v b e kb l ke (opens t i k) = opens t i (put_back u x v b e kb l ke k)
put_back (s ∷ u) x v b e kb l ke (closes t i k) = closes t i (put_back u x v b e kb l ke k)
put_back (s ∷ u) x v b e kb l ke (stays t i k) = stays t i (put_back u x v b e kb l ke k)
put_back (s ∷ u) x v b e kb l ke (hidden t i k) = hidden t i (put_back u x v b e kb l ke k)

erases_keeps : {w v a : Trace} → Erases w v → Keeps 0 v a → Keeps 0 w a
erases_keeps (erase u x v b e s kb l ke) k = put_back u x (s ∷ v) b e kb l ke k

abstraction_back : {w a c : Trace} → Abstraction w a → Keeps 0 a c → Keeps 0 w c
abstraction_back (done n) k = k
abstraction_back (after e r) k = erases_keeps e (abstraction_back r k)

plain_call : (s : State) → Kind Call s → Neither s
plain_call s k = record { begin = others Call Begin s k; end = others Call End s k }

plain_return : (s : State) → Kind Return s → Neither s
plain_return s k = record { begin = others Return Begin s k; end = others Return End s k }

pub abstraction_keeps : {x : Trace} (c r : State) → Kind Call c → Kind Return r → Abstraction x (c ∷ r ∷ []) → Keeps 0 x (c ∷ r ∷ [])
abstraction_keeps c r kc kr a = abstraction_back a (stays c (plain_call c kc) (stays r (plain_return r kr) over))

-- as many begins as ends
pub balanced : {n : ℕ} {w a : Trace} → Keeps n w a → n + count Begin w ≡ count End w
unfolding count
balanced over = omega arith
balanced (opens {w = w} s k r) =
    let i = balanced r in
    let p = count_in Begin s w k in
    let q = count_out End s w (others Begin End s k) in
    omega arith
balanced (closes {w = w} s k r) =
    let i = balanced r in
    let p = count_out Begin s w (others End Begin s k) in
    let q = count_in End s w k in
    omega arith
balanced (stays {w = w} s k r) =
    let i = balanced r in
    let p = count_out Begin s w k.begin in
    let q = count_out End s w k.end in
    omega arith
balanced (hidden {w = w} s k r) =
    let i = balanced r in
    let p = count_out Begin s w k.begin in
    let q = count_out End s w k.end in
    omega arith

-- no call state
abbrev pub NoCall : Trace → Type 0
NoCall [] = Unit {0}
NoCall (s ∷ w) = (is Call s.event ≡ false) × NoCall w

-- where no call is kept, each stands in an open part
pub inside : {n : ℕ} {w a : Trace} → Keeps n w a → NoCall a → (p : Trace) (s : State) (q : Trace) → w ≡ p ++ s ∷ q → Kind Call s → count End p < n + count Begin p
unfolding count
inside over o p s q e i = absurd (no_more p s q e)
inside (opens t k r) o [] s q e i =
    let same : t ≡ s = cc in
    absurd (unlike Begin Call s refl (subst (Kind Begin) same k) i)
inside (opens t k r) o (b ∷ p) s q e i =
    let j = inside r o p s q (cc) i in
    let same : t ≡ b = cc in
    let here : Kind Begin b = subst (Kind Begin) same k in
    let x = count_in Begin b p here in
    let y = count_out End b p (others Begin End b here) in
    omega arith
inside (closes t k r) o [] s q e i =
    let same : t ≡ s = cc in
    absurd (unlike End Call s refl (subst (Kind End) same k) i)
inside (closes t k r) o (b ∷ p) s q e i =
    let j = inside r o p s q (cc) i in
    let same : t ≡ b = cc in
    let here : Kind End b = subst (Kind End) same k in
    let x = count_out Begin b p (others End Begin b here) in
    let y = count_in End b p here in
    omega arith
inside (stays t k r) o [] s q e i =
    let same : t ≡ s = cc in
    absurd (clash (sym o.0 ∙ (ap (λ m. is Call m.event) same ∙ i)))
inside (stays t k r) o (b ∷ p) s q e i =
    let j = inside r o.1 p s q (cc) i in
    let same : t ≡ b = cc in
    let here : Neither b = subst Neither same k in
    let x = count_out Begin b p here.begin in
    let y = count_out End b p here.end in
    omega arith
inside (hidden t k r) o [] s q e i = omega arith
inside (hidden t k r) o (b ∷ p) s q e i =
    let j = inside r o p s q (cc) i in
    let same : t ≡ b = cc in
    let here : Neither b = subst Neither same k in
    let x = count_out Begin b p here.begin in
    let y = count_out End b p here.end in
    omega arith

-- what keeps a state is not empty
pub some_left : {n : ℕ} {w : Trace} (s : State) (a : Trace) → Keeps n w (s ∷ a) → 1 ≤ length w
some_left s a (opens {w = w} t k r) = omega arith
some_left s a (closes {w = w} t k r) = omega arith
some_left s a (stays {w = w} t k r) = omega arith
some_left s a (hidden {w = w} t k r) = omega arith

-- an end with another state than a return behind it
record Loose (w : Trace) : Type 0 where
  front : Trace
  end : State
  next : State
  rest : Trace
  joined : w ≡ front ++ end ∷ next ∷ rest
  is_end : Kind End end
  no_return : is Return next.event ≡ false

loose_more : (s : State) {w : Trace} → Loose w → Loose (s ∷ w)
loose_more s l = record { front = s ∷ l.front; end = l.end; next = l.next; rest = l.rest; joined = ap (λ m. s ∷ m) l.joined; is_end = l.is_end; no_return = l.no_return }

-- such an end closes the outermost part before a call that is kept
loose_end : (e : State) → Kind End e → {w : Trace} (c : State) {a : Trace} → Kind Call c → Keeps 0 w (c ∷ a) → Loose (e ∷ w)
loose_end e ke c kc (opens {w = w} s k r) = record { front = []; end = e; next = s; rest = w; joined = refl; is_end = ke; no_return = others Begin Return s k }
loose_end e ke c kc (stays {w = w} s k r) = record { front = []; end = e; next = s; rest = w; joined = refl; is_end = ke; no_return = others Call Return s kc }

loose : (n : ℕ) {w : Trace} (c : State) {a : Trace} → Kind Call c → Keeps (suc n) w (c ∷ a) → Loose w
loose zero c kc (opens s k r) = loose_more s (loose 1 c kc r)
loose zero c kc (closes s k r) = loose_end s k c kc r
loose zero c kc (hidden s k r) = loose_more s (loose 0 c kc r)
loose (suc n) c kc (opens s k r) = loose_more s (loose (suc (suc n)) c kc r)
loose (suc n) c kc (closes s k r) = loose_more s (loose n c kc r)
loose (suc n) c kc (hidden s k r) = loose_more s (loose (suc n) c kc r)

-- a whole trace has none
tight : (g u x more : Trace) → Whole g → g ≡ (u ++ x) ++ more → Loose x → ⊥
tight g u x more w e l = at (place g (u ++ l.front) l.end (l.next ∷ (l.rest ++ more)) w (e ∙ split))
  where
    split : (u ++ x) ++ more ≡ (u ++ l.front) ++ l.end ∷ (l.next ∷ (l.rest ++ more))
    split = ap (λ m. (u ++ m) ++ more) l.joined ∙ simp append_assoc

    at : Place (u ++ l.front) l.end (l.next ∷ (l.rest ++ more)) → ⊥
    at (other i j) = clash (sym i ∙ l.is_end)
    at (an_end i q z p k) =
        let same : l.next ≡ q = cc in
        clash (sym l.no_return ∙ (ap (λ m. is Return m.event) same ∙ k))
    at (a_return k f) = unlike End Return l.end refl l.is_end k

-- the part of a whole trace that keeps a call first begins with it
pub head_call : (g u : Trace) {x : Trace} (more : Trace) (c : State) {a : Trace} → Whole g → g ≡ (u ++ x) ++ more → Kind Call c → Keeps 0 x (c ∷ a) → (k : Trace) × (x ≡ c ∷ k) × Keeps 0 k a
head_call g u more c w e kc (opens {w = x} s k r) = absurd (tight g u (s ∷ x) more w e (loose_more s (loose 0 c kc r)))
head_call g u more c w e kc (stays {w = x} s k r) = (x, refl, r)

-- erasing leaves of a whole trace some states without a begin or end, wherever it stands
pub record Flat (x : Trace) : Type 0 where
  pub left : Trace
  pub level : Plain left
  pub back : (u v : Trace) {a : Trace} → Abstraction (u ++ (left ++ v)) a → Abstraction (u ++ (x ++ v)) a

routine_back : (c b e r : State) {x : Trace} → Kind Begin b → Kind End e → Flat x → (u z : Trace) {a : Trace} → Abstraction (u ++ c ∷ r ∷ z) a → Abstraction (u ++ c ∷ b ∷ (x ++ e ∷ r ∷ z)) a
routine_back c b e r {x = x} kb ke f u z {a} q =
    let start : Abstraction ((u ++ c ∷ []) ++ r ∷ z) a = subst (λ m. Abstraction m a) (sym (append_assoc u (c ∷ []) (r ∷ z))) q in
    let put : Abstraction ((u ++ c ∷ []) ++ b ∷ (f.left ++ e ∷ r ∷ z)) a = after (erase (u ++ c ∷ []) f.left z b e r kb f.level ke) start in
    let grown = f.back (u ++ c ∷ b ∷ []) (e ∷ r ∷ z) {a = a} (subst (λ m. Abstraction m a) (append_assoc u (c ∷ []) (b ∷ (f.left ++ e ∷ r ∷ z)) ∙ sym (append_assoc u (c ∷ b ∷ []) (f.left ++ e ∷ r ∷ z))) put) in
    subst (λ m. Abstraction m a) (append_assoc u (c ∷ b ∷ []) (x ++ e ∷ r ∷ z)) grown

pub flat : {x : Trace} → Whole x → Flat x
flat empty = record { left = []; level = tt; back = λ u v r. r }
flat (step {s = s} {w = w} k r) =
    let f = flat r in
    record {
      left = s ∷ f.left;
      level = (others Step Begin s k, others Step End s k, f.level);
      back = λ u v {a} q. subst (λ m. Abstraction m a) (append_assoc u (s ∷ []) (w ++ v)) (f.back (u ++ s ∷ []) v (subst (λ m. Abstraction m a) (sym (append_assoc u (s ∷ []) (f.left ++ v))) q));
    }
flat (routine c b e r {x = x} {y = y} kc kb ke kr wx wy) =
    let f = flat wx in
    let g = flat wy in
    record {
      left = c ∷ r ∷ g.left;
      level = (others Call Begin c kc, others Call End c kc, (others Return Begin r kr, others Return End r kr, g.level));
      back = λ u v {a} q.
          let rest = g.back (u ++ c ∷ r ∷ []) v {a = a} (subst (λ m. Abstraction m a) (sym (append_assoc u (c ∷ r ∷ []) (g.left ++ v))) q) in
          let all = routine_back c b e r kb ke f u (y ++ v) {a = a} (subst (λ m. Abstraction m a) (append_assoc u (c ∷ r ∷ []) (y ++ v)) rest) in
          subst (λ m. Abstraction (u ++ c ∷ b ∷ m) a) (sym (append_assoc x (e ∷ r ∷ y) v)) all;
    }

-- something to erase has a begin
erases_begin : {w v : Trace} → Erases w v → 1 ≤ count Begin w
erases_begin (erase u x v b e s kb l ke) =
    let p = count_append Begin u (b ∷ (x ++ e ∷ s ∷ v)) in
    let q = count_in Begin b (x ++ e ∷ s ∷ v) kb in
    omega arith

pub abstracted : (c b e r : State) {x : Trace} → Kind Call c → Kind Begin b → Kind End e → Kind Return r → Whole x → Abstraction (c ∷ b ∷ (x ++ e ∷ r ∷ [])) (c ∷ r ∷ [])
unfolding count
abstracted c b e r kc kb ke kr w = routine_back c b e r kb ke (flat w) [] [] (done stop)
  where
    stop : (v : Trace) → Erases (c ∷ r ∷ []) v → ⊥
    stop v i =
        let p = count_out Begin c (r ∷ []) (others Call Begin c kc) in
        let q = count_out Begin r [] (others Return Begin r kr) in
        let n = erases_begin i in
        omega arith
