-- The depth of a reel is the most routines open together, and a reel stays one where more may be open.
use Rattle.std.proofs.Common.{◌≡◌, ℕ, suc, ◌+◌, ◌-◌, ◌≤◌, List, [], ◌∷◌, ◌++◌, sym, subst, append_assoc, append-nil, arith}
use Rattle.reels.specs.Reels.{event, Reel, nothing, a_step, a_routine, Begins, most, DepthIsMost}
use Rattle.reels.specs.declared.Event.{Event}
use Rattle.reels.specs.declared.EventKind.TheVariants.{Call, Begin, End, Return}

-- as many are open together as are open at first
most_first : (o : ℕ) (es : List Event) → o ≤ most o es
most_first o [] = omega arith
most_first o (e ∷ es) = omega arith

-- a reel and more events: what is open together stays within d
most_reel : {r : ℕ} {es : List Event} → Reel r es → (d o : ℕ) → r + o ≤ d → (gs : List Event) → most o gs ≤ d → most o (es ++ gs) ≤ d
most_reel nothing d o h gs m = m
most_reel (a_step r) d o h gs m = let i = most_reel r d o h gs m in omega arith
most_reel (a_routine {n = n} {es = es} {fs = fs} one r q) d o h gs m =
    let ends : List Event = event End n ∷ event Return n ∷ fs in
    let after = most_reel q d o h gs m in
    let inner : most (suc o) (es ++ (ends ++ gs)) ≤ d = most_reel r d (suc o) (omega arith) (ends ++ gs) (omega arith) in
    let whole : most (suc o) ((es ++ ends) ++ gs) ≤ d = subst (λ l. most (suc o) l ≤ d) (sym (append_assoc es ends gs)) inner in
    omega arith

-- and the other way round
reel_most : {r : ℕ} {es : List Event} → Reel r es → (d o : ℕ) (gs : List Event) → most o (es ++ gs) ≤ d → Reel (d - o) es × (most o gs ≤ d)
reel_most nothing d o gs m = (nothing, m)
reel_most (a_step {es = es} r) d o gs m = let i = reel_most r d o gs (omega arith) in (a_step i.0, i.1)
reel_most (a_routine {n = n} {es = es} {fs = fs} one r q) d o gs m =
    let ends : List Event = event End n ∷ event Return n ∷ fs in
    let whole : most (suc o) ((es ++ ends) ++ gs) ≤ d = omega arith in
    let first = most_first (suc o) ((es ++ ends) ++ gs) in
    let inner = reel_most r d (suc o) (ends ++ gs) (subst (λ l. most (suc o) l ≤ d) (append_assoc es ends gs) whole) in
    let rest = inner.1 in
    let after = reel_most q d o gs (omega arith) in
    let level : d - o ≡ suc (d - suc o) = omega arith in
    (subst (λ k. Reel k (event Call n ∷ event Begin n ∷ (es ++ ends))) (sym level) (a_routine one inner.0 (subst (λ k. Reel k fs) level after.0)), after.1)

pub depth_is_most : DepthIsMost
depth_is_most d k es r = (
  (λ q. subst (λ l. most 0 l ≤ d) (append-nil es) (most_reel q d 0 (omega arith) [] (omega arith))),
  (λ m. let all : d - 0 ≡ d = omega arith in subst (λ j. Reel j es) all (reel_most r d 0 [] (subst (λ l. most 0 l ≤ d) (sym (append-nil es)) m)).0),
)

pub reel_deeper : {d k : ℕ} {es : List Event} → d ≤ k → Reel d es → Reel k es
reel_deeper {d} {k} {es} h r =
    let m = (depth_is_most d d es r).0 r in
    (depth_is_most k d es r).1 (omega arith)

pub begins_deeper : {d k : ℕ} (es : List Event) → d ≤ k → Begins d es → Begins k es
begins_deeper es h b = (b.0, reel_deeper h b.1)
