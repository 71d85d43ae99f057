-- What each call of a stack answers and leaves.
--   places s               what the lent slice holds, the lowest element first
--   Unchanged s t          the stack t is as s was
--   Pushed s x r t         `push` of x: on top, or handed back when every place is taken
--   Popped s r t           `pop`: the top, or nothing when there is no element
--   PushedAll s xs r t     `push_all` of xs: all of them in order, or none
--   PoppedAll s n out r t  `pop_all` of n elements into out: the topmost n, the lowest of them first, or none
use Rattle.std.specs.Prelude.{◌≡◌, ℕ, ◌+◌, ◌<◌, ◌≤◌, List, length, take, drop, Some, None, Ok, Err, Option, Result, slice_set}
use Rattle.std.proofs.Math.Seq.{paste}
use Rattle.std.specs.List.{slice_get}
use Rattle.stack.specs.declared.Stack.{Stack}
use Rattle.stack.specs.declared.Full.{Full}
use Rattle.stack.specs.declared.Short.{Short}

abbrev pub places : {T : Type 0} → Stack T → List T
places s = s.items.now

pub record Unchanged {T : Type 0} (s t : Stack T) : Type 0 where
  pub kept : places t ≡ places s
  pub len : t.len ≡ s.len

-- x stands in the lowest free place, every other place is as it was
pub record Grown {T : Type 0} (s : Stack T) (x : T) (t : Stack T) : Type 0 where
  pub room : s.len < length (places s)
  pub filled : places t ≡ slice_set (places s) s.len x
  pub len : t.len ≡ s.len + 1

-- x stood in the highest place that was taken; that place is now the lowest free one, and no place has changed
pub record Shrunk {T : Type 0} (s : Stack T) (x : T) (t : Stack T) : Type 0 where
  pub len : t.len + 1 ≡ s.len
  pub top : slice_get (places s) t.len ≡ Some x
  pub kept : places t ≡ places s

abbrev pub Pushed : {T : Type 0} → Stack T → T → Result (Unit {0}) T → Stack T → Type 0
Pushed s x (Ok u) t = Grown s x t
Pushed s x (Err y) t = (s.len ≡ length (places s)) × (y ≡ x) × Unchanged s t

abbrev pub Popped : {T : Type 0} → Stack T → Option T → Stack T → Type 0
Popped s (Some x) t = Shrunk s x t
Popped s None t = (s.len ≡ 0) × Unchanged s t

-- xs stands in the lowest free places, every other place is as it was
pub record GrownBy {T : Type 0} (s : Stack T) (xs : List T) (t : Stack T) : Type 0 where
  pub room : s.len + length xs ≤ length (places s)
  pub filled : places t ≡ paste (places s) s.len xs (length xs)
  pub len : t.len ≡ s.len + length xs

-- out is what stands in the n places that are now free and were not, and no place has changed
pub record ShrunkBy {T : Type 0} (s : Stack T) (n : ℕ) (out : List T) (t : Stack T) : Type 0 where
  pub len : t.len + n ≡ s.len
  pub top : out ≡ take n (drop t.len (places s))
  pub kept : places t ≡ places s

abbrev pub PushedAll : {T : Type 0} → Stack T → List T → Result (Unit {0}) Full → Stack T → Type 0
PushedAll s xs (Ok u) t = GrownBy s xs t
PushedAll s xs (Err e) t = (length (places s) < s.len + length xs) × Unchanged s t

abbrev pub PoppedAll : {T : Type 0} → Stack T → List T → Result (Unit {0}) Short → Stack T → List T → Type 0
PoppedAll s old (Ok u) t out = ShrunkBy s (length old) out t
PoppedAll s old (Err e) t out = (s.len < length old) × (out ≡ old) × Unchanged s t
