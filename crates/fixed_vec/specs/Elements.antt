-- What a vector holds, and what is put together in a buffer.
--   elements v                 its elements, in order
--   joined buffer at piece     the first `at` elements of a buffer and the piece behind them, as far as the buffer reaches
use Rattle.std.specs.Prelude.{ℕ, List, ◌++◌, length, take}
use Rattle.fixed_vec.specs.declared.vec.FixedVec.{FixedVec}

abbrev pub elements : {T : Type 0} → {N : ℕ} → FixedVec T N → List T
elements v = take v.len v.items

unfoldable pub joined : {T : Type 0} → List T → ℕ → List T → List T
joined buffer at piece = take (length buffer) (take at buffer ++ piece)
