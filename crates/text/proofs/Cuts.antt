-- Texts that are cut at a length.
use Rattle.std.proofs.Common.{◌≡◌, ℕ, List, ◌++◌, take, ◌∙◌}
use Rattle.fixed_vec.proofs.Cuts.{cut_cut}

-- one piece more: s is what the pieces t come to, cut at n, and r is what adding the piece q, which is p, makes of it
pub added : (n : ℕ) (s r t p q : List ℕ) → s ≡ take n t → r ≡ take n (s ++ q) → q ≡ p → r ≡ take n (t ++ p)
added n s r t p q before said is = said ∙ rw (before, is) (cut_cut n t p)
