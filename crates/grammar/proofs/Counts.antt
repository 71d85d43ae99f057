-- Counting words: over tokens one by one, and that a tree has as many as the tokens that write it.
use Rattle.std.proofs.Common.{◌≡◌, ℕ, ◌+◌, ◌≤◌, List, [], ◌∷◌, ◌++◌, refl, subst, arith}
use Rattle.grammar.specs.Limits.{max_words}
use Rattle.grammar.specs.Grammar.{Tree, Part, Reads, a_leaf, one_sided, in_parens, a_unit, two_sided, words}
use Rattle.grammar.specs.Nodes.{size}
use Rattle.grammar.specs.Refusals.{Accepts}
use Rattle.grammar.specs.Machine.{counted}
use Rattle.grammar.specs.declared.Token.{Token}
use Rattle.grammar.specs.declared.Token.TheVariants.{Open, Close, Word as word}

pub words_append : (ts us : List Token) → words (ts ++ us) ≡ words ts + words us
words_append [] us = omega arith
words_append (Open ∷ ts) us = words_append ts us
words_append (Close ∷ ts) us = words_append ts us
words_append (word w ∷ ts) us = let h = words_append ts us in omega arith

pub counted_words : (a : Token) (k : ℕ) (ts : List Token) → counted a k + words ts ≡ k + words (a ∷ ts)
counted_words Open k ts = refl
counted_words Close k ts = refl
counted_words (word w) k ts = omega arith

pub words_last : (ts : List Token) (a : Token) → words (ts ++ a ∷ []) ≡ counted a (words ts)
words_last ts a = omega (arith, words_append ts (a ∷ []), counted_words a (words ts) [])

pub reads_size : {ok : ℕ → Type 0} {d : ℕ} {p : Part} {ts : List Token} {t : Tree} → Reads ok d p ts t → words ts ≡ size t
reads_size (a_leaf z) = refl
reads_size (one_sided z o r) = let h = reads_size r in omega arith
reads_size (in_parens {ts = ts} o r) = let h = reads_size r in omega (arith, words_append ts (Close ∷ []))
reads_size (a_unit r) = reads_size r
reads_size (two_sided {w = w} {ts = ts} {us = us} z l r) = let h = reads_size l in let i = reads_size r in omega (arith, words_append ts (word w ∷ us))

pub accepted_size : (text : List ℕ) (t : Tree) → Accepts text t → size t ≤ 64
accepted_size text t a = subst (λ n. n ≤ max_words) (reads_size a.reads) a.few
