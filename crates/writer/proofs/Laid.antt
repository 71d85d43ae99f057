-- The tree of an accepted text, laid out, is a short text that is accepted and has the same tree.
use Rattle.std.proofs.Common.{◌≡◌, ℕ, ◌≤◌, List, length, arith}
use Rattle.grammar.specs.Grammar.{Tree, rule}
use Rattle.grammar.specs.Layout.{layout}
use Rattle.grammar.specs.Nodes.{size, nodes}
use Rattle.grammar.specs.Refusals.{Accepts}
use Rattle.writer.proofs.Proper.{Proper, tokens_of, spelled_proper, reads_size, tokens_rule}
use Rattle.writer.proofs.Spelling.{spelled_layout}
use Rattle.writer.proofs.Bound.{rule_length}
use Rattle.writer.proofs.Nodes.{Counted, proper_counted, same_tree as same_counted}

proper : (text : List ℕ) (t : Tree) → Accepts text t → Proper 0 rule t
proper text t a = spelled_proper a.spelled a.reads

pub counted : (text : List ℕ) (t : Tree) → Accepts text t → Counted t
counted text t a = proper_counted t 0 rule (proper text t a)

small : (text : List ℕ) (t : Tree) → Accepts text t → size t ≤ 64
small text t a = let h = reads_size a.reads in omega (arith, a.few)

pub layout_short : (text : List ℕ) (t : Tree) → Accepts text t → length (layout t) ≤ 541
layout_short text t a = omega (arith, rule_length t 0 (proper text t a), small text t a)

pub layout_accepted : (text : List ℕ) (t : Tree) → Accepts text t → Accepts (layout t) t
layout_accepted text t a =
    let reads = tokens_rule t 0 (proper text t a) in
    record { short = omega (arith, layout_short text t a); tokens = tokens_of rule t; spelled = spelled_layout t 0 (proper text t a); reads = reads; few = omega (arith, reads_size reads, small text t a) }

pub same_tree : (text other : List ℕ) (t u : Tree) → Accepts text t → Accepts other u → nodes 0 t ≡ nodes 0 u → t ≡ u
same_tree text other t u a b e = same_counted t u (counted text t a) (counted other u b) e
