-- That the words of accepted texts are words of the language, with the numbers that they may have.
use Rattle.std.proofs.Common.{ℕ, zero, suc, ◌+◌, ◌-◌, ◌<◌, List, [], ◌∷◌, ◌++◌, length, get_or, arith}
use Rattle.words.specs.Words.{Listed}
use Rattle.grammar.specs.Grammar.{Tree, leaf, one, two, Part, Reads, a_leaf, one_sided, in_parens, a_unit, two_sided}
use Rattle.grammar.specs.Lexemes.{Placed, means_open, means_close, means_word, Spells, none, more}
use Rattle.grammar.specs.Nodes.{size, node, nodes}
use Rattle.grammar.specs.Refusals.{Accepts}
use Rattle.grammar.specs.declared.Node.{Node}
use Rattle.grammar.specs.declared.Token.{Token}
use Rattle.grammar.specs.declared.Token.TheVariants.{Open, Close, Word as word}

-- each word among the tokens is listed
abbrev pub AllListed : List Token → Type 0
AllListed [] = Unit {0}
AllListed (Open ∷ ts) = AllListed ts
AllListed (Close ∷ ts) = AllListed ts
AllListed (word w ∷ ts) = Listed w × AllListed ts

pub all_listed : {xs : List Placed} {ts : List Token} → Spells xs ts → AllListed ts
all_listed none = tt
all_listed (more means_open s) = all_listed s
all_listed (more means_close s) = all_listed s
all_listed (more (means_word n) s) = (n.listed, all_listed s)

pub listed_front : (ts us : List Token) → AllListed (ts ++ us) → AllListed ts
listed_front [] us h = tt
listed_front (Open ∷ ts) us h = listed_front ts us h
listed_front (Close ∷ ts) us h = listed_front ts us h
listed_front (word w ∷ ts) us h = (h.0, listed_front ts us h.1)

pub listed_back : (ts us : List Token) → AllListed (ts ++ us) → AllListed us
listed_back [] us h = h
listed_back (Open ∷ ts) us h = listed_back ts us h
listed_back (Close ∷ ts) us h = listed_back ts us h
listed_back (word w ∷ ts) us h = listed_back ts us h.1

-- each word of the tree is listed
abbrev TreeListed : Tree → Type 0
TreeListed (leaf w) = Listed w
TreeListed (one w t) = Listed w × TreeListed t
TreeListed (two w l r) = Listed w × TreeListed l × TreeListed r

reads_listed : {ok : ℕ → Type 0} {d : ℕ} {p : Part} {ts : List Token} {t : Tree} → Reads ok d p ts t → AllListed ts → TreeListed t
reads_listed (a_leaf e) h = h.0
reads_listed (one_sided e ok r) h = (h.0, reads_listed r h.1)
reads_listed (in_parens {ts = ts} ok r) h = reads_listed r (listed_front ts (Close ∷ []) h)
reads_listed (a_unit r) h = reads_listed r h
reads_listed (two_sided {w = w} {ts = ts} {us = us} e q r) h =
    ((listed_back ts (word w ∷ us) h).0, reads_listed q (listed_front ts (word w ∷ us) h), reads_listed r (listed_back ts (word w ∷ us) h).1)

-- and so is each node's
abbrev NodesListed : List Node → Type 0
NodesListed [] = Unit {0}
NodesListed (n ∷ ns) = Listed n.word × NodesListed ns

nodes_append : (ns ms : List Node) → NodesListed ns → NodesListed ms → NodesListed (ns ++ ms)
nodes_append [] ms h g = g
nodes_append (n ∷ ns) ms h g = (h.0, nodes_append ns ms h.1 g)

nodes_listed : (t : Tree) (k : ℕ) → TreeListed t → NodesListed (nodes k t)
unfolding nodes
nodes_listed (leaf w) k h = (h, tt)
nodes_listed (one w t) k h = nodes_append (nodes k t) (node w 0 ∷ []) (nodes_listed t k h.1) (h.0, tt)
nodes_listed (two w l r) k h =
    nodes_append (nodes k l) (nodes (k + size l) r ++ node w (k + size l - 1) ∷ []) (nodes_listed l k h.1)
    (nodes_append (nodes (k + size l) r) (node w (k + size l - 1) ∷ []) (nodes_listed r (k + size l) h.2) (h.0, tt))

listed_at : (ns : List Node) (i : ℕ) (d : Node) → i < length ns → NodesListed ns → Listed (get_or ns i d).word
listed_at [] i d l h = absurd (omega arith)
listed_at (n ∷ ns) zero d l h = h.0
listed_at (n ∷ ns) (suc i) d l h = listed_at ns i d (omega arith) h.1

pub node_listed : {text : List ℕ} {t : Tree} (i : ℕ) (d : Node) → Accepts text t → i < length (nodes 0 t) → Listed (get_or (nodes 0 t) i d).word
node_listed {t = t} i d a l = listed_at (nodes 0 t) i d l (nodes_listed t 0 (reads_listed a.reads (all_listed a.spelled)))
