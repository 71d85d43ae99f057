-- The trees of accepted texts: each word is listed and takes as many units as it has operands, and the tree as laid
-- out is no deeper than the limit. Parentheses that a text has beyond those only add depth.
use Rattle.std.proofs.Common.{◌≡◌, ℕ, suc, ◌+◌, ◌≤◌, List, [], ◌∷◌, ◌++◌, refl, arith}
use Rattle.words.specs.Words.{Listed}
use Rattle.words.specs.declared.Operands.TheVariants.{Zero, One, Two}
use Rattle.grammar.specs.Grammar.{Tree, leaf, one, two, takes, Part, rule, unit, Reads, a_leaf, one_sided, in_parens, a_unit, two_sided, in_depth, words}
use Rattle.grammar.specs.Lexemes.{Placed, Spells}
use Rattle.grammar.specs.Nodes.{size}
use Rattle.grammar.specs.declared.Token.{Token}
use Rattle.grammar.specs.declared.Token.TheVariants.{Open, Close, Word as word}
use Rattle.reader.proofs.Listing.{AllListed, all_listed, listed_front, listed_back}

-- the tree can be laid out as this part inside d open parentheses and unfinished one-sided words
abbrev pub Proper : ℕ → Part → Tree → Type 0
Proper d p (leaf w) = Listed w × (takes w ≡ Zero)
Proper d p (one w t) = Listed w × (takes w ≡ One) × in_depth (suc d) × Proper (suc d) unit t
Proper d rule (two w l r) = Listed w × (takes w ≡ Two) × Proper d unit l × Proper d unit r
Proper d unit (two w l r) = Listed w × (takes w ≡ Two) × Proper (suc d) unit l × Proper (suc d) unit r × in_depth (suc d)

shallower : (t : Tree) (d e : ℕ) (p : Part) → d ≤ e → Proper e p t → Proper d p t
shallower (leaf w) d e p h P = P
shallower (one w t) d e p h P = (P.0, P.1, omega arith, shallower t (suc d) (suc e) unit (omega arith) P.3)
shallower (two w l r) d e rule h P = (P.0, P.1, shallower l d e unit h P.2, shallower r d e unit h P.3)
shallower (two w l r) d e unit h P =
    (P.0, P.1, shallower l (suc d) (suc e) unit (omega arith) P.2, shallower r (suc d) (suc e) unit (omega arith) P.3, omega arith)

inside : (t : Tree) (d : ℕ) → in_depth (suc d) → Proper (suc d) rule t → Proper d unit t
inside (leaf w) d h P = P
inside (one w t) d h P = shallower (one w t) d (suc d) unit (omega arith) P
inside (two w l r) d h P = (P.0, P.1, P.2, P.3, h)

pub as_rule : (t : Tree) (d : ℕ) → Proper d unit t → Proper d rule t
as_rule (leaf w) d P = P
as_rule (one w t) d P = P
as_rule (two w l r) d P = (P.0, P.1, shallower l d (suc d) unit (omega arith) P.2, shallower r d (suc d) unit (omega arith) P.3)

reads_proper : {d : ℕ} {p : Part} {ts : List Token} {t : Tree} → Reads in_depth d p ts t → AllListed ts → Proper d p t
reads_proper (a_leaf e) h = (h.0, e)
reads_proper (one_sided e ok r) h = (h.0, e, ok, reads_proper r h.1)
reads_proper (in_parens {ts = ts} {t = t} ok r) h = inside t _ ok (reads_proper r (listed_front ts (Close ∷ []) h))
reads_proper (a_unit {t = t} r) h = as_rule t _ (reads_proper r h)
reads_proper (two_sided {w = w} {ts = ts} {us = us} e q r) h =
    ((listed_back ts (word w ∷ us) h).0, e, reads_proper q (listed_front ts (word w ∷ us) h), reads_proper r (listed_back ts (word w ∷ us) h).1)

pub spelled_proper : {xs : List Placed} {ts : List Token} {t : Tree} → Spells xs ts → Reads in_depth 0 rule ts t → Proper 0 rule t
spelled_proper s r = reads_proper r (all_listed s)

words_append : (ts us : List Token) → words (ts ++ us) ≡ words ts + words us
words_append [] us = omega arith
words_append (Open ∷ ts) us = words_append ts us
words_append (Close ∷ ts) us = words_append ts us
words_append (word w ∷ ts) us = let h = words_append ts us in omega arith

pub reads_size : {ok : ℕ → Type 0} {d : ℕ} {p : Part} {ts : List Token} {t : Tree} → Reads ok d p ts t → words ts ≡ size t
reads_size (a_leaf e) = refl
reads_size (one_sided e ok r) = let h = reads_size r in omega arith
reads_size (in_parens {ts = ts} ok r) = let h = reads_size r in omega (arith, words_append ts (Close ∷ []))
reads_size (a_unit r) = reads_size r
reads_size (two_sided {w = w} {ts = ts} {us = us} e q r) =
    let h = reads_size q in let k = reads_size r in omega (arith, words_append ts (word w ∷ us))

-- the tokens of a tree as laid out
abbrev pub tokens_of : Part → Tree → List Token
tokens_of p (leaf w) = word w ∷ []
tokens_of p (one w t) = word w ∷ tokens_of unit t
tokens_of rule (two w l r) = tokens_of unit l ++ word w ∷ tokens_of unit r
tokens_of unit (two w l r) = Open ∷ ((tokens_of unit l ++ word w ∷ tokens_of unit r) ++ Close ∷ [])

pub tokens_unit : (t : Tree) (d : ℕ) → Proper d unit t → Reads in_depth d unit (tokens_of unit t) t
tokens_unit (leaf w) d P = a_leaf P.1
tokens_unit (one w t) d P = one_sided P.1 P.2 (tokens_unit t (suc d) P.3)
tokens_unit (two w l r) d P = in_parens P.4 (two_sided P.1 (tokens_unit l (suc d) P.2) (tokens_unit r (suc d) P.3))

pub tokens_rule : (t : Tree) (d : ℕ) → Proper d rule t → Reads in_depth d rule (tokens_of rule t) t
tokens_rule (leaf w) d P = a_unit (tokens_unit (leaf w) d P)
tokens_rule (one w t) d P = a_unit (tokens_unit (one w t) d P)
tokens_rule (two w l r) d P = two_sided P.1 (tokens_unit l d P.2) (tokens_unit r d P.3)
