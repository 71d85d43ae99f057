-- The grammar of rules: which tokens are a rule, and the tree that they write.
--   Tree                   a rule's words with their operands
--   Reads ok d part ts t   the tokens ts are a rule or a unit that writes the tree t, inside d open parentheses and
--                          unfinished one-sided words; `ok` says which depths are allowed
--   Begins ok ts           some rule begins with the tokens ts
--   words ts               how many of the tokens are words
use Rattle.std.specs.Prelude.{◌≡◌, ℕ, suc, ◌≤◌, List, [], ◌∷◌, ◌++◌}
use Rattle.words.specs.Words.{operands}
use Rattle.words.specs.declared.Word.{Word}
use Rattle.words.specs.declared.Operands.{Operands}
use Rattle.words.specs.declared.Operands.TheVariants.{Zero, One, Two}
use Rattle.grammar.specs.Limits.{max_depth}
use Rattle.grammar.specs.declared.Token.{Token}
use Rattle.grammar.specs.declared.Token.TheVariants.{Open, Close, Word as word}

pub data Tree : Type 0 where
  leaf : Word → Tree
  one : Word → Tree → Tree
  two : Word → Tree → Tree → Tree

-- how many units the word takes
abbrev pub takes : Word → Operands
takes w = operands w.operator

-- a rule is a unit, or two units with a two-sided word between them;
-- a unit is a leaf, a one-sided word and a unit, or a rule in parentheses
pub data Part : Type 0 where
  rule unit : Part

pub data Reads (ok : ℕ → Type 0) : ℕ → Part → List Token → Tree → Type 0 where
  a_leaf : {d : ℕ} {w : Word} → takes w ≡ Zero → Reads ok d unit (word w ∷ []) (leaf w)
  one_sided : {d : ℕ} {w : Word} {ts : List Token} {t : Tree} → takes w ≡ One → ok (suc d) → Reads ok (suc d) unit ts t → Reads ok d unit (word w ∷ ts) (one w t)
  in_parens : {d : ℕ} {ts : List Token} {t : Tree} → ok (suc d) → Reads ok (suc d) rule ts t → Reads ok d unit (Open ∷ (ts ++ Close ∷ [])) t
  a_unit : {d : ℕ} {ts : List Token} {t : Tree} → Reads ok d unit ts t → Reads ok d rule ts t
  two_sided : {d : ℕ} {w : Word} {ts us : List Token} {l r : Tree} → takes w ≡ Two → Reads ok d unit ts l → Reads ok d unit us r → Reads ok d rule (ts ++ word w ∷ us) (two w l r)

-- the grammar without its limit on depth, and with it
abbrev pub any_depth : ℕ → Type 0
any_depth d = Unit {0}

abbrev pub in_depth : ℕ → Type 0
in_depth d = d ≤ max_depth

-- the tokens are a rule that writes the tree t
abbrev pub IsRule : (ℕ → Type 0) → List Token → Tree → Type 0
IsRule ok ts t = Reads ok 0 rule ts t

abbrev pub Begins : (ℕ → Type 0) → List Token → Type 0
Begins ok ts = (us : List Token) × (t : Tree) × IsRule ok (ts ++ us) t

abbrev pub words : List Token → ℕ
words [] = 0
words (Open ∷ ts) = words ts
words (Close ∷ ts) = words ts
words (word w ∷ ts) = suc (words ts)
