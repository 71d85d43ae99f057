-- What the reader's functions come to, by the machine that takes a text's tokens one by one: a step in the proof of the
-- reader.
--   Grown d e t         a draft has grown by a tree
--   SameText p q        two parsers read the same text
--   UnitBy              what reading a unit comes to by the drafts alone, in a text of any length and before any items
--   ReadUnit, ReadRule  what the functions for a unit and for a rule promise
--   ended               what stands behind a whole rule: nothing, or a token that cannot
use Rattle.std.specs.Prelude.{◌≡◌, ℕ, ◌+◌, List, ◌∷◌, ◌++◌, length, Some, None, Ok, Err, Option, Result}
use Rattle.fixed_vec.specs.Elements.{elements}
use Rattle.grammar.specs.Limits.{max_depth}
use Rattle.grammar.specs.Grammar.{Tree, rule, unit}
use Rattle.grammar.specs.Machine.{Item, token, Context, depth, first, want, full, unit_done, Outcome, refused, ends, runs}
use Rattle.grammar.specs.Nodes.{size, nodes}
use Rattle.grammar.specs.declared.TextFault.{TextFault}
use Rattle.grammar.specs.declared.TextFault.TheVariants.{Misplaced}
use Rattle.lexer.specs.Answers.{left, text_of}
use Rattle.lexer.specs.declared.Placed.{Placed}
use Rattle.reader.specs.declared.draft.Draft.{Draft}
use Rattle.reader.specs.declared.parser.Parser.{Parser}

-- the draft has grown by the nodes of the tree, and by as many words as are read with them
pub record Grown (d e : Draft) (t : Tree) : Type 0 where
  pub added : elements e.nodes ≡ elements d.nodes ++ nodes (length (elements d.nodes)) t
  pub len : length (elements e.nodes) ≡ length (elements d.nodes) + size t
  pub words : e.words ≡ d.words + size t

-- where the machine stands behind a rule: `next` is the token that follows it
abbrev pub behind : ℕ → Context rule → Tree → ℕ → Option Placed → List Item → Outcome
behind n K t k None xs = ends n (full t K)
behind n K t k (Some p) xs = runs n (full t K) k (token p.place p.token ∷ xs)

-- how many bytes the text has
abbrev pub bytes : Parser → ℕ
bytes p = length (text_of p.lexer)

abbrev pub SameText : Parser → Parser → Type 0
SameText p q = text_of q.lexer ≡ text_of p.lexer

-- A unit, in any context that leaves `deep` more levels: with the items xs ahead, in a text of n bytes, the draft d becomes e, and the
-- machine comes from where a unit is wanted to where one stands, with ys left; or to a refusal.
abbrev pub UnitBy : ℕ → ℕ → List Item → Draft → Result (Unit {0}) TextFault → List Item → Draft → Type 0
UnitBy n deep xs d (Ok u) ys e = (t : Tree) × ((K : Context unit) → depth K + deep ≡ max_depth → runs n (want K) d.words xs ≡ runs n (unit_done K t) e.words ys) × Grown d e t
UnitBy n deep xs d (Err f) ys e = (K : Context unit) → depth K + deep ≡ max_depth → runs n (want K) d.words xs ≡ refused f

-- A unit, likewise, that the parser p reads and so becomes q. Refused or not, q reads the text that p reads.
abbrev pub ReadUnit : ℕ → List Item → Parser → Result (Unit {0}) TextFault → Parser → Type 0
ReadUnit deep xs p r q = UnitBy (bytes p) deep xs p.draft r (left q.lexer) q.draft × SameText p q

-- a rule, likewise, with the token behind it
abbrev pub ReadRule : ℕ → List Item → Parser → Result (Option Placed) TextFault → Parser → Type 0
ReadRule deep xs p (Ok next) q = (t : Tree) × ((K : Context rule) → depth K + deep ≡ max_depth → runs (bytes p) (want (first K)) p.draft.words xs ≡ behind (bytes p) K t q.draft.words next (left q.lexer)) × Grown p.draft q.draft t × SameText p q
ReadRule deep xs p (Err f) q = ((K : Context rule) → depth K + deep ≡ max_depth → runs (bytes p) (want (first K)) p.draft.words xs ≡ refused f) × SameText p q

-- only the end of the text can stand behind a whole rule
abbrev pub ended : Option Placed → Result (Unit {0}) TextFault
ended None = Ok tt
ended (Some p) = Err (Misplaced p.place)
