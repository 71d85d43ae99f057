-- A machine that takes a text's tokens one by one: a step between the reader's functions and the grammar.
-- No promise about reading or writing a rule speaks of it.
--   Item           what a piece of a text is: a token at a place, or a refusal
--   Context        what stands around the part that is read now
--   State          a unit is wanted, a rule's first unit stands, or a whole rule stands
--   step, runs     one token; all of them
use Rattle.std.specs.Prelude.{ℕ, suc, cond, List, [], ◌∷◌, length, Some, None, Option, nat_le}
use Rattle.words.specs.declared.Word.{Word}
use Rattle.words.specs.declared.Operands.{Operands}
use Rattle.words.specs.declared.Operands.TheVariants.{Zero, One, Two}
use Rattle.words.specs.Lookup.{lookup}
use Rattle.grammar.specs.Limits.{max_text, max_depth, max_words}
use Rattle.grammar.specs.Lexemes.{Lexeme, opens, closes, run as letters, stray, Placed, lexemes}
use Rattle.grammar.specs.Grammar.{Tree, leaf, one, two, Part, rule, unit, takes}
use Rattle.grammar.specs.declared.Token.{Token}
use Rattle.grammar.specs.declared.Token.TheVariants.{Open, Close, Word as word}
use Rattle.grammar.specs.declared.TextFault.{TextFault}
use Rattle.grammar.specs.declared.TextFault.TheVariants.{TooLong, BadByte, UnknownWord, Misplaced, EndsEarly, TooDeep, TooManyWords}

pub data Item : Type 0 where
  token : ℕ → Token → Item
  bad : TextFault → Item

abbrev pub word_item : ℕ → Option Word → Item
word_item at None = bad (UnknownWord at)
word_item at (Some w) = token at (word w)

abbrev pub lexeme_item : ℕ → Lexeme → Item
lexeme_item at opens = token at Open
lexeme_item at closes = token at Close
lexeme_item at (letters bs) = word_item at (lookup bs)
lexeme_item at (stray b) = bad (BadByte at)

unfoldable pub items_of : List Placed → List Item
items_of [] = []
items_of (x ∷ xs) = lexeme_item x.place x.lexeme ∷ items_of xs

-- the items of the bytes bs, the first of which stands at the place `at`
abbrev pub items : ℕ → List ℕ → List Item
items at bs = items_of (lexemes at bs)

pub data Context : Part → Type 0 where
  whole : Context rule
  inside : Context unit → Context rule
  first : Context rule → Context unit
  second : Word → Tree → Context rule → Context unit
  under : Word → Context unit → Context unit

-- open parentheses and unfinished one-sided words
unfoldable pub depth : {p : Part} → Context p → ℕ
depth whole = 0
depth (inside K) = suc (depth K)
depth (first K) = depth K
depth (second w l K) = depth K
depth (under w K) = suc (depth K)

pub data State : Type 0 where
  want : Context unit → State
  had : Tree → Context rule → State
  full : Tree → Context rule → State

abbrev pub state_depth : State → ℕ
state_depth (want K) = depth K
state_depth (had t K) = depth K
state_depth (full t K) = depth K

-- a unit with this tree is complete
unfoldable pub unit_done : Context unit → Tree → State
unit_done (first K) t = had t K
unit_done (second w l K) t = full (two w l t) K
unit_done (under w K) t = unit_done K (one w t)

-- a closing parenthesis behind a whole rule
abbrev pub closed : Context rule → Tree → Option State
closed whole t = None
closed (inside K) t = Some (unit_done K t)

abbrev pub want_word : Operands → Word → Context unit → Option State
want_word Zero w K = Some (unit_done K (leaf w))
want_word One w K = Some (want (under w K))
want_word Two w K = None

abbrev pub had_word : Operands → Word → Tree → Context rule → Option State
had_word Zero w t K = None
had_word One w t K = None
had_word Two w t K = Some (want (second w t K))

unfoldable pub step : State → Token → Option State
step (want K) Open = Some (want (first (inside K)))
step (want K) Close = None
step (want K) (word w) = want_word (takes w) w K
step (had t K) Open = None
step (had t K) Close = closed K t
step (had t K) (word w) = had_word (takes w) w t K
step (full t K) Open = None
step (full t K) Close = closed K t
step (full t K) (word w) = None

pub data Outcome : Type 0 where
  accepted : Tree → Outcome
  refused : TextFault → Outcome

-- the text ends
abbrev pub rule_ends : ℕ → Context rule → Tree → Outcome
rule_ends n whole t = accepted t
rule_ends n (inside K) t = refused (EndsEarly n)

abbrev pub ends : ℕ → State → Outcome
ends n (want K) = refused (EndsEarly n)
ends n (had t K) = rule_ends n K t
ends n (full t K) = rule_ends n K t

-- how many words the count has with this token
abbrev pub counted : Token → ℕ → ℕ
counted Open k = k
counted Close k = k
counted (word w) k = suc k

-- what becomes of the token at the place `at`: k words are read with it, and `next` goes on from the state behind it
abbrev pub goes_on : ℕ → ℕ → Option State → (State → Outcome) → Outcome
goes_on at k None next = refused (Misplaced at)
goes_on at k (Some S) next = cond (nat_le (state_depth S) max_depth) (cond (nat_le k max_words) (next S) (refused (TooManyWords at))) (refused (TooDeep at))

-- from a state with k words read, at the items of a text of n bytes
unfoldable pub runs : ℕ → State → ℕ → List Item → Outcome
runs n S k [] = ends n S
runs n S k (bad f ∷ xs) = refused f
runs n S k (token at t ∷ xs) = goes_on at (counted t k) (step S t) (λ S'. runs n S' (counted t k) xs)

abbrev pub start : State
start = want (first whole)

-- what a text comes to
unfoldable pub outcome : List ℕ → Outcome
outcome text = cond (nat_le (length text) max_text) (runs (length text) start 0 (items 0 text)) (refused TooLong)
