-- A text that is built piece by piece: a step in the proof of the writer.
--   Puts old new text          the nodes stay, and behind what the line held, it has the text, as far as it reaches
--   PutsTree old new n text    the same for the text of each tree whose top is the node with the number n
use Rattle.std.specs.Prelude.{◌≡◌, ℕ, List, ◌++◌, take}
use Rattle.grammar.specs.Grammar.{Tree}
use Rattle.writer.specs.declared.TheConstants.{MAX_RULE_TEXT}
use Rattle.writer.specs.Tops.{Tops}
use Rattle.writer.specs.declared.rule_text.RuleText.{RuleText}

pub record Puts (old new : RuleText) (text : List ℕ) : Type 0 where
  pub nodes : new.nodes ≡ old.nodes
  pub line : new.line ≡ take MAX_RULE_TEXT (old.line ++ text)

pub record PutsTree (old new : RuleText) (n : ℕ) (text : Tree → List ℕ) : Type 0 where
  pub nodes : new.nodes ≡ old.nodes
  pub line : (t : Tree) → Tops old.nodes.now n t → new.line ≡ take MAX_RULE_TEXT (old.line ++ text t)
