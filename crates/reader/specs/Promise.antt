-- What reading a text promises.
--   Reading text r    r is the right answer to the text
--   SomeTextAccepted  no reader that keeps the promise refuses every text
--   SomeTextNotTrue   none makes the rule `true` of every text that it accepts
use Rattle.std.specs.Prelude.{◌≡◌, ℕ, true, List, is_err, IfOk, Err, Result, MatchResult}
use Rattle.words.specs.declared.Operator.TheVariants.{True}
use Rattle.grammar.specs.Grammar.{Tree, leaf}
use Rattle.grammar.specs.Refusals.{Accepts, Refused}
use Rattle.grammar.specs.declared.TextFault.{TextFault}
use Rattle.reader.specs.Rules.{Writes}
use Rattle.reader.specs.declared.rule.Rule.{Rule}

pub record Reading (text : List ℕ) (r : Result Rule TextFault) : Type 0 where
  -- a rule has the nodes that the grammar gives the text, a fault is the text's refusal
  pub outcome : MatchResult r (λ rule. (t : Tree) × Accepts text t × Writes rule t) (λ f. Refused text f)
  -- every text that the grammar accepts is accepted, with its nodes
  pub accepts : (t : Tree) → Accepts text t → MatchResult r (λ rule. Writes rule t) (λ _. ⊥)
  -- every refusal that the text has is the answer
  pub refuses : (f : TextFault) → Refused text f → r ≡ Err f

abbrev pub SomeTextAccepted : Type 0
SomeTextAccepted = (read : List ℕ → Result Rule TextFault) → ((text : List ℕ) → Reading text (read text)) → ((text : List ℕ) → is_err (read text) ≡ true) → ⊥

-- the rule `true`
abbrev pub truth : Tree
truth = leaf (record { operator = True; number = 0 })

abbrev pub SomeTextNotTrue : Type 0
SomeTextNotTrue = (read : List ℕ → Result Rule TextFault) → ((text : List ℕ) → Reading text (read text)) → ((text : List ℕ) → IfOk (read text) (λ rule. Writes rule truth)) → ⊥
