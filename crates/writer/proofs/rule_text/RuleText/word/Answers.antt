-- The word's bytes, and behind them its number's digits.
use Rattle.std.proofs.Common.{◌≡◌, ℕ, true, false, decimal, sym, refl, ap, ◌∙◌}
use Rattle.std.proofs.lemmas.Bool.{true≢false}
use Rattle.words.specs.Words.{Numbering, bare, within, numbering, suffix, text}
use Rattle.writer.proofs.Putting.{puts_piece, puts_then}
use Rattle.writer.proofs.rule_text.RuleText.word.Goals as goal

numbered_suffix : (k : Numbering) (n : ℕ) → elim k [ bare ↦ false | within low high ↦ true ] ≡ true → decimal n ≡ suffix k n
numbered_suffix bare n e = absurd (true≢false (sym e))
numbered_suffix (within low high) n e = refl

pub returns-then-is_numbered : goal.returns-then-is_numbered
returns-then-is_numbered c =
    let w = c.args.word in
    let digits : c.bytes.result.now ≡ decimal w.number = c.bytes.ensures.value ∙ ap decimal (c.new.ensures.value ∙ c.from.ensures) in
    let numbered = numbered_suffix (numbering w.operator) w.number (sym c.is_numbered.ensures.value ∙ c.if-is_numbered.true) in
    record { text = puts_then (puts_piece {new = record c.args.self.now { line = c.append.new.self }} (text w.operator) refl c.text_of.ensures.value c.append.ensures.value) (puts_piece (suffix (numbering w.operator) w.number) refl (digits ∙ numbered) c.append-then-is_numbered.ensures.value) }
