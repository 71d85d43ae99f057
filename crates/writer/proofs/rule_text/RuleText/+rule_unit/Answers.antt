-- A word with its operands before it and behind it, which are nodes with smaller numbers.
use Rattle.std.proofs.Common.{[], ◌∷◌, sym, refl, ap, ◌∙◌, arith}
use Rattle.writer.proofs.Putting.{puts_piece, puts_then, puts_tree, puts_each}
use Rattle.writer.proofs.Tops.{before_at, top_zero, top_one, top_two, in_parens}
use Rattle.writer.proofs.rule_text.RuleText.+rule_unit.Goals as goal

pub rule-unit-requires-in-Two : goal.rule-unit-requires-in-Two
rule-unit-requires-in-Two t c =
    let h = before_at _ _ _ _ c.args.self.now.ordered c.requires.within c.in-Two.ensures.value in
    (omega arith, omega arith)

pub rule-returns-in-Zero : goal.rule-returns-in-Zero
rule-returns-in-Zero t c =
    let word = c.word.ensures.text in
    record { text = puts_each word.nodes (λ u T. top_zero _ _ _ u c.in-Zero.ensures.value T word) }

pub rule-returns-in-One : goal.rule-returns-in-One
rule-returns-in-One t c =
    let word = c.word-in-One.ensures.text in
    let operand = c.unit.ensures.text in
    record {
      text = puts_each (operand.nodes ∙ word.nodes) (λ u T. top_one _ _ _ u c.in-One.ensures.value T
          (λ v V. puts_then word (puts_then (puts_piece (32 ∷ []) refl refl c.append.ensures.value) (puts_tree _ operand (ap (λ r. r.now) word.nodes) refl v V))));
    }

pub rule-returns-in-Two : goal.rule-returns-in-Two
rule-returns-in-Two t c =
    let left = c.unit-in-Two.ensures.text in
    let word = c.word-in-Two.ensures.text in
    let right = c.unit-in-Two-2.ensures.text in
    let same = word.nodes ∙ left.nodes in
    record {
      text = puts_each (right.nodes ∙ same) (λ u T. top_two _ _ _ u c.in-Two.ensures.value T
          (λ l r L R.
          puts_then (puts_tree _ left refl (sym c.from-left.ensures) l L)
          (puts_then (puts_piece (32 ∷ []) refl refl c.append-in-Two.ensures.value)
          (puts_then word
          (puts_then (puts_piece (32 ∷ []) refl refl c.append-in-Two-2.ensures.value) (puts_tree _ right (ap (λ r. r.now) same) refl r R))))));
    }

pub unit-returns-in-Two : goal.unit-returns-in-Two
unit-returns-in-Two t c =
    let rule = c.rule.ensures.text in
    record {
      text = puts_each rule.nodes (λ u T. in_parens _ _ _ u c.in-Two.ensures.value T
          (puts_then (puts_piece (40 ∷ []) refl refl c.append.ensures.value) (puts_then (puts_tree _ rule refl refl u T) (puts_piece (41 ∷ []) refl refl c.append-in-Two.ensures.value))));
    }
