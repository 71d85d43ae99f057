-- The count's digits, and behind them the word for the lowest zone that does not hold.
use Rattle.std.proofs.Common.{◌≡◌, [], codes, decimal, refl, ap, ◌∙◌, arith, take_all}
use Rattle.text.proofs.Cuts.{added}
use Rattle.kind_texts.specs.Zones.{lowest_text, counted_text}
use Rattle.kind_texts.specs.Pieces.{length_counted, lowest_none, lowest_some}
use Rattle.kind_texts.proofs.zones.spelled.Goals as goal
use Rattle.kind_texts.proofs.zones.spelled.Goals.{then-lowest-eq64, else-lowest-eq64}

pub returns : goal.returns
returns c =
    let n = c.args.count in
    let m = c.args.lowest in
    let count : c.bytes.result.now ≡ decimal n = c.bytes.ensures.value ∙ ap decimal (c.new-count.ensures.value ∙ c.from.ensures) in
    let digits : decimal c.new-digits.result.number ≡ decimal m = ap decimal (c.new-digits.ensures.value ∙ c.from-2.ensures) in
    let word : c.if-lowest-eq64.word.now ≡ lowest_text m = elim c.if-lowest-eq64.branch [
      | then-lowest-eq64 w ↦ ap (λ r. r.now) w.word-is ∙ lowest_none m w.if-lowest-eq64.true
      | else-lowest-eq64 w ↦ ap (λ r. r.now) w.word-is ∙ w.bytes-word.ensures.value ∙ digits ∙ lowest_some m w.if-lowest-eq64.false
    ] in
    let one = added 32 _ _ [] _ _ c.new.ensures.value c.add.ensures.value count in
    let two = added 32 _ _ _ (codes " first ") _ one c.add-2.ensures.value refl in
    let three = added 32 _ _ _ _ _ two c.add-3.ensures.value word in
    record { value = three ∙ take_all 32 (counted_text n m) (omega (arith, length_counted n m (omega arith) (omega arith))) }
