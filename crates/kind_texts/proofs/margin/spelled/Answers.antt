use Rattle.std.proofs.Common.{◌≡◌, ◌/◌, ◌%◌, ◌^◌, ◌<◌, [], nat_abs, codes, decimal, refl, ap, ◌∙◌, arith, take_all, rules}
use Rattle.std.proofs.lemmas.Int.{to_z-of_z}
use Rattle.text.proofs.Cuts.{added}
use Rattle.kind_texts.specs.Margin.{sign, tenths_text}
use Rattle.kind_texts.specs.Pieces.{length_tenths}
use Rattle.kind_texts.proofs.margin.spelled.Goals as goal

pub returns : goal.returns
returns c =
    let t = c.args.tenths in
    let size : c.from-size.result ≡ nat_abs t = search (rules, to_z-of_z) in
    let before : c.sign.result.now ≡ sign t = search (rules, to_z-of_z) in
    let whole : c.bytes.result.now ≡ decimal (nat_abs t / 10) = c.bytes.ensures.value ∙ ap decimal (c.new-whole.ensures.value ∙ ap (λ n. n / 10) size) in
    let tenth : c.bytes-2.result.now ≡ decimal (nat_abs t % 10) = c.bytes-2.ensures.value ∙ ap decimal (c.new-tenth.ensures.value ∙ ap (λ n. n % 10) size) in
    let one = added 32 _ _ [] _ _ c.new.ensures.value c.add.ensures.value before in
    let two = added 32 _ _ _ _ _ one c.add-2.ensures.value whole in
    let three = added 32 _ _ _ (codes ".") _ two c.add-3.ensures.value refl in
    let small : nat_abs t < 10 ^ 7 = omega arith in
    record { value = added 32 _ _ _ _ _ three c.add-4.ensures.value tenth ∙ take_all 32 (tenths_text t) (omega (arith, length_tenths t small)) }
