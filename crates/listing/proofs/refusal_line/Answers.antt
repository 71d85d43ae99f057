-- The line's pieces, one behind another.
use Rattle.std.proofs.Common.{◌≡◌, [], ◌∷◌, ◌++◌, take, decimal, refl, ap, ◌∙◌, append_assoc, arith, rules, take_all}
use Rattle.text.proofs.Cuts.{added}
use Rattle.listing.specs.Lines.{refusal_line}
use Rattle.listing.proofs.Joining.{refusal_length}
use Rattle.listing.proofs.refusal_line.Goals as goal

pub returns : goal.returns
returns c =
    let n = c.args.refusal.number in
    let p = c.args.refusal.place in
    let number : c.bytes.result.now ≡ decimal n = search rules in
    let place : c.bytes-2.result.now ≡ decimal p = search rules in
    let one = added 64 _ _ [] (33 ∷ []) _ c.new.ensures.value c.add.ensures.value refl in
    let two = added 64 _ _ (33 ∷ []) (decimal n) _ one c.add-2.ensures.value number in
    let three = added 64 _ _ (33 ∷ decimal n) (32 ∷ []) _ two c.add-3.ensures.value refl in
    let four = added 64 _ _ ((33 ∷ decimal n) ++ 32 ∷ []) (decimal p) _ three c.add-4.ensures.value place in
    let five = added 64 _ _ (((33 ∷ decimal n) ++ 32 ∷ []) ++ decimal p) (10 ∷ []) _ four c.add-line.ensures.value refl in
    let line : (((33 ∷ decimal n) ++ 32 ∷ []) ++ decimal p) ++ 10 ∷ [] ≡ refusal_line n p = simp append_assoc in
    let short = refusal_length n p (omega arith) (omega arith) in
    let whole : c.add-line.result ≡ refusal_line n p = five ∙ ap (take 64) line ∙ take_all 64 (refusal_line n p) (omega arith) in
    record { written = rw (c.bytes-3.ensures.value ∙ whole) at c.write.ensures.written; short = omega arith }
