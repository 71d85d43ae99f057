-- How long the lines are.
use Rattle.std.proofs.Common.{ℕ, ◌^◌, ◌<◌, ◌≤◌, List, [], ◌∷◌, ◌++◌, length, decimal, arith}
use Rattle.std.proofs.lemmas.Fmt.{length-decimal-le}
use Rattle.std.proofs.lemmas.List.{length-append}
use Rattle.listing.specs.Lines.{max_line, refusal_line, rule_line}

pub refusal_length : (n p : ℕ) → n < 2 ^ 16 → p < 2 ^ 64 → length (refusal_line n p) ≤ 64
refusal_length n p small wide =
    let ln : length (decimal n) ≤ 5 = length-decimal-le 5 n (omega arith) (omega arith) (omega arith) in
    let lp : length (decimal p) ≤ 20 = length-decimal-le 20 p (omega arith) (omega arith) wide in
    omega (arith, length-append (decimal n) (32 ∷ (decimal p ++ 10 ∷ [])), length-append (decimal p) (10 ∷ []))

pub rule_length : (text : List ℕ) → length text ≤ 541 → length (rule_line text) ≤ max_line
rule_length text h = omega (arith, length-append text (10 ∷ []))
