-- An input has one line.
use Rattle.std.proofs.Common.{◌≡◌, ℕ, ◌<◌, ◌≤◌, List, length, sym, refl, ap, subst, arith}
use Rattle.grammar.specs.Faults.{number, place}
use Rattle.grammar.specs.Grammar.{Tree}
use Rattle.grammar.specs.Layout.{layout}
use Rattle.grammar.specs.Machine.{outcome, refused}
use Rattle.grammar.specs.Refusals.{Accepts, Refused}
use Rattle.grammar.specs.declared.TextFault.{TextFault}
use Rattle.grammar.proofs.Outcome.{one_reading, never_both, refused_complete}
use Rattle.listing.specs.Lines.{refusal_line, rule_line}
use Rattle.listing.specs.Input.{max_input, first_line, Answer, too_long, a_rule, no_rule}

long_line : (input : List ℕ) (line : List ℕ) → max_input < length input → Answer input line → line ≡ refusal_line 44 max_input
long_line input _ h (too_long g) = refl
long_line input _ h (a_rule g a) = absurd (omega arith)
long_line input _ h (no_rule g a) = absurd (omega arith)

accepted_line : (input : List ℕ) (line : List ℕ) (t : Tree) → length input ≤ max_input → Accepts (first_line input) t → Answer input line → line ≡ rule_line (layout t)
accepted_line input _ t h a (too_long g) = absurd (omega arith)
accepted_line input _ t h a (a_rule {t = u} g b) = ap (λ x. rule_line (layout x)) (one_reading (first_line input) u t b a)
accepted_line input _ t h a (no_rule {f = f} g b) = absurd (never_both (first_line input) t f a b)

one_fault : (text : List ℕ) (f g : TextFault) → Refused text f → Refused text g → f ≡ g
one_fault text f g a b = let p : outcome text ≡ refused f = refused_complete text f a in let q : outcome text ≡ refused g = refused_complete text g b in cc

refused_line : (input : List ℕ) (line : List ℕ) (f : TextFault) → length input ≤ max_input → Refused (first_line input) f → Answer input line → line ≡ refusal_line (number f) (place f)
refused_line input _ f h a (too_long g) = absurd (omega arith)
refused_line input _ f h a (a_rule {t = t} g b) = absurd (never_both (first_line input) t f b a)
refused_line input _ f h a (no_rule {f = e} g b) = ap (λ x. refusal_line (number x) (place x)) (one_fault (first_line input) e f b a)

pub one_line : (input l m : List ℕ) → Answer input l → Answer input m → l ≡ m
one_line input _ m (too_long g) b = sym (long_line input m g b)
one_line input _ m (a_rule {t = t} g a) b = sym (accepted_line input m t g a b)
one_line input _ m (no_rule {f = f} g a) b = sym (refused_line input m f g a b)

-- what holds of one line of an input holds of each
pub of_each : (input line : List ℕ) (P : List ℕ → Type 0) → Answer input line → P line → (other : List ℕ) → Answer input other → P other
of_each input line P a p other b = subst P (one_line input line other a b) p
