-- Pieces that are put behind one another are put as one.
use Rattle.std.proofs.Common.{◌≡◌, ℕ, List, ◌++◌, take, ap, ◌∙◌, append_assoc, sym, subst}
use Rattle.fixed_vec.proofs.Cuts.{cut_cut}
use Rattle.grammar.specs.Grammar.{Tree}
use Rattle.grammar.specs.declared.Node.{Node}
use Rattle.writer.specs.declared.rule_text.RuleText.{RuleText}
use Rattle.writer.specs.declared.TheConstants.{MAX_RULE_TEXT}
use Rattle.writer.specs.Puts.{Puts, PutsTree}
use Rattle.writer.specs.Tops.{Tops}

pub puts_then : {old mid new : RuleText} {a b : List ℕ} → Puts old mid a → Puts mid new b → Puts old new (a ++ b)
puts_then {old} {mid} {new} {a} {b} p q =
    record {
      nodes = q.nodes ∙ p.nodes;
      line = q.line ∙ ap (λ x. take MAX_RULE_TEXT (x ++ b)) p.line ∙ cut_cut MAX_RULE_TEXT (old.line ++ a) b ∙ ap (take MAX_RULE_TEXT) (append_assoc old.line a b);
    }

pub puts_piece : {old new : RuleText} {piece : List ℕ} (text : List ℕ) → new.nodes ≡ old.nodes → piece ≡ text → new.line ≡ take MAX_RULE_TEXT (old.line ++ piece) → Puts old new text
puts_piece {old} text n e p = record { nodes = n; line = p ∙ ap (λ x. take MAX_RULE_TEXT (old.line ++ x)) e }

-- the text of a tree whose top is the node n, among nodes that are the same as before
pub puts_tree : (ns : List Node) {old new : RuleText} {m n : ℕ} {text : Tree → List ℕ} → PutsTree old new n text → old.nodes.now ≡ ns → m ≡ n → (t : Tree) → Tops ns m t → Puts old new (text t)
puts_tree ns {n = n} p same e t T =
    let Q : ℕ → Type 0 = λ k. Tops ns k t in
    let P : List Node → Type 0 = λ x. Tops x n t in
    record { nodes = p.nodes; line = p.line t (subst P (sym same) (subst Q e T)) }

pub puts_each : {old new : RuleText} {n : ℕ} {text : Tree → List ℕ} → new.nodes ≡ old.nodes → ((t : Tree) → Tops old.nodes.now n t → Puts old new (text t)) → PutsTree old new n text
puts_each same f = record { nodes = same; line = λ t T. (f t T).line }
