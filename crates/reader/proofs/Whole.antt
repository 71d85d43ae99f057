-- From the machine's outcome to what reading a text promises.
use Rattle.std.proofs.Common.{◌≡◌, ℕ, ◌+◌, ◌≤◌, ◌<◌, leb, List, [], ◌++◌, length, drop, Some, None, Ok, Err, Option, Result, sym, refl, ap, ◌∙◌, subst, ap₂, arith}
use Rattle.std.proofs.lemmas.Bool.{cond-true, cond-false, le-leb, lt-leb}
use Rattle.fixed_vec.specs.Elements.{elements}
use Rattle.grammar.specs.Limits.{max_text, max_depth}
use Rattle.grammar.specs.Nodes.{nodes}
use Rattle.grammar.specs.Grammar.{Tree}
use Rattle.grammar.specs.Machine.{Item, items, depth, full, first, whole, want, Outcome, accepted, refused, runs, start, outcome}
use Rattle.grammar.specs.declared.TextFault.{TextFault}
use Rattle.grammar.specs.declared.TextFault.TheVariants.{TooLong, Misplaced}
use Rattle.grammar.proofs.Outcome.{accepted_sound, refused_sound, accepted_complete, refused_complete}
use Rattle.lexer.specs.Answers.{left, text_of}
use Rattle.lexer.specs.declared.Placed.{Placed}
use Rattle.lexer.specs.declared.lexer.Lexer.{Lexer}
use Rattle.reader.specs.Reading.{Grown, behind, bytes, ReadRule, ended}
use Rattle.reader.specs.Promise.{Reading}
use Rattle.reader.specs.Rules.{Writes}
use Rattle.reader.specs.declared.draft.Draft.{Draft}
use Rattle.reader.specs.declared.parser.Parser.{Parser}
use Rattle.reader.specs.declared.rule.Rule.{Rule}
use Rattle.reader.proofs.Steps.{misplaced, full_whole}

clash : {o : Outcome} {t : Tree} {f : TextFault} → o ≡ accepted t → o ≡ refused f → ⊥
clash p q = let z : ◌≡◌ {A = ℕ} 0 1 = cc in omega arith

ok_err : {r : Result (Unit {0}) TextFault} {u : Unit {0}} {f : TextFault} → r ≡ Ok u → r ≡ Err f → ⊥
ok_err p q = let z : ◌≡◌ {A = ℕ} 0 1 = cc in omega arith

pub reading_err : (text : List ℕ) (f : TextFault) → outcome text ≡ refused f → Reading text (Err f)
reading_err text f e =
    record {
      outcome = refused_sound text f e;
      accepts = λ t a. clash (accepted_complete text t a) e;
      refuses = λ g h. let other : outcome text ≡ refused g = refused_complete text g h in let same : f ≡ g = cc in ap Err same;
    }

pub reading_ok : (text : List ℕ) (rule : Rule) (t : Tree) → outcome text ≡ accepted t → Writes rule t → Reading text (Ok rule)
reading_ok text rule t e w =
    record {
      outcome = (t, accepted_sound text t e, w);
      accepts = λ u a. let other : outcome text ≡ accepted u = accepted_complete text u a in let same : t ≡ u = cc in subst (Writes rule) same w;
      refuses = λ f h. absurd (clash e (refused_complete text f h));
    }

-- a text that is too long
pub long_outcome : (text : List ℕ) → max_text < length text → outcome text ≡ refused TooLong
unfolding outcome
long_outcome text h = cond-false (leb (length text) max_text) _ _ (lt-leb (length text) max_text h)

-- a parser that has read nothing yet
pub record Fresh (text : List ℕ) (p : Parser) : Type 0 where
  pub short : length text ≤ max_text
  pub start : p.lexer.at ≡ 0
  pub same : text_of p.lexer ≡ text
  pub none : elements p.draft.nodes ≡ []
  pub no_words : p.draft.words ≡ 0

pub fresh : {text : List ℕ} (l : Lexer) (d : Draft) → (length text ≤ max_text) × (l.at ≡ 0) × (text_of l ≡ text) → (elements d.nodes ≡ []) × (d.words ≡ 0) → Fresh text (record { lexer = l; draft = d })
fresh l d s e = record { short = s.0; start = s.1; same = s.2; none = e.0; no_words = e.1 }

pub fresh_outcome : {text : List ℕ} {p : Parser} (o : Outcome) → Fresh text p → runs (bytes p) (want (first whole)) p.draft.words (left p.lexer) ≡ o → outcome text ≡ o
unfolding outcome
fresh_outcome {text} {p} o f e =
    cond-true (leb (length text) max_text) _ _ (le-leb (length text) max_text f.short)
    ∙ ap₂ (λ t x. runs (length t) start x (items 0 t)) (sym f.same) (sym f.no_words)
    ∙ ap (λ a. runs (bytes p) start p.draft.words (items a (drop a (text_of p.lexer)))) (sym f.start)
    ∙ e

pub whole_level : depth whole + 16 ≡ max_depth
unfolding depth
whole_level = refl

-- behind the whole rule
rule_behind : (n k : ℕ) (t : Tree) (p : Placed) (ys : List Item) → behind n whole t k (Some p) ys ≡ refused (Misplaced p.place)
rule_behind n k t p ys = misplaced n p.place k (full t whole) p.token ys (full_whole t p.token)

-- which answer tells what stands there
pub ended_none : (next : Option Placed) {u : Unit {0}} → ended next ≡ Ok u → next ≡ None
ended_none None e = refl
ended_none (Some p) e = absurd (ok_err {f = Misplaced p.place} e refl)

pub ended_some : (next : Option Placed) {f : TextFault} → ended next ≡ Err f → (p : Placed) × (next ≡ Some p) × (Misplaced p.place ≡ f)
ended_some None e = absurd (ok_err {u = tt} refl e)
ended_some (Some p) e = (p, refl, (let same : Misplaced p.place ≡ _ = cc in same))

-- a draft that began with nothing
pub drafted_all : {d e : Draft} {t : Tree} → elements d.nodes ≡ [] → Grown d e t → elements e.nodes ≡ nodes 0 t
drafted_all {d} {e} {t} none g = g.added ∙ ap (λ ns. ns ++ nodes (length ns) t) none

-- a rule with nothing behind it, and one with a token behind it
module _ {text : List ℕ} {p : Parser} (q : Parser) {next : Option Placed} (f : Fresh text p) where
  pub whole_read : next ≡ None → ReadRule 16 (left p.lexer) p (Ok next) q → (t : Tree) × (outcome text ≡ accepted t) × (elements q.draft.nodes ≡ nodes 0 t)
  whole_read e rd = go (subst (λ o. ReadRule 16 (left p.lexer) p (Ok o) q) e rd)
    where
      go : ReadRule 16 (left p.lexer) p (Ok None) q → (t : Tree) × (outcome text ≡ accepted t) × (elements q.draft.nodes ≡ nodes 0 t)
      go rd = (rd.0, fresh_outcome (accepted rd.0) f (rd.1 whole whole_level), drafted_all f.none rd.2)

  pub more_read : (x : Placed) → next ≡ Some x → ReadRule 16 (left p.lexer) p (Ok next) q → outcome text ≡ refused (Misplaced x.place)
  more_read x e rd = go (subst (λ o. ReadRule 16 (left p.lexer) p (Ok o) q) e rd)
    where
      go : ReadRule 16 (left p.lexer) p (Ok (Some x)) q → outcome text ≡ refused (Misplaced x.place)
      go rd = fresh_outcome (refused (Misplaced x.place)) f (rd.1 whole whole_level ∙ rule_behind (bytes p) q.draft.words rd.0 x (left q.lexer))
