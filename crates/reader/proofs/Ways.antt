-- What each way through the reader's functions comes to.
use Rattle.std.proofs.Common.{◌≡◌, ℕ, ◌+◌, ◌-◌, ◌<◌, ◌≤◌, List, [], ◌∷◌, ◌++◌, length, Some, None, Ok, Err, Option, Result, sym, refl, ap, ◌∙◌, subst, ap₂, add-one, arith, length-append}
use Rattle.std.proofs.lemmas.List.{append_assoc}
use Rattle.words.specs.declared.Word.{Word}
use Rattle.words.specs.declared.Operands.TheVariants.{Zero, One, Two}
use Rattle.grammar.specs.Limits.{max_depth, max_words}
use Rattle.grammar.specs.Grammar.{Tree, leaf, one, two, rule, unit, takes}
use Rattle.grammar.specs.Machine.{Item, token, Context, inside, first, second, under, depth, want, had, full, unit_done, refused, runs}
use Rattle.grammar.specs.Nodes.{size, node, nodes}
use Rattle.grammar.specs.declared.Token.{Token}
use Rattle.grammar.specs.declared.Token.TheVariants.{Open, Close, Word as word}
use Rattle.grammar.specs.declared.TextFault.{TextFault}
use Rattle.grammar.specs.declared.TextFault.TheVariants.{Misplaced, TooDeep, TooManyWords}
use Rattle.fixed_vec.specs.Elements.{elements}
use Rattle.lexer.specs.Answers.{Next, left, text_of}
use Rattle.lexer.specs.declared.lexer.Lexer.{Lexer}
use Rattle.lexer.specs.declared.Placed.{Placed}
use Rattle.reader.specs.Reading.{Grown, behind, bytes, SameText, UnitBy, ReadUnit, ReadRule}
use Rattle.reader.specs.declared.draft.Draft.{Draft}
use Rattle.reader.specs.declared.parser.Parser.{Parser}
use Rattle.reader.proofs.Steps.{moves, misplaced, too_deep, too_many, at_end, at_bad, done_depth, want_open, want_close, want_word_lem, inside_depth, under_depth, first_depth, second_depth, first_done, had_two, NoTwo, as_full, full_close, NoClose, full_other}

-- the lexer's answers, once it is known which one came
pub next_none : (xs ys : List Item) {o : Option Placed} → o ≡ None → Next xs (Ok o) ys → xs ≡ []
next_none xs ys e h = (subst (λ r. Next xs (Ok r) ys) e h).0

pub next_some : (xs ys : List Item) {o : Option Placed} {p : Placed} → o ≡ Some p → Next xs (Ok o) ys → xs ≡ token p.place p.token ∷ ys
next_some xs ys e h = subst (λ r. Next xs (Ok r) ys) e h

-- a unit whose first token the lexer has passed already
pub read_behind : (deep : ℕ) (l m : Lexer) (d : Draft) (xs : List Item) (r : Result (Unit {0}) TextFault) (q : Parser) → left l ≡ xs → text_of m ≡ text_of l → ReadUnit deep xs (record { lexer = m; draft = d }) r q → ReadUnit deep (left l) (record { lexer = l; draft = d }) r q
read_behind deep l m d xs (Ok u) q e s rd = (
  (
    rd.0.0,
    (λ K h.
        ap (runs (length (text_of l)) (want K) d.words) e
        ∙ subst (λ t. runs (length t) (want K) d.words xs ≡ runs (length t) (unit_done K rd.0.0) q.draft.words (left q.lexer)) s (rd.0.1 K h)),
    rd.0.2,
  ),
  rd.1 ∙ s,
)
read_behind deep l m d xs (Err f) q e s rd = (
  (λ K h. ap (runs (length (text_of l)) (want K) d.words) e ∙ subst (λ t. runs (length t) (want K) d.words xs ≡ refused f) s (rd.0 K h)),
  rd.1 ∙ s,
)

-- a leaf whose token the lexer has passed already
pub leaf_behind : (deep : ℕ) (p : Parser) (m : Lexer) (e : Draft) (o : Option Placed) (x : Placed) (w : Word) (r : Result (Unit {0}) TextFault) → Next (left p.lexer) (Ok o) (left m) → o ≡ Some x → x.token ≡ word w → text_of m ≡ text_of p.lexer → ((n k : ℕ) (xs : List Item) → UnitBy n k (token x.place (word w) ∷ xs) p.draft r xs e) → ReadUnit deep (left p.lexer) p r (record { lexer = m; draft = e })
leaf_behind deep p m e o x w r answer some is same reads =
    let first : left p.lexer ≡ token x.place (word w) ∷ left m = next_some (left p.lexer) (left m) some answer ∙ ap (λ t. token x.place t ∷ left m) is in
    read_behind deep p.lexer m p.draft (token x.place (word w) ∷ left m) r (record { lexer = m; draft = e }) first same (reads (length (text_of m)) deep (left m), refl)

-- a rule in parentheses
pub paren_deep : (n p k deep : ℕ) (K : Context unit) (xs : List Item) → depth K + deep ≡ max_depth → deep ≡ 0 → runs n (want K) k (token p Open ∷ xs) ≡ refused (TooDeep p)
paren_deep n p k deep K xs h z = too_deep n p k (want K) (want (first (inside K))) Open xs (want_open K) (omega (arith, inside_depth K))

pub paren_in : (n p k deep below : ℕ) (K : Context unit) (xs : List Item) → depth K + deep ≡ max_depth → below + 1 ≡ deep → k ≤ max_words → runs n (want K) k (token p Open ∷ xs) ≡ runs n (want (first (inside K))) k xs
paren_in n p k deep below K xs h z w = moves n p k (want K) (want (first (inside K))) Open xs (want_open K) (omega (arith, inside_depth K)) w

pub inside_level : (deep below : ℕ) (K : Context unit) → depth K + deep ≡ max_depth → below + 1 ≡ deep → depth (inside K) + below ≡ max_depth
inside_level deep below K h z = omega (arith, inside_depth K, first_depth (inside K))

no_close : (x : Token) → (x ≡ Close → ⊥) → NoClose x
no_close Open h = tt
no_close Close h = h refl
no_close (word w) h = tt

pub close_missing : (n k : ℕ) (t : Tree) (K : Context unit) (p : Placed) (ys : List Item) → (p.token ≡ Close → ⊥) → behind n (inside K) t k (Some p) ys ≡ refused (Misplaced p.place)
close_missing n k t K p ys h = misplaced n p.place k (full t (inside K)) p.token ys (full_other t (inside K) p.token (no_close p.token h))

pub close_found : (n k : ℕ) (t : Tree) (K : Context unit) (p : Placed) (ys : List Item) → p.token ≡ Close → depth K ≤ max_depth → k ≤ max_words → behind n (inside K) t k (Some p) ys ≡ runs n (unit_done K t) k ys
close_found n k t K p ys e d w =
    ap (λ x. runs n (full t (inside K)) k (token p.place x ∷ ys)) e
    ∙ moves n p.place k (full t (inside K)) (unit_done K t) Close ys (full_close t K) (omega (arith, done_depth K t)) w

-- a word where a unit is wanted
pub leaf_in : (n p k : ℕ) (K : Context unit) (w : Word) (xs : List Item) → takes w ≡ Zero → depth K ≤ max_depth → k < max_words → runs n (want K) k (token p (word w) ∷ xs) ≡ runs n (unit_done K (leaf w)) (k + 1) xs
leaf_in n p k K w xs e d h =
    moves n p k (want K) (unit_done K (leaf w)) (word w) xs (want_word_lem K w Zero e) (omega (arith, done_depth K (leaf w))) h
    ∙ ap (λ j. runs n (unit_done K (leaf w)) j xs) (sym (add-one k))

pub leaf_many : (n p k : ℕ) (K : Context unit) (w : Word) (xs : List Item) → takes w ≡ Zero → depth K ≤ max_depth → k ≡ max_words → runs n (want K) k (token p (word w) ∷ xs) ≡ refused (TooManyWords p)
leaf_many n p k K w xs e d h = too_many n p k (want K) (unit_done K (leaf w)) (word w) xs (want_word_lem K w Zero e) (omega (arith, done_depth K (leaf w))) (omega arith)

pub one_deep : (n p k deep : ℕ) (K : Context unit) (w : Word) (xs : List Item) → takes w ≡ One → depth K + deep ≡ max_depth → deep ≡ 0 → runs n (want K) k (token p (word w) ∷ xs) ≡ refused (TooDeep p)
one_deep n p k deep K w xs e h z = too_deep n p k (want K) (want (under w K)) (word w) xs (want_word_lem K w One e) (omega (arith, under_depth w K))

pub one_many : (n p k deep below : ℕ) (K : Context unit) (w : Word) (xs : List Item) → takes w ≡ One → depth K + deep ≡ max_depth → below + 1 ≡ deep → k ≡ max_words → runs n (want K) k (token p (word w) ∷ xs) ≡ refused (TooManyWords p)
one_many n p k deep below K w xs e h z many = too_many n p k (want K) (want (under w K)) (word w) xs (want_word_lem K w One e) (omega (arith, under_depth w K)) (omega arith)

pub one_in : (n p k deep below : ℕ) (K : Context unit) (w : Word) (xs : List Item) → takes w ≡ One → depth K + deep ≡ max_depth → below + 1 ≡ deep → k < max_words → runs n (want K) k (token p (word w) ∷ xs) ≡ runs n (want (under w K)) (k + 1) xs
one_in n p k deep below K w xs e h z few =
    moves n p k (want K) (want (under w K)) (word w) xs (want_word_lem K w One e) (omega (arith, under_depth w K)) few
    ∙ ap (λ j. runs n (want (under w K)) j xs) (sym (add-one k))

pub under_level : (deep below : ℕ) (w : Word) (K : Context unit) → depth K + deep ≡ max_depth → below + 1 ≡ deep → depth (under w K) + below ≡ max_depth
under_level deep below w K h z = omega (arith, under_depth w K)

pub two_wanted : (n p k : ℕ) (K : Context unit) (w : Word) (xs : List Item) → takes w ≡ Two → runs n (want K) k (token p (word w) ∷ xs) ≡ refused (Misplaced p)
two_wanted n p k K w xs e = misplaced n p k (want K) (word w) xs (want_word_lem K w Two e)

pub close_wanted : (n p k : ℕ) (K : Context unit) (xs : List Item) → runs n (want K) k (token p Close ∷ xs) ≡ refused (Misplaced p)
close_wanted n p k K xs = misplaced n p k (want K) Close xs (want_close K)

-- behind a rule's first unit
pub two_in : (n p k : ℕ) (t : Tree) (K : Context rule) (w : Word) (xs : List Item) → takes w ≡ Two → depth K ≤ max_depth → k < max_words → runs n (had t K) k (token p (word w) ∷ xs) ≡ runs n (want (second w t K)) (k + 1) xs
two_in n p k t K w xs e d few =
    moves n p k (had t K) (want (second w t K)) (word w) xs (had_two t K w e) (omega (arith, second_depth w t K)) few
    ∙ ap (λ j. runs n (want (second w t K)) j xs) (sym (add-one k))

pub two_many : (n p k : ℕ) (t : Tree) (K : Context rule) (w : Word) (xs : List Item) → takes w ≡ Two → depth K ≤ max_depth → k ≡ max_words → runs n (had t K) k (token p (word w) ∷ xs) ≡ refused (TooManyWords p)
two_many n p k t K w xs e d many = too_many n p k (had t K) (want (second w t K)) (word w) xs (had_two t K w e) (omega (arith, second_depth w t K)) (omega arith)

-- from where a rule is wanted to behind its first unit
pub had_run : (n deep k j : ℕ) (xs ys zs : List Item) (t : Tree) → ((K : Context unit) → depth K + deep ≡ max_depth → runs n (want K) k xs ≡ runs n (unit_done K t) j ys) → ys ≡ zs → (K : Context rule) → depth K + deep ≡ max_depth → runs n (want (first K)) k xs ≡ runs n (had t K) j zs
had_run n deep k j xs ys zs t go e K h = go (first K) (omega (arith, first_depth K)) ∙ ap₂ (λ S z. runs n S j z) (first_done K t) e

-- and on to where its second unit is wanted; m is the text's length once more, and i counts the two-sided word
pub want_second : (n deep k j i m p : ℕ) (xs zs : List Item) (t : Tree) (w : Word) → ((K : Context rule) → depth K + deep ≡ max_depth → runs n (want (first K)) k xs ≡ runs n (had t K) j (token p (word w) ∷ zs)) → takes w ≡ Two → m ≡ n → i ≡ j + 1 → i ≤ max_words → (K : Context rule) → depth K + deep ≡ max_depth → runs n (want (first K)) k xs ≡ runs m (want (second w t K)) i zs
want_second n deep k j i m p xs zs t w go e same more few K h =
    go K h ∙ two_in n p j t K w zs e (omega arith) (omega arith)
    ∙ ap₂ (λ l x. runs l (want (second w t K)) x zs) (sym same) (sym more)

no_word : (x : Token) → ((w : Word) → x ≡ word w → ⊥) → NoTwo x
no_word Open h = tt
no_word Close h = tt
no_word (word w) h = absurd (h w refl)

pub alone_by_token : (n k : ℕ) (t : Tree) (K : Context rule) (p : Placed) (ys : List Item) → ((w : Word) → p.token ≡ word w → ⊥) → runs n (had t K) k (token p.place p.token ∷ ys) ≡ runs n (full t K) k (token p.place p.token ∷ ys)
alone_by_token n k t K p ys h = as_full n p.place k t K p.token ys (no_word p.token h)

pub alone_by_word : (n k : ℕ) (t : Tree) (K : Context rule) (p : Placed) (w : Word) (ys : List Item) → p.token ≡ word w → (takes w ≡ Two → ⊥) → runs n (had t K) k (token p.place p.token ∷ ys) ≡ runs n (full t K) k (token p.place p.token ∷ ys)
alone_by_word n k t K p w ys e h = as_full n p.place k t K p.token ys (subst NoTwo (sym e) h)

-- a rule whose last unit stands, by the answer on the token behind it
pub rule_by_next : (deep : ℕ) (xs zs : List Item) (p q : Parser) (t : Tree) (r : Result (Option Placed) TextFault) → ((K : Context rule) → depth K + deep ≡ max_depth → runs (bytes p) (want (first K)) p.draft.words xs ≡ runs (bytes p) (full t K) q.draft.words zs) → Grown p.draft q.draft t → SameText p q → Next zs r (left q.lexer) → ReadRule deep xs p r q
rule_by_next deep xs zs p q t (Ok None) go g s a = (t, (λ K h. go K h ∙ ap (runs (bytes p) (full t K) q.draft.words) a.0 ∙ at_end (bytes p) q.draft.words (full t K)), g, s)
rule_by_next deep xs zs p q t (Ok (Some x)) go g s a = (t, (λ K h. go K h ∙ ap (runs (bytes p) (full t K) q.draft.words) a), g, s)
rule_by_next deep xs zs p q t (Err f) go g s a = ((λ K h. go K h ∙ ap (runs (bytes p) (full t K) q.draft.words) a.1 ∙ at_bad (bytes p) q.draft.words (full t K) f a.0), s)

-- how a draft grows
pub size_some : (t : Tree) → 1 ≤ size t
size_some (leaf w) = omega arith
size_some (one w t) = omega arith
size_some (two w l r) = omega arith

-- the node of a word behind those of its operands
pub record Pushed (m e : Draft) (w : Word) (left : ℕ) : Type 0 where
  pub pushed : elements e.nodes ≡ elements m.nodes ++ node w left ∷ []
  pub words : e.words ≡ m.words

-- one word more is counted
pub record Counted (d m : Draft) : Type 0 where
  pub same : m.nodes ≡ d.nodes
  pub words : m.words ≡ d.words + 1

same_held : {d m : Draft} → Counted d m → elements m.nodes ≡ elements d.nodes
same_held c = ap elements c.same

pushed_len : {m e : Draft} {w : Word} {left : ℕ} → Pushed m e w left → length (elements e.nodes) ≡ length (elements m.nodes) + 1
pushed_len {m} {w = w} {left = left} p = ap length p.pushed ∙ length-append (elements m.nodes) (node w left ∷ [])

pub grown_leaf : {d m e : Draft} {w : Word} → Counted d m → Pushed m e w 0 → Grown d e (leaf w)
unfolding nodes
grown_leaf {d} {m} {e} {w} c p =
    record { added = p.pushed ∙ ap (λ x. x ++ node w 0 ∷ []) (same_held c); len = pushed_len p ∙ ap (λ x. length x + 1) (same_held c); words = p.words ∙ c.words }

pub grown_one : {d m u e : Draft} {w : Word} {t : Tree} → Counted d m → Grown m u t → Pushed u e w 0 → Grown d e (one w t)
unfolding nodes
grown_one {d} {m} {u} {e} {w} {t} c g p =
    record {
      added = p.pushed ∙ ap (λ x. x ++ node w 0 ∷ []) (g.added ∙ ap (λ x. x ++ nodes (length x) t) (same_held c)) ∙ append_assoc (elements d.nodes) (nodes (length (elements d.nodes)) t) (node w 0 ∷ []);
      len = omega (arith, pushed_len p, g.len, ap length (same_held c));
      words = omega (arith, p.words, g.words, c.words);
    }

pub grown_two : {d l m u e : Draft} {w : Word} {t s : Tree} {left : ℕ} → Grown d l t → Counted l m → Grown m u s → Pushed u e w left → left ≡ length (elements l.nodes) - 1 → Grown d e (two w t s)
unfolding nodes
grown_two {d} {l} {m} {u} {e} {w} {t} {s} {left} f c g p z =
    let k : ℕ = length (elements d.nodes) in
    let at : length (elements m.nodes) ≡ k + size t = ap length (same_held c) ∙ f.len in
    let place : left ≡ k + size t - 1 = z ∙ ap (λ n. n - 1) f.len in
    let before : elements m.nodes ≡ elements d.nodes ++ nodes k t = same_held c ∙ f.added in
    record {
      added =
          p.pushed ∙ ap₂ (λ x i. x ++ node w i ∷ []) (g.added ∙ ap₂ (λ x n. x ++ nodes n s) before at) place
          ∙ append_assoc (elements d.nodes ++ nodes k t) (nodes (k + size t) s) (node w (k + size t - 1) ∷ [])
          ∙ append_assoc (elements d.nodes) (nodes k t) (nodes (k + size t) s ++ node w (k + size t - 1) ∷ []);
      len = omega (arith, pushed_len p, g.len, at);
      words = omega (arith, p.words, g.words, c.words, f.words);
    }
