-- The machine's outcome is what the grammar and its refusals say of the text, and nothing else.
use Rattle.std.proofs.Common.{◌≡◌, ℕ, ◌+◌, ◌<◌, ◌≤◌, Bool, true, false, cond, leb, List, [], ◌∷◌, ◌++◌, length, Some, None, Option, sym, refl, ap, ◌∙◌, subst, inl, inr, append_assoc, append-nil, arith, le-leb, leb-false, leb-true}
use borrow.Author.Tests.{lt-leb}
use Rattle.words.specs.Words.{Names}
use Rattle.words.specs.Lookup.{lookup}
use Rattle.words.specs.declared.Word.{Word}
use Rattle.words.proofs.Lookup.{lookup_names, names_lookup}
use Rattle.grammar.specs.Limits.{max_text, max_depth, max_words}
use Rattle.grammar.specs.Lexemes.{Lexeme, opens, closes, run, stray, Placed, lexemes, Means, means_open, means_close, means_word, Spells, none, more}
use Rattle.grammar.specs.Grammar.{Tree, IsRule, Begins, any_depth, in_depth, words}
use Rattle.grammar.specs.Refusals.{Accepts, Clean, Earns, bad_byte, unknown_word, misplaced, too_deep, too_many_words, Refused, too_long, at_piece, ends_early}
use Rattle.grammar.specs.Machine.{token, word_item, lexeme_item, items_of, items, whole, inside, State, want, had, full, state_depth, step, Outcome, accepted, refused, ends, counted, goes_on, runs, start, outcome}
use Rattle.grammar.specs.declared.Token.{Token}
use Rattle.grammar.specs.declared.Token.TheVariants.{Open, Close, Word as word}
use Rattle.grammar.specs.declared.TextFault.{TextFault}
use Rattle.grammar.specs.declared.TextFault.TheVariants.{TooLong, UnknownWord, Misplaced, EndsEarly, TooDeep, TooManyWords}
use Rattle.grammar.proofs.Counts.{counted_words, words_last}
use Rattle.grammar.proofs.Walks.{Goes, stays, takes_on, goes_append, goes_once, goes_wider, Stands, none_some, some_inj}
use Rattle.grammar.proofs.Rests.{is_rule}
use Rattle.grammar.proofs.Begins.{any_limit, in_limit, rule_goes, begins_goes, goes_begins, step_begins, begins_step}

-- an outcome that the grammar and its refusals bear out
abbrev pub Right : List ℕ → Outcome → Type 0
Right text (accepted t) = Accepts text t
Right text (refused f) = Refused text f

abbrev IsRefused : Outcome → Type 0
IsRefused (accepted t) = ⊥
IsRefused (refused f) = Unit {0}

refused_accepted : {f : TextFault} {t : Tree} → refused f ≡ accepted t → ⊥
refused_accepted e = subst IsRefused e tt

abbrev tree_or : Tree → Outcome → Tree
tree_or t (accepted u) = u
tree_or t (refused f) = t

accepted_inj : {t u : Tree} → accepted t ≡ accepted u → t ≡ u
accepted_inj {t} e = ap (tree_or t) e

-- the four ways in which a token fares
module _ (at k : ℕ) (next : State → Outcome) {o : Option State} where
  goes_nowhere : o ≡ None → goes_on at k o next ≡ refused (Misplaced at)
  goes_nowhere e = ap (λ M. goes_on at k M next) e

  module _ {T : State} (e : o ≡ Some T) where
    goes_deep : max_depth < state_depth T → goes_on at k o next ≡ refused (TooDeep at)
    goes_deep h =
        ap (λ M. goes_on at k M next) e ∙ ap (λ b. cond b (cond (leb k max_words) (next T) (refused (TooManyWords at))) (refused (TooDeep at))) (lt-leb (state_depth T) max_depth h)

    goes_level : state_depth T ≤ max_depth → goes_on at k o next ≡ cond (leb k max_words) (next T) (refused (TooManyWords at))
    goes_level h =
        ap (λ M. goes_on at k M next) e ∙ ap (λ b. cond b (cond (leb k max_words) (next T) (refused (TooManyWords at))) (refused (TooDeep at))) (le-leb (state_depth T) max_depth h)

    goes_many : state_depth T ≤ max_depth → max_words < k → goes_on at k o next ≡ refused (TooManyWords at)
    goes_many h many = goes_level h ∙ ap (λ b. cond b (next T) (refused (TooManyWords at))) (lt-leb k max_words many)

    goes_on_lem : state_depth T ≤ max_depth → k ≤ max_words → goes_on at k o next ≡ next T
    goes_on_lem h few = goes_level h ∙ ap (λ b. cond b (next T) (refused (TooManyWords at))) (le-leb k max_words few)

stands_ends : (n : ℕ) (t : Tree) (S : State) → Stands whole t S → ends n S ≡ accepted t
stands_ends n t S (inl e) = ap (ends n) e
stands_ends n t S (inr e) = ap (ends n) e

spells_last : {xs : List Placed} {ts : List Token} (x : Placed) {a : Token} → Spells xs ts → Means x.lexeme a → Spells (xs ++ x ∷ []) (ts ++ a ∷ [])
spells_last x none m = more m none
spells_last x (more m' s) m = more m' (spells_last x s m)

module _ (text : List ℕ) (short : length text ≤ max_text) where
  -- the machine is in the state S with k words read, at the pieces xs of the text
  record Reached (xs : List Placed) (S : State) (k : ℕ) : Type 0 where
    before : List Placed
    tokens : List Token
    cut : lexemes 0 text ≡ before ++ xs
    spelled : Spells before tokens
    goes : Goes in_depth start tokens S
    count : words tokens ≡ k
    few : k ≤ max_words

  clean : {xs : List Placed} {S : State} {k : ℕ} (r : Reached xs S k) → Clean r.tokens
  clean r = record { begins = goes_begins in_depth in_limit r.goes; few = subst (λ n. n ≤ max_words) (sym r.count) r.few }

  all_spelled : {S : State} {k : ℕ} (r : Reached [] S k) → Spells (lexemes 0 text) r.tokens
  all_spelled r = subst (λ l. Spells l r.tokens) (sym (r.cut ∙ append-nil r.before)) r.spelled

  accept : {S : State} {k : ℕ} (t : Tree) → Reached [] S k → Stands whole t S → Accepts text t
  accept t r s = record { short = short; tokens = r.tokens; spelled = all_spelled r; reads = is_rule in_depth t r.goes s; few = (clean r).few }

  early : {S : State} {k : ℕ} → Reached [] S k → ((t : Tree) → ends (length text) S ≡ accepted t → ⊥) → Refused text (EndsEarly (length text))
  early {S} r never = ends_early short (all_spelled r) (clean r) λ t i.
      let g = rule_goes in_depth in_limit i in
      never t (stands_ends (length text) t S (subst (Stands whole t) (goes_once g.1 r.goes) g.2))

  ends_right : {k : ℕ} (S : State) → Reached [] S k → Right text (ends (length text) S)
  ends_right (want K) r = early r (λ t. refused_accepted)
  ends_right (had t whole) r = accept t r (inl refl)
  ends_right (had t (inside K)) r = early r (λ t. refused_accepted)
  ends_right (full t whole) r = accept t r (inr refl)
  ends_right (full t (inside K)) r = early r (λ t. refused_accepted)

  module _ {x : Placed} {xs : List Placed} {S : State} {k : ℕ} (r : Reached (x ∷ xs) S k) where
    earned : {f : TextFault} → Earns r.tokens x f → Refused text f
    earned f = at_piece r.before x xs short r.cut r.spelled (clean r) f

    module _ {a : Token} (m : Means x.lexeme a) where
      no_step : step S a ≡ None → Begins any_depth (r.tokens ++ a ∷ []) → ⊥
      no_step e b = none_some (sym e ∙ (begins_step any_depth any_limit a r.goes b).1)

      module _ (T : State) (e : step S a ≡ Some T) where
        any_begins : Begins any_depth (r.tokens ++ a ∷ [])
        any_begins = step_begins any_depth any_limit a (goes_wider (λ d o. tt) r.goes) e tt

        in_begins : state_depth T ≤ max_depth → Begins in_depth (r.tokens ++ a ∷ [])
        in_begins o = step_begins in_depth in_limit a r.goes e o

        too_deep_for : max_depth < state_depth T → Begins in_depth (r.tokens ++ a ∷ []) → ⊥
        too_deep_for deep b =
            let l = begins_step in_depth in_limit a r.goes b in
            let fits : state_depth T ≤ max_depth = subst (λ A. state_depth A ≤ max_depth) (some_inj (sym l.1 ∙ e)) l.2 in
            omega arith

        count_last : words (r.tokens ++ a ∷ []) ≡ counted a k
        count_last = words_last r.tokens a ∙ ap (counted a) r.count

        reached : state_depth T ≤ max_depth → counted a k ≤ max_words → Reached xs T (counted a k)
        reached o f = record { before = r.before ++ x ∷ []; tokens = r.tokens ++ a ∷ []; cut = r.cut ∙ sym (append_assoc r.before (x ∷ []) xs); spelled = spells_last x r.spelled m; goes = goes_append r.goes (takes_on e o stays); count = count_last; few = f }

      module _ (next : State → ℕ → Outcome) (right : (T : State) (j : ℕ) → Reached xs T j → Right text (next T j)) where
        tested : (T : State) → step S a ≡ Some T → (b : Bool) → leb (state_depth T) max_depth ≡ b → (c : Bool) → leb (counted a k) max_words ≡ c → Right text (cond b (cond c (next T (counted a k)) (refused (TooManyWords x.place))) (refused (TooDeep x.place)))
        tested T e false p c q = earned (too_deep m (any_begins T e) (too_deep_for T e (leb-false (state_depth T) max_depth p)))
        tested T e true p false q = earned (too_many_words m (in_begins T e (leb-true (state_depth T) max_depth p)) (subst (λ n. max_words < n) (sym (count_last T e)) (leb-false (counted a k) max_words q)))
        tested T e true p true q = right T (counted a k) (reached T e (leb-true (state_depth T) max_depth p) (leb-true (counted a k) max_words q))

        taken : (o : Option State) → step S a ≡ o → Right text (goes_on x.place (counted a k) o (λ T. next T (counted a k)))
        taken None e = earned (misplaced m (no_step e))
        taken (Some T) e = tested T e (leb (state_depth T) max_depth) refl (leb (counted a k) max_words) refl

    module _ (right : (T : State) (j : ℕ) → Reached xs T j → Right text (runs (length text) T j (items_of xs))) where
      token_right : (a : Token) → Means x.lexeme a → Right text (runs (length text) S k (token x.place a ∷ items_of xs))
      unfolding runs
      token_right a m = taken m (λ T j. runs (length text) T j (items_of xs)) right (step S a) refl

      means : (a : Token) (l : Lexeme) → x.lexeme ≡ l → Means l a → Means x.lexeme a
      means a l e m = subst (λ y. Means y a) (sym e) m

      word_right : (bs : List ℕ) → x.lexeme ≡ run bs → (o : Option Word) → lookup bs ≡ o → Right text (runs (length text) S k (word_item x.place o ∷ items_of xs))
      unfolding runs
      word_right bs l None e = earned (unknown_word l (λ w n. none_some (sym e ∙ names_lookup bs w n)))
      word_right bs l (Some w) e = token_right (word w) (means (word w) (run bs) l (means_word (lookup_names bs w e)))

      piece_right : (l : Lexeme) → x.lexeme ≡ l → Right text (runs (length text) S k (lexeme_item x.place l ∷ items_of xs))
      unfolding runs
      piece_right opens e = token_right Open (means Open opens e means_open)
      piece_right closes e = token_right Close (means Close closes e means_close)
      piece_right (run bs) e = word_right bs e (lookup bs) refl
      piece_right (stray b) e = earned (bad_byte e)

  runs_right : (xs : List Placed) (S : State) (k : ℕ) → Reached xs S k → Right text (runs (length text) S k (items_of xs))
  unfolding runs items_of
  runs_right [] S k r = ends_right S r
  runs_right (x ∷ xs) S k r = piece_right r (λ T j. runs_right xs T j) x.lexeme refl

  at_start : Reached (lexemes 0 text) start 0
  at_start = record { before = []; tokens = []; cut = refl; spelled = none; goes = stays; count = refl; few = omega arith }

outcome_right : (text : List ℕ) → Right text (outcome text)
unfolding outcome
outcome_right text = by (leb (length text) max_text) refl
  where
    by : (b : Bool) → leb (length text) max_text ≡ b → Right text (cond b (runs (length text) start 0 (items 0 text)) (refused TooLong))
    by true e =
        let short = leb-true (length text) max_text e in
        runs_right text short (lexemes 0 text) start 0 (at_start text short)
    by false e = too_long (leb-false (length text) max_text e)

pub accepted_sound : (text : List ℕ) (t : Tree) → outcome text ≡ accepted t → Accepts text t
accepted_sound text t e = subst (Right text) e (outcome_right text)

pub refused_sound : (text : List ℕ) (f : TextFault) → outcome text ≡ refused f → Refused text f
refused_sound text f e = subst (Right text) e (outcome_right text)

item_means : (at : ℕ) {l : Lexeme} {a : Token} → Means l a → lexeme_item at l ≡ token at a
item_means at means_open = refl
item_means at means_close = refl
item_means at (means_word {bs = bs} {w = w} n) = ap (word_item at) (names_lookup bs w n)

-- the machine takes clean tokens
module _ (n : ℕ) where
  at_token : (S : State) (k : ℕ) (x : Placed) (xs : List Placed) (a : Token) → Means x.lexeme a → runs n S k (items_of (x ∷ xs)) ≡ goes_on x.place (counted a k) (step S a) (λ T. runs n T (counted a k) (items_of xs))
  unfolding runs items_of
  at_token S k x xs a m = ap (λ i. runs n S k (i ∷ items_of xs)) (item_means x.place m)

  takes_token : (S : State) {T : State} (k : ℕ) (x : Placed) (xs : List Placed) (a : Token) → Means x.lexeme a → step S a ≡ Some T → state_depth T ≤ max_depth → counted a k ≤ max_words → runs n S k (items_of (x ∷ xs)) ≡ runs n T (counted a k) (items_of xs)
  takes_token S {T} k x xs a m e o f = at_token S k x xs a m ∙ goes_on_lem x.place (counted a k) (λ T. runs n T (counted a k) (items_of xs)) e o f

  takes_all : {before : List Placed} {ts : List Token} {S T : State} → Spells before ts → Goes in_depth S ts T → (xs : List Placed) (k : ℕ) → k + words ts ≤ max_words → runs n S k (items_of (before ++ xs)) ≡ runs n T (k + words ts) (items_of xs)
  takes_all {S = S} none stays xs k f = ap (λ j. runs n S j (items_of xs)) (omega arith)
  takes_all {T = T} (more {x = x} {t = a} {xs = ys} {ts = ts} m s) (takes_on {S = S} e o g) xs k f =
      let c : counted a k + words ts ≡ k + words (a ∷ ts) = counted_words a k ts in
      let all_few : counted a k + words ts ≤ max_words = omega arith in
      let few : counted a k ≤ max_words = omega arith in
      takes_token S k x (ys ++ xs) a m e o few ∙ takes_all s g xs (counted a k) all_few ∙ ap (λ j. runs n T j (items_of xs)) c

-- a text that is not too long, up to the pieces xs
up_to : (text : List ℕ) {before : List Placed} (xs : List Placed) {ts : List Token} {S : State} → length text ≤ max_text → lexemes 0 text ≡ before ++ xs → Spells before ts → Goes in_depth start ts S → words ts ≤ max_words → outcome text ≡ runs (length text) S (words ts) (items_of xs)
unfolding outcome
up_to text xs {ts = ts} {S = S} short cut s g few =
    let n = length text in
    let fits : 0 + words ts ≤ max_words = omega arith in
    ap (λ b. cond b (runs n start 0 (items 0 text)) (refused TooLong)) (le-leb n max_text short)
    ∙ ap (λ l. runs n start 0 (items_of l)) cut
    ∙ takes_all n s g xs 0 fits
    ∙ ap (λ j. runs n S j (items_of xs)) (omega arith)

pub accepted_complete : (text : List ℕ) (t : Tree) → Accepts text t → outcome text ≡ accepted t
unfolding runs items_of
accepted_complete text t a =
    let g = rule_goes in_depth in_limit a.reads in
    up_to text [] a.short (sym (append-nil (lexemes 0 text))) a.spelled g.1 a.few ∙ stands_ends (length text) t g.0 g.2

-- a piece that earns a refusal gets it
module _ (n : ℕ) {ts : List Token} {S : State} (g : Goes in_depth start ts S) (x : Placed) (xs : List Placed) where
  unknown : (bs : List ℕ) → x.lexeme ≡ run bs → ((w : Word) → Names bs w → ⊥) → (o : Option Word) → lookup bs ≡ o → runs n S (words ts) (items_of (x ∷ xs)) ≡ refused (UnknownWord x.place)
  unfolding runs items_of
  unknown bs l never None e = ap (λ y. runs n S (words ts) (lexeme_item x.place y ∷ items_of xs)) l ∙ ap (λ o. runs n S (words ts) (word_item x.place o ∷ items_of xs)) e
  unknown bs l never (Some w) e = absurd (never w (lookup_names bs w e))

  nowhere : (a : Token) → (Begins any_depth (ts ++ a ∷ []) → ⊥) → (o : Option State) → step S a ≡ o → step S a ≡ None
  nowhere a never None e = e
  nowhere a never (Some T) e = absurd (never (step_begins any_depth any_limit a (goes_wider (λ d o. tt) g) e tt))

  earns_refused : {f : TextFault} → Earns ts x f → runs n S (words ts) (items_of (x ∷ xs)) ≡ refused f
  unfolding runs items_of
  earns_refused (bad_byte l) = ap (λ y. runs n S (words ts) (lexeme_item x.place y ∷ items_of xs)) l
  earns_refused (unknown_word {bs = bs} l never) = unknown bs l never (lookup bs) refl
  earns_refused (misplaced {t = a} m never) =
      at_token n S (words ts) x xs a m ∙ goes_nowhere x.place (counted a (words ts)) _ (nowhere a never (step S a) refl)
  earns_refused (too_deep {t = a} m b never) =
      let l = begins_step any_depth any_limit a g b in
      let high : state_depth l.0 ≤ max_depth → ⊥ = (λ h. never (step_begins in_depth in_limit a g l.1 h)) in
      at_token n S (words ts) x xs a m ∙ goes_deep x.place (counted a (words ts)) _ l.1 (omega arith)
  earns_refused (too_many_words {t = a} m b many) =
      let l = begins_step in_depth in_limit a g b in
      at_token n S (words ts) x xs a m ∙ goes_many x.place (counted a (words ts)) _ l.1 l.2 (subst (λ k. max_words < k) (words_last ts a) many)

ends_refused : (n : ℕ) {ts : List Token} (S : State) → Goes in_depth start ts S → ((t : Tree) → IsRule in_depth ts t → ⊥) → ends n S ≡ refused (EndsEarly n)
ends_refused n (want K) g never = refl
ends_refused n (had t whole) g never = absurd (never t (is_rule in_depth t g (inl refl)))
ends_refused n (had t (inside K)) g never = refl
ends_refused n (full t whole) g never = absurd (never t (is_rule in_depth t g (inr refl)))
ends_refused n (full t (inside K)) g never = refl

pub refused_complete : (text : List ℕ) (f : TextFault) → Refused text f → outcome text ≡ refused f
unfolding runs items_of outcome
refused_complete text _ (too_long h) = ap (λ b. cond b (runs (length text) start 0 (items 0 text)) (refused TooLong)) (lt-leb (length text) max_text h)
refused_complete text _ (at_piece {ts = ts} before x after short cut s clean e) =
    let g = begins_goes in_depth in_limit ts clean.begins in
    up_to text (x ∷ after) short cut s g.1 clean.few ∙ earns_refused (length text) g.1 x after e
refused_complete text _ (ends_early {ts = ts} short s clean never) =
    let g = begins_goes in_depth in_limit ts clean.begins in
    up_to text [] short (sym (append-nil (lexemes 0 text))) s g.1 clean.few ∙ ends_refused (length text) g.0 g.1 never

-- one text has one reading, and is not refused besides
pub one_reading : (text : List ℕ) (t u : Tree) → Accepts text t → Accepts text u → t ≡ u
one_reading text t u a b = accepted_inj (sym (accepted_complete text t a) ∙ accepted_complete text u b)

pub never_both : (text : List ℕ) (t : Tree) (f : TextFault) → Accepts text t → Refused text f → ⊥
never_both text t f a r = refused_accepted (sym (refused_complete text f r) ∙ accepted_complete text t a)
