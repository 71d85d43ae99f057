-- The search of the table finds a word just where the bytes are that word's, so no bytes name two words.
use Rattle.std.proofs.Common.{◌≡◌, ℕ, zero, suc, ◌^◌, ◌<◌, ◌≤◌, Bool, true, false, cond, is_some, ◌&&◌, eqb, leb, List, [], ◌∷◌, ◌++◌, map, length, get_or, Some, None, decimal, Option, sym, refl, ap, ◌∙◌, subst, arith, lit<, MatchOption}
use Rattle.std.specs.Str.Parse.{digits_value}
use Rattle.std.specs.Char.{is_ascii_digit}
use Rattle.std.specs.Str.{all_ascii_digits}
use Rattle.std.proofs.lemmas.Fmt.{decimal-digits_value, digits_value-decimal, digits_decimal, first_decimal, decimal_nonempty, decimal_digit}
use Rattle.std.proofs.lemmas.Bool.{leb-true, le-leb, eqb-true, eq-eqb, ne_eqb, and_parts, and_from, false≢true, both_ways, not-true, not_from_false}
use Rattle.words.proofs.Spelling.{own, Bounded, bounded}
use Rattle.words.specs.Words.{Numbering, bare, within, text, numbering, suffix, Allowed, Names}
use Rattle.words.specs.Lookup.{starts_number, is_numeral, numbered, numbering_of, behind, Line, line, fit, or_else, seek, operators, lookup}
use Rattle.words.specs.declared.Numbers.{Numbers}
use Rattle.words.specs.declared.Word.{Word}
use Rattle.words.specs.declared.Operator.{Operator}
use Rattle.words.specs.declared.Operator.TheVariants.{And, Or, Implies, Since, Rsince, Not, Before, Rbefore, Once, Ronce, Always, Ralways, Rise, Fall, True, False, Step, Call, Begin, End, Return, Predicate, Routine}

starts_parts : (ds : List ℕ) → starts_number ds ≡ true → (0 < length ds) × (get_or ds 0 0 ≡ 48 → length ds ≡ 1)
starts_parts [] h = absurd (false≢true h)
starts_parts (b ∷ []) h = (omega arith, λ e. refl)
starts_parts (b ∷ (c ∷ bs)) h = (omega arith, λ e. absurd (both_ways (eqb b 48) (not-true (eqb b 48) h) (eq-eqb b 48 e)))

starts_from : (ds : List ℕ) → 0 < length ds → (get_or ds 0 0 ≡ 48 → length ds ≡ 1) → starts_number ds ≡ true
starts_from [] h z = absurd (omega arith)
starts_from (b ∷ []) h z = refl
starts_from (b ∷ (c ∷ bs)) h z = not_from_false (eqb b 48) (ne_eqb b 48 (λ e. let one : length (b ∷ (c ∷ bs)) ≡ 1 = z e in omega arith))

-- a number's digits have no leading zero
numeral_decimal : (n : ℕ) → n < 2 ^ 64 → is_numeral (decimal n) ≡ true
numeral_decimal n h = and_from (starts_number (decimal n)) (all_ascii_digits (decimal n)) (starts_from (decimal n) (decimal_nonempty n h) (first n h)) (digits_decimal own n h)
  where
    first : (n : ℕ) → n < 2 ^ 64 → get_or (decimal n) 0 0 ≡ 48 → length (decimal n) ≡ 1
    first zero h e = ap length (decimal_digit 0 (omega arith))
    first (suc n) h e = absurd (omega (arith, first_decimal (suc n) (omega arith) h))

numbered_gives : (k : Numbering) → Bounded k → (ds : List ℕ) (n : ℕ) → numbered k ds ≡ Some n → Allowed k n × (suffix k n ≡ ds)
numbered_gives bare b [] n e = (cc, refl)
numbered_gives bare b (d ∷ ds) n e = let z : ◌≡◌ {A = ℕ} 0 1 = cc in absurd (omega arith)
numbered_gives (within low high) b ds n e = go (is_numeral ds && (leb low (digits_value 10 ds) && leb (digits_value 10 ds) high)) refl e
  where
    go : (t : Bool) → (is_numeral ds && (leb low (digits_value 10 ds) && leb (digits_value 10 ds) high)) ≡ t → cond t (Some (digits_value 10 ds)) None ≡ Some n → ((low ≤ n) × (n ≤ high)) × (decimal n ≡ ds)
    go true p e =
        let v : digits_value 10 ds ≡ n = cc in
        let whole = and_parts (is_numeral ds) (leb low (digits_value 10 ds) && leb (digits_value 10 ds) high) p in
        let ends = and_parts (leb low (digits_value 10 ds)) (leb (digits_value 10 ds) high) whole.1 in
        let least : low ≤ digits_value 10 ds = leb-true low (digits_value 10 ds) ends.0 in
        let most : digits_value 10 ds ≤ high = leb-true (digits_value 10 ds) high ends.1 in
        let digits = and_parts (starts_number ds) (all_ascii_digits ds) whole.0 in
        let starts = starts_parts ds digits.0 in
        ((omega arith, omega arith), ap decimal (sym v) ∙ decimal-digits_value own ds digits.1 starts.0 starts.1 (omega arith))
    go false p e = let z : ◌≡◌ {A = ℕ} 0 1 = cc in absurd (omega arith)

numbered_suffix : (k : Numbering) → Bounded k → (n : ℕ) → Allowed k n → numbered k (suffix k n) ≡ Some n
numbered_suffix bare b n e = ap (λ m. Some m) (sym e)
numbered_suffix (within low high) b n h =
    let small : n < 2 ^ 64 = omega arith in
    rw (digits_value-decimal own n small, numeral_decimal n small, le-leb low n h.0, le-leb n high h.1)

-- bytes that fit a word's text begin with it
behind_gives : (k : Numbering) (ts bs : List ℕ) (n : ℕ) → behind k ts bs ≡ Some n → (ds : List ℕ) × (ts ++ ds ≡ bs) × (numbered k ds ≡ Some n)
behind_gives k [] bs n e = (bs, refl, e)
behind_gives k (t ∷ ts) [] n e = let z : ◌≡◌ {A = ℕ} 0 1 = cc in absurd (omega arith)
behind_gives k (t ∷ ts) (b ∷ bs) n e = go (behind_gives k ts bs n) (eqb t b) refl e
  where
    go : (behind k ts bs ≡ Some n → (ds : List ℕ) × (ts ++ ds ≡ bs) × (numbered k ds ≡ Some n)) → (r : Bool) → eqb t b ≡ r → cond r (behind k ts bs) None ≡ Some n → (ds : List ℕ) × ((t ∷ ts) ++ ds ≡ b ∷ bs) × (numbered k ds ≡ Some n)
    go later true p e = let f = later e in let same = eqb-true t b p in (f.0, cc f.1, f.2)
    go later false p e = let z : ◌≡◌ {A = ℕ} 0 1 = cc in absurd (omega arith)

behind_text : (k : Numbering) (ts ds : List ℕ) → behind k ts (ts ++ ds) ≡ numbered k ds
behind_text k [] ds = refl
behind_text k (t ∷ ts) ds = rw (eq-eqb t t refl) (behind_text k ts ds)

-- what the code does with a row: without the text in front nothing fits, and else what follows it decides
pub fit_none : (l : Line) (bs : List ℕ) → ((ds : List ℕ) → bs ≡ l.text ++ ds → ⊥) → fit l bs ≡ None
fit_none l bs h = go (fit l bs) refl
  where
    go : (r : Option ℕ) → fit l bs ≡ r → r ≡ None
    go None e = refl
    go (Some n) e = let f = behind_gives l.numbering l.text bs n e in absurd (h f.0 (sym f.1))

pub fit_rest : (l : Line) (bs ds : List ℕ) → bs ≡ l.text ++ ds → fit l bs ≡ numbered l.numbering ds
fit_rest l bs ds e = ap (fit l) e ∙ behind_text l.numbering l.text ds

-- the search answers with a line that the bytes fit
seek_gives : (os : List Operator) (bs : List ℕ) (w : Word) → seek (map line os) bs ≡ Some w → fit (line w.operator) bs ≡ Some w.number
seek_gives [] bs w e = let z : ◌≡◌ {A = ℕ} 0 1 = cc in absurd (omega arith)
seek_gives (o ∷ os) bs w e = go (seek_gives os bs w) (fit (line o) bs) refl e
  where
    go : (seek (map line os) bs ≡ Some w → fit (line w.operator) bs ≡ Some w.number) → (r : Option ℕ) → fit (line o) bs ≡ r → or_else o r (seek (map line os) bs) ≡ Some w → fit (line w.operator) bs ≡ Some w.number
    go later None p e = later e
    go later (Some n) p e =
        let found : ◌≡◌ {A = Word} (record { operator = o; number = n }) w = cc in
        subst (λ (v : Word). fit (line v.operator) bs ≡ Some v.number) found p

pub lookup_names : (bs : List ℕ) (w : Word) → lookup bs ≡ Some w → Names bs w
unfolding lookup
lookup_names bs w e =
    let k = numbering w.operator in
    let front = behind_gives k (text w.operator) bs w.number (seek_gives operators bs w e) in
    let rest = numbered_gives k (bounded w.operator) front.0 w.number front.2 in
    record { listed = rest.0; spelled = ap (λ ds. text w.operator ++ ds) rest.1 ∙ front.1 }

-- a digit is none of the letters
no_letter : (c d : ℕ) → 57 < c → d ≤ 57 → eqb c d ≡ false
no_letter c d l h = ne_eqb c d (λ e. omega arith)

-- at the bytes of a word, the whole search answers what the word's own row says
Found : Operator → Numbering → Type 0
Found o bare = lookup (text o ++ []) ≡ Some (record { operator = o; number = 0 })
Found o (within low high) = (d : ℕ) (ds : List ℕ) → d ≤ 57 → lookup (text o ++ (d ∷ ds)) ≡ or_else o (numbered (within low high) (d ∷ ds)) None

found : (o : Operator) → Found o (numbering o)
unfolding Found lookup
found = elim [ And ↦ refl | Or ↦ refl | Implies ↦ refl | Since ↦ refl | Rsince ↦ refl | Not ↦ refl | Before ↦ refl | Rbefore ↦ refl | Once ↦ refl | Ronce ↦ refl | Always ↦ refl | Ralways ↦ refl | Rise ↦ refl | Fall ↦ refl | True ↦ refl | False ↦ refl | Step ↦ refl | Call ↦ refl | Begin ↦ refl | End ↦ refl | Return ↦ refl | Predicate ↦ λ d ds h. refl | Routine ↦ λ d ds h. let off = λ (c : ℕ) (l : 57 < c). no_letter c d l h in rw (off 115 (lit< tt), off 98 (lit< tt), off 111 (lit< tt), off 97 (lit< tt), off 105 (lit< tt), off 101 (lit< tt)) ]

first_digit : (d : ℕ) (ds : List ℕ) → all_ascii_digits (d ∷ ds) ≡ true → d ≤ 57
first_digit d ds h =
    let a = and_parts (is_ascii_digit d) (all_ascii_digits ds) h in
    leb-true d 57 (and_parts (leb 48 d) (leb d 57) a.0).1

-- every listed word is found at its own bytes
spelled_found : (o : Operator) (n : ℕ) (k : Numbering) → Found o k → Bounded k → Allowed k n → lookup (text o ++ suffix k n) ≡ Some (record { operator = o; number = n })
unfolding Found
spelled_found o n bare f b e = f ∙ ap (λ m. Some (record { operator = o; number = m })) (sym e)
spelled_found o n (within low high) f b h = go (decimal n) (decimal_nonempty n (omega arith)) (digits_decimal own n (omega arith)) (numbered_suffix (within low high) b n h)
  where
    go : (ds : List ℕ) → 0 < length ds → all_ascii_digits ds ≡ true → numbered (within low high) ds ≡ Some n → lookup (text o ++ ds) ≡ Some (record { operator = o; number = n })
    go [] l p e = absurd (omega arith)
    go (d ∷ ds) l p e = f d ds (first_digit d ds p) ∙ ap (λ r. or_else o r None) e

pub names_lookup : (bs : List ℕ) (w : Word) → Names bs w → lookup bs ≡ Some w
names_lookup bs w h =
    let o = w.operator in
    ap lookup (sym h.spelled) ∙ spelled_found o w.number (numbering o) (found o) (bounded o) h.listed

-- so two words with one spelling are the same word
pub one_name : (bs : List ℕ) (v w : Word) → Names bs v → Names bs w → v ≡ w
one_name bs v w g h = let f = names_lookup bs v g in let k = names_lookup bs w h in cc

-- what the search says in the words of the contract
pub lookup_cases : (bs : List ℕ) (r : Option Word) → r ≡ lookup bs → MatchOption r ((w : Word) → Names bs w → ⊥) (λ w. Names bs w)
lookup_cases bs None e = λ w h. let f = names_lookup bs w h in let z : ◌≡◌ {A = ℕ} 0 1 = cc in omega arith
lookup_cases bs (Some w) e = lookup_names bs w (sym e)

-- whether a number follows a word so numbered: just where its row has numbers
abbrev pub follows : Numbering → Bool
follows k = elim k [ bare ↦ false | within low high ↦ true ]

pub some_follows : (ns : Option Numbers) → is_some ns ≡ follows (numbering_of ns)
some_follows None = refl
some_follows (Some ns) = refl
