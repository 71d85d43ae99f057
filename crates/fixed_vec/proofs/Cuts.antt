-- Lists that are cut at a length.
use Rattle.std.proofs.Common.{◌≡◌, ℕ, ◌+◌, ◌-◌, ◌≤◌, min, List, ◌++◌, length, take, drop, sym, refl, ap, ◌∙◌, inl, inr, append_assoc, arith, length-append, length-drop, take_all, take-take, take_at}
use borrow.Rule.Slice.PartMut.{put_mid}
use lib.Seq.{take-append-add, take-append-le, drop-append-add}
use Rattle.std.proofs.lemmas.List.{length-take, length-take-le, drop-drop}
use Rattle.std.proofs.lemmas.Slice.{put_mid-paste}
use Rattle.std.proofs.lemmas.Bool.{cases_lt}
use Rattle.fixed_vec.specs.Elements.{joined}

-- no more of a list than there is
take_within : {T : Type 0} → (n k : ℕ) (s : List T) → k ≡ min n (length s) → take k s ≡ take n s
take_within n k s e = elim (cases_lt (length s) n) [
  | inl h ↦ take_all k s (omega arith) ∙ sym (take_all n s (omega arith))
  | inr h ↦ let same : k ≡ n = omega arith in ap (λ i. take i s) same
]

-- a cut behind a first part
take_behind : {T : Type 0} → (n : ℕ) (s t : List T) → length s ≤ n → take n (s ++ t) ≡ s ++ take (n - length s) t
take_behind n s t h =
    let e : n ≡ length s + (n - length s) = omega arith in
    ap (λ k. take k (s ++ t)) e ∙ take-append-add s t (n - length s)

-- what `put` writes: the first m elements of the buffer stay, and n of the piece come behind them
pub joined_is : {T : Type 0} → (buffer piece : List T) (at m n : ℕ) → m ≡ min at (length buffer) → n ≡ min (length piece) (length buffer - m) → joined buffer at piece ≡ take m buffer ++ take n piece
unfolding joined
joined_is buffer piece at m n e f =
    let front : take m buffer ≡ take at buffer = take_within at m buffer e in
    let long : length (take m buffer) ≡ m = length-take-le m buffer (omega arith) in
    let back : take n piece ≡ take (length buffer - length (take m buffer)) piece = take_within _ n piece (omega arith) in
    rw (← front, take_behind (length buffer) (take m buffer) piece (omega arith)) (ap (λ p. take m buffer ++ p) (sym back))

pub length_joined : {T : Type 0} → (buffer piece : List T) (at m n : ℕ) → m ≡ min at (length buffer) → n ≡ min (length piece) (length buffer - m) → m + n ≡ length (joined buffer at piece)
length_joined buffer piece at m n e f =
    let long = length-take-le m buffer (omega arith) in
    let short = length-take-le n piece (omega arith) in
    rw (joined_is buffer piece at m n e f) (simp length-append (omega arith))

pub put_memory : {T : Type 0} → (buffer piece part : List T) (at m n : ℕ) → m ≡ min at (length buffer) → n ≡ min (length piece) (length buffer - m) → part ≡ take n piece → put_mid m (m + n - m) buffer part ≡ joined buffer at piece ++ drop (m + n) buffer
put_memory buffer piece part at m n e f p =
    let short = length-take-le n piece (omega arith) in
    put_mid-paste m (m + n - m) buffer part (take n piece) n p (omega arith) (omega arith)
    ∙ rw (joined_is buffer piece at m n e f, take-take n n piece (omega arith))

-- what stands in the front of a buffer after `put`
pub take_put : {T : Type 0} → (buffer next piece : List T) (at r : ℕ) → r ≡ length (joined buffer at piece) → next ≡ joined buffer at piece ++ drop r buffer → take r next ≡ joined buffer at piece
take_put buffer next piece at r e f = rw f (take_at (joined buffer at piece) (drop r buffer) r (sym e))

pub length_joined_le : {T : Type 0} → (buffer piece : List T) (at : ℕ) → length (joined buffer at piece) ≤ length buffer
unfolding joined
length_joined_le buffer piece at = rw length-take (omega arith)

-- pieces that are cut on the way are what the whole is, cut once
pub cut_cut : {T : Type 0} → (n : ℕ) (xs ys : List T) → take n (take n xs ++ ys) ≡ take n (xs ++ ys)
cut_cut n xs ys = elim (cases_lt (length xs) n) [
  | inl h ↦ ap (λ zs. take n (zs ++ ys)) (take_all n xs (omega arith))
  | inr h ↦
      let long : length (take n xs) ≡ n = length-take-le n xs h in
      take_at (take n xs) ys n long ∙ sym (take-append-le n xs ys h)
]

-- what is left of the buffer behind the first piece
pub drop_behind : {T : Type 0} → (xs ys : List T) (s : ℕ) → length xs ≤ s → drop s (xs ++ drop (length xs) ys) ≡ drop s ys
drop_behind xs ys s h =
    let e : length xs + (s - length xs) ≡ s = omega arith in
    ap (λ k. drop k (xs ++ drop (length xs) ys)) (sym e) ∙ drop-append-add xs (drop (length xs) ys) (s - length xs) ∙ drop-drop (s - length xs) (length xs) ys ∙ ap (λ k. drop k ys) e

-- one piece put behind another is both, put together
pub joined_more : {T : Type 0} → (old a b : List T) (at : ℕ) → joined (joined old at a ++ drop (length (joined old at a)) old) (length (joined old at a)) b ≡ joined old at (a ++ b)
unfolding joined
joined_more old a b at =
    let n = length old in
    let front = take n (take at old ++ a) in
    let r = length front in
    let short : r ≤ n = simp length-take (omega arith) in
    let long : length (front ++ drop r old) ≡ n = simp (length-append, length-drop) (omega arith) in
    let cut : take r (front ++ drop r old) ≡ front = take_at front (drop r old) r refl in
    ap (λ k. take k (take r (front ++ drop r old) ++ b)) long ∙ ap (λ zs. take n (zs ++ b)) cut ∙ cut_cut n (take at old ++ a) b ∙ ap (take n) (append_assoc (take at old) a b)

pub longer : {T : Type 0} → (old a b : List T) (at : ℕ) → length (joined old at a) ≤ length (joined old at (a ++ b))
unfolding joined
longer old a b at = simp (length-take, length-append) (omega arith)
