-- Lists that stand in other lists from a place on.
--   At d l k xs        from place k on the list l has the items xs
--   writes l k xs      l with the items xs written from place k on
use Rattle.std.proofs.Common.{◌≡◌, ℕ, suc, ◌+◌, List, [], ◌∷◌, ◌++◌, length, get_or, set, sym, refl, ap, ◌∙◌, subst, append_assoc, arith, length-append}
use lib.Seq.{get_or_at, set_at}

module _ {V : Type 0} (d : V) where
  abbrev pub At : List V → ℕ → List V → Type 0
  At l k [] = Unit {0}
  At l k (x ∷ xs) = (get_or l k d ≡ x) × At l (suc k) xs

  pub at_moved : (l xs : List V) {k m : ℕ} → k ≡ m → At l k xs → At l m xs
  at_moved l xs e h = subst (λ i. At l i xs) e h

  pub at_front : (l xs ys : List V) (k : ℕ) → At l k (xs ++ ys) → At l k xs
  at_front l [] ys k h = tt
  at_front l (x ∷ xs) ys k h = (h.0, at_front l xs ys (suc k) h.1)

  pub at_rest : (l xs ys : List V) (k : ℕ) → At l k (xs ++ ys) → At l (k + length xs) ys
  at_rest l [] ys k h = at_moved l ys (omega arith) h
  at_rest l (x ∷ xs) ys k h = at_moved l ys (omega arith) (at_rest l xs ys (suc k) h.1)

  -- a list stands in its own place
  pub at_own : (pre xs post : List V) (k : ℕ) → length pre ≡ k → At (pre ++ (xs ++ post)) k xs
  at_own pre [] post k e = tt
  at_own pre (x ∷ xs) post k e = (get_or_at pre x (xs ++ post) d k e, subst (λ l. At l (suc k) xs) (append_assoc pre (x ∷ []) (xs ++ post)) (at_own (pre ++ x ∷ []) xs post (suc k) (omega (arith, length-append pre (x ∷ [])))))

module _ {V : Type 0} where
  abbrev pub writes : List V → ℕ → List V → List V
  writes l k [] = l
  writes l k (x ∷ xs) = writes (set l k x) (suc k) xs

  pub writes_append : (l : List V) (k : ℕ) (xs ys : List V) → writes l k (xs ++ ys) ≡ writes (writes l k xs) (k + length xs) ys
  writes_append l k [] ys = ap (λ i. writes l i ys) (omega arith)
  writes_append l k (x ∷ xs) ys = writes_append (set l k x) (suc k) xs ys ∙ ap (λ i. writes (writes (set l k x) (suc k) xs) i ys) (omega arith)

  -- as many items as there were
  pub writes_all : (pre old new : List V) (k : ℕ) → length pre ≡ k → length old ≡ length new → writes (pre ++ old) k new ≡ pre ++ new
  writes_all pre [] [] k e h = refl
  writes_all pre [] (y ∷ new) k e h = absurd (omega arith)
  writes_all pre (x ∷ old) [] k e h = absurd (omega arith)
  writes_all pre (x ∷ old) (y ∷ new) k e h = ap (λ l. writes l (suc k) new) (set_at pre x old y k e ∙ sym (append_assoc pre (y ∷ []) old)) ∙ (writes_all (pre ++ y ∷ []) old new (suc k) (omega (arith, length-append pre (y ∷ []))) (omega arith) ∙ append_assoc pre (y ∷ []) new)
