-- Cells that take their values one after another, and the stack under them.
use Rattle.std.proofs.Common.{◌≡◌, ℕ, ◌+◌, ◌<◌, ◌≤◌, List, [], ◌∷◌, ◌++◌, length, get_or, take, drop, set, sym, ap, ◌∙◌, append_assoc, arith, length-take}
use lib.ListN.{length-map}
use Rattle.std.proofs.lemmas.List.{map_more, drop_more, set_at, get_or_read}
use Rattle.evaluation.specs.Steps.{picked}

module _ {K : Type 0} where
  -- one cell more
  pub keep_more : (d x : K) (now old ws : List K) (ks : List ℕ) (i : ℕ) → i < length ks → length ks ≤ length old → get_or ks i 0 < length ws → x ≡ get_or ws (get_or ks i 0) x → now ≡ picked d ws (take i ks) ++ drop i old → set now i x ≡ picked d ws (take (i + 1) ks) ++ drop (i + 1) old
  keep_more d x now old ws ks i h room below read before =
      let f : ℕ → K = λ k. get_or ws k d in
      let front = picked d ws (take i ks) in
      let long : length front ≡ i = length-map (take i ks) f ∙ omega (arith, length-take i ks) in
      let here : now ≡ front ++ get_or old i x ∷ drop (i + 1) old = before ∙ ap (λ l. front ++ l) (drop_more old i x (omega arith)) in
      let new : picked d ws (take (i + 1) ks) ≡ front ++ x ∷ [] = map_more f ks i 0 h ∙ ap (λ y. front ++ y ∷ []) (sym (get_or_read ws (get_or ks i 0) x below read d)) in
      ap (λ l. set l i x) here ∙ (set_at front (get_or old i x) (drop (i + 1) old) x i long ∙ (sym (append_assoc front (x ∷ []) (drop (i + 1) old)) ∙ ap (λ l. l ++ drop (i + 1) old) (sym new)))
