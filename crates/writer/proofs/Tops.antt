-- How the nodes of a tree stand in a list: operands before their node, and where the tops of the operands are.
use Rattle.std.proofs.Common.{◌≡◌, ℕ, zero, suc, ◌+◌, ◌-◌, ◌<◌, List, [], ◌∷◌, ◌++◌, length, get_or, sym, refl, ap, ◌∙◌, subst, append_assoc, append-nil, add-zero, zero-add, arith, length-append}
use Rattle.std.proofs.lemmas.List.{get_or_at}
use Rattle.words.specs.declared.Operands.{Operands}
use Rattle.words.specs.declared.Operands.TheVariants.{Zero, One, Two}
use Rattle.words.specs.declared.Word.{Word}
use Rattle.grammar.specs.Grammar.{Tree, leaf, one, two, takes}
use Rattle.words.specs.Words.{spell}
use Rattle.grammar.specs.Layout.{layout, as_operand}
use Rattle.grammar.specs.Nodes.{size, node, nodes}
use Rattle.grammar.specs.declared.Node.{Node}
use Rattle.writer.specs.declared.rule_text.RuleText.{RuleText}
use Rattle.writer.specs.Puts.{Puts}
use Rattle.writer.specs.Tops.{Before, Ordered, Has, Tops}
use Rattle.writer.proofs.Nodes.{Counted, many, below, top_node, nodes_push}

pub ordered_at : (ns : List Node) (k i : ℕ) (d : Node) → i < length ns → Ordered k ns → Before (takes (get_or ns i d).word) (k + i) (get_or ns i d).left
ordered_at [] k i d h O = absurd (omega arith)
ordered_at (n ∷ ns) k zero d h O = rw add-zero O.0
ordered_at (n ∷ ns) k (suc i) d h O =
    let P : ℕ → Type 0 = λ m. Before (takes (get_or ns i d).word) m (get_or ns i d).left in
    let e : suc k + i ≡ k + suc i = omega arith in
    subst P e (ordered_at ns (suc k) i d (omega arith) O.1)

pub before_at : (ns : List Node) (i : ℕ) (d : Node) (o : Operands) → Ordered 0 ns → i < length ns → o ≡ takes (get_or ns i d).word → Before o i (get_or ns i d).left
before_at ns i d o O h e =
    let P : Operands → Type 0 = λ x. Before x i (get_or ns i d).left in
    subst P (sym e) (rw zero-add at (ordered_at ns 0 i d h O))

ordered_append : (xs ys : List Node) (k m : ℕ) → k + length xs ≡ m → Ordered k xs → Ordered m ys → Ordered k (xs ++ ys)
ordered_append [] ys k m e A B =
    let P : ℕ → Type 0 = λ n. Ordered n ys in
    let same : m ≡ k = omega arith in
    subst P same B
ordered_append (x ∷ xs) ys k m e A B = (A.0, ordered_append xs ys (suc k) m (omega arith) A.1 B)

pub length_nodes : (t : Tree) (k : ℕ) → length (nodes k t) ≡ size t
unfolding nodes
length_nodes (leaf w) k = refl
length_nodes (one w t) k = let h = length_nodes t k in omega (arith, length-append (nodes k t) (node w 0 ∷ []))
length_nodes (two w l r) k =
    let top = node w (k + size l - 1) in
    let hl = length_nodes l k in
    let hr = length_nodes r (k + size l) in
    omega (arith, length-append (nodes k l) (nodes (k + size l) r ++ top ∷ []), length-append (nodes (k + size l) r) (top ∷ []))

before_by : (w : Word) (o : Operands) (k left : ℕ) → takes w ≡ o → Before o k left → Before (takes w) k left
before_by w o k left e B = let P : Operands → Type 0 = λ x. Before x k left in subst P (sym e) B

pub size_some : (t : Tree) → 0 < size t
size_some (leaf w) = omega arith
size_some (one w t) = omega arith
size_some (two w l r) = omega arith

pub nodes_ordered : (t : Tree) (k : ℕ) → Counted t → Ordered k (nodes k t)
unfolding nodes
nodes_ordered (leaf w) k C = (before_by w Zero k 0 C tt, tt)
nodes_ordered (one w t) k C =
    ordered_append (nodes k t) (node w 0 ∷ []) k (k + size t) (omega (arith, length_nodes t k)) (nodes_ordered t k C.1)
    (before_by w One (k + size t) 0 C.0 (omega (arith, size_some t)), tt)
nodes_ordered (two w l r) k C =
    let left = k + size l - 1 in
    let top = k + size l + size r in
    ordered_append (nodes k l) (nodes (k + size l) r ++ node w left ∷ []) k (k + size l) (omega (arith, length_nodes l k)) (nodes_ordered l k C.1)
    (ordered_append (nodes (k + size l) r) (node w left ∷ []) (k + size l) top (omega (arith, length_nodes r (k + size l))) (nodes_ordered r (k + size l) C.2)
    (before_by w Two top left C.0 (omega (arith, size_some l), omega (arith, size_some l)), tt))

-- a list with the nodes of a tree in it, from the number k on
record Holds (ns : List Node) (k : ℕ) (t : Tree) : Type 0 where
  front : List Node
  back : List Node
  whole : ns ≡ front ++ (nodes k t ++ back)
  from : length front ≡ k

holds_top : (t : Tree) (ns : List Node) (k : ℕ) (d : Node) → Holds ns k t → get_or ns (k + size t - 1) d ≡ top_node k t
holds_top t ns k d h =
    let front = h.front ++ below k t in
    let all : ns ≡ front ++ top_node k t ∷ h.back = h.whole ∙ ap (λ x. h.front ++ (x ++ h.back)) (nodes_push t k) ∙ simp append_assoc in
    let n : length front ≡ k + size t - 1 = omega (arith, length-append h.front (below k t), h.from, length_nodes t k, ap length (nodes_push t k), length-append (below k t) (top_node k t ∷ [])) in
    ap (λ x. get_or x (k + size t - 1) d) all ∙ get_or_at front (top_node k t) h.back d (k + size t - 1) n

holds_one : (ns : List Node) (k : ℕ) (w : Word) (t : Tree) → Holds ns k (one w t) → Holds ns k t
unfolding nodes
holds_one ns k w t h = record { front = h.front; back = node w 0 ∷ h.back; whole = h.whole ∙ simp append_assoc; from = h.from }

holds_left : (ns : List Node) (k : ℕ) (w : Word) (l r : Tree) → Holds ns k (two w l r) → Holds ns k l
unfolding nodes
holds_left ns k w l r h = record { front = h.front; back = nodes (k + size l) r ++ node w (k + size l - 1) ∷ h.back; whole = h.whole ∙ simp append_assoc; from = h.from }

holds_right : (ns : List Node) (k : ℕ) (w : Word) (l r : Tree) → Holds ns k (two w l r) → Holds ns (k + size l) r
unfolding nodes
holds_right ns k w l r h =
    record { front = h.front ++ nodes k l; back = node w (k + size l - 1) ∷ h.back; whole = h.whole ∙ simp append_assoc; from = omega (arith, length-append h.front (nodes k l), h.from, length_nodes l k) }

tops_move : (ns : List Node) (t : Tree) (m n : ℕ) → m ≡ n → Tops ns m t → Tops ns n t
tops_move ns t m n e T = let P : ℕ → Type 0 = λ x. Tops ns x t in subst P e T

has : (t : Tree) (ns : List Node) (k : ℕ) (o : Operands) → Holds ns k t → takes (top_node k t).word ≡ o → Has ns (k + size t - 1) (top_node k t).word o
has t ns k o h e = record { word = λ d. ap (λ (n : Node). n.word) (holds_top t ns k d h); units = e }

tops : (t : Tree) (ns : List Node) (k : ℕ) → Counted t → Holds ns k t → Tops ns (k + size t - 1) t
tops (leaf w) ns k C h = has (leaf w) ns k Zero h C
tops (one w t) ns k C h =
    (has (one w t) ns k One h C.0, tops_move ns t (k + size t - 1) (k + (size t + 1) - 1 - 1) (omega arith) (tops t ns k C.1 (holds_one ns k w t h)))
tops (two w l r) ns k C h = (
  has (two w l r) ns k Two h C.0,
  (λ d. tops_move ns l (k + size l - 1) (get_or ns (k + (size l + size r + 1) - 1) d).left (sym (ap (λ (n : Node). n.left) (holds_top (two w l r) ns k d h))) (tops l ns k C.1 (holds_left ns k w l r h))),
  tops_move ns r (k + size l + size r - 1) (k + (size l + size r + 1) - 1 - 1) (omega arith) (tops r ns (k + size l) C.2 (holds_right ns k w l r h)),
)

pub tops_nodes : (t : Tree) → Counted t → Tops (nodes 0 t) (length (nodes 0 t) - 1) t
tops_nodes t C =
    let h : Holds (nodes 0 t) 0 t = record { front = []; back = []; whole = sym (append-nil (nodes 0 t)); from = refl } in
    tops_move (nodes 0 t) t (0 + size t - 1) (length (nodes 0 t) - 1) (omega (arith, length_nodes t 0)) (tops t (nodes 0 t) 0 C h)

-- the layout of a tree by how many units its top takes
module _ (ns : List Node) (n : ℕ) (d : Node) where
  same_units : {w : Word} {o : Operands} (x : Operands) → x ≡ takes (get_or ns n d).word → Has ns n w o → many x ≡ many o
  same_units x e h = ap many (e ∙ ap takes (h.word d) ∙ h.units)

  pub top_zero : {old new : RuleText} (t : Tree) → Zero ≡ takes (get_or ns n d).word → Tops ns n t → Puts old new (spell (get_or ns n d).word) → Puts old new (layout t)
  unfolding layout
  top_zero (leaf w) e T p = rw (T.word d) at p
  top_zero (one w t) e T p = absurd (omega (arith, same_units Zero e T.0))
  top_zero (two w l r) e T p = absurd (omega (arith, same_units Zero e T.0))

  pub top_one : {old new : RuleText} (t : Tree) → One ≡ takes (get_or ns n d).word → Tops ns n t → ((u : Tree) → Tops ns (n - 1) u → Puts old new (spell (get_or ns n d).word ++ 32 ∷ as_operand u (layout u))) → Puts old new (layout t)
  unfolding layout
  top_one (leaf w) e T f = absurd (omega (arith, same_units One e T))
  top_one (one w t) e T f = rw (T.0.word d) at (f t T.1)
  top_one (two w l r) e T f = absurd (omega (arith, same_units One e T.0))

  pub top_two : {old new : RuleText} (t : Tree) → Two ≡ takes (get_or ns n d).word → Tops ns n t → ((l r : Tree) → Tops ns (get_or ns n d).left l → Tops ns (n - 1) r → Puts old new (as_operand l (layout l) ++ 32 ∷ (spell (get_or ns n d).word ++ 32 ∷ as_operand r (layout r)))) → Puts old new (layout t)
  unfolding layout
  top_two (leaf w) e T f = absurd (omega (arith, same_units Two e T))
  top_two (one w t) e T f = absurd (omega (arith, same_units Two e T.0))
  top_two (two w l r) e T f = rw (T.0.word d) at (f l r (T.1 d) T.2)

  pub in_parens : {old new : RuleText} (t : Tree) → Two ≡ takes (get_or ns n d).word → Tops ns n t → Puts old new (40 ∷ (layout t ++ 41 ∷ [])) → Puts old new (as_operand t (layout t))
  in_parens (leaf w) e T p = absurd (omega (arith, same_units Two e T))
  in_parens (one w t) e T p = absurd (omega (arith, same_units Two e T.0))
  in_parens (two w l r) e T p = p
