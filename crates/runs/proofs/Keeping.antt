-- An accepted event, by what its lists mean: the values of the nodes are those of the steps, and the lists hold the memory that is settled.
--   Shaped  a memory of stacked layers of routine cells, as many as routines are open
--   Keeps   the lists of a watcher hold a memory
use Rattle.std.proofs.Common.{◌≡◌, ℕ, zero, suc, pred, ◌-◌, ◌*◌, ◌<◌, ◌≤◌, true, List, [], ◌∷◌, map, length, get_or, take, drop, Some, sym, refl, ap, ◌∙◌, ap₂, arith, length-take}
use lib.ListN.{length-map}
use Rattle.std.specs.List.{slice_get}
use Rattle.std.proofs.lemmas.List.{take_at, take-map, get_or-take, get_or-map}
use Rattle.kinds.specs.Algebra.{Algebra}
use Rattle.reels.specs.declared.Event.{Event}
use Rattle.reels.specs.declared.EventKind.{EventKind}
use Rattle.reels.specs.declared.EventKind.TheVariants.{Step, Call, Begin, End, Return}
use Rattle.history.specs.Moments.{same_kind}
use Rattle.evaluation.specs.Steps.{Cells, Memory, top, settled, picked, evaluate}
use Rattle.program.specs.Programs.{steps, plain_numbers, routine_numbers}
use Rattle.program.specs.declared.program.Program.{Program}
use Rattle.watching.specs.Memory.{Own, plain_cells, routine_cells, node_count}
use Rattle.watching.specs.Calls.{depth_after, cells_after, plain_after, routine_after, stack_after, Accepted}
use Rattle.watching.specs.declared.Nesting.{Nesting}
use Rattle.watching.specs.declared.Verdict.{Verdict}
use Rattle.program.proofs.Facts.{sound, plain_below, routine_below, steps_some}
use Rattle.runs.proofs.Reading.{evaluate_length, evaluate_same}
use Rattle.runs.proofs.Layers.{flat, Layers, pushed_flat, top_length, lower_flat, top_flat}

-- two functions that are equal below b, at numbers below b
map_below : {X : Type 0} (f g : ℕ → X) (b : ℕ) → ((k : ℕ) → k < b → f k ≡ g k) → (ks : List ℕ) → ((i : ℕ) → i < length ks → get_or ks i 0 < b) → map f ks ≡ map g ks
map_below f g b q [] l = refl
map_below {X} f g b q (k ∷ ks) l = ap₂ {C = List X} (λ x xs. x ∷ xs) (q k (l 0 (omega arith))) (map_below f g b q ks (λ i h. l (suc i) (omega arith)))

pub map_map : {X Y Z : Type 0} (f : Y → Z) (g : X → Y) (xs : List X) → map f (map g xs) ≡ map (λ x. f (g x)) xs
map_map f g [] = refl
map_map {X} {Y} {Z} f g (x ∷ xs) = ap {B = List Z} (λ l. f (g x) ∷ l) (map_map f g xs)

nth_some : {X : Type 0} (xs : List X) (i : ℕ) (x d : X) → slice_get xs i ≡ Some x → get_or xs i d ≡ x
nth_some [] i x d q = cc
nth_some (y ∷ xs) zero x d q = cc
nth_some (y ∷ xs) (suc i) x d q = nth_some xs i x d q

pub record Shaped {V : Type 0} (b k : ℕ) (m : Memory V) : Type 0 where
  pub routine : length m.cells.routine ≡ b
  pub layers : Layers b m.stack
  pub height : length m.stack ≡ k

module _ (A : Algebra) {K : Type 0} (means : K → A.Val) (p : Program) where
  pub record Keeps (n : Nesting) (o : Own K) (m : Memory A.Val) : Type 0 where
    pub plain : map means (take (plain_cells p) o.plain) ≡ m.cells.plain
    pub routine : map means (take (routine_cells p) o.routine) ≡ m.cells.routine
    pub stack : map means (take (routine_cells p * n.depth) o.stack) ≡ flat m.stack

  -- a list and its first b, as they are read at a number below b
  first_cells : (b : ℕ) (xs : List K) (vs : List A.Val) → map means (take b xs) ≡ vs → (c : ℕ) → c < b → get_or (map means xs) c A.false ≡ get_or vs c A.false
  first_cells b xs vs q c l = sym (get_or-take b (map means xs) c A.false l) ∙ ap (λ l. get_or l c A.false) (take-map means b xs ∙ q)

  module _ {n n' : Nesting} {o o' : Own K} {w w' : List K} {e : Event} {r : List K} {v : Verdict K} (m : Memory A.Val) (k : Keeps n o m) (a : Accepted A means p n o w e r v n' o' w') where
    -- the values of the steps, from the memory
    abbrev pub step_values : List A.Val
    step_values = evaluate A e (map means r) m.cells (steps p) []

    abbrev pub new_kept : Cells A.Val
    new_kept = record { plain = picked A.false step_values (plain_numbers p); routine = picked A.false step_values (routine_numbers p) }

    pub nodes_mean : map means (take (node_count p) w') ≡ step_values
    nodes_mean = a.nodes ∙ evaluate_same A (plain_cells p) (routine_cells p) _ m.cells (record { plain = first_cells (plain_cells p) o.plain m.cells.plain k.plain; routine = first_cells (routine_cells p) o.routine m.cells.routine k.routine }) e (map means r) (steps p) 0 (sound p) []

    working_long : node_count p ≤ length w'
    working_long =
        let q : length (take (node_count p) w') ≡ node_count p = sym (length-map (take (node_count p) w') means) ∙ (ap length nodes_mean ∙ (evaluate_length A e (map means r) m.cells (steps p) [] ∙ omega arith)) in
        omega (arith, length-take (node_count p) w')

    node_means : (i : ℕ) (d : K) → i < node_count p → means (get_or w' i d) ≡ get_or step_values i A.false
    node_means i d l = sym (get_or-map means w' i d A.false (omega (arith, working_long))) ∙ first_cells (node_count p) w' step_values nodes_mean i l

    pub value_means : means v.value ≡ get_or step_values (node_count p - 1) A.false
    value_means = ap means (sym (nth_some w' (node_count p - 1) v.value v.value a.value)) ∙ node_means (node_count p - 1) v.value (omega (arith, steps_some p))

    cells_mean : (d : K) (ks : List ℕ) (old : List K) → ((i : ℕ) → i < length ks → get_or ks i 0 < node_count p) → map means (take (length ks) (cells_after d ks w' old)) ≡ picked A.false step_values ks
    cells_mean d ks old l = ap (map means) (take_at (picked d w' ks) (drop (length ks) old) (length ks) (length-map ks _)) ∙ (map_map means (λ i. get_or w' i d) ks ∙ map_below _ _ (node_count p) (λ i h. node_means i d h) ks l)

    plain_after_lem : (d : K) (j : EventKind) → map means (take (plain_cells p) (plain_after p n o d w')) ≡ (settled j m new_kept).cells.plain
    plain_after_lem d j = cells_mean d (plain_numbers p) o.plain (λ i. plain_below p i 0) ∙ at j
      where
        at : (j : EventKind) → picked A.false step_values (plain_numbers p) ≡ (settled j m new_kept).cells.plain
        at Step = refl
        at Call = refl
        at Begin = refl
        at End = refl
        at Return = refl

    module _ (f : Shaped (routine_cells p) n.depth m) where
      abbrev Opened : EventKind → Type 0
      Opened j = same_kind End j ≡ true → 0 < n.depth

      routine_after_lem : (d : K) (j : EventKind) → Opened j → map means (take (routine_cells p) (routine_after p n o j d w')) ≡ (settled j m new_kept).cells.routine
      routine_after_lem d Step l = cells_mean d (routine_numbers p) o.routine (λ i. routine_below p i 0)
      routine_after_lem d Call l = cells_mean d (routine_numbers p) o.routine (λ i. routine_below p i 0)
      routine_after_lem d Begin l = cells_mean d (routine_numbers p) o.routine (λ i. routine_below p i 0)
      routine_after_lem d End l =
          let b = routine_cells p in
          let back = take b (drop (b * pred n.depth) o.stack) in
          let means_top : map means back ≡ top m.stack = top_flat means b n.depth o.stack m.stack f.layers f.height k.stack (l refl) in
          let long : length back ≡ b = sym (length-map back means) ∙ (ap length means_top ∙ top_length means b n.depth o.stack m.stack f.layers f.height k.stack (l refl)) in
          ap (map means) (take_at back (drop b o.routine) b long) ∙ means_top
      routine_after_lem d Return l = cells_mean d (routine_numbers p) o.routine (λ i. routine_below p i 0)

      stack_after_lem : (j : EventKind) → Opened j → map means (take (routine_cells p * depth_after j n.depth) (stack_after p n o j)) ≡ flat (settled j m new_kept).stack
      stack_after_lem Step l = k.stack
      stack_after_lem Call l = k.stack
      stack_after_lem Begin l = pushed_flat means (routine_cells p) n.depth o.stack m.stack f.layers f.height k.stack o.routine _ m.cells.routine k.routine f.routine
      stack_after_lem End l = lower_flat means (routine_cells p) n.depth o.stack m.stack f.layers f.height k.stack (l refl)
      stack_after_lem Return l = k.stack

      pub keeps_after : Opened e.kind → Keeps n' o' (settled e.kind m new_kept)
      keeps_after l = record {
        plain = ap (λ xs. map means (take (plain_cells p) xs)) (a.plain v.value) ∙ plain_after_lem v.value e.kind;
        routine = ap (λ xs. map means (take (routine_cells p) xs)) (a.routine v.value) ∙ routine_after_lem v.value e.kind l;
        stack = ap₂ (λ i xs. map means (take (routine_cells p * i) xs)) (ap (λ x. x.depth) a.nesting) a.stack ∙ stack_after_lem e.kind l;
      }
