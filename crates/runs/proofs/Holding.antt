-- What a watcher holds after its making and after each accepted event: the nest, the cells and the stack that looking back says.
--   Holds h n o     the watcher with the nesting n and the lists o has accepted the moments h
use Rattle.std.proofs.Common.{◌≡◌, ℕ, suc, ◌-◌, ◌*◌, ◌<◌, true, List, [], ◌∷◌, ◌++◌, map, length, get_or, take, Ok, sym, refl, ap, ◌∙◌, subst, ap₂, arith, length-append}
use borrow.Author.Tests.{clash}
use lib.ListN.{length-map}
use Rattle.grammar.specs.Grammar.{Tree}
use Rattle.grammar.specs.Nodes.{size}
use Rattle.kinds.specs.Algebra.{Algebra, Laws}
use Rattle.reels.specs.Reels.{Begins, nothing}
use Rattle.reels.specs.Nesting.{start, follow, judged, next}
use Rattle.reels.specs.declared.Event.{Event}
use Rattle.reels.specs.declared.EventKind.{EventKind}
use Rattle.reels.specs.declared.EventKind.TheVariants.{Step, Call, Begin, End, Return}
use Rattle.reels.proofs.Begins.{event_begins}
use Rattle.history.specs.Moments.{Moment, events, same_kind, is}
use Rattle.history.specs.Value.{value}
use Rattle.evaluation.specs.Plan.{if_plain, if_routine, routine_trees}
use Rattle.evaluation.specs.Plan as plan
use Rattle.evaluation.specs.Steps.{Cells, picked, evaluate, settled, fresh_of}
use Rattle.evaluation.specs.Cells.{stack, memory_at}
use Rattle.evaluation.specs.Theorems.{Evaluated, values_at, new_cells_at}
use Rattle.evaluation.proofs.Growing.{events_more}
use Rattle.evaluation.proofs.Opened.{stack_height}
use Rattle.evaluation.proofs.Orders.{plan_length}
use Rattle.evaluation.proofs.Watching.{fresh_first, evaluated, copies}
use Rattle.program.specs.Programs.{wanted, Runs}
use Rattle.program.specs.declared.program.Program.{Program}
use Rattle.watching.specs.Memory.{Own, routine_cells, node_count, short_list}
use Rattle.watching.specs.Refusals.{nest_of, routines_in}
use Rattle.watching.specs.Calls.{depth_after, Made, Given, Accepted}
use Rattle.watching.specs.declared.Nesting.{Nesting}
use Rattle.watching.specs.declared.Verdict.{Verdict}
use Rattle.runs.specs.Runs.{moment}
use Rattle.runs.specs.Promise.{node_values}
use Rattle.program.proofs.Facts.{routine_count}
use Rattle.runs.proofs.Layers.{flat, Layers, stack_layers}
use Rattle.runs.proofs.Keeping.{Shaped, Keeps, step_values, new_kept, nodes_mean, value_means, keeps_after}
use Rattle.runs.proofs.Nests.{follow_last, open_within, depth_after_lem, nest_after}
use Rattle.watching.proofs.Taken.{end_depth}
use Rattle.watching.proofs.Passing.{Passes, passes, long}

begin_deeper : (k : EventKind) (d : ℕ) → same_kind Begin k ≡ true → depth_after k d ≡ suc d
begin_deeper Step d q = absurd (clash q)
begin_deeper Call d q = absurd (clash q)
begin_deeper Begin d q = refl
begin_deeper End d q = absurd (clash q)
begin_deeper Return d q = absurd (clash q)

module _ (A : Algebra) {K : Type 0} (means : K → A.Val) (p : Program) (t : Tree) (d : ℕ) where
  pub record Holds (h : List (Moment A.Val)) (n : Nesting) (o : Own K) : Type 0 where
    pub limit : n.limit ≡ d
    pub accepted : n.accepted ≡ length h
    pub begins : Begins d (events h)
    pub nest : nest_of n o.opened ≡ follow start (events h)
    pub depth : n.depth ≡ length (follow start (events h)).opened
    pub keeps : Keeps A means p n o (memory_at A t h)

  module _ (L : Laws A) (u : Runs p t) where
    pub holds_made : {n : Nesting} {o o' : Own K} {w w' : List K} → Made A means p d o w (Ok n) o' w' → Holds [] n o'
    unfolding events
    holds_made {n} {o} {o'} {w} {w'} g =
        let first = fresh_first A L t in
        let f = g.2 in
        let none : routine_cells p * n.depth ≡ 0 = ap (λ x. routine_cells p * x.depth) g.1 ∙ omega arith in
        record {
          limit = ap (λ x. x.limit) g.1;
          accepted = ap (λ x. x.accepted) g.1;
          begins = ([], nothing);
          nest = ap (λ x. nest_of x o'.opened) g.1;
          depth = ap (λ x. x.depth) g.1;
          keeps = record {
            plain = f.plain ∙ (ap (fresh_of A if_plain) u.steps ∙ sym (ap (λ m. m.cells.plain) first));
            routine = f.routine ∙ (ap (fresh_of A if_routine) u.steps ∙ sym (ap (λ m. m.cells.routine) first));
            stack = ap (λ i. map means (take i o'.stack)) none ∙ sym (ap (λ m. flat m.stack) first);
          };
        }

    module _ {h : List (Moment A.Val)} {n : Nesting} {o : Own K} (c : Holds h n o) where
      count : routine_cells p ≡ plan.routine_cells t
      count = ap length u.routine ∙ routine_count t

      shaped : Shaped (routine_cells p) n.depth (memory_at A t h)
      shaped = record {
        routine = length-map (routine_trees t) _ ∙ sym count;
        layers = subst (λ b. Layers b (stack A t h)) (sym count) (stack_layers A t h);
        height = stack_height A t d h c.begins ∙ sym c.depth;
      }

      -- the same fault by the nest and by the accepted events
      pub same_judged : (e : Event) → judged n.limit (nest_of n o.opened) e ≡ judged d (follow start (events h)) e
      same_judged e = ap₂ (λ x y. judged x y e) c.limit c.nest

      module _ {n' : Nesting} {o' : Own K} {w w' : List K} {e : Event} {r : List K} {v : Verdict K} (g : Given A means p n o w e r (Ok v) n' o' w') where
        abbrev pub grown : List (Moment A.Val)
        grown = h ++ moment A means e r ∷ []

        a : Accepted A means p n o w e r v n' o' w'
        a = g.1

        free : Passes (short_list p n.limit o (length w)) (judged n.limit (nest_of n o.opened) e) (wanted p) (length r) n.accepted
        free = passes _ _ _ (wanted p) (length r) n.accepted g.0

        more : events grown ≡ events h ++ e ∷ []
        more = events_more h (moment A means e r)

        begins_grown : Begins d (events grown)
        begins_grown = subst (Begins d) (sym more) (event_begins d (events h) e c.begins (sym (same_judged e) ∙ free.fault))

        follow_grown : next (follow start (events h)) e ≡ follow start (events grown)
        follow_grown = sym (ap (follow start) more ∙ follow_last start (events h) e)

        deeper : depth_after e.kind n.depth ≡ length (follow start (events grown)).opened
        deeper = ap (depth_after e.kind) c.depth ∙ (depth_after_lem (follow start (events h)) e ∙ ap (λ s. length s.opened) follow_grown)

        -- there is a place for a routine that begins
        room : is Begin e ≡ true → n.depth < length o.opened
        room q = omega (arith, begin_deeper e.kind n.depth q, deeper, open_within d (events grown) begins_grown, (long p n.limit o (length w) free.short).opened, c.limit)

        -- the values and the cells, from the rule's tree
        sees : Evaluated A t h (moment A means e r)
        sees = evaluated A L t d h (moment A means e r) begins_grown

        values_same : step_values A means p (memory_at A t h) c.keeps a ≡ values_at A t h (moment A means e r)
        values_same = ap (λ ss. evaluate A e (map means r) (memory_at A t h).cells ss []) u.steps

        cells_same : new_kept A means p (memory_at A t h) c.keeps a ≡ new_cells_at A t h (moment A means e r)
        cells_same = ap₂ {C = Cells A.Val} (λ x y. record { plain = x; routine = y }) (ap₂ (picked A.false) values_same u.plain) (ap₂ (picked A.false) values_same u.routine) ∙ copies A L t d h (moment A means e r) begins_grown

        nodes : node_count p ≡ size t
        nodes = ap length u.steps ∙ plan_length 0 0 0 t

        pub nodes_back : map means (take (size t) w') ≡ node_values A means t h (moment A means e r)
        nodes_back = ap (λ k. map means (take k w')) (sym nodes) ∙ (nodes_mean A means p (memory_at A t h) c.keeps a ∙ (values_same ∙ sees.nodes))

        pub value_back : means v.value ≡ value A t grown (suc (length h))
        value_back =
            let last : node_count p - 1 ≡ size t - 1 = ap (λ i. i - 1) nodes in
            value_means A means p (memory_at A t h) c.keeps a ∙ (ap₂ (λ vs i. get_or vs i A.false) values_same last ∙ sees.rule)

        pub number_back : v.number ≡ suc (length h)
        number_back = a.number ∙ ap suc c.accepted

        pub holds_accepted : Holds grown n' o'
        holds_accepted =
            let deep : n.depth ≡ length (routines_in n.depth o.opened) = c.depth ∙ ap (λ s. length s.opened) (sym c.nest) in
            let inside : is End e ≡ true → 0 < n.depth = λ q. subst (λ i. 0 < i) (sym deep) (end_depth n.limit (nest_of n o.opened) e free.fault q) in
            record {
              limit = ap (λ x. x.limit) a.nesting ∙ c.limit;
              accepted = ap (λ x. x.accepted) a.nesting ∙ omega (arith, c.accepted, length-append h (moment A means e r ∷ []));
              begins = begins_grown;
              nest = ap₂ nest_of a.nesting a.opened ∙ (nest_after p n o deep n.limit e free.fault room ∙ (ap (λ s. next s e) c.nest ∙ follow_grown));
              depth = ap (λ x. x.depth) a.nesting ∙ deeper;
              keeps = subst (Keeps A means p n' o') (ap (settled e.kind (memory_at A t h)) cells_same ∙ sees.memory) (keeps_after A means p (memory_at A t h) c.keeps a shaped inside);
            }
