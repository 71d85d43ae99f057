-- A run, or two, and one event more.
--   After   what a giving answers and leaves after any run
use Rattle.std.proofs.Common.{◌≡◌, List, [], ◌∷◌, ◌++◌, map, Ok, Err, sym, refl, ap, subst}
use Rattle.std.proofs.lemmas.Simd.{map-map}
use Rattle.grammar.specs.Grammar.{Tree}
use Rattle.kinds.specs.Algebra.{Algebra, Laws}
use Rattle.maps.specs.Carries.{Carries}
use Rattle.reader.specs.Rules.{TreeOf}
use Rattle.reels.specs.declared.Event.{Event}
use Rattle.program.specs.declared.program.Program.{Program}
use Rattle.watching.specs.Memory.{Own}
use Rattle.watching.specs.Calls.{Given}
use Rattle.watching.specs.declared.Nesting.{Nesting}
use Rattle.runs.specs.Twins.{Enough, Alike, AllAlike, AllSame}
use Rattle.runs.proofs.Looking.{looks_back, nodes_left}
use Rattle.runs.proofs.Twinned.{carries_over}
use Rattle.runs.specs.Runs.{Answer, Exchange, exchange, Run, given as run_given}
use Rattle.watcher.specs.Giving.{LooksBackAfter, LeavesNodes, GoesOn}

module _ (A : Algebra) {K : Type 0} (means : K → A.Val) (p : Program) (n n' : Nesting) (o o' : Own K) (w w' : List K) (e : Event) (r : List K) where
  -- the depth limit stays
  pub same_limit : (a : Answer K) → Given A means p n o w e r a n' o' w' → n'.limit ≡ n.limit
  same_limit (Ok v) g = ap (λ (x : Nesting). x.limit) g.1.nesting
  same_limit (Err f) g = ap (λ (x : Nesting). x.limit) g.1

  one_more : (a : Answer K) (p' : Program) → p' ≡ p → Given A means p n o w e r a n' o' w' → GoesOn A means p n o e r a p' n' o'
  one_more a p' same g xs so_far =
      let on : Run A means p n.limit (xs ++ exchange e r a ∷ []) n' o' = run_given (exchange e r a) w w' so_far g in
      subst (λ q. Run A means q n'.limit (xs ++ exchange e r a ∷ []) n' o') (sym same) (subst (λ d. Run A means p d (xs ++ exchange e r a ∷ []) n' o') (sym (same_limit a g)) on)

  pub record After (a : Answer K) (p' : Program) : Type 0 where
    pub looks_back : LooksBackAfter A means p n o e r a w
    pub leaves : LeavesNodes A means p n o e r a w'
    pub goes_on : GoesOn A means p n o e r a p' n' o'

  pub after : Laws A → (a : Answer K) (p' : Program) → p' ≡ p → Given A means p n o w e r a n' o' w' → After a p'
  after L a p' same g = record {
    looks_back = λ t tree xs run. looks_back A L means p t tree n.limit n n' o o' w w' e r a g xs run;
    leaves = λ t tree xs run. nodes_left A L means p t tree n.limit n n' o o' w w' e r a g xs run;
    goes_on = one_more a p' same g;
  }

-- two runs that are alike, and one event more
alike_more : (B : Algebra) {K L : Type 0} (q : L → B.Val) (c : K → L) (xs : List (Exchange K)) (ys : List (Exchange L)) (x : Exchange K) (y : Exchange L) → AllAlike B q c xs ys → Alike B q c x y → AllAlike B q c (xs ++ x ∷ []) (ys ++ y ∷ [])
alike_more B q c [] [] x y a l = (l, tt)
alike_more B q c [] (v ∷ ys) x y a l = absurd a
alike_more B q c (u ∷ xs) [] x y a l = absurd a
alike_more B q c (u ∷ xs) (v ∷ ys) x y a l = (a.0, alike_more B q c xs ys x y a.1 l)

module _ (A B : Algebra) (LA : Laws A) (LB : Laws B) {K L : Type 0} (f : K → A.Val) (q : L → B.Val) (c : K → L) (carries : Carries A B f q c) (p twin : Program) (n n' m m' : Nesting) (o o' : Own K) (u u' : Own L) (w w' : List K) (v v' : List L) (e : Event) (r : List K) (a : Answer K) (b : Answer L) where
  -- the second got the same event, its reading carried
  pub both_same : Given A f p n o w e r a n' o' w' → Given B q twin m u v e (map c r) b m' u' v' → twin.rule ≡ p.rule → m.limit ≡ n.limit → (t : Tree) → TreeOf p.rule t → (xs : List (Exchange K)) (ys : List (Exchange L)) → Run A f p n.limit xs n o → Run B q twin m.limit ys m u → AllAlike B q c xs ys → Enough (exchange e r a) → Enough (exchange e (map c r) b) → AllSame B q c (xs ++ exchange e r a ∷ []) (ys ++ exchange e (map c r) b ∷ [])
  both_same first second rules limits t tree xs ys run_first run_second alike enough_first enough_second =
      let x = exchange e r a in
      let y = exchange e (map c r) b in
      let on : Run A f p n.limit (xs ++ x ∷ []) n' o' = run_given x w w' run_first first in
      let twin_on : Run B q twin n.limit (ys ++ y ∷ []) m' u' = subst (λ d. Run B q twin d (ys ++ y ∷ []) m' u') limits (run_given y v v' run_second second) in
      let more = alike_more B q c xs ys x y alike (record { given = record { event = refl; reading = map-map q c r }; enough = enough_first; enough_carried = enough_second }) in
      carries_over A B LA LB f q c carries p twin rules t tree n.limit n' m' o' u' (xs ++ x ∷ []) (ys ++ y ∷ []) on twin_on more
