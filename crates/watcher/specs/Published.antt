-- Two-valued verdicts in the published logic.
--   Satisfies t h e r v     the verdict v is yes where the accepted moments and then this one, as a trace, satisfy the rule with
--                           the tree t, and no where they do not
use Rattle.std.specs.Prelude.{◌≡◌, ◌↔◌, List, [], ◌∷◌, ◌++◌}
use Rattle.grammar.specs.Grammar.{Tree}
use Rattle.kinds.specs.Two.{two, two_means}
use Rattle.kinds.specs.declared.two.Two.{Two}
use Rattle.kinds.specs.declared.two.Two.TheVariants.{No, Yes}
use Rattle.reels.specs.declared.Event.{Event}
use Rattle.ptcaret.specs.Traces.{Trace}
use Rattle.ptcaret.specs.Satisfaction.{Sat}
use Rattle.watching.specs.declared.Verdict.{Verdict}
use Rattle.runs.specs.Runs.{moment}

pub record Satisfies (t : Tree) (h : Trace) (e : Event) (r : List Two) (v : Verdict Two) : Type 0 where
  pub yes : Sat t (h ++ moment two two_means e r ∷ []) ↔ (v.value ≡ Yes)
  pub no : (Sat t (h ++ moment two two_means e r ∷ []) → ⊥) ↔ (v.value ≡ No)
