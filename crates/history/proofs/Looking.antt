-- The recurrences, and what is seen from an event.
use Rattle.std.proofs.Common.{suc, true, sym, refl, ◌∙◌, arith}
use native.Mathlib.Decide.{dec_le}
use borrow.Author.Tests.{clash}
use Rattle.kinds.specs.Algebra.{Algebra, Laws}
use Rattle.history.specs.Moments.{seen, prior, over}
use Rattle.history.specs.Theorems.{Recurrences, SeenFrom}
use Rattle.history.proofs.Recurring.{over_step, since_step}
use Rattle.history.proofs.Views.{view, view_all, seen_later}

pub recurrences : (A : Algebra) → Laws A → Recurrences A
unfolding over
recurrences A L n = (
  record { once = λ F. refl; always = λ F. refl; since = since_step (λ j i. true) n n (view_all n) A L },
  λ d es b.
      let v = view d es b n in
      record { ronce = over_step (seen es) n (prior es (suc n)) v A.or A.false L.or_false; ralways = over_step (seen es) n (prior es (suc n)) v A.and A.true L.and_true; rsince = since_step (seen es) n (prior es (suc n)) v A L },
)

pub seen_from : SeenFrom
seen_from d es b n j a l = ((view d es b n).back j a l, λ q. elim (dec_le j (prior es (suc n))) [ yes k ↦ k | no k ↦ absurd (clash (sym (seen_later es j (prior es (suc n)) (omega arith)) ∙ q)) ])
