-- What refuses nothing passed its tests.
use Rattle.std.proofs.Common.{◌≡◌, Bool, true, false, cond, Some, None, Option, sym, refl}
use Rattle.std.proofs.lemmas.Option.{none-some}

pub passed : {X : Type 0} (b : Bool) (x : X) → cond b None (Some x) ≡ None → b ≡ true
passed true x e = refl
passed false x e = absurd (none-some x (sym e))

-- a test, and what is asked where it holds
pub passed_both : {X : Type 0} (b : Bool) (o : Option X) (x : X) → cond b o (Some x) ≡ None → (b ≡ true) × (o ≡ None)
passed_both true o x e = (refl, e)
passed_both false o x e = absurd (none-some x (sym e))
