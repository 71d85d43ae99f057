-- What a carrying map has to show.
--   Keeps a b f           the function f from values of a to values of b keeps the five answers
--   Carries a b p q c     c takes values that mean by p to values that mean by q, along such a function
use Rattle.std.specs.Prelude.{◌≡◌}
use Rattle.kinds.specs.Algebra.{Algebra}

pub record Keeps (a b : Algebra) (f : a.Val → b.Val) : Type 0 where
  pub true : f a.true ≡ b.true
  pub false : f a.false ≡ b.false
  pub not : (x : a.Val) → f (a.not x) ≡ b.not (f x)
  pub and : (x y : a.Val) → f (a.and x y) ≡ b.and (f x) (f y)
  pub or : (x y : a.Val) → f (a.or x y) ≡ b.or (f x) (f y)

pub record Carries (a b : Algebra) {X Y : Type 0} (p : X → a.Val) (q : Y → b.Val) (c : X → Y) : Type 0 where
  pub map : a.Val → b.Val
  pub follows : (x : X) → q (c x) ≡ map (p x)
  pub keeps : Keeps a b map
