-- What a truth kind's values are and which laws its five operations keep.
--   Algebra     values with true, false, not, and, or
--   Laws a      what every kind has to show of them; nothing else is a law
use Rattle.std.specs.Prelude.{◌≡◌}

pub record Algebra : Type 1 where
  pub Val : Type 0
  pub true : Val
  pub false : Val
  pub not : Val → Val
  pub and : Val → Val → Val
  pub or : Val → Val → Val

pub record Laws (a : Algebra) : Type 0 where
  pub and_assoc : (x y z : a.Val) → a.and (a.and x y) z ≡ a.and x (a.and y z)
  pub and_comm : (x y : a.Val) → a.and x y ≡ a.and y x
  pub or_assoc : (x y z : a.Val) → a.or (a.or x y) z ≡ a.or x (a.or y z)
  pub or_comm : (x y : a.Val) → a.or x y ≡ a.or y x
  -- and distributes over or
  pub and_or : (x y z : a.Val) → a.and x (a.or y z) ≡ a.or (a.and x y) (a.and x z)
  pub and_true : (x : a.Val) → a.and a.true x ≡ x
  pub or_false : (x : a.Val) → a.or a.false x ≡ x
  pub and_false : (x : a.Val) → a.and a.false x ≡ a.false
  pub not_not : (x : a.Val) → a.not (a.not x) ≡ x
  pub not_and : (x y : a.Val) → a.not (a.and x y) ≡ a.or (a.not x) (a.not y)
  -- a kind has more than one value
  pub differ : a.true ≡ a.false → ⊥
