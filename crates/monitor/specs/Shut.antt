-- What the step of a node comes to where its operands and its cell are at hand: a step in the proof of the evaluation.
--   cellsOf f ps rs       the cells by what they mean
--   CellFits c a b        the cell is one of a plain and b routine cells
--   value_of_step           the step's value, its left operand and its right or only one being the values at places of a list; it
--                         does not unfold where it is cited, since that would be over all the kinds of steps at once
use Rattle.std.specs.Prelude.{ℕ, ◌<◌, List, slice_index_or}
use Rattle.kinds.specs.Algebra.{Algebra}
use Rattle.reels.specs.declared.Event.{Event}
use Rattle.evaluation.specs.declared.Step.{Step}
use Rattle.evaluation.specs.Plan.{Cell, none, plain, routine, cell_of}
use Rattle.evaluation.specs.Steps.{Cells, left_of, in_cell, result}

abbrev pub CellFits : Cell → ℕ → ℕ → Type 0
CellFits none a b = Unit {0}
CellFits (plain c) a b = c < a
CellFits (routine c) a b = c < b

unfoldable pub value_of_step : (A : Algebra) → Event → List A.Val → Cells A.Val → List A.Val → ℕ → Step → A.Val
value_of_step A e r cs vs before s = result A e r s (slice_index_or vs (left_of s) A.false) (slice_index_or vs before A.false) (in_cell A (cell_of s) cs)
