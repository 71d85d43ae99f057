-- How a margin is written: in tenths of a percent, with a point.
--   tenths z            hundredths in tenths, cut toward zero
--   sign z              a minus before a number below 0
--   tenths_text t       a number of tenths as a decimal with one digit behind the point
--   margin_text x       the text of a margin
use Rattle.std.specs.Prelude.{ℕ, ◌/◌, ◌%◌, List, [], ◌++◌, ℤ, pos, negsuc, codes, decimal, int_div, unsigned_abs}
use Rattle.kinds.specs.Margin.{Held}

abbrev pub tenths : ℤ → ℤ
tenths z = int_div z (pos 10)

abbrev pub sign : ℤ → List ℕ
sign (pos n) = []
sign (negsuc n) = codes "-"

abbrev pub tenths_text : ℤ → List ℕ
tenths_text t = sign t ++ decimal (unsigned_abs t / 10) ++ codes "." ++ decimal (unsigned_abs t % 10)

abbrev pub margin_text : Held → List ℕ
margin_text x = tenths_text (tenths x.value)
