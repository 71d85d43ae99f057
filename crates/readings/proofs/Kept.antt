-- A margin as lists keep it means that margin.
use Rattle.std.proofs.Common.{◌≡◌, ap, ◌∙◌, arith}
use Rattle.std.proofs.lemmas.Int.{ints, clamps}
use Rattle.kinds.specs.Margin.{Held, held, margin_means}
use Rattle.kinds.specs.MarginLaws.{same}
use Rattle.kinds.specs.declared.margin.Margin.{Margin}
use Rattle.readings.specs.Gauge.{kept}

pub kept_means : (m : Margin) (h : Held) → m ≡ kept h → margin_means m ≡ h
kept_means m h e = ap margin_means e ∙ same (held h.value) h (omega (arith, ints, clamps))
