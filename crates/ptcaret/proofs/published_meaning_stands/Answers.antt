use Rattle.ptcaret.proofs.Satisfying.{value_is_satisfaction, abstract_prefix_is_prior}
use Rattle.ptcaret.proofs.published_meaning_stands.Goals as goal

pub returns : goal.returns
returns c = record { stands = value_is_satisfaction; cut = abstract_prefix_is_prior }
