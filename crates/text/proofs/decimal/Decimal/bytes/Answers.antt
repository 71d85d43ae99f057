use Rattle.std.proofs.Common.{rules}
use Rattle.std.proofs.lemmas.Slice.{between_to_end}
use Rattle.text.proofs.decimal.Decimal.bytes.Goals as goal

pub returns : goal.returns
returns c = let said = c.args.self.now.spelled in search (rules, between_to_end)
