use Rattle.std.proofs.Common.{◌^◌, ◌<◌, ◌∙◌, rules}
use Rattle.kind_texts.proofs.Counts.{counts_text}
use Rattle.kind_texts.proofs.zones.ZonesTextKind.line.Goals as goal

pub returns : goal.returns
returns c =
    let word = c.args.self.0 in
    let small : word < 2 ^ 64 = search rules in
    record { value = c.spelled.ensures.value ∙ counts_text word small }
