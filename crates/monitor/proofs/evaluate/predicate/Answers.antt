use Rattle.std.proofs.Common.{◌≡◌, map, unwrap_or, get_or, sym, ap, ◌∙◌}
use Rattle.std.specs.List.{slice_get}
use Rattle.std.proofs.lemmas.Option.{unwrap_or-slice_get}
use Rattle.std.proofs.Math.ListN.{get_or-map}
use Rattle.monitor.proofs.evaluate.predicate.Goals as goal

pub returns : goal.returns
returns g c =
    let means = g.K.TruthKind.means in
    let readings = g.S.Source.readings c.args.source.now in
    let d = c.falsehood.result in
    let value : c.unwrap_or.result ≡ get_or readings c.args.number d = c.unwrap_or.ensures ∙ (ap (λ o. unwrap_or o d) (c.value.ensures.value ∙ ap (slice_get readings) c.from.ensures) ∙ unwrap_or-slice_get readings c.args.number d) in
    record { value = ap means value ∙ (sym (get_or-map means readings c.args.number d) ∙ ap (get_or (map means readings) c.args.number) c.falsehood.ensures.value) }
