-- What `put` leaves in the places, by the text that the line held.
use Rattle.std.proofs.Common.{◌≡◌, ◌++◌, length, take, ap, ◌∙◌, rules}
use Rattle.fixed_vec.specs.Elements.{joined}
use Rattle.fixed_vec.proofs.Cuts.{take_put}
use Rattle.text.proofs.line.Line.add.Goals as goal

pub returns : goal.returns
unfolding joined
returns g c =
    let v = c.self.inside.bytes in
    let long : length v.items ≡ g.row.N = search rules in
    record {
      value =
          take_put v.items c.put-end.new.buffer c.args.piece.now v.len c.put-end.result c.put-end.ensures.place c.put-end.ensures.memory
          ∙ ap (λ n. take n (take v.len v.items ++ c.args.piece.now)) long
          ∙ ap (λ t. take g.row.N (t ++ c.args.piece.now)) c.self.view_is;
    }
