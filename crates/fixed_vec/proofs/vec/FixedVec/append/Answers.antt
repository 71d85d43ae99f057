use Rattle.std.proofs.Common.{◌≡◌, ◌++◌, length, take, ap, ◌∙◌, rules}
use Rattle.fixed_vec.specs.Elements.{joined}
use Rattle.fixed_vec.proofs.Cuts.{take_put}
use Rattle.fixed_vec.proofs.vec.FixedVec.append.Goals as goal

pub returns : goal.returns
unfolding joined
returns g c =
    let items = c.args.self.now.items in
    let long : length items ≡ g.row.N = search rules in
    record {
      value =
          take_put items c.put-self.new.buffer c.args.xs.now c.args.self.now.len c.put-self.result c.put-self.ensures.place c.put-self.ensures.memory
          ∙ ap (λ n. take n (take c.args.self.now.len items ++ c.args.xs.now)) long;
    }
