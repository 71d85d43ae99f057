use Rattle.std.proofs.Common.{◌≡◌, length, drop}
use Rattle.fixed_vec.specs.Elements.{elements}
use Rattle.program.specs.Planned.{planned}
use Rattle.program.specs.Parts.{comes_to}
use Rattle.program.proofs.program.Program.of.Given as goal

-- there are as many steps as nodes so far, and with the nodes that are left they come to the steps of all the nodes
abbrev pub invariant-loop-node : goal.invariant-loop-node
invariant-loop-node l = record {
  many : length (elements l.parts.steps) ≡ l.node-index;
  comes : comes_to l.parts (drop l.node-index l.node-items) ≡ planned 0 0 l.node-items;
}
