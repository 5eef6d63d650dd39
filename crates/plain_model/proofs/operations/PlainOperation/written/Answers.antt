use Rattle.std.proofs.Common.{arith}
use Rattle.plain_model.proofs.OneByOne.{list-few}
use Rattle.plain_model.proofs.operations.PlainOperation.written.Goals as goal

pub written-requires : goal.written-requires
written-requires c =
    let few = list-few c.self.inside.made.entry.act c.self.invariant.act in
    let begun = c.self.invariant.begun in
    omega (arith, few, begun)

pub returns-clause-few : goal.returns-clause-few
returns-clause-few c =
    let few = list-few c.self.inside.made.entry.act c.self.invariant.act in
    let begun = c.self.invariant.begun in
    omega (arith, few, begun, c.written.ensures)
