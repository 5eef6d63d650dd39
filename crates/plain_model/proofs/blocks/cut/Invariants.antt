use Rattle.std.proofs.Common.{◌≡◌, map, take}
use Rattle.cm_history.specs.Blocks.{held}
use Rattle.plain_model.proofs.blocks.cut.Given as goal

abbrev pub invariant-loop-block : goal.invariant-loop-block
invariant-loop-block l =
    (l.list.block_length ≡ l.fn.unit.block_length) × (l.list.items ≡ map (held l.past) (take l.block-index l.blocks))
