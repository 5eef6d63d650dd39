use Rattle.std.proofs.Common.{arith}
use Rattle.lun_plain.proofs.Rooms.{cleared_row}
use Rattle.lun_plain.proofs.map.clear_row.Goals as goal

pub returns : goal.returns
returns c =
    cleared_row _ _ c.args.lba c.args.count c.loop-block.invariant
    (λ b low high. c.in_default.ensures.none b low (omega arith))
