use Rattle.std.proofs.Common.{arith}
use Rattle.lun_extents.specs.Extents.{stored}
use Rattle.lun_extents.proofs.Nearest.{in-gap}
use Rattle.lun_extents.proofs.walk.gap_end.Goals as goal

pub returns-in-Some-clause-held : goal.returns-in-Some-clause-held
returns-in-Some-clause-held c =
    λ size b low high.
    in-gap size (stored c.args.extents.now.entries) c.args.block b low (λ j above below. c.in-Some.ensures.before j (omega arith) (omega arith))

pub returns-in-None-clause-held : goal.returns-in-None-clause-held
returns-in-None-clause-held c =
    λ size b low high.
    in-gap size (stored c.args.extents.now.entries) c.args.block b low (λ j above below. c.in-None.ensures.none j (omega arith) (omega arith))
