use Rattle.std.proofs.Common.{subst, length, ◌≤◌, ◌^◌}
use Rattle.std.specs.Prelude.{IsTrue}
use Rattle.lba_ranges.specs.Denoted.{is_within}
use Rattle.plain_model.specs.inner.Holds.{IsSoundAct}
use Rattle.plain_model.proofs.operations.PlainOperation.next_piece.Goals as goal

pub paired-requires : goal.paired-requires
paired-requires c =
    let sound : (length c.in-Start.rod.items ≤ 1_048_576) × IsTrue (is_within (2 ^ 64) c.in-Start.ranges) = subst IsSoundAct c.in-Start.is c.act.ensures.sound in
    sound.1
