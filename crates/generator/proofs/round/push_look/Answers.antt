use Rattle.std.proofs.Common.{[], ap}
use Rattle.lba_ranges.specs.declared.ranges.Range.{Range}
use Rattle.scsi_cdb.specs.declared.cdb.Cdb.{Cdb}
use Rattle.generator.specs.Rounds.{command, target}
use Rattle.generator.proofs.Spelled.{spelled, grows}
use Rattle.generator.proofs.round.push_look.Goals as goal

pub returns : goal.returns
returns c =
    let r = c.args.round in
    grows c.push_command-2.result c.args.trace.now c.push_command.new.trace c.push_command-2.new.trace
    (command r 1 (Cdb.TokenInformation r 1024) []) (command r 1 (Cdb.Read (target r).lba 8) []) _
    (ap (λ (range : Range). spelled (command r 1 (Cdb.Read range.lba 8) [])) c.target.ensures)
    c.in_ok-push_command.ensures c.push_command-2.ensures
