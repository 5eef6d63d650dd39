use Rattle.std.proofs.Common.{rules, ◌≡◌, take, ap, subst}
use Rattle.std.specs.Prelude.{IfOk}
use Rattle.cmd_program.specs.Program.{good}
use Rattle.cmd_program.specs.Judging.{program_of}
use Rattle.cmd_machine.specs.Rest.{rest_of}
use Rattle.plain_cmds.specs.Meaning.{by_phase}
use Rattle.plain_cmds.proofs.phase.PlainPhasePhase.begin.Goals as goal

pub returns-in-RequestSense-clause-program : goal.returns-in-RequestSense-clause-program
returns-in-RequestSense-clause-program c = let it = c.request_sense.ensures.program c.args.config.now in rw c.in-RequestSense.is it

pub returns-in-RequestSense-clause-sound : goal.returns-in-RequestSense-clause-sound
returns-in-RequestSense-clause-sound c = c.request_sense.ensures.sound c.args.config.now

pub returns-in-Inquiry-clause-program : goal.returns-in-Inquiry-clause-program
returns-in-Inquiry-clause-program c = let it = c.inquiry.ensures.program c.args.config.now in rw c.in-Inquiry.is it

pub returns-in-Inquiry-clause-sound : goal.returns-in-Inquiry-clause-sound
returns-in-Inquiry-clause-sound c = c.inquiry.ensures.sound c.args.config.now

pub returns-in-Write-clause-program : goal.returns-in-Write-clause-program
returns-in-Write-clause-program c = let it = c.write.ensures.program c.args.config.now in rw c.in-Write.is (search rules)

pub returns-in-Unmap-clause-program : goal.returns-in-Unmap-clause-program
returns-in-Unmap-clause-program c = let it = c.unmap.ensures.program c.args.config.now in rw c.in-Unmap.is (search rules)

pub returns-in-ReadCapacity16-clause-program : goal.returns-in-ReadCapacity16-clause-program
returns-in-ReadCapacity16-clause-program c =
    let config = c.args.config.now in
    let same : good (take c.in-ReadCapacity16.length c.read_capacity16.result) ≡ program_of config c.args.request.unit c.args.request.out c.args.cdb =
    rw c.in-ReadCapacity16.is (ap (λ l. good (take c.in-ReadCapacity16.length l)) c.read_capacity16.ensures) in
    subst (λ program. IfOk c.told.result (λ c. rest_of by_phase config c ≡ program)) same (c.told.ensures.program config)

pub returns-in-ReadCapacity16-clause-sound : goal.returns-in-ReadCapacity16-clause-sound
returns-in-ReadCapacity16-clause-sound c = c.told.ensures.sound c.args.config.now

pub returns-in-CopyParameters-clause-sound : goal.returns-in-CopyParameters-clause-sound
returns-in-CopyParameters-clause-sound c = c.told-in-CopyParameters.ensures.sound c.args.config.now

pub returns-in-PersistentIn-clause-program : goal.returns-in-PersistentIn-clause-program
returns-in-PersistentIn-clause-program c = let it = c.reserve_in.ensures.program c.args.config.now in rw c.in-PersistentIn.is it
