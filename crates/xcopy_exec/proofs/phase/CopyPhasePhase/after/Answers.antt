use Rattle.std.proofs.Common.{subst}
use Rattle.cmd_program.specs.declared.step.Outcome.{Outcome}
use Rattle.cmd_program.specs.Program.{next}
use Rattle.cmd_program.specs.Meaning.{MayFollow}
use Rattle.xcopy_exec.specs.Meaning.{by_phase}
use Rattle.xcopy_exec.proofs.phase.CopyPhasePhase.after.Goals as goal

pub after-requires : goal.after-requires
after-requires c =
    let config = c.args.config.now in
    subst (λ p. MayFollow config (next (by_phase config p)) (Outcome.Answered c.args.answer)) c.in-Recalling.is c.requires.follows

pub returns-in-Recalling-clause-sound : goal.returns-in-Recalling-clause-sound
returns-in-Recalling-clause-sound c = c.after.ensures.sound c.args.config.now
