use Rattle.std.proofs.Common.{subst}
use Rattle.cmd_program.specs.declared.step.Outcome.{Outcome}
use Rattle.cmd_program.specs.Program.{next}
use Rattle.cmd_program.specs.Meaning.{MayFollow}
use Rattle.cmd_program.specs.TokenWrite.{zero_rod}
use Rattle.token_cmds.specs.Meaning.{by_writing}
use Rattle.token_cmds.proofs.Progress.{advance-progress}
use Rattle.token_cmds.proofs.writing.Writing.after.Goals as goal

pub started-requires : goal.started-requires
started-requires c =
    let config = c.args.config.now in (
      zero_rod config c.in-Zeroing.write,
      subst (λ w. MayFollow config (next (by_writing config w)) (Outcome.Answered c.args.answer)) c.in-Zeroing.is c.requires.follows,
    )

pub advanced-requires : goal.advanced-requires
advanced-requires c =
    let config = c.args.config.now in
    advance-progress c.in-Advancing.write.id c.args.answer
    (subst (λ w. MayFollow config (next (by_writing config w)) (Outcome.Answered c.args.answer)) c.in-Advancing.is c.requires.follows)
