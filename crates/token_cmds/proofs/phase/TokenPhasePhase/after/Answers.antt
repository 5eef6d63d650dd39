use Rattle.std.proofs.Common.{subst}
use Rattle.cmd_program.specs.declared.step.Outcome.{Outcome}
use Rattle.cmd_program.specs.Program.{next}
use Rattle.cmd_program.specs.Meaning.{MayFollow}
use Rattle.token_cmds.specs.Meaning.{by_phase}
use Rattle.token_cmds.proofs.phase.TokenPhasePhase.after.Goals as goal

pub after-requires : goal.after-requires
after-requires c =
    let config = c.args.config.now in
    (config, subst (λ p. MayFollow config (next (by_phase config p)) (Outcome.Answered c.args.answer)) c.in-StatusAsked.is c.requires.follows)

pub after-requires-in-InformationAsked : goal.after-requires-in-InformationAsked
after-requires-in-InformationAsked c =
    let config = c.args.config.now in
    (config, subst (λ p. MayFollow config (next (by_phase config p)) (Outcome.Answered c.args.answer)) c.in-InformationAsked.is c.requires.follows)

pub returns-in-StatusAsked-clause-sound : goal.returns-in-StatusAsked-clause-sound
returns-in-StatusAsked-clause-sound c = c.after.ensures.sound c.args.config.now
