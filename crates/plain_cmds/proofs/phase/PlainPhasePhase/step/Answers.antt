use Rattle.std.proofs.Common.{subst}
use Rattle.plain_cmds.specs.Meaning.{IsSoundPhase}
use Rattle.plain_cmds.proofs.phase.PlainPhasePhase.step.Goals as goal

pub step-requires : goal.step-requires
step-requires c =
    let config = c.args.config.now in
    (config, subst (IsSoundPhase config) c.in-Reserving.is c.requires)
