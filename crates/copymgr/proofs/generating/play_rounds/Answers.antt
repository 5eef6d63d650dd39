use Rattle.std.proofs.Common.{Some, ap, ◌∙◌}
use Rattle.cmd_program.specs.Judging.{step}
use Rattle.copymgr.proofs.EndsWell.{generated-ends}
use Rattle.copymgr.proofs.ToldCounts.{answered}
use Rattle.copymgr.proofs.generating.play_rounds.Goals as goal

pub returns : goal.returns
returns g c =
    let back = c.read_back_law.ensures.items in
    let law = c.well_formed_law.ensures in
    answered _ _ _ _ c.args.rounds c.replay_with.result
    (record {
      well = generated-ends step back law.header law.items law.count c.args.rounds c.requires.1;
      free = c.rounds_law.ensures c.args.rounds c.requires.1;
    })
    (c.new-trace.ensures ∙ ap Some c.in_ok-generate.ensures) c.replay_with.ensures.played c.replay_with.ensures.counted
