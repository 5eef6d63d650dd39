use Rattle.std.proofs.Common.{subst, ◌++◌, ◌∷◌, []}
use Rattle.cmd_program.specs.declared.step.Step.{Step}
use Rattle.cmd_program.specs.Meaning.{MayFollow}
use Rattle.any_cmds.proofs.tests.driving.drive.Goals as goal

pub note-requires-clause-notable : goal.note-requires-clause-notable
note-requires-clause-notable c =
    let was = c.requires.stands in
    let follows = c.may_follow.ensures c.if-not-may_follow.false in
    record {
      nexus = was.0;
      request = was.1;
      outcomes = was.2;
      stands = was.3;
      follows = subst (λ (s : Step). MayFollow c.args.config.now s c.args.outcome)
          (c.in_ok-step.ensures.next was.0 was.1 was.2 was.3) follows;
    }

pub returns-clause-stands : goal.returns-clause-stands
returns-clause-stands c =
    let was = c.requires.stands in
    (was.0, was.1, was.2 ++ c.args.outcome ∷ [], c.note.ensures.stands was.0 was.1 was.2 was.3)
