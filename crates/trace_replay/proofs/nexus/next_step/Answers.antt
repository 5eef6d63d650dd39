use Rattle.std.proofs.Common.{◌++◌, ◌∷◌, []}
use Rattle.cmd_program.specs.declared.step.Outcome.{Outcome}
use Rattle.cmd_program.specs.Judging.{step}
use Rattle.trace_replay.proofs.CommandSteps.{none-follows, gave-up-none, next-there, next-wanted}
use Rattle.trace_replay.proofs.nexus.next_step.Goals as goal

pub note-requires-clause-notable : goal.note-requires-clause-notable
note-requires-clause-notable c =
    let p = c.requires.stands.p in
    record {
      nexus = p.initiator;
      request = p.request;
      outcomes = p.outcomes;
      stands = c.requires.stands.is.stands;
      follows = none-follows c.args.config.now (step c.args.config.now p.initiator p.request p.outcomes);
    }

pub unwrap-requires : goal.unwrap-requires
unwrap-requires c =
    let p = c.requires.stands.p in
    c.step-in-Err.ensures.free p.initiator p.request (p.outcomes ++ Outcome.NoMemory ∷ [])
    (c.note.ensures.stands p.initiator p.request p.outcomes c.requires.stands.is.stands) (gave-up-none p.outcomes)

pub returns-in-Ok-clause-next : goal.returns-in-Ok-clause-next
returns-in-Ok-clause-next c = λ p is.
    next-there c.args.config.now c.args.command.now p c.in-Ok.step c.args.given_up is (c.in-Ok.ensures.next p.initiator p.request p.outcomes is.stands)

pub returns-in-Err-clause-next : goal.returns-in-Err-clause-next
returns-in-Err-clause-next c = λ p is.
    let stands = c.note.ensures.stands p.initiator p.request p.outcomes is.stands in
    let same = rw c.unwrap.ensures at (c.step-in-Err.ensures.next p.initiator p.request (p.outcomes ++ Outcome.NoMemory ∷ []) stands) in
    next-wanted c.args.config.now c.note.new.self p c.unwrap.result
    (λ gone. let kept = c.in-Err.ensures.free p.initiator p.request p.outcomes is.stands gone in cc) stands same
