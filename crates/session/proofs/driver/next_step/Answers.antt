use Rattle.std.proofs.Common.{◌++◌, ◌∷◌, []}
use Rattle.cmd_program.specs.declared.step.Outcome.{Outcome}
use Rattle.cmd_program.specs.Judging.{step}
use Rattle.cmd_program.specs.Exchanges.{outcomes_of}
use Rattle.session.proofs.CommandSteps.{none-follows, gave-up-none, not-true, next-there, next-wanted}
use Rattle.session.proofs.driver.next_step.Goals as goal

pub note-requires-clause-notable : goal.note-requires-clause-notable
note-requires-clause-notable c =
    let h = c.requires.goes in
    record {
      nexus = h.0;
      request = h.2.request;
      outcomes = outcomes_of h.2.events;
      stands = h.2.is.stands;
      follows = none-follows c.args.config.now (step c.args.config.now h.0 h.2.request (outcomes_of h.2.events));
    }

pub unwrap-requires : goal.unwrap-requires
unwrap-requires c =
    let h = c.requires.goes in
    c.step-in-Err.ensures.free h.0 h.2.request (outcomes_of h.2.events ++ Outcome.NoMemory ∷ [])
    (c.note.ensures.stands h.0 h.2.request (outcomes_of h.2.events) h.2.is.stands) (gave-up-none (outcomes_of h.2.events))

pub returns-in-Ok-clause-next : goal.returns-in-Ok-clause-next
returns-in-Ok-clause-next c = λ nexus request events left is short.
    next-there c.args.config.now nexus request c.args.command.now events left c.in-Ok.step is short (c.in-Ok.ensures.next nexus request (outcomes_of events) is.stands)

pub returns-in-Err-clause-next : goal.returns-in-Err-clause-next
returns-in-Err-clause-next c = λ nexus request events left is short.
    let stands = c.note.ensures.stands nexus request (outcomes_of events) is.stands in
    let same = rw c.unwrap.ensures at (c.step-in-Err.ensures.next nexus request (outcomes_of events ++ Outcome.NoMemory ∷ []) stands) in
    next-wanted c.args.config.now nexus request c.note.new.self events left c.unwrap.result c.args.command.now is
    (not-true _ (λ gone. let kept = c.in-Err.ensures.free nexus request (outcomes_of events) is.stands gone in cc)) stands short same
