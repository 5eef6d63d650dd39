use Rattle.std.proofs.Common.{◌≡◌, ◌∙◌, ap, subst, List}
use Rattle.cm_base.specs.Units.{unit_of}
use Rattle.cm_history.specs.Answers.{answer_end, done_if}
use Rattle.cm_history.specs.Blocks.{held}
use Rattle.cm_history.specs.Deeds.{Deed}
use Rattle.cm_history.specs.Operations.{would_serve}
use Rattle.cm_history.specs.Reserving.{reservations}
use Rattle.plain_model.specs.inner.Holds.{AreSized}
use Rattle.plain_model.proofs.Sizes.{held-sized}
use Rattle.plain_model.proofs.unit.PlainUnit.told.Goals as goal

pub read-requires : goal.read-requires
read-requires c =
    let size = (unit_of c.args.config.now c.args.number).block_length in
    let same : c.args.self.now ≡ c.self.inside.past = cc in
    rw (c.unit-unit.ensures.told) (subst (λ (past : List Deed). AreSized size (held past)) same (held-sized size c.args.self.now c.requires.sized))

pub returns-in-MapStatus : goal.returns-in-MapStatus
returns-in-MapStatus c =
    let same : c.self.inside.past ≡ c.args.self.now = cc in
    rw c.in-MapStatus.is (rw (c.unit-unit.ensures.told, same) at c.status.ensures)

pub returns-in-End : goal.returns-in-End
returns-in-End c =
    rw c.in-End.is (c.answer_end.ensures ∙ ap answer_end (c.would_serve-served.ensures ∙ ap (would_serve c.args.self.now c.args.actor) c.in-End.is))

pub returns-in-Abort : goal.returns-in-Abort
returns-in-Abort c =
    rw c.in-Abort.is (c.done_if.ensures ∙ ap done_if (c.would_serve-served.ensures ∙ ap (would_serve c.args.self.now c.args.actor) c.in-Abort.is))

pub returns-in-Close : goal.returns-in-Close
returns-in-Close c =
    rw c.in-Close.is (c.done_if-in-Close.ensures ∙ ap done_if (c.would_serve-served.ensures ∙ ap (would_serve c.args.self.now c.args.actor) c.in-Close.is))

pub returns-in-PrOut : goal.returns-in-PrOut
returns-in-PrOut c =
    let same : c.self.inside.tables.reservations ≡ reservations c.args.self.now = cc in
    rw c.in-PrOut.is (rw (c.in-PrOut.is, same) at c.answer_out.ensures)
