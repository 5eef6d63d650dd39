use Rattle.std.proofs.Common.{ap, sym, ◌∙◌}
use Rattle.std.specs.Prelude.{max}
use Rattle.nexus.specs.Opening.{number_after}
use Rattle.nexus.proofs.Resumed.{numbers-more}
use Rattle.nexus.proofs.resuming.numbers_after.Goals as goal

pub loop-place-preserved : goal.loop-place-preserved
loop-place-preserved c =
    c.max-next.ensures
    ∙ ap (λ n. max n c.loop-place.next) c.number_after.ensures
    ∙ ap (max (number_after c.at.result.now.actor)) c.loop-place.invariant
    ∙ sym (numbers-more c.args.history.now.entries c.loop-place.place c.at.result.now c.at.ensures)
