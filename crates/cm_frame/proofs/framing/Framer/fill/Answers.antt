use Rattle.std.proofs.Common.{◌∙◌}
use Rattle.cm_frame.specs.inner.Gathering.{begun}
use Rattle.cm_frame.proofs.FedStays.{joined-stays}
use Rattle.cm_frame.proofs.framing.Framer.fill.Goals as goal

pub returns-clause-stays : goal.returns-clause-stays
returns-clause-stays g c =
    let s = c.self.inside in
    let ok = c.in_ok-fill.ensures.ok in
    joined-stays (begun s.long) s.rest ok.0 c.fill.new.self c.args.self.now ok.2 (c.self.view_is ∙ c.make_room.ensures)
