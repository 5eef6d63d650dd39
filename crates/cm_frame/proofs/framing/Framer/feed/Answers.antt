use Rattle.std.proofs.Common.{◌∙◌}
use Rattle.cm_frame.specs.inner.Gathering.{begun}
use Rattle.cm_frame.proofs.FedStays.{fed-stays}
use Rattle.cm_frame.proofs.framing.Framer.feed.Goals as goal

pub returns-clause-stays : goal.returns-clause-stays
returns-clause-stays c =
    let s = c.self.inside in
    fed-stays c.feed.result (begun s.long) s.rest c.args.piece.now c.feed.new.self c.args.self.now c.feed.ensures.ok c.feed.ensures.err (c.self.view_is ∙ c.make_room.ensures)
