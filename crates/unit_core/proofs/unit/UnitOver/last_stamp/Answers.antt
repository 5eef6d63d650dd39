use Rattle.std.proofs.Common.{◌+◌, length, ap, sym}
use Rattle.cm_history.specs.Folding.{StandsFor}
use Rattle.unit_core.proofs.AnswersAs.{answers_as}
use Rattle.unit_core.specs.inner.Shown.{image_shown}
use Rattle.cm_history.specs.Image.{Image}
use Rattle.rod_store.specs.Pinning.{rods_of}
use Rattle.unit_core.proofs.unit.UnitOver.last_stamp.Goals as goal

pub returns-clause-told : goal.returns-clause-told
returns-clause-told g c = λ h s.
    let u = c.self.inside in
    let o = u.core in
    let shown = image_shown o.moment o.last_stamp (u.folded + length u.history.entries) (g.B.Blocks.blocks o.tables.blocks) (g.B.Blocks.holds o.tables.blocks) (rods_of g.B.Pins.number (g.B.Blocks.block_length o.tables.blocks) (g.B.Blocks.shown o.tables.blocks) o.tables.tokens).tokens o.tables.jobs o.tables.reservations in
    let stood : StandsFor o.config o.unit shown u.history.entries u.folded h = rw (← c.self.view_is) at (answers_as c.args.self.now h s) in
    rw (← c.self.view_is) (sym (ap (λ (j : Image). j.last_stamp) stood.image))
