use Rattle.std.proofs.Common.{◌+◌, slice_range, ap, ◌∙◌}
use Rattle.cm_base.specs.declared.part.Block.{Block}
use Rattle.cm_base.proofs.Parts.{part_of_part}
use Rattle.cm_base.proofs.part.Part.part.Goals as goal

pub returns : goal.returns
returns c =
    ap (λ (v : Block). slice_range v.bytes.items (c.self.inside.from + c.args.from) (c.self.inside.from + c.args.to)) c.in_ok-block.ensures
    ∙ part_of_part c.self.inside.block.value.bytes.items c.args.self.now c.self.inside.from c.self.inside.to c.args.from c.args.to c.self.view_is c.self.invariant.0 c.self.invariant.1 c.requires.order c.requires.within
