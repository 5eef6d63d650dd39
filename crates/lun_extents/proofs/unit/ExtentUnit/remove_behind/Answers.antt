use Rattle.std.proofs.Common.{◌≡◌, ◌∙◌, ap, arith}
use Rattle.std.specs.Prelude.{true}
use Rattle.lba_ranges.specs.Denoted.{is_within}
use Rattle.lba_ranges.proofs.PublicLaws.{within-at}
use Rattle.lun_extents.specs.Extents.{Extents}
use Rattle.lun_extents.proofs.unit.ExtentUnit.remove_behind.Goals as goal

pub overflow_add-end : goal.overflow_add-end
overflow_add-end c =
    let within : is_within c.self.inside.blocks c.args.ranges.now ≡ true = ap (λ (v : Extents). is_within v.blocks c.args.ranges.now) c.self.view_is ∙ c.requires in
    let fits = within-at c.self.inside.blocks c.args.ranges.now c.loop-index.index c.at-range.result within c.at-range.ensures in
    omega arith
