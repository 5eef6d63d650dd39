use Rattle.std.proofs.Common.{◌≡◌, ◌∙◌, ◌+◌, ◌-◌, ◌≤◌, ap, sym, arith}
use Rattle.lba_ranges.specs.Denoted.{row}
use Rattle.lba_ranges.specs.Writings.{mapped_below, mapped_among}
use Rattle.lun_extents.specs.Extents.{Extents, held_in}
use Rattle.lun_extents.proofs.Counting.{unmap-counted, among-le}
use Rattle.lun_extents.proofs.unit.ExtentUnit.unmap_range.Goals as goal

within : (c : goal.After-unmap) → c.args.range.lba + c.args.range.count ≤ c.self.inside.blocks
within c = let blocks = ap (λ (v : Extents). v.blocks) c.self.view_is in omega (arith, c.requires.within)

before : (c : goal.After-unmap) → c.mapped_in-before.result ≡ mapped_among (held_in c.self.inside.block_length c.self.inside.extents.entries) (row c.args.range.lba c.args.range.count)
before c = c.mapped_in-before.ensures ∙ sym (ap (λ (v : Extents). mapped_among (held_in v.block_length v.entries) (row c.args.range.lba c.args.range.count)) c.self.view_is)

few : (c : goal.After-unmap) → c.mapped_in-before.result ≤ c.self.inside.mapped
few c =
    let le = among-le c.self.inside.blocks (held_in c.self.inside.block_length c.self.inside.extents.entries) c.args.range.lba c.args.range.count (within c) in
    let was = before c in
    let counted = c.self.invariant.1 in
    omega arith

moved : (c : goal.After-unmap) → c.self.inside.mapped - c.mapped_in-before.result ≡ mapped_below c.self.inside.blocks (held_in c.self.inside.block_length c.unmap.new.map.entries)
moved c =
    let size = c.self.inside.block_length in
    let step = unmap-counted c.self.inside.blocks (held_in size c.self.inside.extents.entries) (held_in size c.unmap.new.map.entries) c.args.range.lba c.args.range.count (within c) (c.unmap.ensures.held size) in
    let was = before c in
    let counted = c.self.invariant.1 in
    omega arith

pub overflow_sub-self : goal.overflow_sub-self
overflow_sub-self c = few c

pub invariant_of-self : goal.invariant_of-self
invariant_of-self c = (c.unmap.ensures.extents c.self.inside.blocks c.self.inside.block_length c.self.invariant.0, moved c.before)
