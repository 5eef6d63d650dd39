use Rattle.std.proofs.Common.{◌≡◌, ◌∙◌, ◌+◌, ◌-◌, ◌≤◌, ap, sym, subst, arith, cond}
use Rattle.lba_ranges.specs.HeldBlocks.{IsFull}
use Rattle.lba_ranges.specs.Denoted.{row}
use Rattle.lba_ranges.specs.Writings.{mapped_below, mapped_among}
use Rattle.lba_ranges.proofs.PublicLaws.{mapped-le}
use Rattle.lun_extents.specs.Extents.{Extents, held_in}
use Rattle.lun_extents.specs.inner.Runs.{is_mapped}
use Rattle.lun_extents.proofs.Counting.{set-counted, among-le}
use Rattle.lun_extents.proofs.unit.ExtentUnit.set_run.Goals as goal

within : (c : goal.After-set) → c.args.run.range.lba + c.args.run.range.count ≤ c.self.inside.blocks
within c = let blocks = ap (λ (v : Extents). v.blocks) c.self.view_is in omega (arith, c.requires.within)

before : (c : goal.After-set) → c.mapped_in-before.result ≡ mapped_among (held_in c.self.inside.block_length c.self.inside.extents.entries) (row c.args.run.range.lba c.args.run.range.count)
before c = c.mapped_in-before.ensures ∙ sym (ap (λ (v : Extents). mapped_among (held_in v.block_length v.entries) (row c.args.run.range.lba c.args.run.range.count)) c.self.view_is)

few : (c : goal.After-set) → c.mapped_in-before.result ≤ c.self.inside.mapped
few c =
    let le = among-le c.self.inside.blocks (held_in c.self.inside.block_length c.self.inside.extents.entries) c.args.run.range.lba c.args.run.range.count (within c) in
    let was = before c in
    let counted = c.self.invariant.1 in
    omega arith

moved : (c : goal.After-set) → c.self.inside.mapped - c.mapped_in-before.result + c.mapped_of-now.result ≡ mapped_below c.self.inside.blocks (held_in c.self.inside.block_length c.set.new.map.entries)
moved c =
    let size = c.self.inside.block_length in
    let step = set-counted c.self.inside.blocks size (held_in size c.self.inside.extents.entries) (held_in size c.set.new.map.entries) c.args.run.range.lba c.args.run.range.count c.args.run.fill (within c) (c.set.ensures.held size) in
    let was = before c in
    let less = few c in
    let counted = c.self.invariant.1 in
    let now : c.mapped_of-now.result ≡ cond (is_mapped c.args.run.fill) c.args.run.range.count 0 = c.mapped_of-now.ensures in
    omega arith

pub overflow_sub-self : goal.overflow_sub-self
overflow_sub-self c = few c

pub overflow_add-self : goal.overflow_add-self
overflow_add-self c =
    let sum = moved c in
    let le = mapped-le c.self.inside.blocks (held_in c.self.inside.block_length c.set.new.map.entries) in
    omega arith

pub invariant_of-self : goal.invariant_of-self
invariant_of-self c =
    let size : c.args.self.now.block_length ≡ c.self.inside.block_length = sym (ap (λ (v : Extents). v.block_length) c.self.view_is) in
    let full : IsFull c.self.inside.block_length c.args.run.range.count c.args.run.fill = subst (λ n. IsFull n c.args.run.range.count c.args.run.fill) size c.requires.full in
    (c.set.ensures.extents c.self.inside.blocks c.self.inside.block_length c.self.invariant.0 full (within c.before), moved c.before)
