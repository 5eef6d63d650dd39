use Rattle.std.proofs.Common.{◌≡◌, ◌∙◌, ◌+◌, ◌≤◌, ap, sym, subst, arith}
use Rattle.lba_ranges.specs.HeldBlocks.{IsFull}
use Rattle.lba_ranges.specs.Denoted.{row}
use Rattle.lba_ranges.specs.Writings.{mapped_among}
use Rattle.lba_ranges.proofs.PublicLaws.{mapped-le}
use Rattle.lun_extents.specs.Extents.{Extents, held_in}
use Rattle.lun_extents.proofs.Counting.{among-le}
use Rattle.lun_extents.proofs.Alone.{counted-anew}
use Rattle.lun_extents.proofs.unit.ExtentUnit.set_alone.Goals as goal

pub overflow_sub-others : goal.overflow_sub-others
overflow_sub-others c =
    let size = c.self.inside.block_length in
    let run = c.args.run in
    let blocks = ap (λ (v : Extents). v.blocks) c.self.view_is in
    let within : run.range.lba + run.range.count ≤ c.self.inside.blocks = omega (arith, c.requires.within) in
    let was : c.args.before ≡ mapped_among (held_in size c.self.inside.extents.entries) (row run.range.lba run.range.count) =
    c.requires.before ∙ sym (ap (λ (v : Extents). mapped_among (held_in v.block_length v.entries) (row run.range.lba run.range.count)) c.self.view_is) in
    let le = among-le c.self.inside.blocks (held_in size c.self.inside.extents.entries) run.range.lba run.range.count within in
    omega (arith, c.self.invariant.1, le, was)

pub overflow_add-self : goal.overflow_add-self
overflow_add-self c =
    let size = c.self.inside.block_length in
    let run = c.args.run in
    let blocks = ap (λ (v : Extents). v.blocks) c.self.view_is in
    let within : run.range.lba + run.range.count ≤ c.self.inside.blocks = omega (arith, c.requires.within) in
    let was : c.args.before ≡ mapped_among (held_in size c.self.inside.extents.entries) (row run.range.lba run.range.count) =
    c.requires.before ∙ sym (ap (λ (v : Extents). mapped_among (held_in v.block_length v.entries) (row run.range.lba run.range.count)) c.self.view_is) in
    let counted = counted-anew c.self.inside.blocks size (held_in size c.self.inside.extents.entries) (held_in size c.set_alone.new.map.entries) run.range.lba run.range.count run.fill
    c.self.inside.mapped c.args.before c.mapped_of-now.result within (c.in_ok-set_alone.ensures.held size) c.self.invariant.1 was c.mapped_of-now.ensures in
    let le = mapped-le c.self.inside.blocks (held_in size c.set_alone.new.map.entries) in
    let sum = counted.sum in
    omega arith

pub invariant_of-self-2 : goal.invariant_of-self-2
invariant_of-self-2 c =
    let size = c.self.inside.block_length in
    let run = c.args.run in
    let blocks = ap (λ (v : Extents). v.blocks) c.self.view_is in
    let within : run.range.lba + run.range.count ≤ c.self.inside.blocks = omega (arith, c.requires.within) in
    let was : c.args.before ≡ mapped_among (held_in size c.self.inside.extents.entries) (row run.range.lba run.range.count) =
    c.requires.before ∙ sym (ap (λ (v : Extents). mapped_among (held_in v.block_length v.entries) (row run.range.lba run.range.count)) c.self.view_is) in
    let counted = counted-anew c.self.inside.blocks size (held_in size c.self.inside.extents.entries) (held_in size c.set_alone.new.map.entries) run.range.lba run.range.count run.fill
    c.self.inside.mapped c.args.before c.mapped_of-now.result within (c.in_ok-set_alone.ensures.held size) c.self.invariant.1 was c.mapped_of-now.ensures in
    let same = sym (ap (λ (v : Extents). v.block_length) c.self.view_is) in
    let full : IsFull size run.range.count run.fill = subst (λ n. IsFull n run.range.count run.fill) same c.requires.full in
    (c.in_ok-set_alone.ensures.extents c.self.inside.blocks size c.self.invariant.0 full within, counted.sum)
