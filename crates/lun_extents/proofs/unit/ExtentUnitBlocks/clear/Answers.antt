use Rattle.std.proofs.Common.{◌∙◌, take, ap, sym, arith}
use Rattle.lba_ranges.specs.Denoted.{row, blocks_of}
use Rattle.lba_ranges.specs.Writings.{Held, unmapped, after}
use Rattle.lba_ranges.proofs.PublicLaws.{within-at, blocks_of-get, after-append, unmapped-append}
use Rattle.lun_extents.specs.Extents.{held_in}
use Rattle.lun_extents.proofs.Planned.{splits-kept}
use Rattle.lun_extents.proofs.unit.ExtentUnitBlocks.clear.Goals as goal

pub unmap_range-requires-clause-within : goal.unmap_range-requires-clause-within
unmap_range-requires-clause-within c =
    let fits = within-at c.args.self.now.blocks c.args.ranges.now c.loop-index.index c.at.result c.requires c.at.ensures in
    let same = c.split_at_ranges.ensures.same.blocks in
    omega (arith, c.loop-index.invariant.0)

pub loop-index-preserved : goal.loop-index-preserved
loop-index-preserved c =
    let rs = c.args.ranges.now in
    let i = c.loop-index.index in
    let r = c.at.result in
    let was = held_in c.split_at_ranges.new.self.block_length c.split_at_ranges.new.self.entries in (
      c.unmap_range.ensures.blocks ∙ c.loop-index.invariant.0,
      c.unmap_range.ensures.length ∙ c.loop-index.invariant.1,
      λ b. c.unmap_range.ensures.held b ∙ ap (λ (x : Held). after (unmapped (row r.lba r.count)) b x) (c.loop-index.invariant.2 b)
          ∙ sym (after-append (unmapped (blocks_of (take i rs))) (unmapped (row r.lba r.count)) b (was b))
          ∙ sym (ap (λ ws. after ws b (was b)) (ap unmapped (blocks_of-get rs i r c.at.ensures) ∙ unmapped-append (blocks_of (take i rs)) (row r.lba r.count))),
      splits-kept c.loop-index.self.entries c.unmap_range.new.self.entries rs c.loop-index.invariant.3 c.unmap_range.ensures.kept,
    )
