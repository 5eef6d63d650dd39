use Rattle.std.proofs.Common.{◌≤◌, ◌∙◌, length, ap, arith}
use Rattle.std.proofs.lemmas.List.{take_all}
use Rattle.lba_ranges.specs.Denoted.{blocks_of}
use Rattle.lba_ranges.specs.Writings.{paired, after, mapped_among}
use Rattle.lba_ranges.proofs.Rows.{within-at, length-blocks_of, blocks_of-below}
use Rattle.lba_ranges.proofs.WritingLemmas.{mapped-put, mapped-le}
use Rattle.lba_ranges.proofs.Counting.{among-next, among-enough}
use Rattle.lba_ranges.proofs.quota.mapped_after.Goals as goal

pub mapped_in-kept-requires : goal.mapped_in-kept-requires
mapped_in-kept-requires g c = within-at (g.B.Blocks.blocks c.args.unit.now) c.args.ranges.now c.loop-index.index c.at.result c.requires.within c.at.ensures

pub overflow_sub-kept : goal.overflow_sub-kept
overflow_sub-kept g c =
    let enough = among-enough (g.B.Blocks.blocks c.args.unit.now) (g.B.Blocks.holds c.args.unit.now) c.args.ranges.now c.loop-index.index c.at.result c.requires.within c.requires.apart c.at.ensures in
    omega (arith, enough, c.loop-index.invariant, c.mapped_in-kept.ensures)

pub loop-index-preserved : goal.loop-index-preserved
loop-index-preserved g c =
    let enough = among-enough (g.B.Blocks.blocks c.args.unit.now) (g.B.Blocks.holds c.args.unit.now) c.args.ranges.now c.loop-index.index c.at.result c.requires.within c.requires.apart c.at.ensures in
    let next = among-next (g.B.Blocks.holds c.args.unit.now) c.args.ranges.now c.loop-index.index c.at.result c.at.ensures in
    omega (arith, enough, next, c.loop-index.invariant, c.mapped_in-kept.ensures)

pub overflow_add-result : goal.overflow_add-result
overflow_add-result g c =
    let n = g.B.Blocks.blocks c.args.unit.now in
    let held = g.B.Blocks.holds c.args.unit.now in
    let rs = c.args.ranges.now in
    let items = c.args.list.now.items in
    let high : length rs ≤ c.loop-index.index = omega arith in
    let all = ap (λ l. mapped_among held (blocks_of l)) (take_all c.loop-index.index rs high) in
    let put = mapped-put n held (blocks_of rs) items (length-blocks_of rs ∙ c.requires.total) c.requires.apart (blocks_of-below n rs c.requires.within) in
    let few = mapped-le n (λ b. after (paired (blocks_of rs) items) b (held b)) in
    omega (arith, put, all, few, c.loop-index.invariant, c.mapped.ensures, c.mapped-kept.ensures.fits)

pub returns : goal.returns
returns g c =
    let n = g.B.Blocks.blocks c.args.unit.now in
    let held = g.B.Blocks.holds c.args.unit.now in
    let rs = c.args.ranges.now in
    let items = c.args.list.now.items in
    let high : length rs ≤ c.loop-index.index = omega arith in
    let all = ap (λ l. mapped_among held (blocks_of l)) (take_all c.loop-index.index rs high) in
    let put = mapped-put n held (blocks_of rs) items (length-blocks_of rs ∙ c.requires.total) c.requires.apart (blocks_of-below n rs c.requires.within) in
    omega (arith, put, all, c.loop-index.invariant, c.mapped.ensures)
