use Rattle.std.proofs.Common.{◌≡◌, ◌^◌, length, ap, ◌∙◌, sym, refl, arith}
use Rattle.lba_ranges.specs.Denoted.{blocks_of, total}
use Rattle.lba_ranges.proofs.Rows.{length-blocks_of, within-read, block-here, block-later, length-later}
use Rattle.lba_ranges.proofs.ranges.RangeList.block.Goals as goal

pub loop-range-init : goal.loop-range-init
loop-range-init c =
    let same = c.as_slice-range-items.ensures.ranges in
    let long : length (blocks_of c.as_slice-range-items.result.now) ≡ total c.args.self.now = ap (λ rs. length (blocks_of rs)) same ∙ length-blocks_of c.args.self.now in
    (refl, omega (arith, long))

pub overflow_add-result : goal.overflow_add-result
overflow_add-result c =
    let fits = within-read (2 ^ 64) c.as_slice-range-items.result.now c.loop-range.range-index (record { lba = 0; count = 0 })
    (rw c.as_slice-range-items.ensures.ranges c.requires.numbers) c.loop-range-test.true in
    omega arith

pub returns-then-left-from : goal.returns-then-left-from
returns-then-left-from c =
    let here = block-here c.as_slice-range-items.result.now c.loop-range.range-index c.loop-range.left (record { lba = 0; count = 0 }) c.loop-range-test.true (omega arith) in
    rw (← c.as_slice-range-items.ensures.ranges) (sym (c.loop-range.invariant.0 ∙ here))

pub loop-range-preserved : goal.loop-range-preserved
loop-range-preserved c =
    let later = block-later c.as_slice-range-items.result.now c.loop-range.range-index c.loop-range.left (record { lba = 0; count = 0 }) c.loop-range-test.true (omega arith) in
    let long = length-later c.as_slice-range-items.result.now c.loop-range.range-index (record { lba = 0; count = 0 }) c.loop-range-test.true in
    (c.loop-range.invariant.0 ∙ rw c.from-left.ensures later, omega arith)
