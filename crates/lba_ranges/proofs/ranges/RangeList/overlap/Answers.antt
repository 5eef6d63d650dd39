use Rattle.std.proofs.Common.{◌∙◌, refl}
use Rattle.lba_ranges.proofs.Overlaps.{overlapping-drop}
use Rattle.lba_ranges.proofs.ranges.RangeList.overlap.Goals as goal

pub returns-then-meets_any : goal.returns-then-meets_any
returns-then-meets_any c =
    let step = overlapping-drop c.as_slice-ranges.result.now c.loop-index.index c.at-range.result c.meets_any.result
    (rw c.as_slice-ranges.ensures.ranges c.at-range.ensures) c.meets_any.ensures in
    rw (← c.as_slice-ranges.ensures.ranges, c.loop-index.invariant, step, c.if-meets_any.true) refl

pub loop-index-preserved : goal.loop-index-preserved
loop-index-preserved c =
    let step = overlapping-drop c.as_slice-ranges.result.now c.loop-index.index c.at-range.result c.meets_any.result
    (rw c.as_slice-ranges.ensures.ranges c.at-range.ensures) c.meets_any.ensures in
    c.loop-index.invariant ∙ step ∙ rw c.if-meets_any.false refl
