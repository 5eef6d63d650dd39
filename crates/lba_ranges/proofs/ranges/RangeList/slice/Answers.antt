use Rattle.std.proofs.Common.{◌≡◌, ◌+◌, ◌-◌, ◌^◌, length, drop, get_or, min, ap, arith, refl, ◌∙◌}
use Rattle.lba_ranges.specs.Denoted.{row, blocks_of, total}
use Rattle.lba_ranges.proofs.Rows.{length-row, length-blocks_of, blocks_of-drop, within-read}
use Rattle.lba_ranges.proofs.Windows.{window_step}
use Rattle.lba_ranges.specs.declared.ranges.Range.{Range}
use Rattle.lba_ranges.proofs.ranges.RangeList.slice.Goals as goal

pub loop-range-init : goal.loop-range-init
loop-range-init c =
    let same : c.as_slice-range-items.result.now ≡ c.args.self.now = c.as_slice-range-items.ensures.ranges in
    let long : length (blocks_of c.as_slice-range-items.result.now) ≡ total c.args.self.now = ap (λ rs. length (blocks_of rs)) same ∙ length-blocks_of c.args.self.now in
    rw c.empty-part.ensures (refl, omega (arith, long), omega arith, omega arith, λ blocks all. refl)

pub push_part-requires-clause-numbers : goal.push_part-requires-clause-numbers
push_part-requires-clause-numbers c =
    within-read (2 ^ 64) c.as_slice-range-items.result.now c.loop-range.range-index _
    (rw c.as_slice-range-items.ensures.ranges c.requires.numbers) c.loop-range-test.true

pub loop-range-preserved : goal.loop-range-preserved
loop-range-preserved c =
    let items = c.as_slice-range-items.result.now in
    let range : Range = get_or items c.loop-range.range-index (record { lba = 0; count = 0 }) in
    let next = blocks_of-drop items c.loop-range.range-index (record { lba = 0; count = 0 }) c.loop-range-test.true in
    let before : c.min-before.result ≡ min c.loop-range.skip range.count = omega arith in
    let taken : c.min-taken.result ≡ min c.loop-range.left (range.count - c.min-before.result) = omega arith in
    let step = window_step (blocks_of c.loop-range.part) (row range.lba range.count) (blocks_of (drop (c.loop-range.range-index + 1) items)) _ _ c.loop-range.skip c.loop-range.left _ _ _
    (length-row range.lba range.count) before taken
    (rw next at c.loop-range.invariant.0) (rw next at c.loop-range.invariant.1) c.loop-range.invariant.2 in
    let few = c.in_ok-push_part.ensures.few in (
      rw c.in_ok-push_part.ensures.blocks step.0,
      step.1,
      rw c.in_ok-push_part.ensures.blocks step.2,
      omega arith,
      λ blocks all. c.in_ok-push_part.ensures.within blocks (c.loop-range.invariant.4 blocks all) (within-read blocks items c.loop-range.range-index (record { lba = 0; count = 0 }) all c.loop-range-test.true),
    )
