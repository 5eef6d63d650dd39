use Rattle.std.proofs.Common.{◌≡◌, ◌+◌, ◌-◌, ◌++◌, drop, min, arith, refl}
use Rattle.lba_ranges.specs.HeldBlocks.{filled}
use Rattle.lba_ranges.specs.inner.HeldBlocks.{items_of}
use Rattle.lba_ranges.specs.inner.Runs.{pieces_of}
use Rattle.lba_ranges.proofs.Cells.{length-filled}
use Rattle.lba_ranges.proofs.Spanning.{AllFull-at, items_of-drop}
use Rattle.lba_ranges.proofs.Windows.{window_step}
use Rattle.lba_ranges.proofs.list.BlockList.push_window.Goals as goal

pub push_part-requires-clause-full : goal.push_part-requires-clause-full
push_part-requires-clause-full c = rw c.loop-run.invariant.0 (AllFull-at _ c.args.runs.now _ _ c.requires.full c.loop-run-test.true c.run-item.is)

pub loop-run-preserved : goal.loop-run-preserved
loop-run-preserved c =
    let size = c.args.self.now.block_length in
    let piece = c.run-item.result.piece in
    let items = c.args.runs.now in
    let blocks = filled size piece.count piece.fill in
    let rest = items_of size (pieces_of (drop (c.loop-run.run-index + 1) items)) in
    let next : items_of size (pieces_of (drop c.loop-run.run-index items)) ≡ blocks ++ rest = items_of-drop size items _ c.run-item.result c.loop-run-test.true c.run-item.is in
    let before : c.min-before.result ≡ min c.loop-run.skip piece.count = omega arith in
    let taken : c.min-taken.result ≡ min c.loop-run.left (piece.count - c.min-before.result) = omega arith in
    let step = window_step c.loop-run.self.items blocks rest _ _ c.loop-run.skip c.loop-run.left _ _ _
    (length-filled size piece.count piece.fill) before taken
    (rw next at c.loop-run.invariant.1) (rw next at c.loop-run.invariant.2) c.loop-run.invariant.3 in
    rw (c.in_ok-push_part.ensures.ok, c.loop-run.invariant.0) (refl, step.0, step.1, step.2)
