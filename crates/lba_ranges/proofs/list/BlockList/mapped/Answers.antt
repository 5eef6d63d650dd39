use Rattle.std.proofs.Common.{◌≡◌, length, ap, sym, arith}
use Rattle.std.specs.Prelude.{is_some}
use Rattle.std.proofs.lemmas.List.Sums.{count_by-le-length}
use Rattle.lba_ranges.specs.HeldBlocks.{HeldBlocks}
use Rattle.lba_ranges.specs.inner.HeldBlocks.{items_of}
use Rattle.lba_ranges.specs.inner.Runs.{pieces_of}
use Rattle.lba_ranges.proofs.Spanning.{count-drop}
use Rattle.lba_ranges.proofs.list.BlockList.mapped.Goals as goal

pub overflow_add-blocks : goal.overflow_add-blocks
overflow_add-blocks c =
    let runs = c.as_slice-run-items.result.now in
    let size = c.args.self.now.block_length in
    let same : c.self.inside.block_length ≡ size = ap (λ (v : HeldBlocks). v.block_length) c.self.view_is in
    let all : length (items_of size (pieces_of runs)) ≡ c.self.inside.count = rw (← same, c.as_slice-run-items.ensures) (sym c.self.invariant.0) in
    let few = count_by-le-length is_some (items_of size (pieces_of runs)) in
    let step = count-drop size runs c.loop-run.run-index _ c.loop-run-test.true c.run-item.is in
    omega (arith, c.loop-run.invariant, c.mapped.ensures size, step, few, all)
