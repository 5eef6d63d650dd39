use Rattle.std.proofs.Common.{◌≡◌, ◌+◌, ◌++◌, ◌∙◌, ap, sym, subst, arith, append_assoc, List}
use Rattle.std.specs.Prelude.{slice_range}
use Rattle.lba_ranges.specs.HeldBlocks.{filled}
use Rattle.lba_ranges.specs.Denoted.{row, blocks_of}
use Rattle.lun_extents.specs.declared.runs.Filling.{Filling}
use Rattle.lun_extents.specs.inner.Runs.{ranges_of, items_of_runs, AreRuns}
use Rattle.lun_extents.proofs.Counting.{row-append}
use Rattle.lun_extents.proofs.Planned.{blocks-push, items-push, runs-push, slice-more}
use Rattle.lun_extents.proofs.runs.push_runs.Goals as goal

pub loop-done-preserved : goal.loop-done-preserved
loop-done-preserved c =
    let pushed = c.in_ok-push.ensures.items in
    let size = c.args.list.now.block_length in
    let xs = c.args.list.now.items in
    let rs = c.loop-done.runs.items in
    let lba = c.args.range.lba in
    let from = c.args.from in
    let done = c.loop-done.done in
    let n = c.in_ok-piece.piece.count in
    let fill = c.in_ok-piece.piece.fill in
    let first = c.from.ensures in
    let place = c.from-in-loop-done.ensures in
    let run : Filling = record { range = record { lba = lba + c.from.result; count = n }; fill = fill } in
    let blocks = blocks_of (ranges_of c.args.runs.now.items) in
    let items = items_of_runs size c.args.runs.now.items in
    let part : filled size n fill ≡ slice_range xs (from + done) (from + done + n) =
    c.in_ok-piece.ensures.items ∙ ap (λ k. slice_range xs (from + k) (from + k + n)) place in (
      omega (arith, c.in_ok-piece.ensures.most),
      ap (λ l. blocks_of (ranges_of l)) pushed ∙ blocks-push rs run ∙ ap (λ l. l ++ row (lba + c.from.result) n) c.loop-done.invariant.1
          ∙ append_assoc blocks (row lba done) (row (lba + c.from.result) n)
          ∙ ap (λ l. blocks ++ l) (ap (λ k. row lba done ++ row (lba + k) n) first ∙ sym (row-append lba done n)),
      ap (items_of_runs size) pushed ∙ items-push size rs run ∙ ap (λ l. l ++ filled size n fill) c.loop-done.invariant.2
          ∙ append_assoc items (slice_range xs from (from + done)) (filled size n fill)
          ∙ ap (λ l. items ++ l) (ap (λ l. slice_range xs from (from + done) ++ l) part ∙ sym (slice-more xs from done n)),
      λ all within before.
          subst (λ (l : List Filling). AreRuns all size l) (sym pushed)
          (runs-push all size rs run (c.loop-done.invariant.3 all within before) c.in_ok-piece.ensures.some (omega (arith, c.in_ok-piece.ensures.most)) c.in_ok-piece.ensures.full),
    )
