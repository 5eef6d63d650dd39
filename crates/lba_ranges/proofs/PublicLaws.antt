-- The lemmas of lba_ranges that other crates may cite
pub use Rattle.lba_ranges.proofs.Cells.{held_at-cut, held_at-hole, length-cut, length-filled, mapped-cut, take-held}
pub use Rattle.lba_ranges.proofs.Overlaps.{overlapping-cons}
pub use Rattle.lba_ranges.proofs.Rows.{blocks_of-append, blocks_of-below, blocks_of-get, blocks_of-push, length-blocks_of, length-row, row-push, take-get, total-get, within-at, within-more, within-push}
pub use Rattle.lba_ranges.proofs.WritingLemmas.{after-append, after-before, after-more, after-unmapped_row, after-unwritten, among-append, among-le, differs-at, mapped-fewer, mapped-le, mapped-left, mapped-none, mapped-put, mapped-same, mapped-set, one_if, paired-push, unmapped-append}
pub use Rattle.lba_ranges.proofs.MapRuns.{runs-done, runs-step}
