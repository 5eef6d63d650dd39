-- Which blocks are mapped, in runs
use Rattle.std.specs.Prelude.{◌≡◌, ◌≢◌, ℕ, ◌+◌, ◌<◌, ◌≤◌, min, is_some}
use Rattle.lba_ranges.specs.declared.status.MapRun.{MapRun}
use Rattle.lba_ranges.specs.Writings.{Held}
use Rattle.lba_ranges.specs.Status.{run_blocks}

-- the run of so many blocks from `block` on is the longest of one kind that the `left` blocks and the limit allow
pub record IsRun (held : ℕ → Held) (block left : ℕ) (run : MapRun) : Type 0 where
  pub starts : run.lba ≡ block
  pub some : 0 < run.count
  pub fits : run.count ≤ min left run_blocks
  pub alike : (k : ℕ) → k < run.count → is_some (held (block + k)) ≡ run.mapped
  pub ends : run.count ≢ min left run_blocks → is_some (held (block + run.count)) ≢ run.mapped
