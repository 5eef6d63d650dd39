use Rattle.std.proofs.Common.{◌≡◌}
use Rattle.lba_ranges.proofs.Cells.{bytes_of-only}
use Rattle.lba_ranges.proofs.list.BlockList.whole.Goals as goal

pub returns-in-Bytes : goal.returns-in-Bytes
returns-in-Bytes c =
    let runs : c.as_slice.result.now ≡ c.self.inside.runs.items = c.as_slice.ensures in
    let only = bytes_of-only c.self.inside.block_length c.as_slice.result.now c.run-item.result c.in-Bytes.bytes c.in-len1.len_at_least c.in-len1.len_below c.run-item.is c.in-Bytes.is (rw runs c.self.invariant.1) in
    rw (← c.self.view_is, ← runs) only
