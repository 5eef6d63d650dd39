use Rattle.lba_ranges.proofs.Cells.{length-items_bytes}
use Rattle.lba_ranges.proofs.list.BlockList.payload.Goals as goal

pub returns-in_err-clone-clause-length : goal.returns-in_err-clone-clause-length
returns-in_err-clone-clause-length c = rw (← c.self.view_is) (length-items_bytes _ _ c.self.invariant.1)

pub returns-in-Some-clause-length : goal.returns-in-Some-clause-length
returns-in-Some-clause-length c = rw (← c.self.view_is) (length-items_bytes _ _ c.self.invariant.1)
