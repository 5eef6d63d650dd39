use Rattle.lba_ranges.proofs.Cells.{AllSized-items}
use Rattle.lba_ranges.proofs.list.BlockList.blocks.Goals as goal

pub returns-clause-sized : goal.returns-clause-sized
returns-clause-sized c = rw (← c.self.view_is) (AllSized-items _ _ c.self.invariant.1)
