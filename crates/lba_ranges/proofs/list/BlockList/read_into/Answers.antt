use Rattle.std.proofs.Common.{append_assoc}
use Rattle.lba_ranges.proofs.Cells.{items_bytes-append, length-items_bytes}
use Rattle.lba_ranges.proofs.Spanning.{AllFull-at, items_of-more}
use Rattle.lba_ranges.proofs.list.BlockList.read_into.Goals as goal

pub read_into-requires : goal.read_into-requires
read_into-requires c =
    AllFull-at _ c.as_slice-run-items.result.now _ _ (rw c.as_slice-run-items.ensures c.self.invariant.1) c.loop-run-test.true c.run-item.is

pub loop-run-preserved : goal.loop-run-preserved
loop-run-preserved c =
    rw (
      c.in_ok-read_into.ensures.ok,
      c.loop-run.invariant,
      items_of-more _ c.as_slice-run-items.result.now _ _ c.loop-run-test.true c.run-item.is,
      items_bytes-append,
    )
    (append_assoc c.args.into.now _ _)

pub returns-clause-length : goal.returns-clause-length
returns-clause-length c = rw (← c.self.view_is) (length-items_bytes _ _ c.self.invariant.1)

pub returns-in_err-read_into-clause-length : goal.returns-in_err-read_into-clause-length
returns-in_err-read_into-clause-length c = rw (← c.self.view_is) (length-items_bytes _ _ c.self.invariant.1)
