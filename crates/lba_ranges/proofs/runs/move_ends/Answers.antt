use Rattle.std.proofs.Common.{arith, ap, length}
use Rattle.lba_ranges.proofs.Spanning.{later-more}
use Rattle.lba_ranges.proofs.runs.move_ends.Goals as goal

pub loop-run-preserved : goal.loop-run-preserved
loop-run-preserved c = rw c.loop-run.invariant (later-more c.args.by c.args.runs.now.items c.loop-run.run-index _ (let long = ap length c.deref_mut-run-items.ensures.value in omega (arith, long)))
