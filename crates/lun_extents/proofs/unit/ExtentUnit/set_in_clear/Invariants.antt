use Rattle.std.proofs.Common.{◌≡◌, ◌++◌}
use Rattle.lun_extents.proofs.Clear.{IsSetUpTo}
use Rattle.lun_extents.proofs.unit.ExtentUnit.set_in_clear.Given as goal

abbrev pub invariant-loop-run : goal.invariant-loop-run
invariant-loop-run l =
    (goal.iterator-loop-run).can_next l.run-iterator
    × (goal.iterator-loop-run).is_finite l.run-iterator
    × (l.self.blocks ≡ l.initial.self.blocks)
    × (l.self.block_length ≡ l.initial.self.block_length)
    × IsSetUpTo l.initial.self.blocks l.initial.self.block_length l.initial.self.entries l.self.entries l.range l.at l.yielded l.run-iterator.rest.items
    × (l.yielded ++ l.run-iterator.rest.items ≡ l.fn.runs.items)
