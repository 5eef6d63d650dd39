use Rattle.std.proofs.Common.{length, map}
use Rattle.merged_history.specs.Merged.{merged, rests}
use Rattle.merged_history.specs.inner.Merging.{IsSoFar}
use Rattle.merged_history.proofs.merging.merge.Given as goal

abbrev pub invariant-loop-unit : goal.invariant-loop-unit
invariant-loop-unit g l = IsSoFar (map g.T.Kept.entries l.units) l.at.items l.merged.entries

abbrev pub decreases-loop-unit : goal.decreases-loop-unit
decreases-loop-unit g l = length (merged (rests l.at.items (map g.T.Kept.entries l.units)))
