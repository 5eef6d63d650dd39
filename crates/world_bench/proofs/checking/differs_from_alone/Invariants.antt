use Rattle.std.proofs.Common.{◌≡◌}
use Rattle.world_bench.proofs.checking.differs_from_alone.Given as goal

abbrev pub invariant-loop-place : goal.invariant-loop-place
invariant-loop-place l = (l.unit.config ≡ l.config) × (l.unit.unit ≡ l.number)
