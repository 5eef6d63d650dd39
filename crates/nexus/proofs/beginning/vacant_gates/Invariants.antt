use Rattle.std.proofs.Common.{◌≡◌, take}
use Rattle.nexus.specs.inner.Building.{units_in}
use Rattle.nexus.proofs.beginning.vacant_gates.Given as goal

abbrev pub invariant-loop-index : goal.invariant-loop-index
invariant-loop-index g l = l.vacant.items ≡ units_in (take l.index l.units.items)
