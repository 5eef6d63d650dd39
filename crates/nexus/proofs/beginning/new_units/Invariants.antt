use Rattle.std.proofs.Common.{◌≡◌, length}
use Rattle.nexus.specs.inner.Building.{AreNewUnits}
use Rattle.nexus.proofs.beginning.new_units.Given as goal

abbrev pub invariant-loop-number : goal.invariant-loop-number
invariant-loop-number l = record { new : AreNewUnits l.config 0 l.units.items; count : length l.units.items ≡ l.number }
