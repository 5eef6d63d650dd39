use Rattle.std.proofs.Common.{◌≡◌, length}
use Rattle.std.specs.List.{All}
use Rattle.cm_base.specs.Configuration.{IsUnit}
use Rattle.world_bench.proofs.machine.units_of.Given as goal

abbrev pub invariant-loop : goal.invariant-loop
invariant-loop l = (length l.units ≡ l.counter) × All IsUnit l.units
