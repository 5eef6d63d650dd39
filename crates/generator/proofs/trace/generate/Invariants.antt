use Rattle.std.specs.Prelude.{◌≡◌}
use Rattle.generator.specs.Settings.{settings}
use Rattle.generator.specs.Generated.{generated}
use Rattle.generator.proofs.trace.generate.Given as goal

abbrev pub invariant-loop-round : goal.invariant-loop-round
invariant-loop-round l = ((record { secret = l.config-inside.secret; units = l.config-inside.units }) ≡ settings) × (l.trace ≡ generated l.round)
