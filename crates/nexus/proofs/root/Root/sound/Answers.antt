use Rattle.std.proofs.Common.{subst}
use Rattle.nexus.specs.Safe.{IsSoundRoot}
use Rattle.nexus.specs.inner.Keeping.{kepts}
use Rattle.nexus.proofs.root.Root.sound.Goals as goal

pub returns : goal.returns
returns g c = subst IsSoundRoot c.self.view_is (record { kept = kepts c.self.inside.seats.items; is = c.self.invariant.0.is })
