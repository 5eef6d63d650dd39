use Rattle.std.proofs.Common.{subst}
use Rattle.nexus.specs.Safe.{IsSafe}
use Rattle.nexus.specs.inner.Gates.{config_of}
use Rattle.nexus.specs.inner.Keeping.{gates_of}
use Rattle.nexus.proofs.Safe.{pass-safe}
use Rattle.nexus.proofs.pass.Pass.safe.Goals as goal

pub returns : goal.returns
returns g c = λ on.
    subst IsSafe c.self.view_is
    (pass-safe (config_of (gates_of c.self.inside.seats.items)) c.self.inside.slip c.self.inside.seats.items c.self.invariant.0.is.parts _ c.self.invariant.1 on)
