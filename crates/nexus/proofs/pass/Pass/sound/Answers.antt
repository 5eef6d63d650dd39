use Rattle.std.proofs.Common.{refl, subst}
use Rattle.nexus.specs.Safe.{IsSoundPass}
use Rattle.nexus.specs.inner.Keeping.{owns}
use Rattle.nexus.proofs.pass.Pass.sound.Goals as goal

pub returns : goal.returns
returns g c = subst IsSoundPass c.self.view_is (record { owns = owns c.self.inside.seats.items; own_is = refl; is = c.self.invariant.0.is })
