use Rattle.std.proofs.Common.{◌<◌, length, sym, subst}
use Rattle.cm_base.specs.Configuration.{Configuration}
use Rattle.cm_server.proofs.Holding.{holding-of, is-unheld, still-pump}
use Rattle.cm_server.proofs.pumps.counting.count.Goals as goal

pub hold_waiting-hold-requires-clause-pass : goal.hold_waiting-hold-requires-clause-pass
hold_waiting-hold-requires-clause-pass g c = c.requires.pump.free.of

pub hold_waiting-hold-requires-clause-configured : goal.hold_waiting-hold-requires-clause-configured
hold_waiting-hold-requires-clause-configured g c = subst (λ (k : Configuration). c.args.unit < length k.units) (sym c.args.shared.now.same) c.requires.configured

pub hold_waiting-hold-requires-clause-free : goal.hold_waiting-hold-requires-clause-free
hold_waiting-hold-requires-clause-free g c = is-unheld c.args.pass.now.holds c.args.unit c.requires.pump.free.free

pub release-requires-clause-pass : goal.release-requires-clause-pass
release-requires-clause-pass g c =
    holding-of c.args.shared.now.world (g.C.Clock.shows c.args.shared.now.clock) c.args.unit c.args.pass.now c.hold_waiting-hold.new.pass c.requires.pump c.hold_waiting-hold.ensures.waited

pub returns : goal.returns
returns g c =
    still-pump c.args.shared.now.world (g.C.Clock.shows c.args.shared.now.clock) c.args.unit c.args.pass.now c.hold_waiting-hold.new.pass c.requires.pump c.hold_waiting-hold.ensures.waited
    c.release.new.pass c.hold_waiting-hold.result.unit c.hold_waiting-hold.ensures.unit c.release.ensures
