use Rattle.std.proofs.Common.{◌≡◌, length, refl, subst, arith}
use Rattle.nexus.specs.Opening.{IsBegun, no_recorder}
use Rattle.nexus.proofs.Opening.{map-same}
use Rattle.nexus.proofs.beginning.World+NoRecorder.new.Goals as goal

pub returns-in-Ok : goal.returns-in-Ok
returns-in-Ok c =
    let long : length c.loop.recorders.items ≡ length c.args.config.now.units = (let a = c.loop-test.false in let b = c.loop.auto.counter-end in let d = c.units-end.ensures.count in let e = c.loop.invariant in omega (arith, a, b, d, e)) in
    subst (λ l. IsBegun c.args.config.now l c.in-Ok.made.0 c.in-Ok.made.1) (map-same _ no_recorder (λ x. refl) c.loop.recorders.items c.args.config.now.units long) c.in-Ok.ensures.begun
