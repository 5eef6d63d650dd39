use Rattle.std.proofs.Common.{refl, ap, sym, ◌∙◌, ◌≡◌, true}
use Rattle.cm_base.specs.Units.{is_configured}
use Rattle.trace_replay.proofs.Machining.{pumped}
use Rattle.trace_replay.proofs.machine.Machine.pump.Goals as goal

pub returns : goal.returns
returns c = λ config s is.
    let there : is_configured c.args.self.now.config c.args.unit ≡ true = cc in
    pumped config s c.args.self.now _ c.args.unit c.args.moment is (ap (λ k. is_configured k c.args.unit) (sym is.told) ∙ there) refl refl
    (c.in_ok-pump.ensures config s.entries is.units)
