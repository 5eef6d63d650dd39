use Rattle.std.proofs.Common.{ap, ◌∙◌}
use Rattle.unit_gate.specs.Recorded.{facts}
use Rattle.unit_gate.proofs.recorded_unit.RecordedUnit.new.Goals as goal

pub returns-in-Ok-clause-kin : goal.returns-in-Ok-clause-kin
returns-in-Ok-clause-kin g c =
    let facts_of = facts g.R.Recorder.recorded g.R.Recorder.record_faults g.R.Recorder.absent g.R.Recorder.front in
    c.fresh.ensures.kin
    ∙ ap (λ k. record { config = k; unit = c.in-Ok.unit.unit; opening = facts_of c.args.recorder; folded = 0 }) c.in-Ok.ensures.config
    ∙ ap (λ u. record { config = c.args.config.now; unit = u; opening = facts_of c.args.recorder; folded = 0 }) c.in-Ok.ensures.unit
