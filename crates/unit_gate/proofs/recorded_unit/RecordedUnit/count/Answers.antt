use Rattle.std.proofs.Common.{length, ap, sym, subst, ◌∙◌}
use Rattle.unit_core.specs.Acting.{live_at}
use Rattle.unit_gate.specs.declared.recorded_unit.UnitCount.{UnitCount}
use Rattle.unit_gate.specs.Counting.{count_over}
use Rattle.unit_gate.specs.Recorded.{RecordedState, StandsFor}
use Rattle.unit_gate.proofs.recorded_unit.RecordedUnit.count.Goals as goal

pub returns : goal.returns
returns g c = λ h is.
    let inside = subst (λ (s : RecordedState). StandsFor s h) (sym c.self.view_is) is in
    let steps = c.length.ensures h is in
    let live = c.live.ensures.live h inside.unit in
    let blocks = c.mapped.ensures.mapped h inside.unit in
    ap {B = UnitCount} (λ n. record { steps = n; live = c.live.result; mapped = c.mapped.result }) (sym steps)
    ∙ ap {B = UnitCount} (λ n. record { steps = length h; live = n; mapped = c.mapped.result }) live
    ∙ ap {B = UnitCount} (λ n. record { steps = length h; live = live_at c.self.inside.unit h; mapped = n }) blocks
    ∙ ap (λ (s : RecordedState). count_over s.unit.config s.unit.unit h) c.self.view_is
