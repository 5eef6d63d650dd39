-- What is counted of a unit that a pass holds
use Rattle.std.proofs.Common.{◌≡◌, ℕ, List, ap, sym, ◌∙◌, Some}
use Rattle.cm_base.specs.Configuration.{Configuration}
use Rattle.cm_history.specs.declared.act.Entry.{Entry}
use Rattle.merged_history.specs.Passes.{of_unit}
use Rattle.unit_gate.specs.declared.kin.UnitKin.{UnitKin}
use Rattle.unit_gate.specs.declared.recorded_unit.UnitCount.{UnitCount}
use Rattle.unit_gate.specs.Counting.{count_over}
use Rattle.unit_gate.specs.Recorded.{RecordedState, StandsFor, kin_of}
use Rattle.nexus.specs.Worlds.{PassView}
use Rattle.nexus.specs.Holding.{HoldView, IsHeldAt}
use Rattle.nexus.specs.inner.Keeping.{AreGates}

-- the counts over each history for which the held unit stands are those over what the pass has seen
pub count-seen : (pass : PassView) (hold : HoldView) (unit : RecordedState) (count : UnitCount) → AreGates pass.config pass.gates → IsHeldAt pass hold → unit ≡ hold.turn
    → ((h : List Entry) → StandsFor unit h → count ≡ count_over unit.unit.config unit.unit.unit h) → count ≡ count_over pass.config hold.unit (of_unit pass.seen hold.unit)
count-seen pass hold unit count gates held same told =
    let is = gates hold.unit held.gate held.at in
    let both : Some (kin_of hold.turn) ≡ Some is.kin = sym held.kin_is ∙ is.has in
    let kin : kin_of hold.turn ≡ is.kin = cc in
    let config : hold.turn.unit.config ≡ pass.config = ap (λ (k : UnitKin). k.config) kin ∙ is.config_is in
    let number : hold.turn.unit.unit ≡ hold.unit = ap (λ (k : UnitKin). k.unit) kin ∙ is.unit_is in
    let seen = of_unit pass.seen hold.unit in
    let there : (h : List Entry) → StandsFor hold.turn h → count ≡ count_over hold.turn.unit.config hold.turn.unit.unit h = rw (← same) told in
    there seen held.stands ∙ ap (λ (c : Configuration). count_over c hold.turn.unit.unit seen) config ∙ ap (λ (n : ℕ). count_over pass.config n seen) number
