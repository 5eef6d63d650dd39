use Rattle.std.proofs.Common.{◌≡◌, ◌+◌, ◌-◌, [], ◌∷◌, ◌++◌, drop, sym, ap, ◌∙◌, append_assoc, List}
use Rattle.cm_base.specs.declared.config.UnitConfig.{UnitConfig}
use Rattle.cm_frame.specs.Reading.{unit_in, units_in}
use Rattle.cm_frame.proofs.UnitSteps.{place_of, rest-of, unit-step}
use Rattle.cm_frame.proofs.header.units_in.Goals as goal

pub loop-index-preserved : goal.loop-index-preserved
loop-index-preserved c =
    let bytes = c.args.bytes.now in
    let index = c.loop-index.index in
    let units = c.loop-index.units in
    let later = units_in (c.args.count - (index + 1)) (drop (place_of (index + 1)) bytes) in
    let unit : c.unit_in.result ≡ unit_in (drop (place_of index) bytes) = c.unit_in.ensures ∙ ap unit_in (rest-of (place_of index) bytes) in
    ap (λ (l : List UnitConfig). l ++ later) c.in_ok-push.ensures.ok
    ∙ append_assoc units (c.unit_in.result ∷ []) later
    ∙ ap (λ (u : UnitConfig). units ++ (u ∷ later)) unit
    ∙ ap (λ (l : List UnitConfig). units ++ l) (sym (unit-step c.args.count index bytes c.loop-index-test.true))
    ∙ c.loop-index.invariant
