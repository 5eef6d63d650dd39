use Rattle.std.proofs.Common.{◌≡◌, ◌+◌, ◌-◌, drop, sym, ap, ◌∙◌, Some, None}
use Rattle.cm_frame.specs.Reading.{first_broken, unit_checks, or_later, units_fault}
use Rattle.cm_frame.proofs.UnitSteps.{place_of, rest-of, fault-step}
use Rattle.cm_frame.proofs.header.units_fault.Goals as goal

pub returns-in-Some : goal.returns-in-Some
returns-in-Some c =
    let bytes = c.args.bytes.now in
    let place = place_of c.loop-index.index in
    let fault : first_broken (unit_checks (drop place bytes)) ≡ Some c.in-Some.fault =
    ap (λ l. first_broken (unit_checks l)) (sym (rest-of place bytes)) ∙ sym c.in-Some.ensures in
    sym (sym c.loop-index.invariant ∙ fault-step c.args.count c.loop-index.index bytes c.loop-index-test.true
    ∙ ap (λ f. or_later place f (units_fault (c.args.count - (c.loop-index.index + 1)) (place_of (c.loop-index.index + 1)) (drop (place_of (c.loop-index.index + 1)) bytes))) fault)

pub loop-index-preserved : goal.loop-index-preserved
loop-index-preserved c =
    let bytes = c.args.bytes.now in
    let place = place_of c.loop-index.index in
    let fault : first_broken (unit_checks (drop place bytes)) ≡ None =
    ap (λ l. first_broken (unit_checks l)) (sym (rest-of place bytes)) ∙ sym c.unit_fault.ensures ∙ c.in_default.is in
    sym (sym c.loop-index.invariant ∙ fault-step c.args.count c.loop-index.index bytes c.loop-index-test.true
    ∙ ap (λ f. or_later place f (units_fault (c.args.count - (c.loop-index.index + 1)) (place_of (c.loop-index.index + 1)) (drop (place_of (c.loop-index.index + 1)) bytes))) fault)
