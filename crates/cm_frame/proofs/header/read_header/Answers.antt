use Rattle.std.proofs.Common.{◌≡◌, drop, sym, ◌∙◌, subst, None, arith}
use Rattle.cm_base.specs.Configuration.{AreUnits}
use Rattle.cm_frame.specs.Reading.{units_fault}
use Rattle.cm_frame.proofs.UnitSteps.{units-are}
use Rattle.cm_frame.proofs.header.read_header.Goals as goal

pub new-requires : goal.new-requires
new-requires c =
    let bytes = c.args.bytes.now in
    let count = c.from-count.result in
    let none : units_fault count 42 (drop 42 bytes) ≡ None = sym c.units_fault.ensures ∙ c.in_default-units_fault.is in
    subst AreUnits (sym c.in_ok-units.ensures) (units-are count 42 (drop 42 bytes) (omega arith) (omega arith) none)
