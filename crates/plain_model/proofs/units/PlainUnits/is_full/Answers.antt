use Rattle.std.proofs.Common.{◌≡◌, ◌<◌, ap, sym, subst, arith, length}
use Rattle.cm_base.specs.Configuration.{Configuration}
use Rattle.plain_model.specs.Holds.{PlayedUnits}
use Rattle.plain_model.proofs.UnitLists.{full-at}
use Rattle.plain_model.proofs.units.PlainUnits.is_full.Goals as goal

pub returns : goal.returns
returns c =
    let told = ap (λ (v : PlayedUnits). v.config) c.self.view_is in
    let configured : c.args.unit < length c.self.inside.config.units = subst (λ (k : Configuration). c.args.unit < length k.units) (sym told) c.requires.configured in
    let count : c.len.result ≡ length c.self.inside.entries.items = omega (arith, c.len.ensures, c.self.inside.entries.ok.0) in
    rw (← c.self.view_is) (full-at c.self.inside.config c.self.inside.entries.items c.self.inside.units.items c.args.unit c.from.result c.index.result.now c.unit-told.result c.len.result c.args.actor c.args.act.now c.is_full.result
    (record { have = c.self.invariant; configured = configured; here = c.from.ensures; value = c.index.ensures }) c.unit-told.ensures.told count c.is_full.ensures)
