use Rattle.std.proofs.Common.{◌<◌, ap, sym, subst, length}
use Rattle.std.proofs.lemmas.Result.{IfOk-weaker}
use Rattle.cm_base.specs.Configuration.{Configuration}
use Rattle.plain_model.specs.Holds.{PlayedUnits}
use Rattle.plain_model.proofs.UnitLists.{IsFound, answer-at, form-at}
use Rattle.plain_model.proofs.units.PlainUnits.answer.Goals as goal

pub returns-clause-value : goal.returns-clause-value
returns-clause-value c =
    let same = ap (λ (v : PlayedUnits). v.config) c.self.view_is in
    let found : IsFound c.self.inside.config c.self.inside.entries.items c.self.inside.units.items c.args.unit c.from.result c.index-played.result.now = record {
      have = c.self.invariant;
      configured = subst (λ (k : Configuration). c.args.unit < length k.units) (sym same) c.requires.configured;
      here = c.from.ensures;
      value = c.index-played.ensures;
    } in
    rw (← c.self.view_is) (IfOk-weaker c.answer.result _ _ (λ a is.
    answer-at c.self.inside.config c.self.inside.entries.items c.self.inside.units.items c.args.unit c.from.result c.index-played.result.now c.args.actor c.args.moment c.args.act.now a found is)
    c.answer.ensures)

pub returns-clause-form : goal.returns-clause-form
returns-clause-form c =
    let same = ap (λ (v : PlayedUnits). v.config) c.self.view_is in
    let found : IsFound c.self.inside.config c.self.inside.entries.items c.self.inside.units.items c.args.unit c.from.result c.index-played.result.now = record {
      have = c.self.invariant;
      configured = subst (λ (k : Configuration). c.args.unit < length k.units) (sym same) c.requires.configured;
      here = c.from.ensures;
      value = c.index-played.ensures;
    } in
    rw (← c.self.view_is) (IfOk-weaker c.answer.result _ _ (λ a is.
    form-at c.self.inside.config c.self.inside.entries.items c.self.inside.units.items c.args.unit c.args.actor c.args.moment c.args.act.now a c.self.invariant
    (answer-at c.self.inside.config c.self.inside.entries.items c.self.inside.units.items c.args.unit c.from.result c.index-played.result.now c.args.actor c.args.moment c.args.act.now a found is))
    c.answer.ensures)
