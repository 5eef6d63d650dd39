use Rattle.std.proofs.Common.{◌≡◌, ◌+◌, rules, arith, get_or, sym, subst}
use Rattle.toml.specs.View.{view}
use Rattle.config_text.specs.Meaning.{SaysOne}
use Rattle.config_text.proofs.Found.{Found, found-more, none-found, found-all}
use Rattle.config_text.proofs.units.each.Goals as goal

pub returns-in-Err-clause-refused : goal.returns-in-Err-clause-refused
returns-in-Err-clause-refused c =
    let here : get_or c.args.tables.now.items c.loop-index.index c.index.result.now ≡ c.index.result.now = search (rules, c.index.ensures) in
    none-found c.args.tables.now.items c.loop-index.index c.index.result.now c.loop-index.units (omega (arith, c.loop-index-test, c.len-index-end.ensures)) c.loop-index.invariant
    (λ u says. c.in-Err.ensures.refused u (subst (λ v. SaysOne (view v) u) here says))

pub loop-index-preserved : goal.loop-index-preserved
loop-index-preserved c =
    let here : get_or c.args.tables.now.items c.loop-index.index c.index.result.now ≡ c.index.result.now = search (rules, c.index.ensures) in
    subst (Found c.args.tables.now.items (c.loop-index.index + 1)) (sym c.in_ok-push-in-Ok.ensures.ok)
    (found-more c.args.tables.now.items c.loop-index.index c.index.result.now c.loop-index.units c.in-Ok.unit (omega (arith, c.loop-index-test, c.len-index-end.ensures)) c.loop-index.invariant
    (subst (λ v. SaysOne (view v) c.in-Ok.unit) (sym here) c.in-Ok.ensures.said) c.in-Ok.ensures.limits)

pub returns-clause-said : goal.returns-clause-said
returns-clause-said c = found-all c.args.tables.now.items c.loop-index.index c.loop-index.units (omega (arith, c.loop-index-test, c.len-index-end.ensures)) c.loop-index.invariant
