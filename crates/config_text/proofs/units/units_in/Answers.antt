use Rattle.std.proofs.Common.{◌≡◌, rules, arith, codes, subst, Some}
use Rattle.std.proofs.lemmas.Bool.Decides.{nat_tests}
use Rattle.toml.specs.Data.{get_member, array}
use Rattle.toml.specs.View.{table_view, items_view}
use Rattle.config_text.specs.Meaning.{SaysUnits}
use Rattle.config_text.proofs.Found.{as-many, are-units}
use Rattle.config_text.proofs.units.units_in.Goals as goal

pub returns-then-len-gt-UNITS_LIMIT-clause-refused : goal.returns-then-len-gt-UNITS_LIMIT-clause-refused
returns-then-len-gt-UNITS_LIMIT-clause-refused c =
    λ us says units.
    let there : get_member (codes "unit") (table_view c.args.text.now) ≡ Some (array (items_view c.in-Some-as_array.tables.now.items)) = search (rules, c.member.ensures, c.as_array.ensures) in
    let many = as-many c.in-Some-as_array.tables.now.items us (subst (λ d. SaysUnits d us) there says) in
    absurd (omega (arith, many, units.count.1, c.if-len-gt-UNITS_LIMIT.true, c.len.ensures))

pub returns-clause-limits : goal.returns-clause-limits
returns-clause-limits c =
    are-units c.in-Some-as_array.tables.now.items c.each.result
    (grind (arith, nat_tests, c.is_empty.ensures, c.if-is_empty.false))
    (omega (arith, c.if-len-gt-UNITS_LIMIT.false, c.len.ensures))
    c.each.ensures.said c.each.ensures.limits
