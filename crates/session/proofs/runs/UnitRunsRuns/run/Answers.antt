use Rattle.std.proofs.Common.{◌≡◌, ◌<◌, ◌≤◌, ◌+◌, ◌^◌, [], ◌∷◌, ◌++◌, length, true, ap, sym, ◌∙◌, subst, arith}
use Rattle.std.specs.Prelude.{map, slice_set, max}
use Rattle.std.proofs.lemmas.Result.{err_from_is_err_and}
use Rattle.cm_base.specs.Configuration.{Configuration}
use Rattle.cm_history.specs.declared.act.Actor.{Actor}
use Rattle.cm_history.specs.declared.act.Entry.{Entry}
use Rattle.cm_history.specs.Forms.{HasForm}
use Rattle.cm_history.specs.Legal.{may_ask}
use Rattle.cm_history.specs.Limits.{within_limits}
use Rattle.unit_core.specs.Acting as acting
use Rattle.unit_core.specs.Unfolded.{IsUnfolded, unfolded}
use Rattle.unit_core.proofs.PublicLaws.{unfolded-after, unfolded-entry, unfolded-full, unfolded-grown}
use Rattle.session.specs.Places.{Place, AreUnitsOf, StandsFor}
use Rattle.session.specs.Keeping.{KeepAll}
use Rattle.session.proofs.Leading.{unit-at, shown-at, shown-set, stamp-left, next-fits, keep-with, units-with, leads-answered, leads-refused, after-is, same-units, stands-more}
use Rattle.session.proofs.runs.UnitRunsRuns.run.Goals as goal

pub act-requires-clause-asked : goal.act-requires-clause-asked
act-requires-clause-asked c =
    let configured = subst (λ (k : Configuration). c.args.unit < length k.units) (sym (ap (λ (v : Place). v.config) c.self.view_is)) c.requires.configured in
    let items = c.self.inside.units.items in
    let asked = c.index_mut-asked.result.now in
    let there = unit-at c.self.inside.config items c.args.unit c.from.result asked c.self.invariant.0 configured c.from.ensures c.index_mut-asked.ensures.value in
    let at = shown-at items c.args.unit asked there in
    let its = c.self.invariant.0.each c.args.unit (unfolded asked) at in
    subst (λ u. may_ask u (Actor.Nexus c.self.inside.nexus) c.args.act ≡ true) (sym its.1) (c.requires.asked c.self.inside.nexus)

pub returns-in_err-answer-clause-made : goal.returns-in_err-answer-clause-made
returns-in_err-answer-clause-made c = λ calls stands.
    let configured = subst (λ (k : Configuration). c.args.unit < length k.units) (sym (ap (λ (v : Place). v.config) c.self.view_is)) c.requires.configured in
    let items = c.self.inside.units.items in
    let asked = c.index_mut-asked.result.now in
    let there = unit-at c.self.inside.config items c.args.unit c.from.result asked c.self.invariant.0 configured c.from.ensures c.index_mut-asked.ensures.value in
    let at = shown-at items c.args.unit asked there in
    let own = c.self.invariant.1 c.args.unit asked there in
    let place : Place = record { config = c.self.inside.config; nexus = c.self.inside.nexus; units = map unfolded items; stamp = c.self.inside.stamp; seq = c.self.inside.seq } in
    let same = same-units place c.args.unit c.from.result (unfolded asked) (unfolded c.act.new.self) c.from.ensures at (ap unfolded c.in_err-answer.ensures.refused) in
    let p = err_from_is_err_and c.from_residual.result c.from_residual.ensures.1 in
    rw (p.1, p.2, shown-set items c.from.result c.act.new.self)
    (stands-more place _ calls _ (subst (λ (v : Place). StandsFor v calls) (sym c.self.view_is) stands)
    (leads-refused place c.args.unit c.args.moment c.args.act (unfolded asked) at _ c.in_err-answer.field-0.0
    (λ e. sym (unfolded-full asked (Actor.Nexus c.self.inside.nexus) c.self.inside.stamp c.args.act own) ∙ c.in_err-answer.ensures.full e asked.kept own.stands) same))

pub invariant_of-self-2 : goal.invariant_of-self-2
invariant_of-self-2 c =
    let configured = subst (λ (k : Configuration). c.args.unit < length k.units) (sym (ap (λ (v : Place). v.config) c.self.view_is)) c.requires.configured in
    let items = c.self.inside.units.items in
    let asked = c.index_mut-asked.result.now in
    let there = unit-at c.self.inside.config items c.args.unit c.from.result asked c.self.invariant.0 configured c.from.ensures c.index_mut-asked.ensures.value in
    let at = shown-at items c.args.unit asked there in
    let own = c.self.invariant.1 c.args.unit asked there in
    let by = Actor.Nexus c.self.inside.nexus in
    let e = acting.entry_at asked by c.self.inside.seq c.self.inside.stamp c.args.moment c.args.act in
    let new = c.act.new.self in
    let with = units-with c.self.inside.config (map unfolded items) c.args.unit (unfolded asked) (unfolded new) c.self.invariant.0 at c.act.ensures.config c.act.ensures.unit in
    let keeps = keep-with items c.args.unit asked new c.self.invariant.1 there (unfolded-after asked new e own c.act.ensures.folded c.in_ok-answer.ensures.kept c.in_ok-answer.ensures.stands) in (
      rw (shown-set items c.from.result new) (subst (λ i. AreUnitsOf c.self.inside.config (slice_set (map unfolded items) i (unfolded new))) (sym c.from.ensures) with),
      subst (λ i. KeepAll (slice_set items i new)) (sym c.from.ensures) keeps,
      omega (arith, c.max-latest.ensures, c.self.invariant.2),
    )

pub returns-clause-made : goal.returns-clause-made
returns-clause-made c = λ calls stands.
    let configured = subst (λ (k : Configuration). c.args.unit < length k.units) (sym (ap (λ (v : Place). v.config) c.self.view_is)) c.requires.configured in
    let items = c.self.inside.units.items in
    let asked = c.index_mut-asked.result.now in
    let there = unit-at c.self.inside.config items c.args.unit c.from.result asked c.self.invariant.0 configured c.from.ensures c.index_mut-asked.ensures.value in
    let at = shown-at items c.args.unit asked there in
    let own = c.self.invariant.1 c.args.unit asked there in
    let place : Place = record { config = c.self.inside.config; nexus = c.self.inside.nexus; units = map unfolded items; stamp = c.self.inside.stamp; seq = c.self.inside.seq } in
    let by = Actor.Nexus c.self.inside.nexus in
    let e = acting.entry_at asked by c.self.inside.seq c.self.inside.stamp c.args.moment c.args.act in
    let new = c.act.new.self in
    let late = c.max-latest.ensures ∙ ap (max c.self.inside.stamp) (c.last_stamp.ensures.told asked.kept own.stands) in
    let grown = unfolded-grown asked new e c.act.ensures.config c.act.ensures.unit c.in_ok-answer.ensures.kept
    ∙ ap (λ (x : Entry). record (unfolded asked) { entries = asked.kept ++ x ∷ [] }) (unfolded-entry asked by c.self.inside.seq c.self.inside.stamp c.args.moment c.args.act own) in
    rw (shown-set items c.from.result new)
    (stands-more place _ calls _ (subst (λ (v : Place). StandsFor v calls) (sym c.self.view_is) stands)
    (leads-answered place c.args.unit c.args.moment c.args.act (unfolded asked) at _ _ c.self.invariant.0 (c.in_ok-answer.ensures.answer asked.kept own.stands)
    (after-is place c.args.unit c.from.result c.args.moment c.args.act (unfolded asked) (unfolded new) c.max-latest.result c.from.ensures grown late)))

pub returns-clause-form : goal.returns-clause-form
returns-clause-form c =
    let configured = subst (λ (k : Configuration). c.args.unit < length k.units) (sym (ap (λ (v : Place). v.config) c.self.view_is)) c.requires.configured in
    let items = c.self.inside.units.items in
    let asked = c.index_mut-asked.result.now in
    let there = unit-at c.self.inside.config items c.args.unit c.from.result asked c.self.invariant.0 configured c.from.ensures c.index_mut-asked.ensures.value in
    let at = shown-at items c.args.unit asked there in
    let its = c.self.invariant.0.each c.args.unit (unfolded asked) at in
    subst (λ (k : Configuration). HasForm k c.args.unit c.args.act c.in_ok-answer.answer) (its.0 ∙ ap (λ (v : Place). v.config) c.self.view_is)
    (subst (λ u. HasForm asked.config u c.args.act c.in_ok-answer.answer) its.1 c.in_ok-answer.ensures.form)

pub act-requires-clause-limits : goal.act-requires-clause-limits
act-requires-clause-limits c =
    let configured = subst (λ (k : Configuration). c.args.unit < length k.units) (sym (ap (λ (v : Place). v.config) c.self.view_is)) c.requires.configured in
    let items = c.self.inside.units.items in
    let asked = c.index_mut-asked.result.now in
    let there = unit-at c.self.inside.config items c.args.unit c.from.result asked c.self.invariant.0 configured c.from.ensures c.index_mut-asked.ensures.value in
    let at = shown-at items c.args.unit asked there in
    let its = c.self.invariant.0.each c.args.unit (unfolded asked) at in
    let limits = subst (λ (k : Configuration). within_limits k c.args.unit c.args.act ≡ true) (sym (ap (λ (v : Place). v.config) c.self.view_is)) c.requires.limits in
    subst (λ u. within_limits asked.config u c.args.act ≡ true) (sym its.1)
    (subst (λ (k : Configuration). within_limits k c.args.unit c.args.act ≡ true) (sym its.0) limits)

pub invariant_of-self : goal.invariant_of-self
invariant_of-self c =
    let configured = subst (λ (k : Configuration). c.args.unit < length k.units) (sym (ap (λ (v : Place). v.config) c.self.view_is)) c.requires.configured in
    let items = c.self.inside.units.items in
    let asked = c.index_mut-asked.result.now in
    let there = unit-at c.self.inside.config items c.args.unit c.from.result asked c.self.invariant.0 configured c.from.ensures c.index_mut-asked.ensures.value in
    let at = shown-at items c.args.unit asked there in
    let own = c.self.invariant.1 c.args.unit asked there in
    let new = c.act.new.self in
    let same : new ≡ asked = c.in_err-answer.ensures.refused in
    let with = units-with c.self.inside.config (map unfolded items) c.args.unit (unfolded asked) (unfolded new) c.self.invariant.0 at c.act.ensures.config c.act.ensures.unit in
    let keeps = keep-with items c.args.unit asked new c.self.invariant.1 there (subst IsUnfolded (sym same) own) in (
      rw (shown-set items c.from.result new) (subst (λ i. AreUnitsOf c.self.inside.config (slice_set (map unfolded items) i (unfolded new))) (sym c.from.ensures) with),
      subst (λ i. KeepAll (slice_set items i new)) (sym c.from.ensures) keeps,
      c.self.invariant.2,
    )

pub overflow_add-self : goal.overflow_add-self
overflow_add-self c =
    let configured = subst (λ (k : Configuration). c.args.unit < length k.units) (sym (ap (λ (v : Place). v.config) c.self.view_is)) c.requires.configured in
    let items = c.self.inside.units.items in
    let asked = c.index_mut-asked.result.now in
    let there = unit-at c.self.inside.config items c.args.unit c.from.result asked c.self.invariant.0 configured c.from.ensures c.index_mut-asked.ensures.value in
    let at = shown-at items c.args.unit asked there in
    let own = c.self.invariant.1 c.args.unit asked there in
    let by = Actor.Nexus c.self.inside.nexus in
    let room = sym (unfolded-full asked by c.self.inside.stamp c.args.act own) ∙ c.in_ok-answer.ensures.room asked.kept own.stands in
    let left = stamp-left (unfolded asked) by c.self.inside.stamp c.args.act room in
    let late = c.max-latest.ensures ∙ ap (max c.self.inside.stamp) (c.last_stamp.ensures.told asked.kept own.stands) in
    let next : c.max-latest.result + 1 < 2 ^ 64 = next-fits c.max-latest.result (omega (arith, c.max-latest.type_inv)) (λ last. left (sym late ∙ last)) in
    omega (arith, next)

pub overflow_add-self-2 : goal.overflow_add-self-2
overflow_add-self-2 c =
    let configured = subst (λ (k : Configuration). c.args.unit < length k.units) (sym (ap (λ (v : Place). v.config) c.self.view_is)) c.requires.configured in
    let items = c.self.inside.units.items in
    let asked = c.index_mut-asked.result.now in
    let there = unit-at c.self.inside.config items c.args.unit c.from.result asked c.self.invariant.0 configured c.from.ensures c.index_mut-asked.ensures.value in
    let at = shown-at items c.args.unit asked there in
    let own = c.self.invariant.1 c.args.unit asked there in
    let by = Actor.Nexus c.self.inside.nexus in
    let room = sym (unfolded-full asked by c.self.inside.stamp c.args.act own) ∙ c.in_ok-answer.ensures.room asked.kept own.stands in
    let left = stamp-left (unfolded asked) by c.self.inside.stamp c.args.act room in
    let late = c.max-latest.ensures ∙ ap (max c.self.inside.stamp) (c.last_stamp.ensures.told asked.kept own.stands) in
    let next : c.max-latest.result + 1 < 2 ^ 64 = next-fits c.max-latest.result (omega (arith, c.max-latest.type_inv)) (λ last. left (sym late ∙ last)) in
    let seq : c.self.inside.seq ≤ c.max-latest.result = omega (arith, c.self.invariant.2, c.max-latest.ensures) in
    omega (arith, next, seq)
