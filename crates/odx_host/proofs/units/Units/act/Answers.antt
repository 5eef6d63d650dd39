use Rattle.std.proofs.Common.{◌<◌, ◌+◌, ◌^◌, refl, ap, sym, ◌∙◌, subst, arith, slice_set}
use Rattle.std.specs.Prelude.{map, max}
use Rattle.cm_history.specs.declared.act.Actor.{Actor}
use Rattle.cmd_program.specs.Meaning.{IsAskedOf}
use Rattle.unit_core.specs.Unfolded.{IsUnfolded, unfolded}
use Rattle.unit_core.proofs.PublicLaws.{unfolded-after}
use Rattle.unit_core.specs.Acting as acting
use Rattle.session.specs.Keeping.{KeepAll}
use Rattle.session.proofs.PublicLaws.{keep-with, next-fits, stamp-left}
use Rattle.odx_host.specs.Units.{host, UnitsAt, AreAfter}
use Rattle.odx_host.proofs.UnitsOn.{one-config, after-same}
use Rattle.odx_host.proofs.UnitsDo.{unit-found, limits-of, asked-of, form-of, full-by, next-of, did-nexus, same-list, left-of, last-of}
use Rattle.odx_host.proofs.units.Units.act.Goals as goal

pub act-requires-clause-limits : goal.act-requires-clause-limits
act-requires-clause-limits c =
    let items = c.self.inside.units.items in
    let s : UnitsAt = record { units = map unfolded items; pumped = c.self.inside.pumped.items; asked = c.self.inside.asked; stamp = c.self.inside.stamp } in
    let by = Actor.Nexus host in
    let x = c.index_mut-asked.result.now in
    let after = subst (AreAfter c.requires.config c.requires.stand.history) (sym c.self.view_is) c.requires.stand.after in
    let at = unit-found c.requires.config c.requires.stand.history s items c.args.unit c.from.result x after refl c.requires.askable.configured c.from.ensures c.index_mut-asked.ensures.value in
    let own = c.self.invariant c.args.unit x at in
    limits-of c.requires.config c.requires.stand.history s items c.args.unit x by c.args.act after refl at own c.requires.askable.limits

pub act-requires-clause-asked : goal.act-requires-clause-asked
act-requires-clause-asked c =
    let items = c.self.inside.units.items in
    let s : UnitsAt = record { units = map unfolded items; pumped = c.self.inside.pumped.items; asked = c.self.inside.asked; stamp = c.self.inside.stamp } in
    let by = Actor.Nexus host in
    let x = c.index_mut-asked.result.now in
    let after = subst (AreAfter c.requires.config c.requires.stand.history) (sym c.self.view_is) c.requires.stand.after in
    let at = unit-found c.requires.config c.requires.stand.history s items c.args.unit c.from.result x after refl c.requires.askable.configured c.from.ensures c.index_mut-asked.ensures.value in
    let own = c.self.invariant c.args.unit x at in
    asked-of c.requires.config c.requires.stand.history s items c.args.unit x by c.args.act after refl at own (c.requires.askable.asked host)

pub overflow_add-self : goal.overflow_add-self
overflow_add-self c =
    let items = c.self.inside.units.items in
    let s : UnitsAt = record { units = map unfolded items; pumped = c.self.inside.pumped.items; asked = c.self.inside.asked; stamp = c.self.inside.stamp } in
    let by = Actor.Nexus host in
    let x = c.index_mut-asked.result.now in
    let after = subst (AreAfter c.requires.config c.requires.stand.history) (sym c.self.view_is) c.requires.stand.after in
    let at = unit-found c.requires.config c.requires.stand.history s items c.args.unit c.from.result x after refl c.requires.askable.configured c.from.ensures c.index_mut-asked.ensures.value in
    let own = c.self.invariant c.args.unit x at in
    let room = left-of c.requires.config c.requires.stand.history s items c.args.unit x by c.args.act after refl at own s.stamp (c.in-Ok.ensures.room x.kept own.stands) in
    let left = stamp-left (unfolded x) by s.stamp c.args.act room in
    let late = c.max-latest.ensures ∙ ap (max s.stamp) (c.last_stamp.ensures.told x.kept own.stands) in
    let next : c.max-latest.result + 1 < 2 ^ 64 = next-fits c.max-latest.result (omega (arith, c.max-latest.type_inv)) (λ last. left (sym late ∙ last)) in
    omega (arith, next)

pub overflow_add-self-in-Ok : goal.overflow_add-self-in-Ok
overflow_add-self-in-Ok c =
    let items = c.self.inside.units.items in
    let s : UnitsAt = record { units = map unfolded items; pumped = c.self.inside.pumped.items; asked = c.self.inside.asked; stamp = c.self.inside.stamp } in
    let by = Actor.Nexus host in
    let x = c.index_mut-asked.result.now in
    let after = subst (AreAfter c.requires.config c.requires.stand.history) (sym c.self.view_is) c.requires.stand.after in
    let at = unit-found c.requires.config c.requires.stand.history s items c.args.unit c.from.result x after refl c.requires.askable.configured c.from.ensures c.index_mut-asked.ensures.value in
    let own = c.self.invariant c.args.unit x at in
    let room = left-of c.requires.config c.requires.stand.history s items c.args.unit x by c.args.act after refl at own s.stamp (c.in-Ok.ensures.room x.kept own.stands) in
    let left = stamp-left (unfolded x) by s.stamp c.args.act room in
    let late = c.max-latest.ensures ∙ ap (max s.stamp) (c.last_stamp.ensures.told x.kept own.stands) in
    let next : c.max-latest.result + 1 < 2 ^ 64 = next-fits c.max-latest.result (omega (arith, c.max-latest.type_inv)) (λ last. left (sym late ∙ last)) in
    omega (arith, next, after.few_asked, c.max-latest.ensures)

pub invariant_of-self : goal.invariant_of-self
invariant_of-self c =
    let items = c.self.inside.units.items in
    let s : UnitsAt = record { units = map unfolded items; pumped = c.self.inside.pumped.items; asked = c.self.inside.asked; stamp = c.self.inside.stamp } in
    let by = Actor.Nexus host in
    let x = c.index_mut-asked.result.now in
    let after = subst (AreAfter c.requires.config c.requires.stand.history) (sym c.self.view_is) c.requires.stand.after in
    let at = unit-found c.requires.config c.requires.stand.history s items c.args.unit c.from.result x after refl c.requires.askable.configured c.from.ensures c.index_mut-asked.ensures.value in
    let own = c.self.invariant c.args.unit x at in
    let y = c.act.new.self in
    let e = acting.entry_at x by c.self.inside.asked c.self.inside.stamp 0 c.args.act in
    subst (λ i. KeepAll (slice_set items i y)) (sym c.from.ensures)
    (keep-with items c.args.unit x y c.self.invariant at (unfolded-after x y e own c.act.ensures.folded c.in-Ok.ensures.kept c.in-Ok.ensures.stands))

pub invariant_of-self-in-Err-Full : goal.invariant_of-self-in-Err-Full
invariant_of-self-in-Err-Full c =
    let items = c.self.inside.units.items in
    let s : UnitsAt = record { units = map unfolded items; pumped = c.self.inside.pumped.items; asked = c.self.inside.asked; stamp = c.self.inside.stamp } in
    let by = Actor.Nexus host in
    let x = c.index_mut-asked.result.now in
    let after = subst (AreAfter c.requires.config c.requires.stand.history) (sym c.self.view_is) c.requires.stand.after in
    let at = unit-found c.requires.config c.requires.stand.history s items c.args.unit c.from.result x after refl c.requires.askable.configured c.from.ensures c.index_mut-asked.ensures.value in
    let own = c.self.invariant c.args.unit x at in
    let y = c.act.new.self in
    subst (λ i. KeepAll (slice_set items i y)) (sym c.from.ensures)
    (keep-with items c.args.unit x y c.self.invariant at (subst IsUnfolded (sym c.in-Err-Full.ensures.refused) own))

pub invariant_of-self-in-Err-OutOfMemory : goal.invariant_of-self-in-Err-OutOfMemory
invariant_of-self-in-Err-OutOfMemory c =
    let items = c.self.inside.units.items in
    let s : UnitsAt = record { units = map unfolded items; pumped = c.self.inside.pumped.items; asked = c.self.inside.asked; stamp = c.self.inside.stamp } in
    let by = Actor.Nexus host in
    let x = c.index_mut-asked.result.now in
    let after = subst (AreAfter c.requires.config c.requires.stand.history) (sym c.self.view_is) c.requires.stand.after in
    let at = unit-found c.requires.config c.requires.stand.history s items c.args.unit c.from.result x after refl c.requires.askable.configured c.from.ensures c.index_mut-asked.ensures.value in
    let own = c.self.invariant c.args.unit x at in
    let y = c.act.new.self in
    subst (λ i. KeepAll (slice_set items i y)) (sym c.from.ensures)
    (keep-with items c.args.unit x y c.self.invariant at (subst IsUnfolded (sym c.in-Err-OutOfMemory.ensures.refused) own))

pub returns-in-Ok-clause-done : goal.returns-in-Ok-clause-done
returns-in-Ok-clause-done c = λ config history h.
    let items = c.self.inside.units.items in
    let s : UnitsAt = record { units = map unfolded items; pumped = c.self.inside.pumped.items; asked = c.self.inside.asked; stamp = c.self.inside.stamp } in
    let by = Actor.Nexus host in
    let x = c.index_mut-asked.result.now in
    let after = subst (AreAfter c.requires.config c.requires.stand.history) (sym c.self.view_is) c.requires.stand.after in
    let at = unit-found c.requires.config c.requires.stand.history s items c.args.unit c.from.result x after refl c.requires.askable.configured c.from.ensures c.index_mut-asked.ensures.value in
    let own = c.self.invariant c.args.unit x at in
    let have = subst (AreAfter config history) (sym c.self.view_is) h in
    let same = one-config c.requires.config config c.requires.stand.history history s c.args.unit after have c.requires.askable.configured in
    let y = c.act.new.self in
    let may = subst (λ k. IsAskedOf k c.args.unit c.args.act) same c.requires.askable in
    let late = c.max-latest.ensures ∙ ap (max s.stamp) (last-of config history s items c.args.unit x by c.args.act have refl at own c.last_stamp.result (c.last_stamp.ensures.told x.kept own.stands)) in (
      _,
      next-of config history s items c.args.unit x by c.args.act have refl at own refl s.stamp s.asked c.in-Ok.answer (c.in-Ok.ensures.answer x.kept own.stands),
      refl,
      did-nexus config history s items c.args.unit x by c.args.act have refl at own _ c.from.result y refl may c.from.ensures c.act.ensures.config c.act.ensures.unit c.in-Ok.ensures.kept refl (ap (λ n. n + 1) late) refl refl,
    )

pub returns-in-Ok-clause-form : goal.returns-in-Ok-clause-form
returns-in-Ok-clause-form c = λ config history h.
    let items = c.self.inside.units.items in
    let s : UnitsAt = record { units = map unfolded items; pumped = c.self.inside.pumped.items; asked = c.self.inside.asked; stamp = c.self.inside.stamp } in
    let by = Actor.Nexus host in
    let x = c.index_mut-asked.result.now in
    let after = subst (AreAfter c.requires.config c.requires.stand.history) (sym c.self.view_is) c.requires.stand.after in
    let at = unit-found c.requires.config c.requires.stand.history s items c.args.unit c.from.result x after refl c.requires.askable.configured c.from.ensures c.index_mut-asked.ensures.value in
    let own = c.self.invariant c.args.unit x at in
    let have = subst (AreAfter config history) (sym c.self.view_is) h in
    let same = one-config c.requires.config config c.requires.stand.history history s c.args.unit after have c.requires.askable.configured in
    form-of config history s items c.args.unit x by c.args.act have refl at own c.in-Ok.answer c.in-Ok.ensures.form

pub returns-in-Err-Full-clause-done : goal.returns-in-Err-Full-clause-done
returns-in-Err-Full-clause-done c = λ config history h.
    let items = c.self.inside.units.items in
    let s : UnitsAt = record { units = map unfolded items; pumped = c.self.inside.pumped.items; asked = c.self.inside.asked; stamp = c.self.inside.stamp } in
    let by = Actor.Nexus host in
    let x = c.index_mut-asked.result.now in
    let after = subst (AreAfter c.requires.config c.requires.stand.history) (sym c.self.view_is) c.requires.stand.after in
    let at = unit-found c.requires.config c.requires.stand.history s items c.args.unit c.from.result x after refl c.requires.askable.configured c.from.ensures c.index_mut-asked.ensures.value in
    let own = c.self.invariant c.args.unit x at in
    let have = subst (AreAfter config history) (sym c.self.view_is) h in
    let same = one-config c.requires.config config c.requires.stand.history history s c.args.unit after have c.requires.askable.configured in
    let y = c.act.new.self in (
      full-by config history s items c.args.unit x by c.args.act have refl at own refl (c.in-Err-Full.ensures.full c.in-Err-Full.field-0-is x.kept own.stands)
          (c.in-Err-Full.ensures.serves c.in-Err-Full.field-0-is x.kept own.stands) (sym c.last_stamp.ensures.shown ∙ c.last_stamp.ensures.told x.kept own.stands),
      after-same config history s _ (ap (λ l. record s { units = l }) (same-list config history s items c.args.unit x by c.args.act have refl at own c.from.result y c.from.ensures c.in-Err-Full.ensures.refused)) have,
    )
