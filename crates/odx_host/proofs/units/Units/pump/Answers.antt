use Rattle.std.proofs.Common.{◌<◌, ◌+◌, ◌^◌, length, refl, ap, sym, subst, arith, slice_set}
use Rattle.std.specs.Prelude.{map}
use Rattle.std.proofs.lemmas.Bool.{eq-eqb}
use Rattle.cm_history.specs.declared.act.Act.{Act}
use Rattle.cm_history.specs.declared.act.Actor.{Actor}
use Rattle.unit_core.specs.Unfolded.{IsUnfolded, unfolded}
use Rattle.unit_core.proofs.PublicLaws.{unfolded-after}
use Rattle.unit_core.specs.Acting as acting
use Rattle.session.specs.Keeping.{KeepAll}
use Rattle.session.proofs.PublicLaws.{keep-with, next-fits, stamp-left}
use Rattle.odx_host.specs.Units.{UnitsAt, AreAfter}
use Rattle.odx_host.proofs.UnitsOn.{one-config, after-same}
use Rattle.odx_host.proofs.UnitsDo.{unit-found, asked-of, did-pump, same-list, left-of, gone-none, gone-pump, pump-found, last-of}
use Rattle.odx_host.proofs.units.Units.pump.Goals as goal
use Rattle.odx_host.proofs.units.Units.pump.Goals.{in-Ok, in-Err-Full, in-Err-OutOfMemory}

pub act-requires-clause-asked : goal.act-requires-clause-asked
act-requires-clause-asked c =
    let items = c.self.inside.units.items in
    let u = c.args.unit in
    let s : UnitsAt = record { units = map unfolded items; pumped = c.self.inside.pumped.items; asked = c.self.inside.asked; stamp = c.self.inside.stamp } in
    let by = Actor.Pump u in
    let x = c.index_mut-pumped.result.now in
    let after = subst (AreAfter c.requires.config c.requires.stand.history) (sym c.self.view_is) c.requires.stand.after in
    let at = unit-found c.requires.config c.requires.stand.history s items u c.from-place.result x after refl c.requires.configured c.from-place.ensures c.index_mut-pumped.ensures.value in
    let own = c.self.invariant u x at in
    asked-of c.requires.config c.requires.stand.history s items u x by Act.Pump after refl at own (eq-eqb u u refl)

pub overflow_add-seq : goal.overflow_add-seq
overflow_add-seq c =
    let items = c.self.inside.units.items in
    let u = c.args.unit in
    let s : UnitsAt = record { units = map unfolded items; pumped = c.self.inside.pumped.items; asked = c.self.inside.asked; stamp = c.self.inside.stamp } in
    let by = Actor.Pump u in
    let x = c.index_mut-pumped.result.now in
    let after = subst (AreAfter c.requires.config c.requires.stand.history) (sym c.self.view_is) c.requires.stand.after in
    let at = unit-found c.requires.config c.requires.stand.history s items u c.from-place.result x after refl c.requires.configured c.from-place.ensures c.index_mut-pumped.ensures.value in
    let own = c.self.invariant u x at in
    let room = left-of c.requires.config c.requires.stand.history s items u x by Act.Pump after refl at own c.last_stamp-stamp.result (c.in-Ok.ensures.room x.kept own.stands) in
    let left = stamp-left (unfolded x) by c.last_stamp-stamp.result Act.Pump room in
    let told = c.last_stamp-stamp.ensures.told x.kept own.stands in
    let last = last-of c.requires.config c.requires.stand.history s items u x by Act.Pump after refl at own c.last_stamp-stamp.result told in
    let next : c.last_stamp-stamp.result + 1 < 2 ^ 64 = next-fits c.last_stamp-stamp.result (omega (arith, c.last_stamp-stamp.type_inv)) (λ e. left (omega (arith, e, told))) in
    let mine = pump-found c.requires.config c.requires.stand.history s u c.from-place.result c.index-seq.result.now after c.requires.configured c.from-place.ensures c.index-seq.ensures in
    let few = after.few_pumped u in
    omega (arith, next, last, mine, few)

pub invariant_of-self : goal.invariant_of-self
invariant_of-self c =
    let items = c.self.inside.units.items in
    let u = c.args.unit in
    let s : UnitsAt = record { units = map unfolded items; pumped = c.self.inside.pumped.items; asked = c.self.inside.asked; stamp = c.self.inside.stamp } in
    let by = Actor.Pump u in
    let x = c.index_mut-pumped.result.now in
    let after = subst (AreAfter c.requires.config c.requires.stand.history) (sym c.self.view_is) c.requires.stand.after in
    let at = unit-found c.requires.config c.requires.stand.history s items u c.from-place.result x after refl c.requires.configured c.from-place.ensures c.index_mut-pumped.ensures.value in
    let own = c.self.invariant u x at in
    let y = c.act.new.self in
    let e = acting.entry_at x by c.index-seq.result.now c.last_stamp-stamp.result 0 Act.Pump in
    subst (λ i. KeepAll (slice_set items i y)) (sym c.from-place.ensures)
    (keep-with items u x y c.self.invariant at (unfolded-after x y e own c.act.ensures.folded c.in-Ok.ensures.kept c.in-Ok.ensures.stands))

pub invariant_of-self-in-Err-Full : goal.invariant_of-self-in-Err-Full
invariant_of-self-in-Err-Full c =
    let items = c.self.inside.units.items in
    let u = c.args.unit in
    let s : UnitsAt = record { units = map unfolded items; pumped = c.self.inside.pumped.items; asked = c.self.inside.asked; stamp = c.self.inside.stamp } in
    let by = Actor.Pump u in
    let x = c.index_mut-pumped.result.now in
    let after = subst (AreAfter c.requires.config c.requires.stand.history) (sym c.self.view_is) c.requires.stand.after in
    let at = unit-found c.requires.config c.requires.stand.history s items u c.from-place.result x after refl c.requires.configured c.from-place.ensures c.index_mut-pumped.ensures.value in
    let own = c.self.invariant u x at in
    let y = c.act.new.self in
    subst (λ i. KeepAll (slice_set items i y)) (sym c.from-place.ensures)
    (keep-with items u x y c.self.invariant at (subst IsUnfolded (sym c.in-Err-Full.ensures.refused) own))

pub invariant_of-self-in-Err-OutOfMemory : goal.invariant_of-self-in-Err-OutOfMemory
invariant_of-self-in-Err-OutOfMemory c =
    let items = c.self.inside.units.items in
    let u = c.args.unit in
    let s : UnitsAt = record { units = map unfolded items; pumped = c.self.inside.pumped.items; asked = c.self.inside.asked; stamp = c.self.inside.stamp } in
    let by = Actor.Pump u in
    let x = c.index_mut-pumped.result.now in
    let after = subst (AreAfter c.requires.config c.requires.stand.history) (sym c.self.view_is) c.requires.stand.after in
    let at = unit-found c.requires.config c.requires.stand.history s items u c.from-place.result x after refl c.requires.configured c.from-place.ensures c.index_mut-pumped.ensures.value in
    let own = c.self.invariant u x at in
    let y = c.act.new.self in
    subst (λ i. KeepAll (slice_set items i y)) (sym c.from-place.ensures)
    (keep-with items u x y c.self.invariant at (subst IsUnfolded (sym c.in-Err-OutOfMemory.ensures.refused) own))

pub returns : goal.returns
returns c = λ config history h.
    let items = c.self.inside.units.items in
    let u = c.args.unit in
    let s : UnitsAt = record { units = map unfolded items; pumped = c.self.inside.pumped.items; asked = c.self.inside.asked; stamp = c.self.inside.stamp } in
    let by = Actor.Pump u in
    let x = c.index_mut-pumped.result.now in
    let after = subst (AreAfter c.requires.config c.requires.stand.history) (sym c.self.view_is) c.requires.stand.after in
    let have = subst (AreAfter config history) (sym c.self.view_is) h in
    let same = one-config c.requires.config config c.requires.stand.history history s u after have c.requires.configured in
    let at = unit-found c.requires.config c.requires.stand.history s items u c.from-place.result x after refl c.requires.configured c.from-place.ensures c.index_mut-pumped.ensures.value in
    let own = c.self.invariant u x at in
    elim c.match-act.branch [
      | in-Ok w ↦
          let y = c.act.new.self in
          let configured = subst (λ k. u < length k.units) same c.requires.configured in
          let mine = pump-found config history s u c.from-place.result c.index-seq.result.now have configured c.from-place.ensures c.index-seq.ensures in
          rw w.self-is
          (gone-pump config history _ _ refl
          (did-pump config history s items u x by Act.Pump have refl at own _ c.index-seq.result.now c.last_stamp-stamp.result c.from-place.result y refl configured refl (eq-eqb u u refl) mine
          c.from-place.ensures c.act.ensures.config c.act.ensures.unit w.in-Ok.ensures.kept refl refl refl
          (ap (λ i. slice_set s.pumped i (c.index-seq.result.now + 1)) c.from-place.ensures)))
      | in-Err-Full w ↦
          rw w.self-is
          (gone-none config history _ (after-same config history s _ (ap (λ l. record s { units = l }) (same-list config history s items u x by Act.Pump have refl at own c.from-place.result c.act.new.self c.from-place.ensures w.in-Err-Full.ensures.refused)) have))
      | in-Err-OutOfMemory w ↦
          rw w.self-is
          (gone-none config history _ (after-same config history s _ (ap (λ l. record s { units = l }) (same-list config history s items u x by Act.Pump have refl at own c.from-place.result c.act.new.self c.from-place.ensures w.in-Err-OutOfMemory.ensures.refused)) have))
    ]
