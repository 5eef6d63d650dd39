use Rattle.std.proofs.Common.{refl, arith, ap, ◌≡◌, ◌<◌, length, subst, true, slice_set}
use Rattle.std.specs.Prelude.{Some, slice_get}
use Rattle.cm_history.specs.Limits.{within_limits}
use Rattle.std.proofs.lemmas.Result.{err_from_is_err_and}
use Rattle.trace_replay.proofs.UnitActs.{done-more, done-refused, stamp-fits, answer-is, refuses, room-left, one-config, form-is, seq-below, unit-at}
use Rattle.trace_replay.proofs.units.Units.ask.Goals as goal

pub overflow_add-self : goal.overflow_add-self
overflow_add-self c =
    let at : slice_get c.args.self.now.units.items c.args.unit ≡ Some c.index_mut.result.now =
    unit-at _ _ c.args.self.now c.args.unit c.from.result _ c.requires.done c.requires.configured c.from.ensures c.index_mut.ensures.value in
    let fits = stamp-fits c.requires.config c.requires.entries c.args.self.now c.args.unit c.index_mut.result.now c.args.actor c.args.act c.requires.done at (omega arith) c.in_ok-answer.ensures.room in
    omega (arith, fits)

pub returns-clause-done : goal.returns-clause-done
returns-clause-done c = λ config entries h.
    let same = one-config config c.requires.config entries c.requires.entries c.args.self.now c.args.unit h c.requires.done c.requires.configured in
    let at : slice_get c.args.self.now.units.items c.args.unit ≡ Some c.index_mut.result.now =
    unit-at _ _ c.args.self.now c.args.unit c.from.result _ c.requires.done c.requires.configured c.from.ensures c.index_mut.ensures.value in (
      room-left config entries c.args.self.now c.args.unit c.index_mut.result.now c.args.actor c.args.act h at c.in_ok-answer.ensures.room,
      answer-is config entries c.args.self.now c.args.unit c.index_mut.result.now c.args.actor c.args.act h at c.args.moment _ c.in_ok-answer.ensures.answer,
      λ right. done-more config entries c.args.self.now c.args.unit c.index_mut.result.now c.args.actor c.args.act h at _ c.act.new.self c.args.seq c.args.moment
          (ap (λ i. slice_set c.args.self.now.units.items i c.act.new.self) c.from.ensures) refl
          c.in_ok-answer.ensures.stands c.in_ok-answer.ensures.kept c.act.ensures.folded c.act.ensures.config c.act.ensures.unit
          (subst (λ k. c.args.unit < length k.units) same c.requires.configured) (subst (λ k. within_limits k c.args.unit c.args.act ≡ true) same c.requires.limits) c.requires.asked right,
      λ right. seq-below c.args.actor entries c.args.seq c.args.self.now.stamp _ right h.stamp
          (stamp-fits config entries c.args.self.now c.args.unit c.index_mut.result.now c.args.actor c.args.act h at (omega arith) c.in_ok-answer.ensures.room),
    )

pub returns-clause-form : goal.returns-clause-form
returns-clause-form c = λ config entries h.
    let at : slice_get c.args.self.now.units.items c.args.unit ≡ Some c.index_mut.result.now =
    unit-at _ _ c.args.self.now c.args.unit c.from.result _ c.requires.done c.requires.configured c.from.ensures c.index_mut.ensures.value in
    form-is config entries c.args.self.now c.args.unit c.index_mut.result.now c.args.actor c.args.act h at _ c.in_ok-answer.ensures.form

pub returns-in_err-answer-clause-done : goal.returns-in_err-answer-clause-done
returns-in_err-answer-clause-done c = λ config entries h.
    let at : slice_get c.args.self.now.units.items c.args.unit ≡ Some c.index_mut.result.now =
    unit-at _ _ c.args.self.now c.args.unit c.from.result _ c.requires.done c.requires.configured c.from.ensures c.index_mut.ensures.value in
    let p = err_from_is_err_and c.from_residual.result c.from_residual.ensures.1 in
    rw (p.1, p.2) (
      done-refused config entries c.args.self.now c.args.unit c.index_mut.result.now c.args.actor c.args.act h at _ c.act.new.self
          (ap (λ i. slice_set c.args.self.now.units.items i c.act.new.self) c.from.ensures) refl c.in_err-answer.ensures.refused,
      refuses config entries c.args.self.now c.args.unit c.index_mut.result.now c.args.actor c.args.act h at _ c.in_err-answer.ensures.full c.in_err-answer.ensures.ends,
    )
