use Rattle.std.proofs.Common.{◌≤◌, length, ap, sym, ◌∙◌, arith, Some}
use Rattle.std.proofs.lemmas.Result.{err_from_is_err_and}
use Rattle.unit_gate.specs.declared.resuming.ResumeRefused.{ResumeRefused}
use Rattle.unit_gate.proofs.Replaying.{its-unit, its-limits, its-asker, its-stamp, replayed-one, replayed-all, found-bad}
use Rattle.unit_gate.proofs.resuming.replay.Goals as goal

pub replay_one-requires-clause-unit : goal.replay_one-requires-clause-unit
replay_one-requires-clause-unit c =
    its-unit c.args.config.now c.args.unit c.args.history.now.entries c.requires.given c.loop-place.told c.loop-place.place c.in_ok-entry.entry c.loop-place.invariant (c.at.ensures ∙ ap Some (sym c.in_ok-entry.ensures))

pub replay_one-requires-clause-limits : goal.replay_one-requires-clause-limits
replay_one-requires-clause-limits c =
    its-limits c.args.config.now c.args.unit c.args.history.now.entries c.requires.given c.loop-place.told c.loop-place.place c.in_ok-entry.entry c.loop-place.invariant (c.at.ensures ∙ ap Some (sym c.in_ok-entry.ensures))

pub replay_one-requires-clause-asked : goal.replay_one-requires-clause-asked
replay_one-requires-clause-asked c =
    its-asker c.args.config.now c.args.unit c.args.history.now.entries c.requires.given c.loop-place.told c.loop-place.place c.in_ok-entry.entry c.loop-place.invariant (c.at.ensures ∙ ap Some (sym c.in_ok-entry.ensures))

pub replay_one-requires-clause-above : goal.replay_one-requires-clause-above
replay_one-requires-clause-above c =
    its-stamp c.args.config.now c.args.unit c.args.history.now.entries c.requires.given c.loop-place.told c.loop-place.place c.in_ok-entry.entry c.loop-place.invariant (c.at.ensures ∙ ap Some (sym c.in_ok-entry.ensures))

pub returns-in_err-replay_one-clause-bad : goal.returns-in_err-replay_one-clause-bad
returns-in_err-replay_one-clause-bad c =
    let p = err_from_is_err_and c.from_residual-in_err-replay_one.result c.from_residual-in_err-replay_one.ensures.1 in
    rw (p.1, p.2) (λ no.
    let bad = c.in_err-replay_one.ensures.bad no in (
      c.loop-place.place,
      bad.0 ∙ ap (λ u. ResumeRefused.BadHistory u c.loop-place.place) c.loop-place.invariant.unit_is,
      found-bad c.args.config.now c.args.unit c.args.history.now.entries c.requires.given c.loop-place.told c.loop-place.place c.in_ok-entry.entry c.loop-place.invariant (c.at.ensures ∙ ap Some (sym c.in_ok-entry.ensures)) bad.1,
    ))

pub loop-place-preserved : goal.loop-place-preserved
loop-place-preserved c =
    let done = c.in_ok-replay_one.ensures in
    replayed-one c.args.config.now c.args.unit c.args.history.now.entries c.requires.given c.loop-place.told c.loop-place.place c.in_ok-entry.entry c.loop-place.invariant (c.at.ensures ∙ ap Some (sym c.in_ok-entry.ensures))
    c.replay_one.new.told done.stands done.none done.config done.its_unit done.good

pub returns-clause-stands : goal.returns-clause-stands
returns-clause-stands c =
    let last : length c.args.history.now.entries ≤ c.loop-place.place = omega arith in
    (replayed-all c.args.config.now c.args.unit c.args.history.now.entries c.loop-place.told c.loop-place.place c.loop-place.invariant last).0
