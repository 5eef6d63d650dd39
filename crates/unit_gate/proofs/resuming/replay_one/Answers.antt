use Rattle.std.proofs.Common.{◌≡◌, ◌<◌, ◌^◌, ap, sym, ◌∙◌, arith, false}
use Rattle.unit_gate.specs.Opening.{has_late_number}
use Rattle.unit_gate.specs.declared.resuming.ResumeRefused.{ResumeRefused}
use Rattle.unit_gate.proofs.Replaying.{stands-again, good-again, full-again}
use Rattle.unit_gate.proofs.resuming.replay_one.Goals as goal

pub returns-in-Err-Full-clause-bad : goal.returns-in-Err-Full-clause-bad
returns-in-Err-Full-clause-bad c =
    let early : has_late_number c.args.entry.actor ≡ false = sym c.has_late_number.ensures ∙ c.if-has_late_number.false in
    let below : c.args.entry.stamp < 2 ^ 64 = omega arith in
    λ no. (
      ap (λ u. ResumeRefused.BadHistory u c.args.place) c.requires.unit,
      full-again c.args.told.now c.args.entry c.requires.unit c.requires.none c.requires.above below early (c.in-Err-Full.ensures.full c.in-Err-Full.field-0-is),
    )

pub returns-clause-stands : goal.returns-clause-stands
returns-clause-stands c =
    let early : has_late_number c.args.entry.actor ≡ false = sym c.has_late_number.ensures ∙ c.if-has_late_number.false in
    let below : c.args.entry.stamp < 2 ^ 64 = omega arith in
    λ h is. c.drop_kept.ensures.stands _ (stands-again c.args.told.now c.args.entry c.requires.unit c.requires.none c.requires.above below early c.act-2.new.self c.in-Ok.ensures.stands h is)

pub returns-clause-good : goal.returns-clause-good
returns-clause-good c =
    let early : has_late_number c.args.entry.actor ≡ false = sym c.has_late_number.ensures ∙ c.if-has_late_number.false in
    let below : c.args.entry.stamp < 2 ^ 64 = omega arith in
    good-again c.args.told.now c.args.entry c.requires.unit c.requires.none c.requires.above below early c.in-Ok.ensures.room
