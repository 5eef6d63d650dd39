use Rattle.std.proofs.Common.{sym, ◌∙◌, map}
use Rattle.merged_history.proofs.Heads.{found-none, found-better, found-worse, head-is}
use Rattle.merged_history.proofs.merging.next_unit.Goals as goal
use Rattle.merged_history.proofs.merging.next_unit.Goals.{in-Some+then-precedes, in-Some+else-precedes, in_default}

pub loop-unit-preserved : goal.loop-unit-preserved
loop-unit-preserved g c =
    let hs = map g.T.Kept.entries c.args.units.now in
    let at = c.args.at.now in
    let here = head-is g.T.Kept.entries c.args.units.now at c.loop-unit.unit c.index-units-unit.result c.loop-unit-test.true c.index-units-unit.is in
    elim c.match-head.branch [
      | in-Some+then-precedes w ↦
          rw (w.first-is, w.best-is) (found-better hs at c.loop-unit.unit c.loop-unit.best _ w.in-Some.entry.now c.loop-unit.invariant (sym here ∙ sym w.in-Some.ensures) (sym w.precedes.ensures ∙ w.if-precedes.true))
      | in-Some+else-precedes w ↦
          rw (w.first-is, w.best-is) (found-worse hs at c.loop-unit.unit c.loop-unit.best _ w.in-Some.entry.now c.loop-unit.invariant (sym here ∙ sym w.in-Some.ensures) (sym w.precedes.ensures ∙ w.if-precedes.false))
      | in_default w ↦
          rw (w.first-is, w.best-is) (found-none hs at c.loop-unit.unit c.loop-unit.best _ c.loop-unit.invariant (sym here ∙ sym w.in_default.ensures))
    ]
