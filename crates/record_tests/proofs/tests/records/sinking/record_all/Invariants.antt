use Rattle.std.proofs.Common.{Some}
use Rattle.cm_history.specs.declared.act.Entry.{Entry}
use Rattle.recorder.specs.Told.{FitsBehind}
use Rattle.record_tests.proofs.tests.records.sinking.record_all.Given as goal

abbrev pub invariant-loop-place : goal.invariant-loop-place
invariant-loop-place l = (e : Entry) → FitsBehind (Some l.recorder.sink.sink.taken) l.recorder.done e
