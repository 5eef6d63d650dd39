use Rattle.std.proofs.Common.{length}
use Rattle.cm_history.specs.declared.act.Entry.{Entry}
use Rattle.recorder.specs.Told.{FitsBehind}
use Rattle.entry_texts.proofs.copying.copy_entries.Given as goal

abbrev pub invariant-loop-rest : goal.invariant-loop-rest
invariant-loop-rest g l = (e : Entry) → FitsBehind (g.S.Sink.taken l.recorder.sink) l.recorder.done e

abbrev pub decreases-loop-rest : goal.decreases-loop-rest
decreases-loop-rest g l = length l.rest
