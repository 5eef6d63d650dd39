use Rattle.cm_history.specs.declared.act.Entry.{Entry}
use Rattle.recorder.specs.Text.{HasShortLists}
use Rattle.recorder.specs.Told.{FitsBehind}
use Rattle.entry_texts.proofs.making.record_writes.Given as goal

abbrev pub invariant-loop-stamp : goal.invariant-loop-stamp
invariant-loop-stamp g l = record {
  fits : (e : Entry) → FitsBehind (g.S.Sink.taken l.recorder.sink) l.recorder.done e;
  short : HasShortLists l.entry.act;
}
