use Rattle.std.proofs.Common.{take}
use Rattle.plain_model.specs.inner.Pasts.{IsPlayed}
use Rattle.cm_history.specs.History.{past_of}
use Rattle.plain_model.specs.inner.Fitting.{AllFit}
use Rattle.plain_model.proofs.answering.played.Given as goal

abbrev pub invariant-loop-index : goal.invariant-loop-index
invariant-loop-index l = record {
  played : IsPlayed l.config l.number (take l.index l.history.entries) l.unit;
  fits : AllFit l.config l.number (past_of l.config l.number (take l.index l.history.entries));
}
