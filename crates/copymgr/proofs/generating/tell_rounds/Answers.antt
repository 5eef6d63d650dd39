use Rattle.std.proofs.Common.{sym, subst}
use Rattle.copymgr.specs.Generating.{HasGenerated}
use Rattle.copymgr.proofs.ToldCounts.{told-fault, told-counts}
use Rattle.copymgr.proofs.generating.tell_rounds.Goals as goal

pub returns-in-Err : goal.returns-in-Err
returns-in-Err g c = subst (HasGenerated c.args.rounds _ _ _ _) (sym c.from.ensures) (told-fault c.args.rounds c.in-Err.fault _ _ c.in-Err.ensures)

pub returns-in-Ok : goal.returns-in-Ok
returns-in-Ok g c = told-counts c.args.rounds c.in-Ok.summary _ _ _ _ c.tell.result c.in-Ok.ensures c.tell.ensures
