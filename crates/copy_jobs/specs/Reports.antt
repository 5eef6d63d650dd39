-- What is told of a job
use Rattle.std.specs.Prelude.{Some, None, true, false}
use Rattle.cm_history.specs.declared.act.CopyEnd.{CopyEnd}
use Rattle.cm_history.specs.declared.act.CopyState.{CopyState}
use Rattle.cm_history.specs.declared.answer.OpState.{OpState}
use Rattle.cm_history.specs.declared.answer.OpReport.{OpReport}
use Rattle.copy_jobs.specs.declared.job.Work.{Work}
use Rattle.copy_jobs.specs.declared.job.Work.TheVariants.{Populated, Writing, Copying}

abbrev pub report_of : Work → OpReport
report_of (Populated serial blocks) =
    record { populate = true; background = false; state = OpState.Done; count = blocks; serial = Some serial }
report_of (Writing write) =
    record { populate = false; background = write.background; state = write.state; count = write.written; serial = None }
report_of (Copying result) =
    record { populate = false; background = false; state = OpState.Done; count = 0; serial = None }

abbrev pub result_of : Work → CopyEnd
result_of (Copying result) = result
result_of work = record { state = CopyState.Running; segments = 0; bytes = 0 }
