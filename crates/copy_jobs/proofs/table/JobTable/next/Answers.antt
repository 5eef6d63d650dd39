use Rattle.std.proofs.Common.{◌≡◌, List, sym, ◌∙◌, true, false}
use Rattle.std.specs.Prelude.{Option, Some, None, Ok, Err, Result, find, IfOk, IfSome}
use Rattle.cm_base.specs.declared.out_of_memory.OutOfMemory.{OutOfMemory}
use Rattle.copy_jobs.specs.declared.key.Key.{Key}
use Rattle.copy_jobs.specs.declared.job.Job.{Job}
use Rattle.copy_jobs.specs.declared.piece.NextPiece.{NextPiece}
use Rattle.copy_jobs.specs.Pieces.{is_next, IsNextPiece}
use Rattle.copy_jobs.specs.inner.Entries.{jobs_of}
use Rattle.copy_jobs.specs.inner.Pieces.{is_writing, IsPieceOf}
use Rattle.copy_jobs.specs.Tables.{KeysApart}
use Rattle.copy_jobs.specs.inner.Tables.{IsJob}
use Rattle.copy_jobs.proofs.Entries.{job-under}
use Rattle.copy_jobs.proofs.Found.{find-job, find-passes}
use Rattle.copy_jobs.proofs.Next.{next-is, next-runs, next-writes}
use Rattle.copy_jobs.proofs.table.JobTable.next.Goals as goal

pub next_piece-requires-clause-work : goal.next_piece-requires-clause-work
next_piece-requires-clause-work c =
    let jobs : List Job = jobs_of c.self.inside.works.entries in
    let job = job-under c.in-Some.key c.in-Some.work.now in
    let told : find (is_next c.args.key) jobs ≡ Some job = rw c.self.view_is c.in-Some.ensures.found in
    (find-job (is_next c.args.key) jobs job c.self.invariant.0.jobs told).work

pub next_piece-requires-clause-runs : goal.next_piece-requires-clause-runs
next_piece-requires-clause-runs c =
    let job = job-under c.in-Some.key c.in-Some.work.now in
    next-runs c.args.key job (find-passes (is_next c.args.key) c.args.self.now job c.in-Some.ensures.found)

-- one that writes next has a piece
some : (key : Option Key) (jobs : List Job) (job : Job) (r : Result (Option NextPiece) OutOfMemory) → is_writing job.work ≡ true
    → IfOk r (λ piece. piece ≡ None → is_writing job.work ≡ false) → IfOk r (λ piece. piece ≡ None → find (is_next key) jobs ≡ None)
some key jobs job (Err e) on h = h
some key jobs job (Ok None) on h = λ e. let no = sym on ∙ h e in absurd cc
some key jobs job (Ok (Some piece)) on h = λ e. absurd cc

pub returns-in-Some-clause-none : goal.returns-in-Some-clause-none
returns-in-Some-clause-none c =
    let job = job-under c.in-Some.key c.in-Some.work.now in
    some c.args.key c.args.self.now job c.next_piece.result (next-writes c.args.key job (find-passes (is_next c.args.key) c.args.self.now job c.in-Some.ensures.found)) c.next_piece.ensures.writes

each : (key : Option Key) (jobs : List Job) (job : Job) (r : Result (Option NextPiece) OutOfMemory) → KeysApart jobs → IsJob job → find (is_next key) jobs ≡ Some job
    → IfOk r (λ piece. IfSome piece (λ piece. IsPieceOf job piece)) → IfOk r (λ piece. IfSome piece (λ piece. IsNextPiece key jobs piece))
each key jobs job (Err e) a is f h = h
each key jobs job (Ok None) a is f h = h
each key jobs job (Ok (Some piece)) a is f h = next-is key jobs job piece a f is h

pub returns-in-Some-clause-piece : goal.returns-in-Some-clause-piece
returns-in-Some-clause-piece c =
    let jobs : List Job = jobs_of c.self.inside.works.entries in
    let job = job-under c.in-Some.key c.in-Some.work.now in
    let told : find (is_next c.args.key) jobs ≡ Some job = rw c.self.view_is c.in-Some.ensures.found in
    let is = find-job (is_next c.args.key) jobs job c.self.invariant.0.jobs told in
    rw (← c.self.view_is) (each c.args.key jobs job c.next_piece.result c.self.invariant.0.apart is told c.next_piece.ensures.piece)
