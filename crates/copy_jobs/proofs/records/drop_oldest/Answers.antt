use Rattle.std.proofs.Common.{List, sym}
use Rattle.copy_jobs.specs.declared.key.Key.{Key}
use Rattle.copy_jobs.specs.declared.job.Work.{Work}
use Rattle.copy_jobs.specs.contracts.key.KeyPartialEq.TheImpl.{eq-value}
use Rattle.copy_jobs.specs.Jobs.{has_ended}
use Rattle.copy_jobs.specs.inner.Entries.{jobs_of}
use Rattle.copy_jobs.proofs.Entries.{job-under, removed-first, find-none, without-none}
use Rattle.copy_jobs.proofs.KeyEq.{key-own}
use Rattle.copy_jobs.proofs.records.drop_oldest.Goals as goal

pub returns-in-Some-clause-room : goal.returns-in-Some-clause-room
returns-in-Some-clause-room c =
    let entries : List (Key × Work) = c.args.works.now.entries in
    let first = job-under c.in-Some.key c.in-Some.field-0-1.now in
    rw c.pop.ensures.entries (removed-first has_ended (eq-value.it c.in-Some.key) entries first (key-own c.in-Some.key) c.requires c.in-Some.ensures.found)

pub returns-in_default-clause-room : goal.returns-in_default-clause-room
returns-in_default-clause-room c =
    let entries : List (Key × Work) = c.args.works.now.entries in
    sym (without-none has_ended (jobs_of entries) (find-none has_ended (jobs_of entries) (c.first.ensures.none c.in_default.is)))
