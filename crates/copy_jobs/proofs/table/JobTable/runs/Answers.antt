use Rattle.std.proofs.Common.{ap, sym, ◌∙◌}
use Rattle.std.specs.Prelude.{Some, None}
use Rattle.std.specs.Option.{option_copied}
use Rattle.copy_jobs.proofs.KeyEq.{key-own}
use Rattle.copy_jobs.specs.inner.Entries.{jobs_of}
use Rattle.copy_jobs.proofs.Newest.{none-busy}
use Rattle.copy_jobs.proofs.Own.{busy-under}
use Rattle.copy_jobs.proofs.table.JobTable.runs.Goals as goal

pub returns-then-self-eq0-clause-busy : goal.returns-then-self-eq0-clause-busy
returns-then-self-eq0-clause-busy c =
    rw (← c.self.view_is) (sym (none-busy c.args.key (jobs_of c.self.inside.works.entries) (sym c.self.invariant.0.counts_running ∙ c.if-self-eq0.true)))

pub returns-in-Some-clause-busy : goal.returns-in-Some-clause-busy
returns-in-Some-clause-busy c =
    let is = busy-under c.args.key _ c.self.inside.works.entries (key-own c.args.key) c.self.invariant.0.apart (Some c.in-Some.work.now) (sym (ap option_copied c.in-Some.is) ∙ c.peek.ensures) in
    rw (c.is_running.ensures, ← c.self.view_is) (sym is)

pub returns-in-None-clause-busy : goal.returns-in-None-clause-busy
returns-in-None-clause-busy c =
    let is = busy-under c.args.key _ c.self.inside.works.entries (key-own c.args.key) c.self.invariant.0.apart None (sym (ap option_copied c.in-None.is) ∙ c.peek.ensures) in
    rw (← c.self.view_is) (sym is)
