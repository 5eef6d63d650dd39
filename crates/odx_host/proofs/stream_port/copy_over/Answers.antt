use Rattle.std.proofs.Common.{◌++◌, ℕ, List, subst}
use Rattle.std.specs.Prelude.{Ok}
use Rattle.odx_host.specs.inner.FrontJob.{IsFront}
use Rattle.odx_host.proofs.FrontJobs.{copied-by}
use Rattle.odx_host.proofs.Counting.{copied-counted}
use Rattle.odx_host.proofs.stream_port.copy_over.Goals as goal

pub returns-clause-copied : goal.returns-clause-copied
returns-clause-copied g c =
    let r = c.in_ok-job.ensures.read in
    let there = subst (λ (b : List ℕ). IsFront (Ok c.in_ok-job.job) (g.I.Source.left c.front_job.new.source) (b ++ r.0) c.front_job.new.input) c.new-input.ensures r.2 in
    let t = c.copy_behind.ensures in
    (t.0, copied-by _ _ _ r.0 _ _ c.copy_behind.result _ r.1 there c.in_ok-job.ensures.counted t.1)

pub returns-clause-counted : goal.returns-clause-counted
returns-clause-counted g c =
    let all = returns-clause-copied g c in
    copied-counted _ _ c.copy_behind.result all.1
