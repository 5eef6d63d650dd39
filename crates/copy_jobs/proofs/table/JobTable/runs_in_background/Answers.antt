use Rattle.std.proofs.Common.{ap, sym, ◌∙◌}
use Rattle.std.specs.Prelude.{Some, None}
use Rattle.std.specs.Option.{option_copied}
use Rattle.copy_jobs.proofs.KeyEq.{key-own}
use Rattle.copy_jobs.proofs.Own.{background-under}
use Rattle.copy_jobs.proofs.table.JobTable.runs_in_background.Goals as goal

pub returns-in-Some : goal.returns-in-Some
returns-in-Some c =
    let is = background-under c.args.key _ c.self.inside.works.entries (key-own c.args.key) c.self.invariant.0.apart (Some c.in-Some.work.now) (sym (ap option_copied c.in-Some.is) ∙ c.peek.ensures) in
    rw (c.is.ensures, ← c.self.view_is) (sym is)

pub returns-in-None : goal.returns-in-None
returns-in-None c =
    let is = background-under c.args.key _ c.self.inside.works.entries (key-own c.args.key) c.self.invariant.0.apart None (sym (ap option_copied c.in-None.is) ∙ c.peek.ensures) in
    rw (← c.self.view_is) (sym is)
