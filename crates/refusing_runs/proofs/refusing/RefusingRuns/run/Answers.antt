use Rattle.std.proofs.Common.{sym, subst, refl}
use Rattle.refusing_runs.specs.Refusals.{Refusals}
use Rattle.refusing_runs.proofs.Refused.{one-done, one-refused}
use Rattle.refusing_runs.proofs.refusing.RefusingRuns.run.Goals as goal

pub returns-then-refused-clause-made : goal.returns-then-refused-clause-made
returns-then-refused-clause-made g c = λ calls stands. (
  stands.0,
  subst (λ (n : Refusals _). g.R.Runs.StandsFor n.inner stands.0) (sym c.self.view_is) stands.1,
  one-refused stands.0 calls _ refl stands.2,
)

pub returns-clause-made : goal.returns-clause-made
returns-clause-made g c = λ calls stands. (
  _,
  c.run.ensures.made stands.0 (subst (λ (n : Refusals _). g.R.Runs.StandsFor n.inner stands.0) (sym c.self.view_is) stands.1),
  one-done stands.0 calls _ stands.2,
)
