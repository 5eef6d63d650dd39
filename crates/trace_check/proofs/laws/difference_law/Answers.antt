use Rattle.std.proofs.Common.{◌≡◌, subst}
use Rattle.std.specs.Prelude.{None}
use Rattle.trace_check.specs.Verdict.{first_difference}
use Rattle.trace_check.proofs.Differing.{same-none, none-same, before-same, there-other}
use Rattle.trace_check.proofs.laws.difference_law.Goals as goal

pub returns-clause-same : goal.returns-clause-same
returns-clause-same c = λ xs ys. (none-same xs ys, λ same. subst (λ l. first_difference xs l ≡ None) same (same-none xs))

pub returns-clause-before : goal.returns-clause-before
returns-clause-before c = before-same

pub returns-clause-there : goal.returns-clause-there
returns-clause-there c = there-other
