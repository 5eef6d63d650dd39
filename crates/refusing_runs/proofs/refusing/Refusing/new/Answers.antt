use Rattle.refusing_runs.proofs.Refused.{none-refused}
use Rattle.refusing_runs.proofs.refusing.Refusing.new.Goals as goal

pub returns-clause-stands : goal.returns-clause-stands
returns-clause-stands g c = λ calls stands. (calls, stands, none-refused calls)
