use Rattle.unit_core.proofs.Served.{serving}
use Rattle.unit_core.proofs.laws.serving_law.Goals as goal

pub returns : goal.returns
returns c = λ config unit. serving config unit
