use Rattle.generator.proofs.Spelled.{generated-one}
use Rattle.generator.proofs.trace.generate.Goals as goal

pub loop-round-preserved : goal.loop-round-preserved
loop-round-preserved c = (
  c.loop-round.invariant.0,
  generated-one c.loop-round.round c.loop-round.trace c.push_round.new.trace c.loop-round.invariant.1 c.in_ok-push_round.ensures,
)
