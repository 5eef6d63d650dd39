use Rattle.cm_server.proofs.PublicLaws.{all-fit}
use Rattle.server_tests.proofs.tests.recorded.wanting_recorders.Goals as goal

pub returns-clause-fits : goal.returns-clause-fits
returns-clause-fits c = all-fit c.loop-place.recorders
