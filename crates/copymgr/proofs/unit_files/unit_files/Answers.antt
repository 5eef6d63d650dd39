use Rattle.cm_server.proofs.PublicLaws.{all-fit}
use Rattle.copymgr.proofs.unit_files.unit_files.Goals as goal

pub returns-clause-fits : goal.returns-clause-fits
returns-clause-fits c = all-fit c.loop-unit.recorders
