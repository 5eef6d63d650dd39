use Rattle.std.proofs.Common.{refl}
use Rattle.cm_server.proofs.Moving.{moved-none}
use Rattle.cm_server.proofs.Ran.{unless, unless-wanted}
use Rattle.cm_server.proofs.serving.settle.Goals as goal

pub returns-in-OutOfMemory-clause-settled : goal.returns-in-OutOfMemory-clause-settled
returns-in-OutOfMemory-clause-settled g c = unless-wanted c.args.ran.end _ c.in-OutOfMemory.is

pub returns-in-OutOfMemory-clause-moved : goal.returns-in-OutOfMemory-clause-moved
returns-in-OutOfMemory-clause-moved g c = moved-none c.args.shared.now.world c.args.root.now c.args.root.now c.requires.ready refl

pub returns-in-Ok-clause-settled : goal.returns-in-Ok-clause-settled
returns-in-Ok-clause-settled g c = unless c.args.ran.end _ (refl, c.in-Ok.ensures.settled)
