use Rattle.std.proofs.Common.{arith}
use Rattle.resumed_worlds.proofs.Given.{stored-of}
use Rattle.resumed_worlds.proofs.journals.stores_on.Goals as goal

pub returns-clause-stored : goal.returns-clause-stored
returns-clause-stored c =
    let one = c.requires.one in
    let opened = c.in_ok-recorder.ensures in
    rw (c.in_ok-push.ensures.items, c.new-stores.ensures.items) (stored-of c.args.config.now 0 _ (omega (arith, one)) opened.order opened.recorded, tt)
