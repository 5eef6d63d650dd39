use Rattle.std.proofs.Common.{arith}
use Rattle.pr_keys.specs.Actions.{rekey}
use Rattle.pr_keys.proofs.Maps.{map-more}
use Rattle.pr_keys.proofs.registrants.set_key.Goals as goal

pub loop-registrant-preserved : goal.loop-registrant-preserved
loop-registrant-preserved c =
    rw (c.rekey.ensures, c.loop-registrant.invariant) (map-more (rekey c.args.nexus c.args.key) c.args.registrants.now.items c.loop-registrant.registrant-index _ (omega arith))
