use Rattle.std.proofs.Common.{◌≡◌, ◌++◌, take, drop}
use Rattle.std.specs.Prelude.{map}
use Rattle.pr_keys.specs.Actions.{rekey}
use Rattle.pr_keys.proofs.registrants.set_key.Given as goal

abbrev pub invariant-loop-registrant : goal.invariant-loop-registrant
invariant-loop-registrant l =
    l.registrant-items ≡ map (rekey l.nexus l.key) (take l.registrant-index l.fn.registrants.items) ++ drop l.registrant-index l.fn.registrants.items
