use Rattle.std.proofs.Common.{◌≡◌, take}
use Rattle.std.specs.Prelude.{map}
use Rattle.pr_keys.specs.declared.registrants.Registrant.{Registrant}
use Rattle.pr_keys.proofs.state.PrState.keys.Given as goal

abbrev pub invariant-loop-registrant : goal.invariant-loop-registrant
invariant-loop-registrant l = l.keys ≡ map (λ (r : Registrant). r.key) (take l.registrant-index l.registrant-items)
