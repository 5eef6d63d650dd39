use Rattle.std.proofs.Common.{◌≡◌, take}
use Rattle.std.specs.Prelude.{filter, not, ◌&&◌}
use Rattle.cm_history.specs.Operations.{has_ended, same_key}
use Rattle.plain_model.proofs.operations.others.Given as goal

abbrev pub invariant-loop-record : goal.invariant-loop-record
invariant-loop-record l = l.next.items ≡ filter (λ r. not (has_ended r && same_key l.made r)) (take l.record-index l.records)
