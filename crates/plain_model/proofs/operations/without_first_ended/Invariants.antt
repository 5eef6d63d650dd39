use Rattle.std.proofs.Common.{◌≡◌, ◌++◌, drop}
use Rattle.std.specs.Prelude.{if◌then◌else◌}
use Rattle.cm_history.specs.Operations.{without_first_ended}
use Rattle.plain_model.proofs.operations.without_first_ended.Given as goal

abbrev pub invariant-loop-record : goal.invariant-loop-record
invariant-loop-record l =
    l.next.items ++ (if l.dropped then drop l.record-index l.records else without_first_ended (drop l.record-index l.records)) ≡ without_first_ended l.records
