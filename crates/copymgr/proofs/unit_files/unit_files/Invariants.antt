use Rattle.std.proofs.Common.{◌≡◌, length}
use Rattle.copymgr.proofs.unit_files.unit_files.Given as goal

abbrev pub invariant-loop-unit : goal.invariant-loop-unit
invariant-loop-unit l = length l.recorders ≡ l.unit-counter
