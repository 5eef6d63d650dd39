use Rattle.std.proofs.Common.{◌≡◌, length}
use Rattle.copymgr.proofs.journal_files.journal_files.Given as goal

abbrev pub invariant-loop-unit : goal.invariant-loop-unit
invariant-loop-unit l = length l.disks ≡ l.unit-counter
