use Rattle.std.proofs.Common.{◌<◌, length}
use Rattle.journal_disk.specs.Memory.{now}
use Rattle.record_tests.proofs.tests.journals.record_four.Given as goal

abbrev pub invariant-loop-count : goal.invariant-loop-count
invariant-loop-count l = l.journal.gate < length (now l.journal.disk).reads
