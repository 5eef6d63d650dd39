use Rattle.plain_model.specs.Holds.{AreWithin}
use Rattle.unit_tests.proofs.tests.model.ask_all.Given as goal

abbrev pub invariant-loop-row : goal.invariant-loop-row
invariant-loop-row l = AreWithin l.config 0 l.history.entries
