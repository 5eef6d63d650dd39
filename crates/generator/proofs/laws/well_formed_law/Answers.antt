use Rattle.std.proofs.Common.{arith}
use Rattle.generator.specs.Settings.{settings}
use Rattle.generator.proofs.Fitting.{fit-from, twelve-each, fits-settings}
use Rattle.generator.proofs.laws.well_formed_law.Goals as goal

pub returns : goal.returns
returns c = record {
  header = λ rest. c.read_back_law.ensures.headers settings rest fits-settings;
  items = λ rounds few. fit-from 0 rounds (omega (arith, few));
  count = λ rounds. twelve-each 0 rounds;
}
