use Rattle.std.proofs.Common.{rules}
use Rattle.block_params.proofs.reading.read_populate.Goals as goal

pub returns-clause-legal : goal.returns-clause-legal
returns-clause-legal c = record { timeout = search rules; ranges = search rules }
