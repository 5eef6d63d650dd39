use Rattle.round_counts.proofs.Plays.{generated-counts}
use Rattle.round_counts.proofs.laws.rounds_law.Goals as goal

pub returns : goal.returns
returns c =
    let law = c.well_formed_law.ensures in
    generated-counts c.read_back_law.ensures.items law.header law.items law.count
