use Rattle.trace_replay.proofs.PlayedWrites.{played-legal}
use Rattle.trace_replay.proofs.laws.played_is_legal_law.Goals as goal

pub returns : goal.returns
returns c = λ bytes shortages are. played-legal (record { headers = c.one_spelling_law.ensures.headers; items = c.one_spelling_law.ensures.items }) bytes shortages are
