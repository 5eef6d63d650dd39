use Rattle.trace_replay.proofs.PlayedWrites.{writes-kept}
use Rattle.trace_replay.proofs.SaidReplies.{replies-are}
use Rattle.trace_replay.proofs.laws.played_writes_law.Goals as goal

pub returns : goal.returns
returns c = record {
  replies = replies-are;
  writes = λ bytes shortages config used are read. writes-kept (record { headers = c.one_spelling_law.ensures.headers; items = c.one_spelling_law.ensures.items }) bytes shortages config used are read;
}
