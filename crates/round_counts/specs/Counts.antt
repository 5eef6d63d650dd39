-- What a generated trace comes to where memory is never refused
use Rattle.std.specs.Prelude.{◌≡◌, ℕ, ◌*◌, ◌≤◌, []}
use Rattle.cmd_program.specs.Judging.{step}
use Rattle.generator.specs.Generated.{generated}
use Rattle.trace_replay.specs.declared.summary.Summary.{Summary}
use Rattle.trace_replay.specs.Items.{Done}
use Rattle.trace_replay.specs.Played.{played, summary_of}

-- A round is 12 items, 5 commands that are all answered GOOD, and 7 acts. Its replies have 4182 bytes: 10 each, with 36 of
-- the report and 4096 of the blocks.
abbrev pub counts_of : ℕ → Summary
counts_of rounds = record {
  records = 12 * rounds;
  replies = 5 * rounds;
  good = 5 * rounds;
  check = 0;
  busy = 0;
  full = 0;
  steps = 7 * rounds;
  bytes = 4182 * rounds;
}

-- the trace of so many rounds is played to its end, with these numbers
pub record HasCounts (rounds : ℕ) : Type 0 where
  pub ends : (played step (generated rounds) []).ending ≡ Done
  pub counts : summary_of (played step (generated rounds) []).state ≡ counts_of rounds

-- of each number of rounds for which a trace is made
abbrev pub RoundsLaw : Type 0
RoundsLaw = (rounds : ℕ) → rounds ≤ 4096 → HasCounts rounds
