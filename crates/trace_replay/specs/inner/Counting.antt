-- How a replay counts what it did.
use Rattle.std.specs.Prelude.{ℕ, ◌+◌, ◌^◌, ◌<◌, length, Bool, if◌then◌else◌}
use Rattle.cm_frame.specs.declared.frame.Reply.{Reply}
use Rattle.cm_frame.specs.Grammar.{reply_bytes}
use Rattle.trace_replay.specs.declared.summary.Summary.{Summary}
use Rattle.trace_replay.specs.Played.{is_good, is_check, is_busy_reply, is_task_set_full}

-- one more item, after which there were so many acts
abbrev pub with_item : Summary → ℕ → Summary
with_item c steps = record c { records = c.records + 1; steps = steps }

abbrev pub one_if : Bool → ℕ
one_if b = if b then 1 else 0

-- one more reply
abbrev pub with_reply : Summary → Reply → Summary
with_reply c reply = record c {
  replies = c.replies + 1;
  good = c.good + one_if (is_good reply);
  check = c.check + one_if (is_check reply);
  busy = c.busy + one_if (is_busy_reply reply);
  full = c.full + one_if (is_task_set_full reply);
  bytes = c.bytes + (4 + length (reply_bytes reply));
}

-- there is room in the counts for one more
pub record HasRoom (c : Summary) : Type 0 where
  pub records : c.records < 2 ^ 32
  pub replies : c.replies < 2 ^ 32
  pub good : c.good < 2 ^ 32
  pub check : c.check < 2 ^ 32
  pub busy : c.busy < 2 ^ 32
  pub full : c.full < 2 ^ 32
  pub bytes : c.bytes < 2 ^ 62
