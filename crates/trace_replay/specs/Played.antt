-- A trace, played item after item from the empty history
use Rattle.std.specs.Prelude.{ℕ, List, [], ◌∷◌, ◌++◌, length, drop, flat_map, count_by, Bool, true, false, if◌then◌else◌}
use Rattle.cm_base.specs.Configuration.{Configuration}
use Rattle.cm_frame.specs.declared.frame.Reply.{Reply}
use Rattle.cm_frame.specs.declared.item.TraceItem.{TraceItem}
use Rattle.cm_base.specs.declared.parsed.Parsed.{Parsed}
use Rattle.cm_base.specs.declared.parsed.Parsed.TheVariants.{Whole, Short, Bad}
use Rattle.byteorder.specs.Endian.{big_bytes}
use Rattle.cm_frame.specs.Grammar.{reply_bytes}
use Rattle.cm_frame.specs.Reading.{read_header}
use Rattle.cmd_program.specs.Stepping.{Stepping}
use Rattle.trace_replay.specs.declared.summary.Summary.{Summary}
use Rattle.trace_replay.specs.Items.{Ending, Torn, BadHeader, BadRecord, Placed, trace_of, items_limit}
use Rattle.trace_replay.specs.ReplayState.{ReplayState, AddressedReply, Shortage, Nowhere, at_first, after_item, item_fits}

-- how things stand at the end, and why it is the end
pub record Played : Type 0 where
  pub state : ReplayState
  pub ending : Ending

-- There is a shortage for each Begin and each Run, and none for a Pump. Shortages that are not there say nothing.
abbrev pub first_shortage : List Shortage → Shortage
first_shortage [] = Nowhere
first_shortage (m ∷ shortages) = m

-- the shortages behind the first
abbrev pub later_marks : List Shortage → List Shortage
later_marks [] = []
later_marks (m ∷ shortages) = shortages

-- the shortage at the next item
abbrev pub shortage_for : TraceItem → List Shortage → Shortage
shortage_for (TraceItem.Pump unit moment) shortages = Nowhere
shortage_for item shortages = first_shortage shortages

-- the shortages of the items behind it
abbrev pub shortages_behind : TraceItem → List Shortage → List Shortage
shortages_behind (TraceItem.Pump unit moment) shortages = shortages
shortages_behind item shortages = later_marks shortages

-- the items one after another, up to the first that does not fit
abbrev pub play : Stepping → Configuration → ReplayState → List Placed → Ending → List Shortage → Played
play step config s [] ending shortages = record { state = s; ending = ending }
play step config s (x ∷ xs) ending shortages =
    if item_fits config s x.item
    then play step config (after_item step config s x.item (shortage_for x.item shortages)) xs ending (shortages_behind x.item shortages)
    else record { state = s; ending = BadRecord x.place }

-- bytes that stand at a place, where `n` more items are allowed
abbrev pub played_from : Stepping → Configuration → ReplayState → ℕ → ℕ → List ℕ → List Shortage → Played
played_from step config s n place bytes shortages =
    play step config s (trace_of n place bytes).items (trace_of n place bytes).ending shortages

-- no item was played
abbrev pub never_began : Ending → Played
never_began ending = record { state = at_first; ending = ending }

-- the items behind a whole header; a header that is torn or bad is the end
abbrev pub played_after : Stepping → Parsed Configuration → List ℕ → List Shortage → Played
played_after step (Whole config used) bytes shortages = played_from step config at_first items_limit used (drop used bytes) shortages
played_after step Short bytes shortages = never_began (Torn 0)
played_after step (Bad place) bytes shortages = never_began (BadHeader place)

-- a whole input: a header, and then items
abbrev pub played : Stepping → List ℕ → List Shortage → Played
played step bytes shortages = played_after step (read_header bytes) bytes shortages

-- ---- the output and the counts

-- the initiator in four bytes, and the reply
abbrev pub addressed_bytes : AddressedReply → List ℕ
addressed_bytes r = big_bytes 4 r.initiator ++ reply_bytes r.reply

-- the replies so far as they are written, in order
abbrev pub output_of : ReplayState → List ℕ
output_of s = flat_map addressed_bytes s.replies

-- the reply is GOOD
abbrev pub is_good : Reply → Bool
is_good (Reply.Good bytes) = true
is_good _ = false

-- the reply is CHECK CONDITION
abbrev pub is_check : Reply → Bool
is_check (Reply.Check sense) = true
is_check _ = false

-- the reply is BUSY
abbrev pub is_busy_reply : Reply → Bool
is_busy_reply Reply.Busy = true
is_busy_reply _ = false

-- the reply is TASK SET FULL
abbrev pub is_task_set_full : Reply → Bool
is_task_set_full Reply.Full = true
is_task_set_full _ = false

-- how many of the replies are such
abbrev pub replies_that : (Reply → Bool) → ReplayState → ℕ
replies_that test s = count_by (λ (r : AddressedReply). test r.reply) s.replies

-- what was played, in numbers
abbrev pub summary_of : ReplayState → Summary
summary_of s = record {
  records = s.items;
  replies = length s.replies;
  good = replies_that is_good s;
  check = replies_that is_check s;
  busy = replies_that is_busy_reply s;
  full = replies_that is_task_set_full s;
  steps = length s.entries;
  bytes = length (output_of s);
}
