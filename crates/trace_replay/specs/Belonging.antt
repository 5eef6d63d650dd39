-- To whose command it belongs that memory was refused
use Rattle.std.specs.Prelude.{◌≡◌, ℕ, List, [], ◌∷◌, drop, find, Option, Some, None, true, false, ◌==◌}
use Rattle.cm_base.specs.Configuration.{Configuration}
use Rattle.cm_base.specs.declared.parsed.Parsed.{Parsed}
use Rattle.cm_base.specs.declared.parsed.Parsed.TheVariants.{Whole}
use Rattle.cm_frame.specs.declared.frame.Reply.{Reply}
use Rattle.cm_frame.specs.declared.item.TraceItem.{TraceItem}
use Rattle.cm_frame.specs.Reading.{read_header}
use Rattle.cmd_program.specs.Stepping.{Stepping, wanted_memory}
use Rattle.trace_replay.specs.Items.{Ending, Placed, trace_of, items_limit}
use Rattle.trace_replay.specs.ReplayState.{Pending, ReplayState, Shortage, at_first, waiting, after_item, item_fits}
use Rattle.trace_replay.specs.Played.{play, shortage_for, shortages_behind}
use Rattle.trace_replay.specs.Ended.{Ended, ended_in}
use Rattle.trace_replay.specs.Shortages.{is_no_shortage}

-- the first command of the initiator among these that ended
abbrev pub first_of : ℕ → List Ended → Option Ended
first_of initiator ended = find (λ (e : Ended). e.initiator == initiator) ended

-- the command waits, and met want of memory
abbrev pub WaitsInWant : Option Pending → Type 0
WaitsInWant None = ⊥
WaitsInWant (Some p) = wanted_memory p.outcomes ≡ true

-- the command ended BUSY, or it waits at the end
abbrev pub IsBusyOrWaits : ℕ → Option Ended → ReplayState → Type 0
IsBusyOrWaits initiator (Some e) s = e.reply ≡ Reply.Busy
IsBusyOrWaits initiator None s = WaitsInWant (waiting initiator s.pending)

-- where memory was refused at the item: what then becomes of the command of its initiator
abbrev pub IsShown : TraceItem → Shortage → List Ended → ReplayState → Type 0
IsShown (TraceItem.Begin initiator moment request) shortage ended s = is_no_shortage shortage ≡ false → IsBusyOrWaits initiator (first_of initiator ended) s
IsShown (TraceItem.Run initiator moment) shortage ended s = is_no_shortage shortage ≡ false → IsBusyOrWaits initiator (first_of initiator ended) s
IsShown (TraceItem.Pump unit moment) shortage ended s = Unit {0}

-- each item up to the first that does not fit, by what ends from it on and by how things stand at the end
abbrev pub AreShown : Stepping → Configuration → ReplayState → List Placed → Ending → List Shortage → Type 0
AreShown step config s [] ending shortages = Unit {0}
AreShown step config s (x ∷ xs) ending shortages = item_fits config s x.item ≡ true
    → IsShown x.item (shortage_for x.item shortages) (ended_in step config s (x ∷ xs) shortages) (play step config s (x ∷ xs) ending shortages).state
    × AreShown step config (after_item step config s x.item (shortage_for x.item shortages)) xs ending (shortages_behind x.item shortages)

-- behind a header that is torn or bad there is no item
abbrev pub AreShownAfter : Stepping → Parsed Configuration → List ℕ → List Shortage → Type 0
AreShownAfter step (Whole config used) bytes shortages =
    AreShown step config at_first (trace_of items_limit used (drop used bytes)).items (trace_of items_limit used (drop used bytes)).ending shortages
AreShownAfter step _ bytes shortages = Unit {0}

-- In a whole input: a command that was refused memory is answered BUSY, or waits at the end.
abbrev pub RefusalsAreShown : Stepping → List ℕ → List Shortage → Type 0
RefusalsAreShown step bytes shortages = AreShownAfter step (read_header bytes) bytes shortages
