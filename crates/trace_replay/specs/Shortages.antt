-- Where memory may have been refused
use Rattle.std.specs.Prelude.{ℕ, List, [], ◌∷◌, drop, Option, Some, None, Bool, true, false, ◌&&◌, ◌||◌, not, nat_lt, if◌then◌else◌}
use Rattle.std.specs.List.{list_any}
use Rattle.cm_base.specs.Configuration.{Configuration}
use Rattle.cm_history.specs.declared.act.Actor.{Actor}
use Rattle.cm_history.specs.declared.act.Entry.{Entry}
use Rattle.cm_history.specs.History.{past_of}
use Rattle.cm_history.specs.Ends.{ends_operation}
use Rattle.cm_frame.specs.declared.item.TraceItem.{TraceItem}
use Rattle.cm_base.specs.declared.parsed.Parsed.{Parsed}
use Rattle.cm_base.specs.declared.parsed.Parsed.TheVariants.{Whole}
use Rattle.cm_frame.specs.Reading.{read_header}
use Rattle.cmd_program.specs.declared.step.Outcome.{Outcome}
use Rattle.cmd_program.specs.declared.step.Step.{Step}
use Rattle.cmd_program.specs.Stepping.{Stepping, gave_up, wanted_memory}
use Rattle.trace_replay.specs.Items.{Placed, trace_of, items_limit}
use Rattle.trace_replay.specs.ReplayState.{Pending, ReplayState, Shortage, Nowhere, AtBegin, AtAct, AtStep, at_first, waiting, has_no_room, next_step, after_item, item_fits}
use Rattle.trace_replay.specs.Played.{shortage_for, shortages_behind, is_busy_reply, replies_that}

-- the shortage says nothing
abbrev pub is_no_shortage : Shortage → Bool
is_no_shortage Nowhere = true
is_no_shortage _ = false

-- the shortage may stand at the act; an act that ends an operation never wants memory
abbrev pub allowed_at_act : Configuration → List Entry → Actor → Shortage → Step → Bool
allowed_at_act config entries actor shortage (Step.Done reply) = is_no_shortage shortage
allowed_at_act config entries actor AtAct (Step.Do unit act) = not (ends_operation (past_of config unit entries) actor act)
allowed_at_act config entries actor AtStep (Step.Do unit act) = not (has_no_room config entries actor unit act)
allowed_at_act config entries actor AtBegin (Step.Do unit act) = false
allowed_at_act config entries actor Nowhere (Step.Do unit act) = true

-- the shortage may stand at a Run of the command, and at none after the one at which it gave up
abbrev pub allowed_at_run : Stepping → Configuration → ReplayState → Shortage → Option Pending → Bool
allowed_at_run step config s shortage None = true
allowed_at_run step config s shortage (Some p) =
    if gave_up p.outcomes then is_no_shortage shortage else allowed_at_act config s.entries (Actor.Nexus p.initiator) shortage (next_step step config p)

-- the shortage may stand at this item; a Begin does no act, so none stands at its act
abbrev pub is_allowed : Stepping → Configuration → ReplayState → TraceItem → Shortage → Bool
is_allowed step config s (TraceItem.Begin initiator moment request) AtAct = false
is_allowed step config s (TraceItem.Begin initiator moment request) shortage = true
is_allowed step config s (TraceItem.Run initiator moment) shortage = allowed_at_run step config s shortage (waiting initiator s.pending)
is_allowed step config s (TraceItem.Pump unit moment) shortage = true

-- each shortage may stand where it stands
abbrev pub are_allowed : Stepping → Configuration → ReplayState → List Placed → List Shortage → Bool
are_allowed step config s [] shortages = true
are_allowed step config s (x ∷ xs) shortages =
    if item_fits config s x.item
    then is_allowed step config s x.item (shortage_for x.item shortages)
    && are_allowed step config (after_item step config s x.item (shortage_for x.item shortages)) xs (shortages_behind x.item shortages)
    else true

-- bytes that stand at a place, where `n` more items are allowed
abbrev pub may_lack_from : Stepping → Configuration → ReplayState → ℕ → ℕ → List ℕ → List Shortage → Bool
may_lack_from step config s n place bytes shortages = are_allowed step config s (trace_of n place bytes).items shortages

-- behind a header that is torn or bad, shortages say nothing
abbrev pub allowed_after : Stepping → Parsed Configuration → List ℕ → List Shortage → Bool
allowed_after step (Whole config used) bytes shortages = may_lack_from step config at_first items_limit used (drop used bytes) shortages
allowed_after step _ bytes shortages = true

-- the shortages may stand at the items of this input
abbrev pub may_lack : Stepping → List ℕ → List Shortage → Bool
may_lack step bytes shortages = allowed_after step (read_header bytes) bytes shortages

-- ---- what shortages show

-- a reply is BUSY, or a command that still waits met want of memory
abbrev pub met_want : ReplayState → Bool
met_want s = nat_lt 0 (replies_that is_busy_reply s) || list_any (λ (p : Pending). wanted_memory p.outcomes) s.pending
