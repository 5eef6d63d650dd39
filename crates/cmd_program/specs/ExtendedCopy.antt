-- EXTENDED COPY
use Rattle.std.specs.Prelude.{ℕ, zero, suc, ◌+◌, ◌-◌, ◌*◌, ◌==◌, List, [], ◌∷◌, ◌++◌, length, map, min, sum_by, slice_range, slice_index, Option, Some, None, Result, Ok, Err, Bool, true, false, not, ◌&&◌, nat_lt, if◌then◌else◌}
use Rattle.std.specs.Str.{bytes_eq}
use Rattle.cm_base.specs.Configuration.{Configuration}
use Rattle.cm_base.specs.Fields.{field}
use Rattle.cm_base.specs.Units.{unit_of, unit_name, is_configured}
use Rattle.lba_ranges.specs.HeldBlocks.{HeldBlocks}
use Rattle.scsi_sense.specs.SenseCode.{SenseCode}
use Rattle.scsi_sense.specs.Codes.{invalid_field_in_parameter_list, incorrect_copy_target_device_type, copy_target_device_not_reachable, copy_lba_out_of_range, aborted_by}
use Rattle.scsi_sense.specs.Faults.{first_fault}
use Rattle.seg_parse.specs.declared.list.Cscd.{Cscd}
use Rattle.seg_parse.specs.declared.list.Segment.{Segment}
use Rattle.seg_parse.specs.declared.list.CopyList.{CopyList}
use Rattle.cm_history.specs.Bounds.{piece_blocks}
use Rattle.cm_history.specs.declared.act.Act.{Act}
use Rattle.cm_history.specs.declared.act.CopyState.{CopyState}
use Rattle.cm_history.specs.declared.answer.Answer.{Answer}
use Rattle.pr_keys.specs.declared.refused.Refusal.{Refusal}
use Rattle.cmd_program.specs.Program.{Ask, Program, Asks, done, refused, conflict, unless_refused, with_blocks, ask_then}
use Rattle.cm_history.specs.Room.{pieces}

-- ---- where the segments lead

-- the unit that a name is of
abbrev pub named_unit : Configuration → Option (List ℕ) → Option ℕ
named_unit config None = None
named_unit config (Some name) =
    let unit = field name 6 7 in
    if is_configured config unit && bytes_eq name (unit_name unit) then Some unit else None

-- a segment whose source and destination are units
pub record Move : Type 0 where
  pub source : ℕ
  pub destination : ℕ
  pub count : ℕ
  pub from : ℕ
  pub to : ℕ

-- the unit, and unit 0 where there is none
abbrev pub unit_or_first : Option ℕ → ℕ
unit_or_first None = 0
unit_or_first (Some unit) = unit

-- the units of the CSCDs
abbrev pub places : Configuration → List Cscd → List ℕ
places config cscds = map (λ (c : Cscd). unit_or_first (named_unit config c.name)) cscds

-- a segment, with the units of its source and its destination
abbrev pub move_of : List ℕ → Segment → Move
move_of units s = record {
  source = slice_index units s.source;
  destination = slice_index units s.destination;
  count = s.count;
  from = s.from;
  to = s.to;
}

-- the segments of the list, with their units
abbrev pub moves_of : Configuration → CopyList → List Move
moves_of config list = map (move_of (places config list.units)) list.segments

-- ---- what is wrong before the first act

-- a CSCD has to be a unit of this copy manager, and of its block length
abbrev pub place_fault : Configuration → Cscd → Option ℕ → Option SenseCode
place_fault config c None = Some copy_target_device_not_reachable
place_fault config c (Some unit) = if c.block_length == (unit_of config unit).block_length then None else Some invalid_field_in_parameter_list

-- a CSCD has to be a direct access block device (peripheral device type 00h)
abbrev pub cscd_fault : Configuration → Cscd → Option SenseCode
cscd_fault config c = if c.device == 0 then place_fault config c (named_unit config c.name) else Some incorrect_copy_target_device_type

-- the two units of a segment have to have one block length, and its blocks to lie in both
abbrev pub move_fault : Configuration → Move → Option SenseCode
move_fault config m =
    let source = unit_of config m.source in
    let destination = unit_of config m.destination in
    if not (source.block_length == destination.block_length) then Some invalid_field_in_parameter_list else
    if nat_lt source.blocks (m.from + m.count) then Some copy_lba_out_of_range else
    if nat_lt destination.blocks (m.to + m.count) then Some copy_lba_out_of_range else
    None

-- more than 536,870,912 bytes
abbrev pub size_fault : Configuration → List Move → Option SenseCode
size_fault config moves =
    if nat_lt 536_870_912 (sum_by (λ (m : Move). m.count * (unit_of config m.source).block_length) moves) then Some invalid_field_in_parameter_list else None

-- the first fault: of the CSCDs, of the segments, of all that would be copied
abbrev pub copy_fault : Configuration → CopyList → Option SenseCode
copy_fault config list =
    let moves = moves_of config list in
    first_fault (map (cscd_fault config) list.units ++ map (move_fault config) moves ++ size_fault config moves ∷ [])

-- ---- the copy

-- the addressed unit, the list identifier, and whether a record was opened there
pub record Copying : Type 0 where
  pub unit : ℕ
  pub id : ℕ
  pub opened : Bool

-- the segments that were done whole, and the bytes that were put
pub record Tally : Type 0 where
  pub segments : ℕ
  pub bytes : ℕ

-- the Close of the record: how the copy ended, and how far it came
abbrev pub close_as : Copying → Tally → CopyState → Ask
close_as c t state = record {
  unit = c.unit;
  act = Act.Close c.id (record { state = state; segments = t.segments; bytes = t.bytes });
}

-- what is left to ask where the copy gives up
abbrev pub left_of : Copying → Tally → Option Ask
left_of c t = if c.opened then Some (close_as c t CopyState.Terminated) else None

-- Done, unless a refusal ended the segments
abbrev pub end_state : Option Refusal → CopyState
end_state None = CopyState.Done
end_state (Some refusal) = CopyState.Failed

-- the reply to the whole copy
abbrev pub copy_reply : Option Refusal → Program
copy_reply None = done
copy_reply (Some Refusal.Conflict) = conflict
copy_reply (Some (Refusal.Refused sense)) = refused (aborted_by sense.asc sense.ascq)

-- after the segments: the record is closed, if it was opened
abbrev pub closing : Copying → Tally → Option Refusal → Program
closing c t ended_by =
    if c.opened then Asks (close_as c t (end_state ended_by)) (left_of c t) (unless_refused (copy_reply ended_by)) else copy_reply ended_by

-- one more segment is done whole
abbrev pub segment_done : Tally → Tally
segment_done t = record t { segments = t.segments + 1 }

-- the blocks of the piece that begins at block `at` of those that were captured
abbrev pub piece_count : HeldBlocks → ℕ → ℕ
piece_count list at = min piece_blocks (length list.items - at)

-- the piece of the captured blocks that begins at block `at`
abbrev pub piece_at : HeldBlocks → ℕ → HeldBlocks
piece_at list at = record list { items = slice_range list.items at (at + piece_count list at) }

-- with the bytes of that piece
abbrev pub piece_put : Tally → HeldBlocks → ℕ → Tally
piece_put t list at = record t { bytes = t.bytes + piece_count list at * list.block_length }

-- a refusal ends the segments; any other answer goes on
abbrev pub unless_ended : Copying → Tally → Program → Answer → Program
unless_ended c t rest (Answer.Refused sense) = closing c t (Some (Refusal.Refused sense))
unless_ended c t rest Answer.Conflict = closing c t (Some Refusal.Conflict)
unless_ended c t rest _ = rest

-- the pieces that are left of a segment, from its block `at` on, and then `rest`
abbrev pub putting : Copying → Move → HeldBlocks → (Tally → Program) → ℕ → ℕ → Tally → Program
putting c m list rest zero at t = rest (segment_done t)
putting c m list rest (suc left) at t =
    Asks (record { unit = m.destination; act = Act.Put (m.to + at) (piece_at list at) }) (left_of c t)
    (λ answer. unless_ended c t (putting c m list rest left (at + piece_blocks) (piece_put t list at)) answer)

-- after the Capture of a segment
abbrev pub captured : Copying → Move → (Tally → Program) → Tally → Answer → Program
captured c m rest t answer =
    with_blocks (λ list. putting c m list rest (pieces m.count) 0 t) (λ refusal. closing c t (Some refusal)) answer

-- the segments in order; one with no blocks is done at once
abbrev pub copying : Copying → List Move → Tally → Program
copying c [] t = closing c t None
copying c (m ∷ ms) t =
    if m.count == 0 then copying c ms (segment_done t) else
    Asks (record { unit = m.source; act = Act.Capture m.from m.count }) (left_of c t) (captured c m (copying c ms) t)

-- nothing is done yet
abbrev pub fresh : Tally
fresh = record { segments = 0; bytes = 0 }

-- LIST ID USAGE 11b asks for no record
abbrev pub opening : ℕ → ℕ → List Move → Bool → Program
opening unit id moves true = copying (record { unit = unit; id = id; opened = false }) moves fresh
opening unit id moves false =
    ask_then unit (Act.Open id) (unless_refused (copying (record { unit = unit; id = id; opened = true }) moves fresh))

-- a fault ends the command before its first act
abbrev pub copy_by : Configuration → ℕ → CopyList → Option SenseCode → Program
copy_by config unit list (Some sense) = refused sense
copy_by config unit list None = opening unit list.id (moves_of config list) (list.usage == 3)

-- a list as it was read
abbrev pub copy_read : Configuration → ℕ → Result CopyList SenseCode → Program
copy_read config unit (Err sense) = refused sense
copy_read config unit (Ok list) = copy_by config unit list (copy_fault config list)

-- the whole command; an empty list asks for nothing
abbrev pub extended_copy : Configuration → ℕ → ℕ → Result CopyList SenseCode → Program
extended_copy config unit zero list = done
extended_copy config unit (suc length) list = copy_read config unit list
