-- No copy of segments gives up by itself
use Rattle.std.proofs.Common.{ℕ, zero, suc, ◌+◌, List, [], ◌∷◌, Bool, true, false, Option, Some, None}
use Rattle.std.specs.Prelude.{cond, ◌==◌, Result, Ok, Err}
use Rattle.cm_base.specs.Configuration.{Configuration}
use Rattle.scsi_sense.specs.SenseCode.{SenseCode}
use Rattle.seg_parse.specs.declared.list.CopyList.{CopyList}
use Rattle.lba_ranges.specs.HeldBlocks.{HeldBlocks}
use Rattle.cm_history.specs.Bounds.{piece_blocks}
use Rattle.cm_history.specs.declared.act.Act.{Act}
use Rattle.cm_history.specs.declared.answer.Answer.{Answer}
use Rattle.pr_keys.specs.declared.refused.Refusal.{Refusal}
use Rattle.cmd_program.specs.Program.{Program, Asks, unless_refused}
use Rattle.cmd_program.specs.SingleActs.{told_copy}
use Rattle.cm_history.specs.Room.{pieces}
use Rattle.cmd_program.specs.ExtendedCopy.{Move, Copying, Tally, close_as, end_state, left_of, copy_reply, closing, segment_done, piece_put, unless_ended, putting, captured, copying, fresh, opening, copy_by, copy_read, copy_fault, moves_of, extended_copy}
use Rattle.cmd_program.proofs.Open.{IsOpen, unless_refused-open}

-- RECEIVE COPY STATUS(LID1)
pub copy-open : (allocation : ℕ) (a : Answer) → IsOpen (told_copy allocation a)
copy-open allocation (Answer.Copy result) = tt
copy-open allocation (Answer.Refused sense) = tt
copy-open allocation _ = tt

-- ---- EXTENDED COPY

reply-open : (ended_by : Option Refusal) → IsOpen (copy_reply ended_by)
reply-open None = tt
reply-open (Some Refusal.Conflict) = tt
reply-open (Some (Refusal.Refused sense)) = tt

closing-open : (c : Copying) (t : Tally) (ended_by : Option Refusal) → IsOpen (closing c t ended_by)
closing-open c t ended_by = go c.opened
  where
    go : (opened : Bool) → IsOpen (cond opened (Asks (close_as c t (end_state ended_by)) (left_of c t) (unless_refused (copy_reply ended_by))) (copy_reply ended_by))
    go true = λ a. unless_refused-open (copy_reply ended_by) a (reply-open ended_by)
    go false = reply-open ended_by

ended-open : (c : Copying) (t : Tally) (rest : Program) (a : Answer) → IsOpen rest → IsOpen (unless_ended c t rest a)
ended-open c t rest (Answer.Refused sense) opens = closing-open c t (Some (Refusal.Refused sense))
ended-open c t rest Answer.Conflict opens = closing-open c t (Some Refusal.Conflict)
ended-open c t rest _ opens = opens

putting-open : (c : Copying) (m : Move) (list : HeldBlocks) (rest : Tally → Program) (left at : ℕ) (t : Tally)
    → ((after : Tally) → IsOpen (rest after)) → IsOpen (putting c m list rest left at t)
putting-open c m list rest zero at t opens = opens (segment_done t)
putting-open c m list rest (suc left) at t opens =
    λ a. ended-open c t (putting c m list rest left (at + piece_blocks) (piece_put t list at)) a
    (putting-open c m list rest left (at + piece_blocks) (piece_put t list at) opens)

captured-open : (c : Copying) (m : Move) (rest : Tally → Program) (t : Tally) (a : Answer)
    → ((after : Tally) → IsOpen (rest after)) → IsOpen (captured c m rest t a)
captured-open c m rest t (Answer.Blocks list) opens = putting-open c m list rest (pieces m.count) 0 t opens
captured-open c m rest t (Answer.Refused sense) opens = closing-open c t (Some (Refusal.Refused sense))
captured-open c m rest t Answer.Conflict opens = closing-open c t (Some Refusal.Conflict)
captured-open c m rest t _ opens = tt

copying-open : (c : Copying) (ms : List Move) (t : Tally) → IsOpen (copying c ms t)
copying-open c [] t = closing-open c t None
copying-open c (m ∷ ms) t = go (m.count == 0) (copying-open c ms)
  where
    go : (none : Bool) → ((after : Tally) → IsOpen (copying c ms after)) → IsOpen (cond none (copying c ms (segment_done t))
        (Asks (record { unit = m.source; act = Act.Capture m.from m.count }) (left_of c t) (captured c m (copying c ms) t)))
    go true opens = opens (segment_done t)
    go false opens = λ a. captured-open c m (copying c ms) t a opens

opening-open : (unit id : ℕ) (moves : List Move) (unrecorded : Bool) → IsOpen (opening unit id moves unrecorded)
opening-open unit id moves true = copying-open (record { unit = unit; id = id; opened = false }) moves fresh
opening-open unit id moves false =
    let all = copying (record { unit = unit; id = id; opened = true }) moves fresh in
    λ a. unless_refused-open all a (copying-open (record { unit = unit; id = id; opened = true }) moves fresh)

by-open : (config : Configuration) (unit : ℕ) (list : CopyList) (fault : Option SenseCode) → IsOpen (copy_by config unit list fault)
by-open config unit list (Some sense) = tt
by-open config unit list None = opening-open unit list.id (moves_of config list) (list.usage == 3)

read-open : (config : Configuration) (unit : ℕ) (read : Result CopyList SenseCode) → IsOpen (copy_read config unit read)
read-open config unit (Err sense) = tt
read-open config unit (Ok list) = by-open config unit list (copy_fault config list)

pub extended-open : (config : Configuration) (unit length : ℕ) (read : Result CopyList SenseCode) → IsOpen (extended_copy config unit length read)
extended-open config unit zero read = tt
extended-open config unit (suc length) read = read-open config unit read
