-- No command of one act at most gives up by itself
use Rattle.std.proofs.Common.{List, false, true}
use Rattle.std.specs.Prelude.{ℕ, ◌==◌, take, cond, Bool, Option, Some, None, Result, Ok, Err}
use Rattle.scsi_sense.specs.SenseCode.{SenseCode}
use Rattle.scsi_sense.specs.Codes.{invalid_field_in_cdb}
use Rattle.lba_ranges.specs.declared.ranges.Range.{Range}
use Rattle.scsi_inquiry.specs.UnitData.{vpd, standard}
use Rattle.pr_keys.specs.declared.lists.OutList.{OutList}
use Rattle.cm_history.specs.declared.act.Act.{Act}
use Rattle.cm_history.specs.declared.answer.Answer.{Answer}
use Rattle.cmd_program.specs.Program.{Program, Ends, Asks, GivesUp, good, refused, unless_refused, done, ask_then}
use Rattle.cmd_program.specs.SingleActs.{told_read, told_map, told_keys, told_holder, inquiry, unmap, page_told, reserve_in, reserve_out}

-- the program has not given up, whatever it is answered
abbrev pub IsOpen : Program → Type 0
IsOpen (Ends reply) = Unit {0}
IsOpen (Asks ask last go_on) = (answer : Answer) → IsOpen (go_on answer)
IsOpen (GivesUp last reply) = ⊥

pub read-open : (a : Answer) → IsOpen (told_read a)
read-open (Answer.Blocks list) = tt
read-open (Answer.Refused sense) = tt
read-open _ = tt

pub unless_refused-open : (p : Program) (a : Answer) → IsOpen p → IsOpen (unless_refused p a)
unless_refused-open p (Answer.Refused sense) opens = tt
unless_refused-open p Answer.Conflict opens = tt
unless_refused-open p _ opens = opens

pub map-open : (allocation : ℕ) (a : Answer) → IsOpen (told_map allocation a)
map-open allocation (Answer.Status runs) = tt
map-open allocation (Answer.Refused sense) = tt
map-open allocation _ = tt

pub keys-open : (allocation : ℕ) (a : Answer) → IsOpen (told_keys allocation a)
keys-open allocation (Answer.Keys generation keys) = tt
keys-open allocation _ = tt

pub holder-open : (allocation : ℕ) (a : Answer) → IsOpen (told_holder allocation a)
holder-open allocation (Answer.Holder generation holder) = tt
holder-open allocation _ = tt

pub reserve_in-open : (unit action allocation : ℕ) → IsOpen (reserve_in unit action allocation)
reserve_in-open unit action allocation = go (action == 0)
  where
    go : (b : Bool) → IsOpen (cond b (ask_then unit Act.PrKeys (told_keys allocation)) (ask_then unit Act.PrHolder (told_holder allocation)))
    go true = keys-open allocation
    go false = holder-open allocation

pub reserve_out-open : (unit action scope kind : ℕ) (list : Result OutList SenseCode) → IsOpen (reserve_out unit action scope kind list)
reserve_out-open unit action scope kind (Err sense) = tt
reserve_out-open unit action scope kind (Ok list) = λ a. unless_refused-open done a tt

page-open : (allocation : ℕ) (page : Option (List ℕ)) → IsOpen (page_told allocation page)
page-open allocation None = tt
page-open allocation (Some page) = tt

pub inquiry-open : (unit : ℕ) (evpd : Bool) (page allocation : ℕ) → IsOpen (inquiry unit evpd page allocation)
inquiry-open unit true page allocation = page-open allocation (vpd unit page)
inquiry-open unit false page allocation = go (page == 0)
  where
    go : (b : Bool) → IsOpen (cond b (good (take allocation standard)) (refused invalid_field_in_cdb))
    go true = tt
    go false = tt

pub unmap-open : (unit : ℕ) (ranges : Result (List Range) SenseCode) → IsOpen (unmap unit ranges)
unmap-open unit (Err sense) = tt
unmap-open unit (Ok ranges) = λ a. unless_refused-open done a tt
