-- No command with tokens gives up by itself
use Rattle.std.proofs.Common.{ℕ, zero, suc, ◌+◌, length, Bool, true, false, nat_lt}
use Rattle.std.specs.Prelude.{cond, Result, Ok, Err}
use Rattle.cm_base.specs.Configuration.{Configuration}
use Rattle.cm_base.specs.Units.{is_configured}
use Rattle.scsi_sense.specs.SenseCode.{SenseCode}
use Rattle.scsi_sense.specs.Codes.{invalid_field_in_parameter_list, token_unknown}
use Rattle.block_params.specs.declared.lists.PopulateList.{PopulateList}
use Rattle.block_params.specs.declared.lists.WriteList.{WriteList}
use Rattle.lba_ranges.specs.HeldBlocks.{HeldBlocks}
use Rattle.rod_token.specs.declared.kind.TokenKind.{TokenKind}
use Rattle.rod_token.specs.TokenText.{classify}
use Rattle.cm_history.specs.declared.act.Act.{Act}
use Rattle.cm_history.specs.declared.answer.Answer.{Answer}
use Rattle.cm_history.specs.declared.answer.OpState.{OpState}
use Rattle.cmd_program.specs.Program.{refused, done, ask_then}
use Rattle.cmd_program.specs.SingleActs.{populate, told_report, told_token}
use Rattle.cm_history.specs.Room.{pieces}
use Rattle.cmd_program.specs.TokenWrite.{TokenWrite, wanted, delete_by, deleting, advancing, started, starting, rod_part, after_redeem, zero_rod, write_by, write_using_token}
use Rattle.cmd_program.proofs.Open.{IsOpen, unless_refused-open}

-- ---- POPULATE TOKEN and what is told of operations

pub populate-open : (unit id : ℕ) (read : Result PopulateList SenseCode) → IsOpen (populate unit id read)
populate-open unit id (Err sense) = tt
populate-open unit id (Ok list) = λ a. unless_refused-open done a tt

pub report-open : (allocation : ℕ) (a : Answer) → IsOpen (told_report allocation a)
report-open allocation (Answer.Report report) = tt
report-open allocation (Answer.Refused sense) = tt
report-open allocation _ = tt

pub information-open : (config : Configuration) (unit allocation : ℕ) (a : Answer) → IsOpen (told_token config unit allocation a)
information-open config unit allocation (Answer.Report report) = tt
information-open config unit allocation (Answer.Refused sense) = tt
information-open config unit allocation _ = tt

-- ---- WRITE USING TOKEN

delete-open : (delete : Bool) (kind : TokenKind) → IsOpen (delete_by delete kind)
delete-open true (TokenKind.Names creator serial) = λ a. unless_refused-open done a tt
delete-open true _ = tt
delete-open false _ = tt

deleting-open : (w : TokenWrite) → IsOpen (deleting w)
deleting-open w = delete-open w.list.delete (classify w.list.token)

advancing-open : (w : TokenWrite) (left : ℕ) (a : Answer) → IsOpen (advancing w left a)
advancing-open w left (Answer.Progress OpState.Done count) = deleting-open w
advancing-open w left (Answer.Progress (OpState.Failed sense) count) = tt
advancing-open w left (Answer.Progress OpState.Terminated count) = tt
advancing-open w zero (Answer.Progress OpState.Running count) = tt
advancing-open w (suc left) (Answer.Progress OpState.Running count) = advancing-open w left
advancing-open w left (Answer.Refused sense) = tt
advancing-open w left _ = tt

started-open : (w : TokenWrite) (immed : Bool) (a : Answer) → IsOpen (started w immed a)
started-open w true a = unless_refused-open (deleting w) a (deleting-open w)
started-open w false a = advancing-open w (pieces (wanted w)) a

starting-open : (w : TokenWrite) (rod : HeldBlocks) → IsOpen (starting w rod)
starting-open w rod = started-open w w.list.immed

redeemed-open : (w : TokenWrite) (a : Answer) → IsOpen (after_redeem w a)
redeemed-open w (Answer.Rod rod) = go (nat_lt (length rod.items) (w.list.offset + wanted w))
  where
    go : (short : Bool) → IsOpen (cond short (refused invalid_field_in_parameter_list) (starting w (rod_part w rod)))
    go true = tt
    go false = starting-open w (rod_part w rod)
redeemed-open w (Answer.Refused sense) = tt
redeemed-open w _ = tt

by-open : (config : Configuration) (w : TokenWrite) (kind : TokenKind) → IsOpen (write_by config w kind)
by-open config w TokenKind.BadLength = tt
by-open config w TokenKind.BadType = tt
by-open config w TokenKind.Zero = starting-open w (zero_rod config w)
by-open config w (TokenKind.Names creator serial) = go (is_configured config creator)
  where
    go : (there : Bool) → IsOpen (cond there (ask_then creator (Act.Redeem w.list.token w.unit) (after_redeem w)) (refused token_unknown))
    go true = redeemed-open w
    go false = tt

pub write-open : (config : Configuration) (unit id : ℕ) (read : Result WriteList SenseCode) → IsOpen (write_using_token config unit id read)
write-open config unit id (Err sense) = tt
write-open config unit id (Ok list) = by-open config (record { unit = unit; id = id; list = list }) (classify list.token)
