-- WRITE USING TOKEN
use Rattle.std.specs.Prelude.{ℕ, zero, suc, ◌+◌, length, replicate, slice_range, Some, None, Result, Ok, Err, Bool, true, false, nat_lt, if◌then◌else◌}
use Rattle.cm_base.specs.Configuration.{Configuration}
use Rattle.cm_base.specs.Units.{unit_of, is_configured}
use Rattle.lba_ranges.specs.HeldBlocks.{HeldBlocks}
use Rattle.lba_ranges.specs.Denoted.{total}
use Rattle.scsi_sense.specs.SenseCode.{SenseCode}
use Rattle.scsi_sense.specs.Codes.{invalid_field_in_parameter_list, invalid_token_length, unsupported_token_type, token_unknown, copy_aborted}
use Rattle.block_params.specs.declared.lists.WriteList.{WriteList}
use Rattle.rod_token.specs.declared.kind.TokenKind.{TokenKind}
use Rattle.rod_token.specs.TokenText.{classify}
use Rattle.cm_history.specs.Room.{pieces}
use Rattle.cm_history.specs.declared.act.Act.{Act}
use Rattle.cm_history.specs.declared.answer.Answer.{Answer}
use Rattle.cm_history.specs.declared.answer.OpState.{OpState}
use Rattle.cmd_program.specs.Program.{Ask, Program, Asks, done, refused, conflict, never, unless_refused, ask_then}
use Rattle.cmd_program.specs.SingleActs.{act_alone}

-- what the command was given: the addressed unit, the list identifier and the parameter list
pub record TokenWrite : Type 0 where
  pub unit : ℕ
  pub id : ℕ
  pub list : WriteList

-- the blocks that are to be written
abbrev pub wanted : TokenWrite → ℕ
wanted w = total w.list.ranges

-- DEL_TKN: a token that names its creator is deleted there
abbrev pub delete_by : Bool → TokenKind → Program
delete_by true (TokenKind.Names creator serial) = act_alone creator (Act.Delete serial)
delete_by _ _ = done

-- the last step: the token is deleted, where that is asked for
abbrev pub deleting : TokenWrite → Program
deleting w = delete_by w.list.delete (classify w.list.token)

-- what ends the operation where the command gives up while it runs
abbrev pub end_of : TokenWrite → Ask
end_of w = record { unit = w.unit; act = Act.End w.id }

-- in the foreground, after an answer: as many Advances as are left, while the operation runs
abbrev pub advancing : TokenWrite → ℕ → Answer → Program
advancing w left (Answer.Progress OpState.Done count) = deleting w
advancing w left (Answer.Progress (OpState.Failed sense) count) = refused sense
advancing w left (Answer.Progress OpState.Terminated count) = refused copy_aborted
advancing w zero (Answer.Progress OpState.Running count) = refused copy_aborted
advancing w (suc left) (Answer.Progress OpState.Running count) =
    Asks (record { unit = w.unit; act = Act.Advance w.id }) (Some (end_of w)) (advancing w left)
advancing w left (Answer.Refused sense) = refused sense
advancing w left Answer.Conflict = conflict
advancing w left _ = never

-- after the Start: with IMMED the operation is left to run in the background
abbrev pub started : TokenWrite → Bool → Answer → Program
started w true = unless_refused (deleting w)
started w false = advancing w (pieces (wanted w))

-- the blocks of the rod part are to be written
abbrev pub starting : TokenWrite → HeldBlocks → Program
starting w rod = ask_then w.unit (Act.Start w.id w.list.immed w.list.ranges rod) (started w w.list.immed)

-- the slice of the rod at the offset
abbrev pub rod_part : TokenWrite → HeldBlocks → HeldBlocks
rod_part w rod = record rod { items = slice_range rod.items w.list.offset (w.list.offset + wanted w) }

-- after the Redeem
abbrev pub after_redeem : TokenWrite → Answer → Program
after_redeem w (Answer.Rod rod) = if nat_lt (length rod.items) (w.list.offset + wanted w) then refused invalid_field_in_parameter_list else starting w (rod_part w rod)
after_redeem w (Answer.Refused sense) = refused sense
after_redeem w _ = never

-- the zero token: its rod part is unmapped, and the offset is ignored
abbrev pub zero_rod : Configuration → TokenWrite → HeldBlocks
zero_rod config w = record { block_length = (unit_of config w.unit).block_length; items = replicate (wanted w) None }

-- the command by the kind of its token
abbrev pub write_by : Configuration → TokenWrite → TokenKind → Program
write_by config w TokenKind.BadLength = refused invalid_token_length
write_by config w TokenKind.BadType = refused unsupported_token_type
write_by config w TokenKind.Zero = starting w (zero_rod config w)
write_by config w (TokenKind.Names creator serial) =
    if is_configured config creator then ask_then creator (Act.Redeem w.list.token w.unit) (after_redeem w) else refused token_unknown

-- the whole command, as its list was read
abbrev pub write_using_token : Configuration → ℕ → ℕ → Result WriteList SenseCode → Program
write_using_token config unit id (Err sense) = refused sense
write_using_token config unit id (Ok list) = write_by config (record { unit = unit; id = id; list = list }) (classify list.token)
