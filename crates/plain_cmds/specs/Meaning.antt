-- Which program a command of one act at most that has come so far stands for
use Rattle.std.specs.Prelude.{◌≤◌, length}
use Rattle.cm_base.specs.Configuration.{Configuration}
use Rattle.cm_frame.specs.Grammar.{data_limit}
use Rattle.cm_history.specs.declared.act.Act.{Act}
use Rattle.cm_history.specs.declared.answer.Answer.{Answer}
use Rattle.cmd_program.specs.Meaning.{IsAskedOf, FitsReply, AreTold}
use Rattle.cmd_program.specs.Program.{Program, good, ask_then}
use Rattle.cmd_program.specs.SingleActs.{act_alone, told_read, told_map, told_keys, told_holder}
use Rattle.pr_keys.specs.Actions.{most_registrants}
use Rattle.plain_cmds.specs.declared.phase.PlainPhase.{PlainPhase}
use Rattle.plain_cmds.specs.declared.reserving.ReservePhase.{ReservePhase}

-- what is left of a PERSISTENT RESERVE IN or OUT
abbrev pub by_reserve : ReservePhase → Program
by_reserve (ReservePhase.Out unit action scope kind list) = act_alone unit (Act.PrOut action scope kind list.key list.action_key)
by_reserve (ReservePhase.KeysAsked unit allocation) = ask_then unit Act.PrKeys (told_keys allocation)
by_reserve (ReservePhase.KeysFound allocation generation keys) = told_keys allocation (Answer.Keys generation keys)
by_reserve (ReservePhase.HolderAsked unit allocation) = ask_then unit Act.PrHolder (told_holder allocation)
by_reserve (ReservePhase.HolderFound allocation generation holder) = told_holder allocation (Answer.Holder generation holder)

-- what is left of the program
abbrev pub by_phase : Configuration → PlainPhase → Program
by_phase config (PlainPhase.Reading unit lba count) = ask_then unit (Act.Read lba count) told_read
by_phase config (PlainPhase.Read list) = told_read (Answer.Blocks list)
by_phase config (PlainPhase.Writing unit lba list) = act_alone unit (Act.Write lba list)
by_phase config (PlainPhase.Unmapping unit ranges) = act_alone unit (Act.Unmap ranges)
by_phase config (PlainPhase.Mapping unit lba allocation) = ask_then unit (Act.MapStatus lba) (told_map allocation)
by_phase config (PlainPhase.Mapped allocation runs) = told_map allocation (Answer.Status runs)
by_phase config (PlainPhase.Reserving phase) = by_reserve phase
by_phase config (PlainPhase.Ready bytes) = good bytes

-- what is asked may be asked, and what was answered may be told
abbrev pub IsSoundReserve : Configuration → ReservePhase → Type 0
IsSoundReserve config (ReservePhase.Out unit action scope kind list) = IsAskedOf config unit (Act.PrOut action scope kind list.key list.action_key)
IsSoundReserve config (ReservePhase.KeysAsked unit allocation) = IsAskedOf config unit Act.PrKeys
IsSoundReserve config (ReservePhase.KeysFound allocation generation keys) = length keys ≤ most_registrants
IsSoundReserve config (ReservePhase.HolderAsked unit allocation) = IsAskedOf config unit Act.PrHolder
IsSoundReserve config (ReservePhase.HolderFound allocation generation holder) = Unit {0}

abbrev pub IsSoundPhase : Configuration → PlainPhase → Type 0
IsSoundPhase config (PlainPhase.Reading unit lba count) = IsAskedOf config unit (Act.Read lba count)
IsSoundPhase config (PlainPhase.Writing unit lba list) = IsAskedOf config unit (Act.Write lba list)
IsSoundPhase config (PlainPhase.Unmapping unit ranges) = IsAskedOf config unit (Act.Unmap ranges)
IsSoundPhase config (PlainPhase.Mapping unit lba allocation) = IsAskedOf config unit (Act.MapStatus lba)
IsSoundPhase config (PlainPhase.Read list) = FitsReply list
IsSoundPhase config (PlainPhase.Mapped allocation runs) = AreTold runs
IsSoundPhase config (PlainPhase.Reserving phase) = IsSoundReserve config phase
IsSoundPhase config (PlainPhase.Ready bytes) = length bytes ≤ data_limit
