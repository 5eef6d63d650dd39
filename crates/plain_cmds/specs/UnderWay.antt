-- No phase of such a command has given up
use Rattle.cm_base.specs.Configuration.{Configuration}
use Rattle.cmd_machine.specs.Rest.{IsUnderWay}
use Rattle.plain_cmds.specs.declared.phase.PlainPhase.{PlainPhase}
use Rattle.plain_cmds.specs.declared.reserving.ReservePhase.{ReservePhase}
use Rattle.plain_cmds.specs.Meaning.{by_phase, by_reserve}

reserve-goes-on : (phase : ReservePhase) → IsUnderWay (by_reserve phase)
reserve-goes-on (ReservePhase.Out unit action scope kind list) = tt
reserve-goes-on (ReservePhase.KeysAsked unit allocation) = tt
reserve-goes-on (ReservePhase.KeysFound allocation generation keys) = tt
reserve-goes-on (ReservePhase.HolderAsked unit allocation) = tt
reserve-goes-on (ReservePhase.HolderFound allocation generation holder) = tt

pub phase-goes-on : (config : Configuration) (phase : PlainPhase) → IsUnderWay (by_phase config phase)
phase-goes-on config (PlainPhase.Reading unit lba count) = tt
phase-goes-on config (PlainPhase.Read list) = tt
phase-goes-on config (PlainPhase.Writing unit lba list) = tt
phase-goes-on config (PlainPhase.Unmapping unit ranges) = tt
phase-goes-on config (PlainPhase.Mapping unit lba allocation) = tt
phase-goes-on config (PlainPhase.Mapped allocation runs) = tt
phase-goes-on config (PlainPhase.Reserving phase) = reserve-goes-on phase
phase-goes-on config (PlainPhase.Ready bytes) = tt
