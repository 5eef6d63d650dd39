-- Faults of a fill, as those of a replay
use Rattle.cm_base.specs.declared.input_buffer.FillFailed.{FillFailed}
use Rattle.trace_replay.specs.declared.fault.ReplayFault.{ReplayFault}

abbrev pub fault_of : FillFailed → ReplayFault
fault_of FillFailed.Read = ReplayFault.ReadFault
fault_of FillFailed.OutOfMemory = ReplayFault.OutOfMemory
