-- How a session stands between two requests. No public clause cites this module.
use Rattle.session.specs.declared.end.SessionFault.{SessionFault}
use Rattle.cm_base.specs.declared.input_buffer.FillFailed.{FillFailed}

-- ---- one command

-- ---- the input

-- ---- between two requests

-- the fault of a fill
abbrev pub fault_from : FillFailed → SessionFault
fault_from FillFailed.Read = SessionFault.ReadFault
fault_from FillFailed.OutOfMemory = SessionFault.OutOfMemory
