-- How the program ends, by the answer of a replay, of a check or of a copy
use Rattle.std.specs.Prelude.{ℕ, Result, Ok, Err}
use Rattle.trace_replay.specs.declared.summary.Summary.{Summary}
use Rattle.trace_replay.specs.declared.fault.ReplayFault.{ReplayFault}
use Rattle.trace_check.specs.declared.checker.CheckEnd.{CheckEnd}
use Rattle.cm_server.specs.declared.status.Status.{Status as ServeStatus}
use Rattle.odx_host.specs.declared.fault.Copied.{Copied}
use Rattle.odx_host.specs.declared.stream_port.StreamFault.{StreamFault}
use Rattle.copymgr.specs.declared.status.Status.{Status}

-- each fault ends the program in a status of its own
abbrev pub fault_status : ReplayFault → Status
fault_status ReplayFault.ReadFault = Status.ReadFault
fault_status ReplayFault.WriteFault = Status.WriteFault
fault_status ReplayFault.OutOfMemory = Status.OutOfMemory
fault_status (ReplayFault.Torn place) = Status.Torn place
fault_status (ReplayFault.BadHeader place) = Status.BadHeader place
fault_status (ReplayFault.BadRecord place) = Status.BadRecord place
fault_status ReplayFault.Records = Status.Records

-- after a replay
abbrev pub status_of : Result Summary ReplayFault → Status
status_of (Ok summary) = Status.Done
status_of (Err fault) = fault_status fault

-- after a check
abbrev pub check_status : Result CheckEnd ReplayFault → Status
check_status (Ok CheckEnd.Yes) = Status.Done
check_status (Ok (CheckEnd.Differs place)) = Status.Differs place
check_status (Err fault) = fault_status fault

-- after a copy; the places of its job are those of the input
abbrev pub copy_status : Result Copied StreamFault → Status
copy_status (Ok copied) = Status.Done
copy_status (Err StreamFault.OutOfMemory) = Status.OutOfMemory
copy_status (Err StreamFault.ReadFault) = Status.ReadFault
copy_status (Err StreamFault.WriteFault) = Status.WriteFault
copy_status (Err StreamFault.Torn) = Status.Torn 0
copy_status (Err (StreamFault.BadJob place)) = Status.BadHeader place
copy_status (Err StreamFault.Ended) = Status.Ended
copy_status (Err StreamFault.BadReply) = Status.BadReply
copy_status (Err (StreamFault.Refused step)) = Status.Refused step
copy_status (Err (StreamFault.BadData step)) = Status.BadData step
copy_status (Err (StreamFault.Failed step)) = Status.CopyFailed step
copy_status (Err (StreamFault.Polls step)) = Status.Polls step

-- after serving
abbrev pub serve_status : ServeStatus → Status
serve_status ServeStatus.Done = Status.Done
serve_status ServeStatus.WriteFault = Status.WriteFault
serve_status ServeStatus.OutOfMemory = Status.OutOfMemory
serve_status (ServeStatus.BadHeader place) = Status.BadHeader place
serve_status ServeStatus.Usage = Status.Usage
serve_status ServeStatus.AcceptFault = Status.AcceptFault
serve_status (ServeStatus.BadJournal unit place) = Status.BadJournal unit place
serve_status ServeStatus.DiskFault = Status.DiskFault
serve_status (ServeStatus.BadHistory unit entry) = Status.BadHistory unit entry

abbrev pub code_of : Status → ℕ
code_of Status.Done = 0
code_of Status.ReadFault = 1
code_of Status.WriteFault = 2
code_of Status.OutOfMemory = 3
code_of (Status.Torn place) = 4
code_of (Status.BadHeader place) = 5
code_of Status.Usage = 6
code_of (Status.BadRecord place) = 7
code_of Status.Records = 8
code_of Status.AcceptFault = 9
code_of (Status.Differs place) = 10
code_of (Status.BadJournal unit place) = 11
code_of Status.DiskFault = 12
code_of (Status.Refused step) = 13
code_of (Status.CopyFailed step) = 14
code_of (Status.Polls step) = 15
code_of (Status.BadData step) = 16
code_of Status.Ended = 17
code_of Status.BadReply = 18
code_of (Status.BadHistory unit entry) = 19
