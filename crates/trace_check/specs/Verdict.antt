-- What is said of a trace and the replies that were recorded with it
use Rattle.std.specs.Prelude.{ℕ, suc, ◌+◌, List, [], ◌∷◌, length, take, drop, Option, Some, None, option_map, Result, Ok, Err, ◌==◌, nat_lt, if◌then◌else◌}
use Rattle.cm_base.specs.Fields.{field}
use Rattle.cmd_program.specs.Stepping.{Stepping}
use Rattle.trace_replay.specs.declared.fault.ReplayFault.{ReplayFault}
use Rattle.trace_replay.specs.Items.{Ending, Done, Torn, BadHeader, BadRecord, Records}
use Rattle.trace_replay.specs.Played.{Played, output_of}
use Rattle.trace_check.specs.declared.checker.CheckEnd.{CheckEnd}
use Rattle.trace_check.specs.CheckedTrace.{checked_trace}

-- the bytes in which an input tells the length of its trace
abbrev pub length_bytes : ℕ
length_bytes = 8

-- the longest trace that is checked, in bytes
abbrev pub trace_limit : ℕ
trace_limit = 1_073_741_824

-- the first place at which two lists differ or one of them ends; none where they are equal
abbrev pub first_difference : List ℕ → List ℕ → Option ℕ
first_difference [] [] = None
first_difference [] (y ∷ ys) = Some 0
first_difference (x ∷ xs) [] = Some 0
first_difference (x ∷ xs) (y ∷ ys) = if x == y then option_map suc (first_difference xs ys) else Some 0

-- the records are the replies, or differ from them first at a place
abbrev pub end_at : Option ℕ → CheckEnd
end_at None = CheckEnd.Yes
end_at (Some place) = CheckEnd.Differs place

-- A trace that was not played to its end is at fault there; a place counts from the first byte of the input.
abbrev pub by_ending : Ending → CheckEnd → Result CheckEnd ReplayFault
by_ending Done end = Ok end
by_ending (Torn place) end = Err (ReplayFault.Torn (length_bytes + place))
by_ending (BadHeader place) end = Err (ReplayFault.BadHeader (length_bytes + place))
by_ending (BadRecord place) end = Err (ReplayFault.BadRecord (length_bytes + place))
by_ending Records end = Err ReplayFault.Records

-- the records beside the output of the trace
abbrev pub judged : Played → List ℕ → Result CheckEnd ReplayFault
judged p records = by_ending p.ending (end_at (first_difference (output_of p.state) records))

-- behind the length: a trace of so many bytes, and then the records; a trace that is cut is torn
abbrev pub verdict_behind : Stepping → ℕ → List ℕ → Result CheckEnd ReplayFault
verdict_behind step n bytes =
    if nat_lt (length bytes) n
    then Err (ReplayFault.Torn length_bytes)
    else judged (checked_trace step (take n bytes)) (drop n bytes)

-- a length that is too great is at fault, whatever comes behind it
abbrev pub verdict_of : Stepping → ℕ → List ℕ → Result CheckEnd ReplayFault
verdict_of step n bytes = if nat_lt trace_limit n then Err (ReplayFault.BadHeader 0) else verdict_behind step n bytes

-- a whole input: the length of the trace, the trace, and the records
abbrev pub verdict : Stepping → List ℕ → Result CheckEnd ReplayFault
verdict step bytes =
    if nat_lt (length bytes) length_bytes
    then Err (ReplayFault.Torn 0)
    else verdict_of step (field bytes 0 7) (drop length_bytes bytes)
