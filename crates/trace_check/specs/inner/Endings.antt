-- How a trace ended
use Rattle.std.specs.Prelude.{◌≡◌, Err}
use Rattle.trace_replay.specs.declared.fault.ReplayFault.{ReplayFault}
use Rattle.trace_replay.specs.declared.fault.ReplayFault.TheVariants.{ReadFault, WriteFault, OutOfMemory}
use Rattle.trace_replay.specs.Played.{Played}
use Rattle.trace_check.specs.declared.checker.CheckEnd.{CheckEnd}
use Rattle.trace_check.specs.Verdict.{by_ending}

-- the fault by which a trace ended, whatever the records are
abbrev pub EndsBy : Played → ReplayFault → Type 0
EndsBy p OutOfMemory = Unit {0}
EndsBy p ReadFault = ⊥
EndsBy p WriteFault = ⊥
EndsBy p fault = (end : CheckEnd) → by_ending p.ending end ≡ Err fault

-- a fault of the trace, and none of a pull or a push
abbrev pub IsOfTrace : ReplayFault → Type 0
IsOfTrace ReadFault = ⊥
IsOfTrace WriteFault = ⊥
IsOfTrace fault = Unit {0}
