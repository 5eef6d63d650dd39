-- Faults, in the order of the checks
use Rattle.std.specs.Prelude.{◌≡◌, List, [], ◌∷◌, Option, Some, None, Result, Err}
use Rattle.scsi_sense.specs.SenseCode.{SenseCode}
use Rattle.scsi_sense.specs.declared.fault.ParamFault.{ParamFault}

-- what comes next, unless there is a fault
abbrev pub unless : {A : Type 0} → Option SenseCode → Result A SenseCode → Result A SenseCode
unless None next = next
unless (Some sense) next = Err sense

-- the first of two faults
abbrev pub or_else : Option SenseCode → Option SenseCode → Option SenseCode
or_else None second = second
or_else (Some sense) second = Some sense

-- the first fault of all
abbrev pub first_fault : List (Option SenseCode) → Option SenseCode
first_fault [] = None
first_fault (fault ∷ faults) = or_else fault (first_fault faults)

-- a list is refused by the sense that its bytes give; want of memory says nothing of the bytes
abbrev pub Refuses : {A : Type 0} → Result A SenseCode → ParamFault → Type 0
Refuses read (ParamFault.Refused sense) = read ≡ Err sense
Refuses read ParamFault.OutOfMemory = Unit {0}
