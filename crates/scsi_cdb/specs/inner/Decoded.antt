-- The table of the commands, and what it reads in a CDB
use Rattle.std.specs.Prelude.{ℕ, ◌-◌, List}
use Rattle.cm_base.specs.Fields.{byte}
use Rattle.scsi_cdb.specs.declared.cdb.Cdb.{Cdb}
use Rattle.scsi_cdb.specs.Decoded.{Row}

-- what the row reads, and CONTROL, which is the last byte of the CDB
abbrev pub command_of : List ℕ → Row → Cdb
command_of b r = r.command b

abbrev pub control_of : List ℕ → Row → ℕ
control_of b r = byte b (r.size - 1)

abbrev pub named_by : List ℕ → Row → Cdb × ℕ
named_by b r = (command_of b r, control_of b r)
