-- What is told of an operation, as code has it
use Rattle.std.specs.Prelude.{ℕ, List, Option}
use Rattle.copy_status.specs.CopyStatus.{CopyStatus}
use Rattle.odx_host.specs.StatusRead.{Information}

abbrev pub information_of : CopyStatus × Option (List ℕ) → Information
information_of told = record { status = told.0; token = told.1 }
