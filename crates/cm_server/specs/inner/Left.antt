-- What is left of a world that was served
use Rattle.std.specs.Prelude.{◌≡◌, ℕ, List, [], Option}
use Rattle.cm_base.specs.Configuration.{Configuration}
use Rattle.cm_base.specs.Listening.{Gone}
use Rattle.cm_history.specs.Legal.{IsLegal}
use Rattle.cm_history.specs.declared.act.Entry.{Entry}
use Rattle.cmd_program.specs.Conversations.{KeepsAll}
use Rattle.cmd_program.specs.Judging.{step}
use Rattle.cm_server.specs.Recorders.{FoldsBy, GivesUpAll}
use Rattle.cm_server.specs.Served.{WasServed, unit_counts}
use Rattle.cm_server.specs.declared.term.Term.{Term}
use Rattle.cm_server.specs.inner.Counting.{counts_in}
use Rattle.cm_server.specs.inner.Opened.{IsLegalBehind, OpenedUnit, entries_of, recorders_of}
use Rattle.cm_server.specs.inner.Recording.{finals, IsReckoned}
use Rattle.merged_history.specs.Merged.{all_of}
use Rattle.nexus.specs.Worlds.{UnitGate}
use Rattle.session.specs.declared.end.SessionEnd.{SessionEnd}
use Rattle.unit_gate.specs.declared.kin.RecorderFacts.{RecorderFacts}
use Rattle.unit_gate.specs.declared.recorded_unit.ClosedUnit.{ClosedUnit}

-- what is served of a world of this configuration, which began so, until it is closed
pub record IsClosed {R : Type 0} (term : Term) (facts : R → RecorderFacts) (fits : R → Entry → Type 0) (config : Configuration) (opened : List OpenedUnit) (first : ℕ)
    (Shows : ℕ → Type 0) (coming rest : Option (List (List ℕ))) (gone given : Option (List Gone)) (ends : List SessionEnd) (units : List (ClosedUnit R)) : Type 0 where
  pub gates : List UnitGate
  pub served : WasServed step config (IsLegalBehind config opened) (FoldsBy (recorders_of opened) (finals facts units)) term (all_of (entries_of opened)) first Shows
      coming rest gone given (λ entries told. (told ≡ ends) × IsReckoned facts fits opened gates units config entries)

-- the same of units that keep all their entries
abbrev pub IsClosedWhole : {R : Type 0} → Configuration → (ℕ → Type 0) → Option (List (List ℕ)) → Option (List (List ℕ)) → Option (List Gone) → Option (List Gone)
    → List SessionEnd → List (ClosedUnit R) → Type 0
IsClosedWhole {R} config Shows coming rest gone given ends units =
    WasServed step config (IsLegal config) KeepsAll Term.Counted [] 0 Shows coming rest gone given (λ entries told. (told ≡ ends) × (counts_in units ≡ unit_counts config entries))

-- the same of units that forget
abbrev pub IsClosedForgot : {R : Type 0} → Configuration → (ℕ → Type 0) → Option (List (List ℕ)) → Option (List (List ℕ)) → Option (List Gone) → Option (List Gone)
    → List SessionEnd → List (ClosedUnit R) → Type 0
IsClosedForgot {R} config Shows coming rest gone given ends units =
    WasServed step config (IsLegal config) GivesUpAll Term.Open [] 0 Shows coming rest gone given (λ entries told. (told ≡ ends) × (counts_in units ≡ unit_counts config entries))
