-- What serving owes where a report is pushed
use Rattle.std.specs.Prelude.{◌≡◌, ◌⊎◌, ℕ, zero, suc, ◌-◌, ◌^◌, ◌<◌, List, [], ◌∷◌, ◌++◌, length, map, All, Contains, Option, Some, Bool, false}
use Rattle.std.specs.List.{list_any}
use Rattle.cm_base.specs.Configuration.{Configuration}
use Rattle.cm_base.specs.Listening.{Gone}
use Rattle.cm_base.specs.Units.{unit_of}
use Rattle.cm_history.specs.declared.act.Entry.{Entry}
use Rattle.cm_history.specs.Blocks.{mapped}
use Rattle.cm_history.specs.Deeds.{Deed, last_stamp}
use Rattle.cm_history.specs.Folding.{live_in}
use Rattle.cm_history.specs.History.{on, past_of}
use Rattle.cm_history.specs.Operations.{Operation, running, is_background}
use Rattle.cmd_program.specs.Conversations.{Folding}
use Rattle.cmd_program.specs.Stepping.{Stepping}
use Rattle.cm_server.specs.Runs.{IsRun}
use Rattle.cm_server.specs.Talks.{Talk, IsTalk, IsOnLink, AreNumbered}
use Rattle.cm_server.specs.declared.term.Term.{Term}
use Rattle.merged_history.specs.Merged.{IsSorted, RiseBehind}
use Rattle.session.specs.declared.end.SessionEnd.{SessionEnd}
use Rattle.unit_gate.specs.declared.recorded_unit.UnitCount.{UnitCount}

-- an operation runs in the background
abbrev pub works_behind : List Deed → Bool
works_behind past = list_any (λ (o : Operation). is_background o.made.entry.act) (running past)

-- No operation of the unit runs in the background, unless its stamps are used up.
abbrev pub IsIdle : Configuration → List Entry → ℕ → Type 0
IsIdle config entries unit =
    (works_behind (past_of config unit entries) ≡ false) ⊎ (last_stamp (past_of config unit entries) ≡ 2 ^ 64 - 1)

-- what is counted of a unit after these entries
abbrev pub count_of : Configuration → List Entry → ℕ → UnitCount
count_of config entries unit = record {
  steps = length (on unit entries);
  live = live_in (past_of config unit entries);
  mapped = mapped (unit_of config unit) (past_of config unit entries);
}

-- the counts of `n` units, of which the first has this number
abbrev pub counts_from : Configuration → List Entry → ℕ → ℕ → List UnitCount
counts_from config entries unit zero = []
counts_from config entries unit (suc n) = count_of config entries unit ∷ counts_from config entries (suc unit) n

-- the counts of all units
abbrev pub unit_counts : Configuration → List Entry → List UnitCount
unit_counts config entries = counts_from config entries 0 (length config.units)

-- the conversations are over these links, one over each, in the order of accepting
pub record AreInOrder (first : ℕ) (came : List (List ℕ)) (talks : List Talk) : Type 0 where
  pub numbered : AreNumbered first talks
  pub over : came ≡ map (λ (t : Talk). t.coming) talks

-- The links that were accepted, in order, and the conversations over them, one over each, in the order in which their links
-- were given back: at a counted term that of accepting. `first` is the number of the first nexus.
pub record AreServed (step : Stepping) (config : Configuration) (Legal : List Entry → Type 0) (Folds : Folding) (term : Term) (opening entries : List Entry) (first : ℕ)
    (coming rest : List (List ℕ)) (before after : List Gone) (ends : List SessionEnd) : Type 0 where
  pub talks : List Talk
  pub came : List (List ℕ)
  pub accepted : coming ≡ came ++ rest
  pub each_one : length talks ≡ length came
  pub on_links : All (IsOnLink first came) talks
  pub ordered : term ≡ Term.Counted → AreInOrder first came talks
  pub given_back : after ≡ before ++ map (λ (t : Talk). t.gone) talks
  pub ended : map (λ (t : Talk). t.end) talks ≡ ends
  pub each : All IsTalk talks
  pub run : IsRun step config Legal Folds opening entries (map (λ (t : Talk). t.conversation) talks)

-- said of the links only where the listener tells of them
abbrev pub IfTold : Option (List (List ℕ)) → Option (List (List ℕ)) → Option (List Gone) → Option (List Gone)
    → (List (List ℕ) → List (List ℕ) → List Gone → List Gone → Type 0) → Type 0
IfTold (Some coming) (Some rest) (Some before) (Some after) P = P coming rest before after
IfTold _ _ _ _ P = Unit {0}

-- One history of all units, in the order of the stamps, and how the sessions ended. `Reports` says what was pushed of them.
pub record WasServed (step : Stepping) (config : Configuration) (Legal : List Entry → Type 0) (Folds : Folding) (term : Term) (opening : List Entry) (first : ℕ)
    (Shows : ℕ → Type 0) (coming rest : Option (List (List ℕ))) (before after : Option (List Gone)) (Reports : List Entry → List SessionEnd → Type 0) : Type 0 where
  pub entries : List Entry
  pub ends : List SessionEnd
  pub legal : Legal entries
  pub sorted : IsSorted entries
  pub apart : RiseBehind opening entries
  pub shown : All (λ (e : Entry). Contains opening e ⊎ Shows e.moment) entries
  pub idle : (unit : ℕ) → unit < length config.units → IsIdle config entries unit
  pub reported : Reports entries ends
  pub links : IfTold coming rest before after (λ coming rest before after. AreServed step config Legal Folds term opening entries first coming rest before after ends)
