-- A world that was just made
use Rattle.std.specs.Prelude.{◌≡◌, ℕ, suc, ◌+◌, ⊤, List, [], ◌∷◌, length, map, max, Option, Some, None, IfSome, true}
use Rattle.cm_base.specs.Configuration.{Configuration}
use Rattle.cm_history.specs.declared.act.Actor.{Actor}
use Rattle.cm_history.specs.declared.act.Actor.TheVariants.{Nexus, Pump}
use Rattle.cm_history.specs.declared.act.Entry.{Entry}
use Rattle.unit_gate.specs.declared.kin.RecorderFacts.{RecorderFacts}
use Rattle.unit_gate.specs.declared.kin.UnitKin.{UnitKin}
use Rattle.unit_gate.specs.declared.resuming.ResumeRefused.{ResumeRefused}
use Rattle.unit_gate.specs.Opening.{IsGiven, bad_entry, opening_entries}
use Rattle.unit_gate.specs.Recorded.{without_last}
use Rattle.nexus.specs.declared.resuming.Store.{Store}
use Rattle.nexus.specs.Worlds.{UnitGate, WorldView}
use Rattle.nexus.specs.Roots.{RootView}

-- the units from one on, each with its recorder
abbrev pub kins_from : Configuration → ℕ → List RecorderFacts → List (Option UnitKin)
kins_from config unit [] = []
kins_from config unit (r ∷ rs) =
    Some (record { config = config; unit = unit; opening = r; folded = 0 }) ∷ kins_from config (suc unit) rs

-- the world and its root: nothing was asked of a unit yet, and no pass was made
pub record IsBegun (config : Configuration) (recorders : List RecorderFacts) (world : WorldView) (root : RootView) : Type 0 where
  pub config_is : world.config ≡ config
  pub gates : map (λ (g : UnitGate). g.kin) world.gates ≡ kins_from config 0 recorders
  pub root_is : root ≡ record {
    config = world.config;
    gates = world.gates;
    register = world.register;
    made = 0;
    out = [];
    joined = [];
    openings = map (λ (r : RecorderFacts). 0) recorders;
    seen = map (λ (r : RecorderFacts). []) recorders;
    marks = map (λ (r : RecorderFacts). r.faults ∷ 0 ∷ 0 ∷ []) recorders;
  }

-- what contracts see of no recorder
abbrev pub no_recorder : RecorderFacts
no_recorder = record { recorded = None; faults = 0; absent = true; front = None }

-- ---- a world that goes on with histories

-- what a unit goes on with: its history, and what contracts see of the recorder that has recorded it
pub record StoredUnit : Type 0 where
  pub history : List Entry
  pub recorder : RecorderFacts

abbrev pub stored : {R : Type 0} → (R → RecorderFacts) → Store R → StoredUnit
stored facts s = record { history = s.history.entries; recorder = facts s.recorder }

-- the unit of this number may go on with it: a recorder that tells has recorded the history
pub record IsStored (config : Configuration) (unit : ℕ) (s : StoredUnit) : Type 0 where
  pub given : IsGiven config unit s.history
  pub recorded : IfSome s.recorder.recorded (λ es. es ≡ s.history)

-- the units from one on may
abbrev pub AreStored : Configuration → ℕ → List StoredUnit → Type 0
AreStored config unit [] = ⊤
AreStored config unit (s ∷ ss) = IsStored config unit s × AreStored config (suc unit) ss

-- where there is none
abbrev pub first_of : ℕ → Option ℕ → Option ResumeRefused → Option ResumeRefused
first_of unit None later = later
first_of unit (Some entry) later = Some (ResumeRefused.BadHistory unit entry)

-- the first bad entry, of the least unit that has one
abbrev pub bad_history : Configuration → ℕ → List StoredUnit → Option ResumeRefused
bad_history config unit [] = None
bad_history config unit (s ∷ ss) = first_of unit (bad_entry config unit s.history) (bad_history config (suc unit) ss)

-- a number above that of the actor, where it is a nexus
abbrev pub number_after : Actor → ℕ
number_after (Nexus n) = n + 1
number_after (Pump unit) = 0

-- the least number above those of the nexuses of these entries
abbrev pub numbers_after : List Entry → ℕ
numbers_after [] = 0
numbers_after (e ∷ es) = max (number_after e.actor) (numbers_after es)

-- and of the histories of all units
abbrev pub next_nexus : List StoredUnit → ℕ
next_nexus [] = 0
next_nexus (s ∷ ss) = max (numbers_after s.history) (next_nexus ss)

-- the units from one on, each with its recorder, which has recorded its history
abbrev pub kins_stored : Configuration → ℕ → List StoredUnit → List (Option UnitKin)
kins_stored config unit [] = []
kins_stored config unit (s ∷ ss) =
    Some (record { config = config; unit = unit; opening = without_last (length s.history) s.recorder; folded = length s.history })
    ∷ kins_stored config (suc unit) ss

-- the entries with which they begin
abbrev pub entries_stored : Configuration → ℕ → List StoredUnit → List (List Entry)
entries_stored config unit [] = []
entries_stored config unit (s ∷ ss) = opening_entries config unit s.history ∷ entries_stored config (suc unit) ss

-- the world and its root: each unit stands for its opening entries, of which its history is recorded, and no pass was made
pub record GoesOn (config : Configuration) (units : List StoredUnit) (made : ℕ) (world : WorldView) (root : RootView) : Type 0 where
  pub config_is : world.config ≡ config
  pub gates : map (λ (g : UnitGate). g.kin) world.gates ≡ kins_stored config 0 units
  pub root_is : root ≡ record {
    config = world.config;
    gates = world.gates;
    register = world.register;
    made = made;
    out = [];
    joined = [];
    openings = map (λ (es : List Entry). length es) (entries_stored config 0 units);
    seen = entries_stored config 0 units;
    marks = map (λ (s : StoredUnit). s.recorder.faults ∷ length s.history ∷ 0 ∷ []) units;
  }
