-- Units of which one nexus has acts done, one after the other
use Rattle.std.specs.Prelude.{◌≡◌, ℕ, ◌+◌, List, [], ◌∷◌, ◌++◌, length, slice_get, slice_set, max, Some, true}
use Rattle.cm_base.specs.Configuration.{Configuration}
use Rattle.cm_history.specs.declared.act.Act.{Act}
use Rattle.cm_history.specs.declared.act.Actor.{Actor}
use Rattle.cm_history.specs.Deeds.{last_stamp}
use Rattle.cm_history.specs.History.{answer}
use Rattle.cmd_program.specs.declared.step.Outcome.{Outcome}
use Rattle.cmd_program.specs.declared.step.Outcome.TheVariants.{Answered, Full, NoMemory}
use Rattle.cmd_program.specs.Running.{Call}
use Rattle.unit_core.specs.Unfolded.{UnfoldedUnit, past, is_full_at, entry_at}

pub record Place : Type 0 where
  pub config : Configuration
  pub nexus : ℕ
  -- each unit as it stands
  pub units : List UnfoldedUnit
  -- the stamp of the latest entry
  pub stamp : ℕ
  -- how many entries the nexus made
  pub seq : ℕ

-- these are the units of the configuration, each at its number
pub record AreUnitsOf (config : Configuration) (units : List UnfoldedUnit) : Type 0 where
  pub count : length units ≡ length config.units
  pub each : (u : ℕ) (s : UnfoldedUnit) → slice_get units u ≡ Some s → (s.config ≡ config) × (s.unit ≡ u)

-- nothing was asked yet
pub record IsFirst (p : Place) : Type 0 where
  pub units : AreUnitsOf p.config p.units
  pub none : (u : ℕ) (s : UnfoldedUnit) → slice_get p.units u ≡ Some s → s.entries ≡ []
  pub stamp : p.stamp ≡ 0
  pub seq : p.seq ≡ 0

-- the unit has one more entry
abbrev pub with_entry : Place → UnfoldedUnit → ℕ → Act → UnfoldedUnit
with_entry p s moment act = record s { entries = s.entries ++ entry_at s (Actor.Nexus p.nexus) p.seq p.stamp moment act ∷ [] }

abbrev pub after_act : Place → ℕ → UnfoldedUnit → ℕ → Act → Place
after_act p unit s moment act = record p {
  units = slice_set p.units unit (with_entry p s moment act);
  stamp = max p.stamp (last_stamp (past s)) + 1;
  seq = p.seq + 1;
}

-- What comes of a call, by the unit as it stands: it answers by its entries and has one more, or nothing changes.
abbrev pub ComesOf : Place → Call → UnfoldedUnit → Outcome → Place → Type 0
ComesOf p c s (Answered found) after =
    (found ≡ answer p.config s.entries c.unit (Actor.Nexus p.nexus) c.moment c.act) × (after ≡ after_act p c.unit s c.moment c.act)
ComesOf p c s Full after = (is_full_at s (Actor.Nexus p.nexus) p.stamp c.act ≡ true) × (after ≡ p)
ComesOf p c s NoMemory after = after ≡ p

-- one call
pub record Leads (p : Place) (c : Call) (after : Place) : Type 0 where
  pub s : UnfoldedUnit
  pub unit : slice_get p.units c.unit ≡ Some s
  pub does : ComesOf p c s c.outcome after

-- the calls, one after the other
abbrev pub Led : Place → List Call → Place → Type 0
Led p [] after = after ≡ p
Led p (c ∷ cs) after = (between : Place) × Leads p c between × Led between cs after

-- these are the calls by which the units came to where they stand
abbrev pub StandsFor : Place → List Call → Type 0
StandsFor p calls = (first : Place) × IsFirst first × Led first calls p
