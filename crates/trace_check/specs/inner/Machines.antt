-- How what a checker keeps stands for what was played
use Rattle.std.specs.Prelude.{◌≡◌, ℕ, ◌<◌, List, length, Option, Some, None, true}
use Rattle.std.specs.Ordering.{nat_cmp}
use Rattle.std.specs.BTreeMap.{get}
use Rattle.cm_base.specs.Configuration.{Configuration}
use Rattle.cmd_program.specs.declared.step.Step.{Step}
use Rattle.cmd_program.specs.Judging.{step}
use Rattle.cmd_program.specs.Meaning.{IsAskedOf}
use Rattle.cmd_machine.specs.Rest.{StandsFor, IsSoundAt}
use Rattle.any_cmds.specs.Meaning.{by_any, IsSoundAny}
use Rattle.trace_replay.specs.ReplayState.{Pending, ReplayState, waiting, next_step}
use Rattle.trace_replay.specs.Played.{output_of}
use Rattle.trace_check.specs.declared.machine.Waiting.{Waiting}
use Rattle.trace_check.specs.declared.machine.Machine.{Machine}

-- what waits is the pending command
pub record IsWaiting (config : Configuration) (w : Waiting) (p : Pending) : Type 0 where
  pub stands : StandsFor by_any config w.command p.initiator p.request p.outcomes
  pub sound : IsSoundAt IsSoundAny config w.command
  pub asks : next_step step config p ≡ Step.Do w.unit w.act
  pub askable : IsAskedOf config w.unit w.act

-- what waits of an initiator is its pending command, if it has one
abbrev pub WaitsFor : Configuration → Option Waiting → Option Pending → Type 0
WaitsFor config None None = Unit {0}
WaitsFor config (Some w) (Some p) = IsWaiting config w p
WaitsFor config None (Some p) = ⊥
WaitsFor config (Some w) None = ⊥

-- the units have done the entries, and the replies were written
pub record HasDone (config : Configuration) (s : ReplayState) (m : Machine) : Type 0 where
  pub told : m.units.config ≡ config
  pub entries : m.units.entries ≡ s.entries
  pub replies : m.replies.items ≡ output_of s

-- it stands for what was played
pub record IsStanding (config : Configuration) (s : ReplayState) (m : Machine) : Type 0 where
  pub done : HasDone config s m
  pub waits : (i : ℕ) → WaitsFor config (get nat_cmp m.waiting i) (waiting i s.pending)

-- it stands so but for one initiator, of which nothing waits
pub record StandsBeside (config : Configuration) (initiator : ℕ) (s : ReplayState) (m : Machine) : Type 0 where
  pub done : HasDone config s m
  pub free : get nat_cmp m.waiting initiator ≡ None
  pub others : (i : ℕ) → (i ≡ initiator → ⊥) → WaitsFor config (get nat_cmp m.waiting i) (waiting i s.pending)

-- what waits may be run
pub record MayRun (config : Configuration) (w : Waiting) : Type 0 where
  pub p : Pending
  pub is : IsWaiting config w p

-- it stands for something that was played
pub record Stands (m : Machine) : Type 0 where
  pub s : ReplayState
  pub is : IsStanding m.units.config s m
