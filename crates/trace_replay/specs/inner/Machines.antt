-- How what a replay keeps stands for what was played.
use Rattle.std.specs.Prelude.{◌≡◌, ℕ, ◌-◌, ◌^◌, ◌<◌, ◌≤◌, List, [], ◌∷◌, ◌++◌, length, slice_get, slice_index, Option, Some, None, Result, Ok, Err, Bool, true, false, ◌&&◌, not, if◌then◌else◌, All}
use Rattle.cm_base.specs.Configuration.{Configuration, AreUnits}
use Rattle.cm_history.specs.declared.act.Act.{Act}
use Rattle.cm_history.specs.declared.act.Actor.{Actor}
use Rattle.cm_history.specs.declared.act.Entry.{Entry}
use Rattle.cm_history.specs.declared.answer.Answer.{Answer}
use Rattle.cm_history.specs.Limits.{within_limits}
use Rattle.cm_history.specs.Legal.{may_ask, IsLegal}
use Rattle.cm_history.specs.Deeds.{last_stamp}
use Rattle.cm_history.specs.Ends.{ends_operation}
use Rattle.cm_history.specs.History.{on, past_of, answer}
use Rattle.cm_history.specs.declared.refused.ActRefused.{ActRefused}
use Rattle.unit_core.specs.UnitState as unit
use Rattle.unit_core.specs.Unfolded.{IsUnfolded, unfolded}
use Rattle.std.specs.Ordering.{nat_cmp}
use Rattle.std.specs.BTreeMap.{get}
use Rattle.cm_frame.specs.declared.frame.Request.{Request}
use Rattle.cm_frame.specs.declared.frame.Reply.{Reply}
use Rattle.cm_frame.specs.declared.item.TraceItem.{TraceItem}
use Rattle.cmd_program.specs.declared.step.Step.{Step}
use Rattle.cmd_program.specs.declared.step.Outcome.{Outcome}
use Rattle.cmd_program.specs.Stepping.{gave_up}
use Rattle.cmd_program.specs.Meaning.{IsAskedOf, IsOfLength, IsOutcomeOf}
use Rattle.cmd_program.specs.Judging.{step}
use Rattle.cmd_machine.specs.declared.command.CommandOf.{CommandOf}
use Rattle.cmd_machine.specs.Rest.{StandsFor, IsSoundAt}
use Rattle.any_cmds.specs.declared.phase.AnyPhase.{AnyPhase}
use Rattle.any_cmds.specs.Meaning.{by_any, IsSoundAny}
use Rattle.trace_replay.specs.declared.units.Units.{Units}
use Rattle.trace_replay.specs.declared.nexus.Waiting.{Waiting}
use Rattle.trace_replay.specs.declared.nexus.Nexus.{Nexus}
use Rattle.trace_replay.specs.declared.machine.Machine.{Machine}
use Rattle.trace_replay.specs.declared.machine.Effect.{Effect}
use Rattle.trace_replay.specs.ReplayState.{Pending, AddressedReply, ReplayState, Shortage, Nowhere, AtBegin, AtAct, AtStep, waiting, seq, new_entry, has_no_room, entries_after, outcome_of, noted, noted_at_step, outcomes_at, entries_at, next_step, after_item, item_fits}
use Rattle.trace_replay.specs.Played.{shortage_for}
use Rattle.trace_replay.specs.Shortages.{is_no_shortage, allowed_at_act, is_allowed}

-- ---- units

-- each unit has done its part of the entries and keeps all of it, and the latest stamp is their number
pub record HaveDone (config : Configuration) (entries : List Entry) (units : Units) : Type 0 where
  pub limits : AreUnits config.units
  pub count : length units.units.items ≡ length config.units
  pub each : (u : ℕ) (value : unit.UnitState) → slice_get units.units.items u ≡ Some value
      → unfolded value ≡ record { config = config; unit = u; entries = on u entries }
  pub keeps : (u : ℕ) (value : unit.UnitState) → slice_get units.units.items u ≡ Some value → IsUnfolded value
  pub stamp : units.stamp ≡ length entries
  pub legal : IsLegal config entries
  pub low : All (λ (e : Entry). e.stamp ≤ length entries) entries
  pub stamps : (u : ℕ) → last_stamp (past_of config u entries) ≤ length entries

-- how many entries each unit's pump has made
pub record HavePumped (config : Configuration) (entries : List Entry) (units : Units) : Type 0 where
  pub count : length units.pumps.items ≡ length config.units
  pub each : (u : ℕ) → u < length config.units → slice_index units.pumps.items u ≡ seq (Actor.Pump u) entries

-- both
pub record HaveCounted (config : Configuration) (entries : List Entry) (units : Units) : Type 0 where
  pub done : HaveDone config entries units
  pub pumped : HavePumped config entries units

-- some entries were done, and the act may be asked of the unit
pub record MayDo (units : Units) (u : ℕ) (actor : Actor) (act : Act) : Type 0 where
  pub config : Configuration
  pub entries : List Entry
  pub done : HaveDone config entries units
  pub configured : u < length config.units
  pub limits : within_limits config u act ≡ true
  pub asked : may_ask u actor act ≡ true

-- some entries were done, and the unit is there
pub record MayPump (units : Units) (u : ℕ) : Type 0 where
  pub config : Configuration
  pub entries : List Entry
  pub counted : HaveCounted config entries units
  pub configured : u < length config.units

abbrev pub Refuses : Configuration → List Entry → ℕ → Actor → Act → ActRefused → Type 0
Refuses config entries u actor act ActRefused.Full = has_no_room config entries actor u act ≡ true
Refuses config entries u actor act ActRefused.OutOfMemory = ends_operation (past_of config u entries) actor act ≡ false

-- Where the seq is right, the act is answered and is one more entry, or it is refused and nothing changes.
abbrev pub DoesAct : (List Entry → Type 0) → Configuration → List Entry → ℕ → Actor → ℕ → ℕ → Act → Result Answer ActRefused → Type 0
DoesAct Have config entries u actor n moment act (Ok found) =
    (has_no_room config entries actor u act ≡ false) × (found ≡ answer config entries u actor moment act)
    × (n ≡ seq actor entries → Have (entries ++ new_entry entries actor u moment act ∷ []))
    × (n ≡ seq actor entries → n < 2 ^ 64 - 1)
DoesAct Have config entries u actor n moment act (Err refused) = Have entries × Refuses config entries u actor act refused

-- ---- one nexus

-- a command, and whether it gave up, is what a pending command is
pub record IsCommandOf (config : Configuration) (command : CommandOf AnyPhase) (given : Bool) (p : Pending) : Type 0 where
  pub stands : StandsFor by_any config command p.initiator p.request p.outcomes
  pub gave_up : given ≡ gave_up p.outcomes

-- it is what some pending command is
pub record IsCommand (config : Configuration) (command : CommandOf AnyPhase) (given : Bool) : Type 0 where
  pub p : Pending
  pub is : IsCommandOf config command given p

-- what waits is what a pending command is
pub record IsWaiting (config : Configuration) (w : Waiting) (p : Pending) : Type 0 where
  pub command : IsCommandOf config w.command w.gave_up p
  pub sound : IsSoundAt IsSoundAny config w.command
  pub asks : next_step step config p ≡ Step.Do w.unit w.act
  pub askable : IsAskedOf config w.unit w.act

-- the shortage of a step at which memory was wanted, or not
abbrev pub shortage_of : Bool → Shortage
shortage_of wanted = if wanted then AtStep else Nowhere

-- the next step of a command, which gave up where it wanted memory for it
pub record IsNext (config : Configuration) (c : CommandOf AnyPhase) (p : Pending) (next : Step) (given : Bool) : Type 0 where
  pub wanted : Bool
  pub once : gave_up p.outcomes ≡ true → wanted ≡ false
  pub command : IsCommandOf config c given (noted p (noted_at_step (shortage_of wanted)))
  pub is : next ≡ next_step step config (noted p (noted_at_step (shortage_of wanted)))

-- the command waits, or was answered
abbrev pub WentOn : Configuration → Pending → Option Waiting → Option Reply → Type 0
WentOn config p None None = ⊥
WentOn config p (Some w) None = IsWaiting config w p
WentOn config p None (Some reply) = (next_step step config p ≡ Step.Done reply) × IsOfLength reply
WentOn config p (Some w) (Some reply) = ⊥

-- a shortage that may stand at an act, by whether the command gave up before and whether the act ends an operation
abbrev pub is_at_act_of : Bool → Shortage → Bool → Bool
is_at_act_of given Nowhere ends = true
is_at_act_of given AtAct ends = not given && not ends
is_at_act_of given shortage ends = false

-- the act of a command was done, or memory was wanted for it, and this is its outcome
pub record HasActed (config : Configuration) (entries : List Entry) (initiator u moment : ℕ) (act : Act) (given : Bool) (after : Units) (n : ℕ) (found : Outcome) : Type 0 where
  pub shortage : Shortage
  pub allowed : is_at_act_of given shortage (ends_operation (past_of config u entries) (Actor.Nexus initiator) act) ≡ true
  pub units : HaveCounted config (entries_at shortage entries (entries_after config entries (Actor.Nexus initiator) u moment act)) after
  pub seq : n ≡ seq (Actor.Nexus initiator) (entries_at shortage entries (entries_after config entries (Actor.Nexus initiator) u moment act))
  pub outcome : outcomes_at shortage (outcome_of config entries (Actor.Nexus initiator) u moment act) ≡ found ∷ []
  pub follows : IsOutcomeOf config u act found

-- some entries were done, and a nexus with so many of them may ask the unit for the act
pub record MayAct (units : Units) (n u initiator : ℕ) (act : Act) : Type 0 where
  pub config : Configuration
  pub entries : List Entry
  pub counted : HaveCounted config entries units
  pub seq : n ≡ seq (Actor.Nexus initiator) entries
  pub askable : IsAskedOf config u act

-- the command that waits may be run, with the seq of its nexus
pub record MayRun (config : Configuration) (units : Units) (n initiator : ℕ) (w : Waiting) : Type 0 where
  pub entries : List Entry
  pub p : Pending
  pub counted : HaveCounted config entries units
  pub seq : n ≡ seq (Actor.Nexus initiator) entries
  pub waiting : IsWaiting config w p

-- the command was run, with such a shortage
pub record HasRun (config : Configuration) (entries : List Entry) (p : Pending) (u moment : ℕ) (act : Act) (after : Units) (nexus : Nexus) (reply : Option Reply) : Type 0 where
  pub shortage : Shortage
  pub allowed : (if gave_up p.outcomes then is_no_shortage shortage else allowed_at_act config entries (Actor.Nexus p.initiator) shortage (Step.Do u act)) ≡ true
  pub units : HaveCounted config (entries_at shortage entries (entries_after config entries (Actor.Nexus p.initiator) u moment act)) after
  pub seq : nexus.seq ≡ seq (Actor.Nexus p.initiator) (entries_at shortage entries (entries_after config entries (Actor.Nexus p.initiator) u moment act))
  pub went : WentOn config (noted p (outcomes_at shortage (outcome_of config entries (Actor.Nexus p.initiator) u moment act))) nexus.waiting reply

-- the command was begun, with such a shortage
abbrev pub HasBegun : Configuration → ℕ → Request → Shortage → Option Waiting → Option Reply → Type 0
HasBegun config initiator request AtBegin waiting reply = (waiting ≡ None) × (reply ≡ Some Reply.Busy)
HasBegun config initiator request AtAct waiting reply = ⊥
HasBegun config initiator request shortage waiting reply =
    WentOn config (record { initiator = initiator; request = request; outcomes = noted_at_step shortage }) waiting reply

-- ---- all of it

-- what waits at a nexus is what waits of the initiator
abbrev pub WaitsFor : Configuration → Option Waiting → Option Pending → Type 0
WaitsFor config None None = Unit {0}
WaitsFor config (Some w) (Some p) = IsWaiting config w p
WaitsFor config None (Some p) = ⊥
WaitsFor config (Some w) None = ⊥

-- what is kept of an initiator, if it ever began a command
abbrev pub IsNexus : Configuration → List Entry → ℕ → Option Pending → Option Nexus → Type 0
IsNexus config entries i found None = (seq (Actor.Nexus i) entries ≡ 0) × (found ≡ None)
IsNexus config entries i found (Some nexus) = (nexus.seq ≡ seq (Actor.Nexus i) entries) × WaitsFor config nexus.waiting found

pub record IsStanding (config : Configuration) (s : ReplayState) (m : Machine) : Type 0 where
  pub told : m.config ≡ config
  pub units : HaveCounted config s.entries m.units
  pub nexuses : (i : ℕ) → IsNexus config s.entries i (waiting i s.pending) (get nat_cmp m.nexuses i)

-- the item was played, with such a shortage, and these are its replies
pub record HasPlayed (config : Configuration) (s : ReplayState) (item : TraceItem) (replies : List AddressedReply) (m : Machine) : Type 0 where
  pub fit : item_fits config s item ≡ true
  pub shortage : Shortage
  pub allowed : is_allowed step config s item (shortage_for item (shortage ∷ [])) ≡ true
  pub state : IsStanding config (after_item step config s item (shortage_for item (shortage ∷ []))) m
  pub replied : (after_item step config s item (shortage_for item (shortage ∷ []))).replies ≡ s.replies ++ replies

abbrev pub IsEffect : Configuration → ReplayState → TraceItem → Effect → Machine → Type 0
IsEffect config s item Effect.Unfit m = item_fits config s item ≡ false
IsEffect config s item Effect.Quiet m = HasPlayed config s item [] m
IsEffect config s item (Effect.Answers initiator reply) m =
    HasPlayed config s item ((record { initiator = initiator; reply = reply }) ∷ []) m × IsOfLength reply

abbrev pub effect_of : ℕ → Option Reply → Effect
effect_of initiator None = Effect.Quiet
effect_of initiator (Some reply) = Effect.Answers initiator reply

-- it stands for something that was played
pub record Stands (m : Machine) : Type 0 where
  pub config : Configuration
  pub s : ReplayState
  pub is : IsStanding config s m
