-- What comes of an act of a port's units
use Rattle.std.specs.Prelude.{◌≡◌, ℕ, ◌<◌, List, [], ◌∷◌, ◌++◌, length, Result, Ok, Err}
use Rattle.cm_base.specs.Configuration.{Configuration}
use Rattle.cm_frame.specs.declared.frame.Request.{Request}
use Rattle.cm_history.specs.declared.act.Act.{Act}
use Rattle.cm_history.specs.declared.act.Entry.{Entry}
use Rattle.cmd_program.specs.declared.step.Outcome.{Outcome}
use Rattle.cmd_program.specs.Meaning.{IsAskedOf}
use Rattle.cmd_program.specs.Running.{Call}
use Rattle.cmd_program.specs.InHistory.{entries_by, IsNext}
use Rattle.cmd_program.specs.Conversations.{IsFullBy}
use Rattle.cmd_machine.specs.declared.command.CommandOf.{CommandOf}
use Rattle.cmd_machine.specs.Rest.{StandsFor}
use Rattle.any_cmds.specs.declared.phase.AnyPhase.{AnyPhase}
use Rattle.any_cmds.specs.Meaning.{by_any}
use Rattle.odx_host.specs.Talk.{Talked}
use Rattle.odx_host.specs.Worlds.{World, MayFold, IsAnsweredIn}
use Rattle.odx_host.specs.Units.{host, UnitsAt, AreAfter}

-- there is a history of the units
pub record Stand (config : Configuration) (s : UnitsAt) : Type 0 where
  pub history : List Entry
  pub after : AreAfter config history s

-- they have a history, and the act may be asked of the unit
pub record MayDo (s : UnitsAt) (u : ℕ) (act : Act) : Type 0 where
  pub config : Configuration
  pub stand : Stand config s
  pub askable : IsAskedOf config u act

-- they have a history, and the unit is there
pub record MayPump (s : UnitsAt) (u : ℕ) : Type 0 where
  pub config : Configuration
  pub stand : Stand config s
  pub configured : u < length config.units

-- an act of the nexus, at moment 0
abbrev pub call : ℕ → Act → Outcome → Call
call u act outcome = record { unit = u; moment = 0; act = act; outcome = outcome }

-- The act is the next entry, or there is no room for it; where memory was wanted nothing is done.
abbrev pub HasDone : {E : Type 0} → Configuration → List Entry → ℕ → Act → Result Outcome E → UnitsAt → Type 0
HasDone {E} config history u act (Ok (Outcome.Answered told)) s =
    (e : Entry) × IsNext config host history [] e u act told × (e.moment ≡ 0) × AreAfter config (history ++ e ∷ []) s
HasDone {E} config history u act (Ok Outcome.Full) s =
    IsFullBy config MayFold history host (entries_by host history) (call u act Outcome.Full) × AreAfter config history s
HasDone {E} config history u act (Ok Outcome.NoMemory) s = ⊥
HasDone {E} config history u act (Err none) s = AreAfter config history s

-- others acted
pub record HasGoneOn (config : Configuration) (history : List Entry) (s : UnitsAt) : Type 0 where
  pub others : List Entry
  pub apart : entries_by host others ≡ []
  pub after : AreAfter config (history ++ others) s

-- these units, with their history
abbrev pub world : Configuration → List Entry → World
world config history = record { config = config; nexus = host; history = history }

-- they have a history, and the command is at its beginning
pub record MayRun (config : Configuration) (s : UnitsAt) (command : CommandOf AnyPhase) : Type 0 where
  pub stand : Stand config s
  pub request : Request
  pub begun : StandsFor by_any config command host request []

-- a request was asked, and the units have then a longer history
pub record HasRun (config : Configuration) (history : List Entry) (s : UnitsAt) (t : Talked) : Type 0 where
  pub later : List Entry
  pub after : AreAfter config later s
  pub answered : IsAnsweredIn (world config history) (world config later) t
