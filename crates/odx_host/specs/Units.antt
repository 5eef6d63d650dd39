-- Units of which one nexus and the units' own pumps have acts done, one after the other
use Rattle.std.specs.Prelude.{◌≡◌, ◌⊎◌, ℕ, ◌<◌, ◌≤◌, List, [], ◌++◌, length, slice_get, slice_index, Some, All, IfErr, true, count_by}
use Rattle.std.proofs.Common.{refl, sym, subst, arith}
use Rattle.std.proofs.lemmas.List.Elements.{All-append}
use Rattle.cm_base.specs.Configuration.{Configuration}
use Rattle.cm_history.specs.declared.act.Actor.{Actor}
use Rattle.cm_history.specs.declared.act.Entry.{Entry}
use Rattle.cm_history.specs.Deeds.{same_actor, last_stamp}
use Rattle.cm_history.specs.History.{on, past_of}
use Rattle.cm_history.specs.Legal.{IsLegal}
use Rattle.cmd_program.specs.Conversations.{last_stamp_of}
use Rattle.cmd_program.specs.InHistory.{entries_by}
use Rattle.unit_core.specs.Unfolded.{UnfoldedUnit}
use Rattle.odx_host.specs.declared.port.PortFault.{PortFault}
use Rattle.odx_host.specs.Talk.{Talked}
use Rattle.odx_host.specs.Worlds.{World, Passed, passed-append}

-- the number of the nexus
abbrev pub host : ℕ
host = 0

-- the units, and how many entries were made
pub record UnitsAt : Type 0 where
  -- each unit as it stands
  pub units : List UnfoldedUnit
  -- how many entries each unit's pump made
  pub pumped : List ℕ
  -- how many the nexus made, and the stamp of the last
  pub asked : ℕ
  pub stamp : ℕ

-- how many entries of an actor there are
abbrev pub seq : Actor → List Entry → ℕ
seq actor history = count_by (λ (e : Entry). same_actor e.actor actor) history

-- the entry was made at moment 0, by the nexus or by its unit's pump
abbrev pub IsMadeHere : Entry → Type 0
IsMadeHere e = (e.moment ≡ 0) × ((e.actor ≡ Actor.Nexus host) ⊎ (e.actor ≡ Actor.Pump e.unit))

-- each unit has done its part of a legal history
pub record AreAfter (config : Configuration) (history : List Entry) (s : UnitsAt) : Type 0 where
  pub count : length s.units ≡ length config.units
  pub each : (u : ℕ) (x : UnfoldedUnit) → slice_get s.units u ≡ Some x → x ≡ record { config = config; unit = u; entries = on u history }
  pub legal : IsLegal config history
  pub made : All IsMadeHere history
  -- a unit's latest entry has its greatest stamp, and so has that of the nexus
  pub latest : All (λ (e : Entry). e.stamp ≤ last_stamp (past_of config e.unit history)) history
  pub own : All (λ (e : Entry). same_actor e.actor (Actor.Nexus host) ≡ true → e.stamp ≤ s.stamp) history
  pub stamp : s.stamp ≡ last_stamp_of (entries_by host history)
  pub asked : s.asked ≡ seq (Actor.Nexus host) history
  pub few_asked : s.asked ≤ s.stamp
  pub pumps : length s.pumped ≡ length config.units
  pub pumped : (u : ℕ) → u < length config.units → slice_index s.pumped u ≡ seq (Actor.Pump u) history
  pub few_pumped : (u : ℕ) → seq (Actor.Pump u) history ≤ last_stamp (past_of config u history)

-- the units of a configuration, as a port
pub record UnitsBehind : Type 0 where
  pub config : Configuration
  pub units : UnitsAt
  -- how often each unit is pumped behind a request
  pub pumps : ℕ

-- they may be those of this world
pub record AreOf (p : UnitsBehind) (w : World) : Type 0 where
  pub config : w.config ≡ p.config
  pub nexus : w.nexus ≡ host
  pub after : AreAfter p.config w.history p.units

-- nothing but want of memory keeps a request from its reply
abbrev pub WantsMemoryAlone : Talked → Type 0
WantsMemoryAlone t = IfErr t.answer (λ fault. fault ≡ PortFault.OutOfMemory)

-- the requests that led from one state of the port to another
pub record LedTo (p : UnitsBehind) (talk : List Talked) (q : UnitsBehind) : Type 0 where
  pub memory : All WantsMemoryAlone talk
  -- from each world that it may have been in, to one that it may then be in
  pub leads : (w : World) → AreOf p w → (v : World) × AreOf q v × Passed w talk v

pub led-none : (p : UnitsBehind) → LedTo p [] p
led-none p = record { memory = λ i d low. absurd (omega (arith, low)); leads = λ w is. (w, is, refl) }

pub led-append : (p q r : UnitsBehind) (xs ys : List Talked) → LedTo p xs q → LedTo q ys r → LedTo p (xs ++ ys) r
led-append p q r xs ys first later = record {
  memory = All-append WantsMemoryAlone xs ys first.memory later.memory;
  leads = λ w is.
      let f = first.leads w is in
      let l = later.leads f.0 f.1 in
      (l.0, l.1, passed-append w f.0 l.0 xs ys f.2 l.2);
}

pub legal-of : (p : UnitsBehind) (w : World) → AreOf p w → IsLegal w.config w.history
legal-of p w is = subst (λ c. IsLegal c w.history) (sym is.config) is.after.legal
