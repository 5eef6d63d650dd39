-- The units behind a port, and how their history goes on while a request is asked
use Rattle.std.specs.Prelude.{◌≡◌, ℕ, ◌≤◌, List, [], ◌∷◌, ◌++◌, Result, Ok, Err}
use Rattle.std.proofs.Common.{subst}
use Rattle.cm_base.specs.Configuration.{Configuration}
use Rattle.cm_frame.specs.declared.frame.Reply.{Reply}
use Rattle.cm_history.specs.declared.act.Entry.{Entry}
use Rattle.cmd_program.specs.declared.step.Outcome.{Outcome}
use Rattle.cmd_program.specs.declared.step.Step.{Step}
use Rattle.cmd_program.specs.Running.{Call}
use Rattle.cmd_program.specs.Judging.{step}
use Rattle.cmd_program.specs.InHistory.{entries_by, IsNext}
use Rattle.cmd_program.specs.Exchanges.{Event, AreCaused, outcomes_of, calls_in}
use Rattle.cmd_program.specs.Conversations.{Folding, IsFullBy}
use Rattle.odx_host.specs.declared.port.PortFault.{PortFault}
use Rattle.odx_host.specs.Talk.{Talked}

-- the units of a configuration, their history, and the nexus that asks
pub record World : Type 0 where
  pub config : Configuration
  pub nexus : ℕ
  pub history : List Entry

-- entries of a unit may have been written out, as many as it has
abbrev pub MayFold : Folding
MayFold unit length folded = folded ≤ length

-- what one call does to the history, of which `before` stands so far, and then the later ones
abbrev pub GrowsBy : Configuration → ℕ → List Entry → Call → Outcome → List Entry → (List Entry → Type 0) → Type 0
GrowsBy config nexus all c (Outcome.Answered told) before Later =
    (others : List Entry) × (e : Entry) × IsNext config nexus before others e c.unit c.act told × (e.moment ≡ c.moment) × Later (before ++ others ++ e ∷ [])
GrowsBy config nexus all c Outcome.Full before Later = IsFullBy config MayFold all nexus (entries_by nexus before) c × Later before
GrowsBy config nexus all c Outcome.NoMemory before Later = Later before

-- Behind `before` the history goes on to `all`: each answered call is the next entry of the nexus, and there was no room at
-- each Full. Others may act between.
abbrev pub Grows : Configuration → ℕ → List Entry → List Call → List Entry → Type 0
Grows config nexus all [] before = (others : List Entry) × (before ++ others ≡ all) × (entries_by nexus others ≡ [])
Grows config nexus all (c ∷ cs) before = GrowsBy config nexus all c c.outcome before (λ after. Grows config nexus all cs after)

-- the reply is the one with which the command ends; behind a fault nothing is told of it
abbrev pub IsReplied : Step → Result Reply PortFault → Type 0
IsReplied next (Ok reply) = next ≡ Step.Done reply
IsReplied next (Err fault) = Unit {0}

-- the request was asked in the world w, which is then v
pub record IsAnsweredIn (w v : World) (t : Talked) : Type 0 where
  pub config : v.config ≡ w.config
  pub nexus : v.nexus ≡ w.nexus
  -- the command asked for these acts and no others, in order
  pub events : List Event
  pub caused : AreCaused step w.config w.nexus t.request [] events
  pub replied : IsReplied (step w.config w.nexus t.request (outcomes_of events)) t.answer
  -- the answered ones are the new entries of the nexus
  pub grown : Grows w.config w.nexus v.history (calls_in events) w.history

-- the requests, one after the other
abbrev pub Passed : World → List Talked → World → Type 0
Passed w [] v = v ≡ w
Passed w (t ∷ ts) v = (between : World) × IsAnsweredIn w between t × Passed between ts v

pub passed-append : (u v w : World) (xs ys : List Talked) → Passed u xs v → Passed v ys w → Passed u (xs ++ ys) w
passed-append u v w [] ys first later = subst (λ s. Passed s ys w) first later
passed-append u v w (x ∷ xs) ys first later = (first.0, first.1, passed-append first.0 v w xs ys first.2 later)
