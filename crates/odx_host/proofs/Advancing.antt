-- How a copy goes on over units that tell what they do
use Rattle.std.proofs.Common.{◌≡◌, ℕ, List, [], ◌∷◌, ◌++◌, refl, ap, sym, ◌∙◌, subst, append-nil, append_assoc}
use Rattle.std.specs.Prelude.{Result, Ok, Err}
use Rattle.cm_base.specs.Configuration.{Configuration}
use Rattle.cm_frame.specs.declared.frame.Request.{Request}
use Rattle.cm_frame.specs.declared.frame.Reply.{Reply}
use Rattle.cm_history.specs.declared.act.Entry.{Entry}
use Rattle.cmd_program.specs.declared.step.Outcome.{Outcome}
use Rattle.cmd_program.specs.Running.{Call}
use Rattle.cmd_program.specs.Judging.{step as next_of, program}
use Rattle.cmd_program.specs.Exchanges.{calls_in, outcomes_of}
use Rattle.copy_plan.specs.Jobs.{CopyJob}
use Rattle.odx_host.specs.declared.port.PortFault.{PortFault}
use Rattle.odx_host.specs.declared.fault.Copied.{Copied}
use Rattle.odx_host.specs.declared.fault.CopyFault.{CopyFault}
use Rattle.odx_host.specs.Talk.{Talked}
use Rattle.odx_host.specs.Worlds.{World, GrowsBy, Grows, IsReplied, Passed}
use Rattle.odx_host.specs.Rule.{HostProgram, Asks, Ends, moved, if_good, port_fault}
use Rattle.odx_host.specs.Ruled.{AreAsked, after}
use Rattle.odx_host.specs.Copies.{Copies}
use Rattle.odx_host.proofs.Runs.{ran-well}
use Rattle.odx_host.proofs.Ran.{RanIn, ran-in}

-- ---- histories grow

abbrev pub Longer : List Entry → List Entry → Type 0
Longer short long = (more : List Entry) × (short ++ more ≡ long)

longer-on : (a b c : List Entry) → Longer a b → Longer b c → Longer a c
longer-on a b c x y = (x.0 ++ y.0, sym (append_assoc a x.0 y.0) ∙ ap (λ l. l ++ y.0) x.1 ∙ y.1)

grows-longer : (config : Configuration) (nexus : ℕ) (all : List Entry) (cs : List Call) (before : List Entry) → Grows config nexus all cs before → Longer before all
grows-longer config nexus all [] before g = (g.0, g.1)
grows-longer config nexus all (c ∷ cs) before g = go c.outcome g (λ h k. grows-longer config nexus all cs h k)
  where
    go : (o : Outcome) → GrowsBy config nexus all c o before (λ h. Grows config nexus all cs h) → ((h : List Entry) → Grows config nexus all cs h → Longer h all) → Longer before all
    go (Outcome.Answered told) g later =
        let l = later (before ++ g.0 ++ g.1 ∷ []) g.4 in
        longer-on before (before ++ g.0 ++ g.1 ∷ []) all (g.0 ++ g.1 ∷ [], sym (append_assoc before g.0 (g.1 ∷ []))) l
    go Outcome.Full g later = later before g.1
    go Outcome.NoMemory g later = later before g

-- what is still to be asked leads from this history to the last world
pub record Remains (v : World) (h : List Entry) (talk : List Talked) : Type 0 where
  pub u : World
  pub history : u.history ≡ h
  pub config : u.config ≡ v.config
  pub nexus : u.nexus ≡ v.nexus
  pub passed : Passed u talk v

pub passed-longer : (u v : World) (talk : List Talked) → Passed u talk v → (u.config ≡ v.config) × (u.nexus ≡ v.nexus) × Longer u.history v.history
passed-longer u v [] p = (ap (λ (x : World). x.config) (sym p), ap (λ (x : World). x.nexus) (sym p), ([], append-nil u.history ∙ ap (λ (x : World). x.history) (sym p)))
passed-longer u v (t ∷ ts) p =
    let a = p.1 in
    let l = passed-longer p.0 v ts p.2 in
    let grown = grows-longer u.config u.nexus p.0.history (calls_in a.events) u.history a.grown in
    let both = longer-on u.history p.0.history v.history grown l.2 in
    (sym a.config ∙ l.0, sym a.nexus ∙ l.1, both)

pub remains-longer : (v : World) (h : List Entry) (talk : List Talked) → Remains v h talk → Longer h v.history
remains-longer v h talk r = let l = passed-longer r.u v talk r.passed in subst (λ x. Longer x v.history) r.history l.2

-- ---- one request

-- a fault of the port tells nothing
port-says : (job : CopyJob) (w v : World) (fault : PortFault) → Copies job (Err (port_fault fault)) w v
port-says job w v PortFault.OutOfMemory = tt
port-says job w v PortFault.ReadFault = tt
port-says job w v PortFault.WriteFault = tt
port-says job w v PortFault.Ended = tt
port-says job w v PortFault.BadReply = tt

-- a program at its end is asked no more
pub ended-so : (found outcome : Result Copied CopyFault) (talk : List Talked) → AreAsked (Ends found) talk → after (Ends found) talk ≡ Ends outcome → found ≡ outcome
ended-so found outcome [] asked e = cc
ended-so found outcome (t ∷ ts) asked e = absurd asked

module _ (job : CopyJob) (w v : World) (outcome : Result Copied CopyFault) where
  pub by-outcome : (found : Result Copied CopyFault) (talk : List Talked) → AreAsked (Ends found) talk → after (Ends found) talk ≡ Ends outcome → Copies job found w v → Copies job outcome w v
  by-outcome found talk asked e says = subst (λ r. Copies job r w v) (ended-so found outcome talk asked e) says

  -- the request is answered GOOD, or the copy ends with another fault than bad data
  pub ask-on : (request : Request) (step : ℕ) (go_on : List ℕ → HostProgram) (talk : List Talked) (h : List Entry)
      → AreAsked (Asks request (if_good step go_on)) talk → after (Asks request (if_good step go_on)) talk ≡ Ends outcome → Remains v h talk
      → ((bytes : List ℕ) (ts : List Talked) (h2 : List Entry) → AreAsked (go_on bytes) ts → after (go_on bytes) ts ≡ Ends outcome → Remains v h2 ts
      → RanIn v.config v.nexus (program v.config request) h2 h bytes → Copies job outcome w v)
      → Copies job outcome w v
  ask-on request step go_on [] h asked e r next = cc
  ask-on request step go_on (t ∷ ts) h asked e r next = go t.answer refl asked.1 e
    where
      go : (answer : Result Reply PortFault) → t.answer ≡ answer → AreAsked (moved (Asks request (if_good step go_on)) answer) ts
          → after (moved (Asks request (if_good step go_on)) answer) ts ≡ Ends outcome → Copies job outcome w v
      go (Err fault) is more ends = by-outcome (Err (port_fault fault)) ts more ends (port-says job w v fault)
      go (Ok (Reply.Good bytes)) is more ends =
          let a = r.passed.1 in
          let between : World = r.passed.0 in
          let replied = subst (λ (x : Result Reply PortFault). IsReplied (next_of r.u.config r.u.nexus t.request (outcomes_of a.events)) x) is a.replied in
          let well = ran-well r.u.config r.u.nexus t.request a.events bytes a.caused replied in
          let ran = ran-in r.u.config r.u.nexus (program r.u.config t.request) between.history (calls_in a.events) r.u.history bytes well a.grown in
          next bytes ts between.history more ends
          (record { u = between; history = refl; config = a.config ∙ r.config; nexus = a.nexus ∙ r.nexus; passed = r.passed.2 })
          (subst (λ c. RanIn c v.nexus (program c request) between.history h bytes) r.config
          (subst (λ m. RanIn r.u.config m (program r.u.config request) between.history h bytes) r.nexus
          (subst (λ q. RanIn r.u.config r.u.nexus (program r.u.config q) between.history h bytes) asked.0
          (subst (λ l. RanIn r.u.config r.u.nexus (program r.u.config t.request) between.history l bytes) r.history ran))))
      go (Ok (Reply.Check sense)) is more ends = by-outcome (Err (CopyFault.Refused step (Reply.Check sense))) ts more ends tt
      go (Ok Reply.Conflict) is more ends = by-outcome (Err (CopyFault.Refused step Reply.Conflict)) ts more ends tt
      go (Ok Reply.Busy) is more ends = by-outcome (Err (CopyFault.Refused step Reply.Busy)) ts more ends tt
      go (Ok Reply.Full) is more ends = by-outcome (Err (CopyFault.Refused step Reply.Full)) ts more ends tt
