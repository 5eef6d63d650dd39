-- A command that is run over a port's units
use Rattle.std.proofs.Common.{◌≡◌, ℕ, ◌-◌, ◌≤◌, List, [], ◌∷◌, ◌++◌, refl, ap, sym, ◌∙◌, subst, arith, append-nil, append_assoc}
use Rattle.std.specs.Prelude.{Result, Ok, Err, ◌==◌}
use Rattle.std.proofs.lemmas.List.Elements.{All-push, filter-append}
use Rattle.std.proofs.lemmas.List.Sums.{fold-append}
use Rattle.cm_base.specs.Configuration.{Configuration}
use Rattle.cm_frame.specs.declared.frame.Request.{Request}
use Rattle.cm_frame.specs.declared.frame.Reply.{Reply}
use Rattle.cm_history.specs.declared.act.Act.{Act}
use Rattle.cm_history.specs.declared.act.Entry.{Entry}
use Rattle.cm_history.specs.History.{on}
use Rattle.cmd_program.specs.declared.step.Outcome.{Outcome}
use Rattle.cmd_program.specs.declared.step.Step.{Step}
use Rattle.cmd_program.specs.Running.{Call}
use Rattle.cmd_program.specs.Judging.{step, program, program_after}
use Rattle.cmd_program.specs.Program.{moved}
use Rattle.cmd_program.specs.Short.{IsShort, acts_limit}
use Rattle.cmd_program.specs.Exchanges.{Event, Asked, Wanted, outcome_of, outcomes_of, calls_in, IsCaused, AreCaused}
use Rattle.cmd_program.specs.InHistory.{entries_by, is_by}
use Rattle.cmd_program.specs.Conversations.{IsFullBy}
use Rattle.cmd_program.proofs.PublicLaws.{OneLess, short-act}
use Rattle.cmd_machine.specs.declared.command.CommandOf.{CommandOf}
use Rattle.cmd_machine.specs.Rest.{StandsFor}
use Rattle.any_cmds.specs.declared.phase.AnyPhase.{AnyPhase}
use Rattle.any_cmds.specs.Meaning.{by_any}
use Rattle.odx_host.specs.declared.port.PortFault.{PortFault}
use Rattle.odx_host.specs.Talk.{Talked}
use Rattle.odx_host.specs.Worlds.{World, MayFold, GrowsBy, Grows, IsAnsweredIn}
use Rattle.odx_host.specs.Units.{host, UnitsAt, UnitsBehind, AreAfter, AreOf, WantsMemoryAlone, LedTo}
use Rattle.odx_host.specs.inner.Acting.{Stand, call, world, HasDone, HasGoneOn, HasRun}

-- ---- events, and one more

outcomes-more : (xs : List Event) (e : Event) → outcomes_of (xs ++ e ∷ []) ≡ outcomes_of xs ++ outcome_of e ∷ []
outcomes-more [] e = refl
outcomes-more (x ∷ xs) e = ap (λ l. outcome_of x ∷ l) (outcomes-more xs e)

calls-more : (xs : List Event) (c : Call) → calls_in (xs ++ Asked c ∷ []) ≡ calls_in xs ++ c ∷ []
calls-more [] c = refl
calls-more (Asked x ∷ xs) c = ap (λ l. x ∷ l) (calls-more xs c)
calls-more (Wanted ∷ xs) c = calls-more xs c

caused-more : (config : Configuration) (request : Request) (before : List Outcome) (xs : List Event) (e : Event)
    → AreCaused step config host request before xs → IsCaused step config host request (before ++ outcomes_of xs) e
    → AreCaused step config host request before (xs ++ e ∷ [])
caused-more config request before [] e all here = (subst (λ b. IsCaused step config host request b e) (append-nil before) here, tt)
caused-more config request before (x ∷ xs) e all here = (
  all.0,
  caused-more config request (before ++ outcome_of x ∷ []) xs e all.1
      (subst (λ b. IsCaused step config host request b e) (sym (append_assoc before (outcome_of x ∷ []) (outcomes_of xs))) here),
)

program-more : (config : Configuration) (request : Request) (xs : List Event) (e : Event)
    → program_after config request (outcomes_of (xs ++ e ∷ [])) ≡ moved (program_after config request (outcomes_of xs)) (outcome_of e)
program-more config request xs e =
    ap (program_after config request) (outcomes-more xs e) ∙ fold-append moved (program config request) (outcomes_of xs) (outcome_of e ∷ [])

-- ---- the history that goes on

-- the calls led from one history to another
abbrev pub Grown : Configuration → List Entry → List Call → List Entry → List Entry → Type 0
Grown config all [] before here = before ≡ here
Grown config all (c ∷ cs) before here = GrowsBy config host all c c.outcome before (λ after. Grown config all cs after here)

module _ (config : Configuration) (all more : List Entry) where
  grows-same : (c : Call) (outcome : Outcome) (before : List Entry) (L M : List Entry → Type 0) → ((h : List Entry) → L h → M h)
      → GrowsBy config host all c outcome before L → GrowsBy config host all c outcome before M
  grows-same c (Outcome.Answered told) before L M f g = (g.0, g.1, g.2, g.3, f _ g.4)
  grows-same c Outcome.Full before L M f g = (g.0, f before g.1)
  grows-same c Outcome.NoMemory before L M f g = f before g

  -- where there was no room there was none, whatever came later
  full-more : (earlier : List Entry) (c : Call) → IsFullBy config MayFold all host earlier c → IsFullBy config MayFold (all ++ more) host earlier c
  full-more earlier c f = record {
    seen = f.seen;
    later = f.later ++ on c.unit more;
    begins =
        sym (append_assoc f.seen f.later (on c.unit more)) ∙ ap (λ l. l ++ on c.unit more) f.begins
        ∙ sym (filter-append (λ (e : Entry). e.unit == c.unit) all more);
    own = f.own;
    folded = f.folded;
    folds = f.folds;
    full = f.full;
    serving = f.serving;
  }

  grows-more : (c : Call) (outcome : Outcome) (before : List Entry) (L M : List Entry → Type 0) → ((h : List Entry) → L h → M h)
      → GrowsBy config host all c outcome before L → GrowsBy config host (all ++ more) c outcome before M
  grows-more c (Outcome.Answered told) before L M f g = (g.0, g.1, g.2, g.3, f _ g.4)
  grows-more c Outcome.Full before L M f g = (full-more (entries_by host before) c g.0, f before g.1)
  grows-more c Outcome.NoMemory before L M f g = f before g

grown-more : (config : Configuration) (all more : List Entry) (cs : List Call) (before here : List Entry) → Grown config all cs before here → Grown config (all ++ more) cs before here
grown-more config all more [] before here g = g
grown-more config all more (c ∷ cs) before here g =
    grows-more config all more c c.outcome before (λ after. Grown config all cs after here) (λ after. Grown config (all ++ more) cs after here)
    (λ after k. grown-more config all more cs after here k) g

grown-push : (config : Configuration) (all : List Entry) (cs : List Call) (c : Call) (before here there : List Entry) → Grown config all cs before here
    → GrowsBy config host all c c.outcome here (λ after. after ≡ there) → Grown config all (cs ++ c ∷ []) before there
grown-push config all [] c before here there g one = subst (λ h. GrowsBy config host all c c.outcome h (λ after. after ≡ there)) (sym g) one
grown-push config all (x ∷ cs) c before here there g one =
    grows-same config all [] x x.outcome before (λ after. Grown config all cs after here) (λ after. Grown config all (cs ++ c ∷ []) after there)
    (λ after k. grown-push config all cs c after here there k one) g

grown-end : (config : Configuration) (all : List Entry) (cs : List Call) (before : List Entry) → Grown config all cs before all → Grows config host all cs before
grown-end config all [] before g = ([], append-nil before ∙ g, refl)
grown-end config all (c ∷ cs) before g =
    grows-same config all [] c c.outcome before (λ after. Grown config all cs after all) (λ after. Grows config host all cs after)
    (λ after k. grown-end config all cs after k) g

-- others act behind all calls
grows-on : (config : Configuration) (all more : List Entry) (cs : List Call) (before : List Entry) → entries_by host more ≡ [] → Grows config host all cs before
    → Grows config host (all ++ more) cs before
grows-on config all more [] before apart g = (
  g.0 ++ more,
  sym (append_assoc before g.0 more) ∙ ap (λ l. l ++ more) g.1,
  filter-append (is_by host) g.0 more ∙ ap (λ l. l ++ entries_by host more) g.2 ∙ apart,
)
grows-on config all more (c ∷ cs) before apart g =
    grows-more config all more c c.outcome before (λ after. Grows config host all cs after) (λ after. Grows config host (all ++ more) cs after)
    (λ after k. grows-on config all more cs after apart k) g

-- ---- a command under way

-- the command came so far, from the history `start` on, and may ask for so many acts
pub record HasCome (config : Configuration) (start : List Entry) (s : UnitsAt) (request : Request) (command : CommandOf AnyPhase) (left : ℕ) : Type 0 where
  pub here : List Entry
  pub after : AreAfter config here s
  pub events : List Event
  pub caused : AreCaused step config host request [] events
  pub stands : StandsFor by_any config command host request (outcomes_of events)
  pub short : IsShort (program_after config request (outcomes_of events)) left
  pub grown : Grown config here (calls_in events) start here

pub come-first : (config : Configuration) (start : List Entry) (s : UnitsAt) (request : Request) (command : CommandOf AnyPhase) → AreAfter config start s
    → StandsFor by_any config command host request [] → IsShort (program config request) acts_limit → HasCome config start s request command acts_limit
come-first config start s request command after stands short = record {
  here = start;
  after = after;
  events = [];
  caused = tt;
  stands = stands;
  short = short;
  grown = refl;
}

-- memory was wanted
pub ran-short : (config : Configuration) (start : List Entry) (s v : UnitsAt) (request : Request) (command : CommandOf AnyPhase) (left : ℕ) (fault : PortFault)
    → (come : HasCome config start s request command left) → AreAfter config come.here v
    → HasRun config start v (record { request = request; answer = Err fault })
ran-short config start s v request command left fault come after = record {
  later = come.here;
  after = after;
  answered = record {
    config = refl;
    nexus = refl;
    events = come.events;
    caused = come.caused;
    replied = tt;
    grown = grown-end config come.here (calls_in come.events) start come.grown;
  };
}

-- the command is at its end
pub ran-done : (config : Configuration) (start : List Entry) (s : UnitsAt) (request : Request) (command : CommandOf AnyPhase) (left : ℕ) (reply : Reply)
    → (come : HasCome config start s request command left) → Step.Done reply ≡ step config host request (outcomes_of come.events)
    → HasRun config start s (record { request = request; answer = Ok reply })
ran-done config start s request command left reply come is = record {
  later = come.here;
  after = come.after;
  answered = record {
    config = refl;
    nexus = refl;
    events = come.events;
    caused = come.caused;
    replied = sym is;
    grown = grown-end config come.here (calls_in come.events) start come.grown;
  };
}

-- it was not begun
pub ran-none : (config : Configuration) (start : List Entry) (s : UnitsAt) (request : Request) (fault : PortFault) → AreAfter config start s
    → HasRun config start s (record { request = request; answer = Err fault })
ran-none config start s request fault after = record {
  later = start;
  after = after;
  answered = record { config = refl; nexus = refl; events = []; caused = tt; replied = tt; grown = ([], append-nil start, refl) };
}

module _ (config : Configuration) (start : List Entry) (s v : UnitsAt) (request : Request) (before after : CommandOf AnyPhase) (left unit : ℕ) (act : Act)
    (come : HasCome config start s request before left) (asks : Step.Do unit act ≡ step config host request (outcomes_of come.events)) where
  -- there is an act left
  pub some-left : 1 ≤ left
  some-left =
      let o = short-act (program_after config request (outcomes_of come.events)) left Outcome.Full unit act come.short (sym asks) in
      let is = o.is in
      omega arith

  module _ (outcome : Outcome) (stands : StandsFor by_any config after host request (outcomes_of come.events ++ outcome ∷ [])) where
    abbrev more : List Event
    more = come.events ++ Asked (call unit act outcome) ∷ []

    less : OneLess (program_after config request (outcomes_of come.events)) left outcome
    less = short-act (program_after config request (outcomes_of come.events)) left outcome unit act come.short (sym asks)

    short : IsShort (program_after config request (outcomes_of more)) (left - 1)
    short =
        let is = less.is in
        let same : less.left ≡ left - 1 = omega arith in
        subst (IsShort (program_after config request (outcomes_of more))) same
        (subst (λ p. IsShort p less.left) (sym (program-more config request come.events (Asked (call unit act outcome)))) less.short)

    going : (here : List Entry) → AreAfter config here v → Grown config here (calls_in come.events ++ call unit act outcome ∷ []) start here
        → HasCome config start v request after (left - 1)
    going here is grown = record {
      here = here;
      after = is;
      events = more;
      caused = caused-more config request [] come.events (Asked (call unit act outcome)) come.caused (sym asks);
      stands = subst (StandsFor by_any config after host request) (sym (outcomes-more come.events (Asked (call unit act outcome)))) stands;
      short = short;
      grown = subst (λ cs. Grown config here cs start here) (sym (calls-more come.events (call unit act outcome))) grown;
    }

-- an act was done, or there was no room for it
pub come-on : (E : Type 0) (config : Configuration) (start : List Entry) (s v : UnitsAt) (request : Request) (before after : CommandOf AnyPhase) (left unit : ℕ) (act : Act) (outcome : Outcome)
    → (come : HasCome config start s request before left) → Step.Do unit act ≡ step config host request (outcomes_of come.events)
    → HasDone {E = E} config come.here unit act (Ok outcome) v → StandsFor by_any config after host request (outcomes_of come.events ++ outcome ∷ [])
    → HasCome config start v request after (left - 1)
come-on E config start s v request before after left unit act (Outcome.Answered told) come asks done stands =
    going config start s v request before after left unit act come asks (Outcome.Answered told) stands (come.here ++ done.0 ∷ []) done.3
    (grown-push config (come.here ++ done.0 ∷ []) (calls_in come.events) (call unit act (Outcome.Answered told)) start come.here (come.here ++ done.0 ∷ [])
    (grown-more config come.here (done.0 ∷ []) (calls_in come.events) start come.here come.grown)
    ([], done.0, done.1, done.2, ap (λ l. l ++ done.0 ∷ []) (append-nil come.here)))
come-on E config start s v request before after left unit act Outcome.Full come asks done stands =
    going config start s v request before after left unit act come asks Outcome.Full stands come.here done.1
    (grown-push config come.here (calls_in come.events) (call unit act Outcome.Full) start come.here come.here come.grown (done.0, refl))
come-on E config start s v request before after left unit act Outcome.NoMemory come asks done stands = absurd done

-- ---- behind the command

-- others acted behind it
pub ran-on : (config : Configuration) (start : List Entry) (s v : UnitsAt) (request : Request) (answer : Result Reply PortFault)
    → (run : HasRun config start s (record { request = request; answer = answer })) → HasGoneOn config run.later v
    → HasRun config start v (record { request = request; answer = answer })
ran-on config start s v request answer run gone = record {
  later = run.later ++ gone.others;
  after = gone.after;
  answered = record {
    config = refl;
    nexus = refl;
    events = run.answered.events;
    caused = run.answered.caused;
    replied = run.answered.replied;
    grown = grows-on config run.later gone.others (calls_in run.answered.events) start gone.apart run.answered.grown;
  };
}

-- of a reply that is kept back nothing is told
pub ran-back : (config : Configuration) (start : List Entry) (s : UnitsAt) (request : Request) (answer : Result Reply PortFault) (fault : PortFault)
    → HasRun config start s (record { request = request; answer = answer }) → HasRun config start s (record { request = request; answer = Err fault })
ran-back config start s request answer fault run = record {
  later = run.later;
  after = run.after;
  answered = record {
    config = refl;
    nexus = refl;
    events = run.answered.events;
    caused = run.answered.caused;
    replied = tt;
    grown = run.answered.grown;
  };
}

-- ---- the port

world-is : (p : UnitsBehind) (w : World) → AreOf p w → world p.config w.history ≡ w
world-is p w is =
    ap (λ c. record { config = c; nexus = host; history = w.history }) (sym is.config)
    ∙ ap (λ n. record { config = w.config; nexus = n; history = w.history }) (sym is.nexus)

-- a request was asked of the units, from each history that they may have
pub led-one : (p q : UnitsBehind) (t : Talked) → q.config ≡ p.config → WantsMemoryAlone t
    → ((history : List Entry) → AreAfter p.config history p.units → HasRun p.config history q.units t) → LedTo p (t ∷ []) q
led-one p q t same memory runs = record {
  memory = All-push WantsMemoryAlone [] t (λ i d low. absurd (omega (arith, low))) memory;
  leads = λ w is.
      let r = runs w.history is.after in
      let v = world p.config r.later in
      let answered = subst (λ x. IsAnsweredIn x v t) (world-is p w is) r.answered in (
        v,
        record { config = sym same; nexus = refl; after = subst (λ c. AreAfter c r.later q.units) (sym same) r.after },
        (v, answered, refl),
      );
}

-- it is in some world
pub of-stand : (p : UnitsBehind) → Stand p.config p.units → (w : World) × AreOf p w
of-stand p stand = (world p.config stand.history, record { config = refl; nexus = refl; after = stand.after })

-- from each world it led to another
pub world-of : (p q : UnitsBehind) (t : Talked) → LedTo p (t ∷ []) q → (w : World) → AreOf p w → (v : World) × AreOf q v × IsAnsweredIn w v t
world-of p q t led w is =
    let l = led.leads w is in
    (l.0, l.1, subst (λ x. IsAnsweredIn w x t) (sym l.2.2) l.2.1)
