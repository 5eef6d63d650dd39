-- How things stand after one more item
use Rattle.std.proofs.Common.{◌≡◌, ℕ, ◌+◌, List, [], ◌∷◌, ◌++◌, length, refl, ap, sym, ◌∙◌, subst, true, false, Bool, inl, inr, append-nil, Less, Equal, Greater}
use Rattle.std.specs.Prelude.{cond, not, ◌⊎◌, ◌==◌, is_some, unwrap_or, nat_lt, Option, Some, None}
use Rattle.std.specs.Ordering.{nat_cmp, is_eq}
use Rattle.std.specs.BTreeMap.{get}
use Rattle.std.proofs.lemmas.Bool.{cases_eq, eqb-true}
use Rattle.cm_base.specs.Configuration.{Configuration}
use Rattle.cm_history.specs.declared.act.Act.{Act}
use Rattle.cm_history.specs.declared.act.Actor.{Actor}
use Rattle.cm_history.specs.declared.act.Entry.{Entry}
use Rattle.cm_history.specs.Deeds.{same_actor}
use Rattle.cm_frame.specs.declared.frame.Request.{Request}
use Rattle.cm_frame.specs.declared.frame.Reply.{Reply}
use Rattle.cm_frame.specs.declared.item.TraceItem.{TraceItem}
use Rattle.cmd_program.specs.declared.step.Step.{Step}
use Rattle.cmd_program.specs.declared.step.Outcome.{Outcome}
use Rattle.cmd_program.specs.Meaning.{IsOfLength}
use Rattle.cmd_program.specs.Judging.{step}
use Rattle.cmd_program.specs.Stepping.{gave_up}
use Rattle.trace_replay.specs.declared.nexus.Waiting.{Waiting}
use Rattle.trace_replay.specs.declared.nexus.Nexus.{Nexus}
use Rattle.trace_replay.specs.declared.machine.Machine.{Machine}
use Rattle.trace_replay.specs.ReplayState.{Pending, ReplayState, Shortage, Nowhere, AtBegin, AtAct, AtStep, is_of, waiting, without, seq, new_entry, has_no_room, entries_after, entries_at, next_step, goes_on, acted, noted_act, did, ran, after_item, item_fits}
use Rattle.trace_replay.specs.Played.{shortage_for}
use Rattle.trace_replay.specs.Shortages.{is_no_shortage, allowed_at_act, allowed_at_run, is_allowed}
use Rattle.trace_replay.specs.inner.Machines.{HaveCounted, IsWaiting, WentOn, HasBegun, HasRun, WaitsFor, IsNexus, IsStanding, IsEffect, effect_of}
use Rattle.trace_replay.proofs.UnitActs.{seq-other, not-equal}
use Rattle.trace_replay.proofs.ShownShortages.{waits-last, find-of}

-- ---- who waits

waits-none : (i : ℕ) (xs : List Pending) → waiting i (without i xs) ≡ None
waits-none i [] = refl
waits-none i (x ∷ xs) = go (is_of i x) refl (waits-none i xs)
  where
    go : (t : Bool) → is_of i x ≡ t → waiting i (without i xs) ≡ None → waiting i (cond (not t) (x ∷ without i xs) (without i xs)) ≡ None
    go true e ih = ih
    go false e ih = rw e ih

-- others come and go, and what waits is the same
waits-so : (i j : ℕ) (xs more : List Pending) → (i ≡ j → ⊥) → waiting i more ≡ None → waiting i (without j xs ++ more) ≡ waiting i xs
waits-so i j [] more other none = none
waits-so i j (x ∷ xs) more other none = go (is_of i x) refl (is_of j x) refl (waits-so i j xs more other none)
  where
    go : (t : Bool) → is_of i x ≡ t → (u : Bool) → is_of j x ≡ u → waiting i (without j xs ++ more) ≡ waiting i xs
        → waiting i (cond (not u) (x ∷ without j xs) (without j xs) ++ more) ≡ cond t (Some x) (waiting i xs)
    go true a true b ih = absurd (other (sym (eqb-true x.initiator i a) ∙ eqb-true x.initiator j b))
    go true a false b ih = rw a refl
    go false a true b ih = ih
    go false a false b ih = rw a ih

-- ---- what is kept of an initiator

-- the entries of other actors don't count
seq-after : (config : Configuration) (entries : List Entry) (actor : Actor) (u moment : ℕ) (act : Act) (i : ℕ) → same_actor actor (Actor.Nexus i) ≡ false
    → seq (Actor.Nexus i) (entries_after config entries actor u moment act) ≡ seq (Actor.Nexus i) entries
seq-after config entries actor u moment act i other = go (has_no_room config entries actor u act)
  where
    go : (t : Bool) → seq (Actor.Nexus i) (cond t entries (entries ++ new_entry entries actor u moment act ∷ [])) ≡ seq (Actor.Nexus i) entries
    go true = refl
    go false = seq-other (Actor.Nexus i) entries (new_entry entries actor u moment act) other

seq-at : (shortage : Shortage) (i : ℕ) (entries later : List Entry) → seq (Actor.Nexus i) later ≡ seq (Actor.Nexus i) entries
    → seq (Actor.Nexus i) (entries_at shortage entries later) ≡ seq (Actor.Nexus i) entries
seq-at Nowhere i entries later e = e
seq-at AtBegin i entries later e = e
seq-at AtAct i entries later e = refl
seq-at AtStep i entries later e = e

nexus-so : (config : Configuration) (entries later : List Entry) (i : ℕ) (found : Option Pending) (nexus : Option Nexus)
    → seq (Actor.Nexus i) later ≡ seq (Actor.Nexus i) entries → IsNexus config entries i found nexus → IsNexus config later i found nexus
nexus-so config entries later i found None same is = (same ∙ is.0, is.1)
nexus-so config entries later i found (Some nexus) same is = (is.0 ∙ sym same, is.1)

-- ---- a pump

pub pumped : (config : Configuration) (s : ReplayState) (m m' : Machine) (unit moment : ℕ) → IsStanding config s m → nat_lt unit (length config.units) ≡ true
    → m'.config ≡ m.config → m'.nexuses ≡ m.nexuses
    → HaveCounted config (entries_after config s.entries (Actor.Pump unit) unit moment Act.Pump) m'.units
    → IsEffect config s (TraceItem.Pump unit moment) (effect_of unit None) m'
pumped config s m m' unit moment is there told nexuses units = record {
  fit = there;
  shortage = Nowhere;
  allowed = refl;
  state = record {
    told = told ∙ is.told;
    units = units;
    nexuses = λ i.
        let before : IsNexus config s.entries i (waiting i s.pending) (get nat_cmp m'.nexuses i) =
        subst (λ ns. IsNexus config s.entries i (waiting i s.pending) (get nat_cmp ns i)) (sym nexuses) (is.nexuses i) in
        nexus-so config s.entries (entries_after config s.entries (Actor.Pump unit) unit moment Act.Pump) i (waiting i s.pending) (get nat_cmp m'.nexuses i)
        (seq-after config s.entries (Actor.Pump unit) unit moment Act.Pump i refl) before;
  };
  replied = sym (append-nil s.replies);
}

-- ---- a command goes on

-- by such a step the command is answered, or waits
abbrev Goes : Configuration → Pending → Step → Option Waiting → Option Reply → Type 0
Goes config p next None None = ⊥
Goes config p next (Some w) None = IsWaiting config w p × (next ≡ Step.Do w.unit w.act)
Goes config p next None (Some reply) = (next ≡ Step.Done reply) × IsOfLength reply
Goes config p next (Some w) (Some reply) = ⊥

went-goes : (config : Configuration) (p : Pending) (waits : Option Waiting) (reply : Option Reply) → WentOn config p waits reply
    → Goes config p (next_step step config p) waits reply
went-goes config p None None went = went
went-goes config p (Some w) None went = (went, went.asks)
went-goes config p None (Some reply) went = went
went-goes config p (Some w) (Some reply) went = went

not-at : (i q : ℕ) → (q ≡ i → ⊥) → is_eq (nat_cmp i q) ≡ false
not-at i q other = by (nat_lt i q)
  where
    apart : (i == q) ≡ false
    apart = not-equal i q (λ e. other (sym e))

    by : (t : Bool) → is_eq (cond t Less (cond (i == q) Equal Greater)) ≡ false
    by true = refl
    by false = rw apart refl

module _ (config : Configuration) (t : ReplayState) (p : Pending) (nexus : Nexus) (m : Machine) (told : m.config ≡ config) (units : HaveCounted config t.entries m.units)
    (others : (j : ℕ) → (j ≡ p.initiator → ⊥) → IsNexus config t.entries j (waiting j t.pending) (get nat_cmp m.nexuses j))
    (mine : get nat_cmp m.nexuses p.initiator ≡ Some nexus) (n : nexus.seq ≡ seq (Actor.Nexus p.initiator) t.entries) where
  kept : (found : Option Pending) (pending : List Pending) → waiting p.initiator pending ≡ found → WaitsFor config nexus.waiting found
      → ((j : ℕ) → (j ≡ p.initiator → ⊥) → waiting j pending ≡ waiting j t.pending)
      → (j : ℕ) → IsNexus config t.entries j (waiting j pending) (get nat_cmp m.nexuses j)
  kept found pending is waits beside j = go (cases_eq j p.initiator)
    where
      go : ((j ≡ p.initiator) ⊎ (j ≡ p.initiator → ⊥)) → IsNexus config t.entries j (waiting j pending) (get nat_cmp m.nexuses j)
      go (inl same) =
          let here : IsNexus config t.entries p.initiator (waiting p.initiator pending) (get nat_cmp m.nexuses p.initiator) = rw (is, mine) (n, waits) in
          subst (λ i. IsNexus config t.entries i (waiting i pending) (get nat_cmp m.nexuses i)) (sym same) here
      go (inr other) = subst (λ f. IsNexus config t.entries j f (get nat_cmp m.nexuses j)) (sym (beside j other)) (others j other)

  answered : (reply : Reply) → nexus.waiting ≡ None → IsStanding config (goes_on t p (Step.Done reply)) m
  answered reply none = record {
    told = told;
    units = units;
    nexuses = kept None (without p.initiator t.pending) (waits-none p.initiator t.pending) (rw none tt)
        (λ j other. ap (waiting j) (sym (append-nil (without p.initiator t.pending))) ∙ waits-so j p.initiator t.pending [] other refl);
  }

  waits-on : (w : Waiting) (u : ℕ) (act : Act) → nexus.waiting ≡ Some w → IsWaiting config w p → IsStanding config (goes_on t p (Step.Do u act)) m
  waits-on w u act some is = record {
    told = told;
    units = units;
    nexuses = kept (Some p) (without p.initiator t.pending ++ p ∷ []) (waits-last p.initiator p t.pending refl) (rw some is)
        (λ j other. waits-so j p.initiator t.pending (p ∷ []) other (rw (not-equal p.initiator j (λ e. other (sym e))) refl));
  }

  module _ (s : ReplayState) (item : TraceItem) (shortage : Shortage) (fit : item_fits config s item ≡ true) (allowed : is_allowed step config s item (shortage_for item (shortage ∷ [])) ≡ true)
      (replies : t.replies ≡ s.replies) where
    effect : (nx : Step) (waits : Option Waiting) (reply : Option Reply) → after_item step config s item (shortage_for item (shortage ∷ [])) ≡ goes_on t p nx → nexus.waiting ≡ waits
        → Goes config p nx waits reply → IsEffect config s item (effect_of p.initiator reply) m
    effect nx None None to is goes = absurd goes
    effect nx (Some w) None to is goes =
        let same : after_item step config s item (shortage_for item (shortage ∷ [])) ≡ goes_on t p (Step.Do w.unit w.act) = to ∙ ap (goes_on t p) goes.1 in
        record {
          fit = fit;
          shortage = shortage;
          allowed = allowed;
          state = subst (λ x. IsStanding config x m) (sym same) (waits-on w w.unit w.act is goes.0);
          replied = ap (λ (x : ReplayState). x.replies) same ∙ replies ∙ sym (append-nil s.replies);
        }
    effect nx None (Some reply) to is goes =
        let same : after_item step config s item (shortage_for item (shortage ∷ [])) ≡ goes_on t p (Step.Done reply) = to ∙ ap (goes_on t p) goes.0 in (
          record {
            fit = fit;
            shortage = shortage;
            allowed = allowed;
            state = subst (λ x. IsStanding config x m) (sym same) (answered reply is);
            replied = ap (λ (x : ReplayState). x.replies) same ∙ ap (λ rs. rs ++ (record { initiator = p.initiator; reply = reply }) ∷ []) replies;
          },
          goes.1,
        )
    effect nx (Some w) (Some reply) to is goes = absurd goes

-- what is kept of the initiator, or of one that has done nothing yet
abbrev pub nexus_of : Option Nexus → Nexus
nexus_of found = unwrap_or found (record { seq = 0; waiting = None })

-- a nexus at which nothing waits
pub none-waits : (n : Nexus) → false ≡ is_some n.waiting → n.waiting ≡ None
none-waits n e = by n.waiting e
  where
    by : (found : Option Waiting) → false ≡ is_some found → found ≡ None
    by None e = refl
    by (Some w) e = cc

-- a command of a nexus where none waited was begun
pub begun : (config : Configuration) (s : ReplayState) (m m' : Machine) (i moment : ℕ) (request : Request) (nexus : Nexus) (reply : Option Reply) → IsStanding config s m
    → (nexus_of (get nat_cmp m.nexuses i)).waiting ≡ None → nexus.seq ≡ (nexus_of (get nat_cmp m.nexuses i)).seq
    → ((shortage : Shortage) × HasBegun m.config i request shortage nexus.waiting reply) → m'.config ≡ m.config → m'.units ≡ m.units → get nat_cmp m'.nexuses i ≡ Some nexus → ((q : ℕ) → is_eq (nat_cmp i q) ≡ false → get nat_cmp m'.nexuses q ≡ get nat_cmp m.nexuses q)
    → IsEffect config s (TraceItem.Begin i moment request) (effect_of i reply) m'
begun config s m m' i moment request nexus reply is idle right began told units put rest =
    by began.0 (subst (λ k. HasBegun k i request began.0 nexus.waiting reply) is.told began.1)
  where
    t : ReplayState
    t = record s { items = s.items + 1 }

    none : (found : Option Nexus) (p : Option Pending) → IsNexus config s.entries i p found → (nexus_of found).waiting ≡ None → p ≡ None
    none None p is e = is.1
    none (Some n) None is e = refl
    none (Some n) (Some p) is e = absurd (subst (λ w. WaitsFor config w (Some p)) e is.1)

    count : (found : Option Nexus) (p : Option Pending) → IsNexus config s.entries i p found → (nexus_of found).seq ≡ seq (Actor.Nexus i) s.entries
    count None p is = sym is.0
    count (Some n) p is = is.0

    fit : item_fits config s (TraceItem.Begin i moment request) ≡ true
    fit = ap (λ f. not (is_some f)) (none (get nat_cmp m.nexuses i) (waiting i s.pending) (is.nexuses i) idle)

    others : (j : ℕ) → (j ≡ i → ⊥) → IsNexus config s.entries j (waiting j s.pending) (get nat_cmp m'.nexuses j)
    others j other = subst (λ n. IsNexus config s.entries j (waiting j s.pending) n) (sym (rest j (not-at i j other))) (is.nexuses j)

    goes : (shortage : Shortage) (outcomes : List Outcome) (nx : Step) → is_allowed step config s (TraceItem.Begin i moment request) shortage ≡ true
        → after_item step config s (TraceItem.Begin i moment request) shortage ≡ goes_on t (record { initiator = i; request = request; outcomes = outcomes }) nx
        → Goes config (record { initiator = i; request = request; outcomes = outcomes }) nx nexus.waiting reply
        → IsEffect config s (TraceItem.Begin i moment request) (effect_of i reply) m'
    goes shortage outcomes nx allowed same so =
        effect config t (record { initiator = i; request = request; outcomes = outcomes }) nexus m' (told ∙ is.told) (subst (HaveCounted config s.entries) (sym units) is.units)
        others put (right ∙ count (get nat_cmp m.nexuses i) (waiting i s.pending) (is.nexuses i))
        s (TraceItem.Begin i moment request) shortage fit allowed refl nx nexus.waiting reply same refl so

    by : (shortage : Shortage) → HasBegun config i request shortage nexus.waiting reply → IsEffect config s (TraceItem.Begin i moment request) (effect_of i reply) m'
    by Nowhere went = goes Nowhere [] (next_step step config (record { initiator = i; request = request; outcomes = [] })) refl refl
        (went-goes config (record { initiator = i; request = request; outcomes = [] }) nexus.waiting reply went)
    by AtStep went = goes AtStep (Outcome.NoMemory ∷ []) (next_step step config (record { initiator = i; request = request; outcomes = Outcome.NoMemory ∷ [] })) refl refl
        (went-goes config (record { initiator = i; request = request; outcomes = Outcome.NoMemory ∷ [] }) nexus.waiting reply went)
    by AtBegin went = goes AtBegin [] (Step.Done Reply.Busy) refl refl (rw (went.0, went.1) (refl, tt))
    by AtAct went = absurd went

-- the command of a nexus that waited was run
pub ran-on : (config : Configuration) (s : ReplayState) (m m' : Machine) (i moment : ℕ) (before nexus : Nexus) (w : Waiting) (reply : Option Reply) → IsStanding config s m
    → get nat_cmp m.nexuses i ≡ Some before → before.waiting ≡ Some w
    → ((p : Pending) → IsWaiting config w p → p.initiator ≡ i → before.seq ≡ seq (Actor.Nexus i) s.entries → HasRun config s.entries p w.unit moment w.act m'.units nexus reply)
    → m'.config ≡ m.config → get nat_cmp m'.nexuses i ≡ Some nexus → ((q : ℕ) → is_eq (nat_cmp i q) ≡ false → get nat_cmp m'.nexuses q ≡ get nat_cmp m.nexuses q)
    → IsEffect config s (TraceItem.Run i moment) (effect_of i reply) m'
ran-on config s m m' i moment before nexus w reply is at some has told put rest =
    let here : IsNexus config s.entries i (waiting i s.pending) (Some before) = subst (IsNexus config s.entries i (waiting i s.pending)) at (is.nexuses i) in
    let waits : WaitsFor config (Some w) (waiting i s.pending) = subst (λ x. WaitsFor config x (waiting i s.pending)) some here.1 in
    by (waiting i s.pending) refl waits here.0
  where
    by : (found : Option Pending) → waiting i s.pending ≡ found → WaitsFor config (Some w) found → before.seq ≡ seq (Actor.Nexus i) s.entries
        → IsEffect config s (TraceItem.Run i moment) (effect_of i reply) m'
    by None e waits right = absurd waits
    by (Some p) e waits right = subst (λ k. IsEffect config s (TraceItem.Run i moment) (effect_of k reply) m') mine
        (effect config t q nexus m' (told ∙ is.told) run.units others (subst (λ k. get nat_cmp m'.nexuses k ≡ Some nexus) (sym mine) put) run.seq
        s (TraceItem.Run i moment) run.shortage fit allowed refl (next_step step config q) nexus.waiting reply same refl (went-goes config q nexus.waiting reply run.went))
      where
        mine : p.initiator ≡ i
        mine = find-of i s.pending p e

        run : HasRun config s.entries p w.unit moment w.act m'.units nexus reply
        run = has p waits mine right

        t : ReplayState
        t = acted config (record s { items = s.items + 1 }) (Actor.Nexus p.initiator) w.unit moment w.act run.shortage

        q : Pending
        q = noted_act config (record s { items = s.items + 1 }) p w.unit moment w.act run.shortage

        fit : item_fits config s (TraceItem.Run i moment) ≡ true
        fit = ap is_some e

        allowed : is_allowed step config s (TraceItem.Run i moment) run.shortage ≡ true
        allowed =
            ap (allowed_at_run step config s run.shortage) e
            ∙ ap (λ nx. cond (gave_up p.outcomes) (is_no_shortage run.shortage) (allowed_at_act config s.entries (Actor.Nexus p.initiator) run.shortage nx)) waits.asks
            ∙ run.allowed

        same : after_item step config s (TraceItem.Run i moment) run.shortage ≡ goes_on t q (next_step step config q)
        same =
            ap (ran step config (record s { items = s.items + 1 }) moment run.shortage) e
            ∙ ap (did step config (record s { items = s.items + 1 }) moment p run.shortage) waits.asks

        others : (j : ℕ) → (j ≡ p.initiator → ⊥) → IsNexus config t.entries j (waiting j s.pending) (get nat_cmp m'.nexuses j)
        others j other =
            let kept : IsNexus config s.entries j (waiting j s.pending) (get nat_cmp m'.nexuses j) =
            subst (λ n. IsNexus config s.entries j (waiting j s.pending) n) (sym (rest j (not-at i j (λ a. other (a ∙ sym mine))))) (is.nexuses j) in
            nexus-so config s.entries t.entries j (waiting j s.pending) (get nat_cmp m'.nexuses j)
            (seq-at run.shortage j s.entries (entries_after config s.entries (Actor.Nexus p.initiator) w.unit moment w.act)
            (seq-after config s.entries (Actor.Nexus p.initiator) w.unit moment w.act j (not-equal p.initiator j (λ a. other (sym a))))) kept
