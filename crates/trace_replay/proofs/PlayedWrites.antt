-- The writes in the foreground of a played trace end as promised
use Rattle.std.proofs.Common.{◌≡◌, ◌∙◌, ℕ, zero, suc, ◌+◌, ◌<◌, ◌≤◌, List, [], ◌∷◌, ◌++◌, length, refl, ap, sym, subst, inl, inr, true, false, Bool, arith, append-nil, append_assoc}
use Rattle.std.specs.Prelude.{Option, Some, None, not, fold, drop, ◌==◌, ◌⊎◌, All, if◌then◌else◌}
use Rattle.std.proofs.lemmas.Bool.{eq-eqb, ltb-true}
use Rattle.std.proofs.lemmas.Bool.Decides.{nat_tests}
use Rattle.std.proofs.lemmas.List.Elements.{All-drop, filter-append}
use Rattle.cm_base.specs.Configuration.{Configuration, AreUnits}
use Rattle.cm_base.specs.Fields.{AreBytes}
use Rattle.cm_base.specs.declared.parsed.Parsed.{Parsed}
use Rattle.cm_base.specs.declared.parsed.Parsed.TheVariants.{Whole, Short, Bad}
use Rattle.cm_frame.specs.declared.frame.Request.{Request}
use Rattle.cm_frame.specs.declared.frame.Reply.{Reply}
use Rattle.cm_frame.specs.declared.item.TraceItem.{TraceItem}
use Rattle.cm_frame.specs.Grammar.{IsConfig, header_bytes, IsItem, item_bytes}
use Rattle.cm_frame.specs.Laws.{IsSpelledSo}
use Rattle.cm_frame.specs.Reading.{read_header, read_item}
use Rattle.cm_history.specs.declared.act.Act.{Act}
use Rattle.cm_history.specs.declared.act.Actor.{Actor}
use Rattle.cm_history.specs.declared.act.Entry.{Entry}
use Rattle.cm_history.specs.declared.answer.Answer.{Answer}
use Rattle.cm_history.specs.Deeds.{same_actor}
use Rattle.cm_history.specs.History.{answer}
use Rattle.cm_history.specs.Legal.{IsLegal}
use Rattle.cm_history.proofs.PublicLaws.{In, Each, Each-in, Each-by, Each-append, Each-all, In-filter, filter-passes, find-in}
use Rattle.cmd_program.specs.declared.step.Outcome.{Outcome}
use Rattle.cmd_program.specs.declared.step.Step.{Step}
use Rattle.cmd_program.specs.Program.{Program, next, moved, give_up, go_on_by}
use Rattle.cmd_program.specs.Judging.{step, program, program_after}
use Rattle.cmd_program.specs.InHistory.{IsLack, is_by, entries_by, IsNext, IsTurn, RunsIn}
use Rattle.cmd_program.specs.Meaning.{IsAskable}
use Rattle.cmd_program.specs.WriteEnds.{ServesInVain, EndsWell, IsWriteReply, IsExcused, ran_out, IsNotStopped}
use Rattle.cmd_program.proofs.PublicLaws.{ends-or-excused, excused-as, not-stopped, step-askable}
use Rattle.trace_replay.specs.Items.{Placed, Ending, BadRecord, led_by, trace_of, items_limit}
use Rattle.trace_replay.specs.ReplayState.{Pending, ReplayState, Shortage, Nowhere, AtBegin, AtAct, AtStep, is_of, waiting, without, replied, goes_on, next_step, gone_on, begun, noted, noted_at_step, outcomes_at, entries_at, entries_after, new_entry, acted, noted_act, did, ran, item_fits, has_no_room, outcome_of, at_first}
use Rattle.trace_replay.specs.ReplayState as state
use Rattle.trace_replay.specs.Played.{played, played_after, play, shortage_for, shortages_behind}
use Rattle.trace_replay.specs.Replayed.{IsHistory}
use Rattle.trace_replay.proofs.SoundHistory.{Sound, sound-none, sound-after, sound-at, few-after, few-at, Lack, Lacks, never-in-vain}
use Rattle.trace_replay.specs.Ended.{Ended, ended_by, ended_now, ended_at_act, ended_at_run, ended_at, ended_in, ended_after, ended, IsKeptTo}

-- ---- the run of a command, and the history at its end

abbrev RunsTo : Configuration → ℕ → Program → List Entry → List Outcome → List Entry → Type 0
RunsTo config nexus p before [] after = before ≡ after
RunsTo config nexus p before (Outcome.Answered told ∷ os) after =
    IsTurn config nexus before (next p) told (λ h. RunsTo config nexus (go_on_by p told) h os after)
RunsTo config nexus p before (Outcome.Full ∷ os) after =
    IsLack (Lacks config nexus) before (next p) × RunsTo config nexus (give_up p Reply.Full) before os after
RunsTo config nexus p before (Outcome.NoMemory ∷ os) after = RunsTo config nexus (give_up p Reply.Busy) before os after

runs-in : (config : Configuration) (nexus : ℕ) (p : Program) (before : List Entry) (os : List Outcome) (after : List Entry)
    → RunsTo config nexus p before os after → RunsIn config nexus (Lacks config nexus) p before os
runs-in config nexus p before [] after run = tt
runs-in config nexus p before (Outcome.Answered told ∷ os) after run = go (λ h r. runs-in config nexus (go_on_by p told) h os after r) (next p) run
  where
    go : ((h : List Entry) → RunsTo config nexus (go_on_by p told) h os after → RunsIn config nexus (Lacks config nexus) (go_on_by p told) h os) → (n : Step)
        → IsTurn config nexus before n told (λ h. RunsTo config nexus (go_on_by p told) h os after)
        → IsTurn config nexus before n told (λ h. RunsIn config nexus (Lacks config nexus) (go_on_by p told) h os)
    go later (Step.Done reply) x = absurd x
    go later (Step.Do unit act) x = (x.0, x.1, x.2, later (before ++ x.0 ++ x.1 ∷ []) x.3)
runs-in config nexus p before (Outcome.Full ∷ os) after run = (run.0, runs-in config nexus (give_up p Reply.Full) before os after run.1)
runs-in config nexus p before (Outcome.NoMemory ∷ os) after run = runs-in config nexus (give_up p Reply.Busy) before os after run

-- more outcomes behind those so far
runs-on : (config : Configuration) (nexus : ℕ) (p : Program) (before : List Entry) (os more : List Outcome) (after later : List Entry)
    → RunsTo config nexus p before os after → RunsTo config nexus (fold moved p os) after more later → RunsTo config nexus p before (os ++ more) later
runs-on config nexus p before [] more after later run on = subst (λ h. RunsTo config nexus p h more later) (sym run) on
runs-on config nexus p before (Outcome.Answered told ∷ os) more after later run on =
    go (λ h r. runs-on config nexus (go_on_by p told) h os more after later r on) (next p) run
  where
    go : ((h : List Entry) → RunsTo config nexus (go_on_by p told) h os after → RunsTo config nexus (go_on_by p told) h (os ++ more) later) → (n : Step)
        → IsTurn config nexus before n told (λ h. RunsTo config nexus (go_on_by p told) h os after)
        → IsTurn config nexus before n told (λ h. RunsTo config nexus (go_on_by p told) h (os ++ more) later)
    go again (Step.Done reply) x = absurd x
    go again (Step.Do unit act) x = (x.0, x.1, x.2, again (before ++ x.0 ++ x.1 ∷ []) x.3)
runs-on config nexus p before (Outcome.Full ∷ os) more after later run on = (run.0, runs-on config nexus (give_up p Reply.Full) before os more after later run.1 on)
runs-on config nexus p before (Outcome.NoMemory ∷ os) more after later run on = runs-on config nexus (give_up p Reply.Busy) before os more after later run on

-- a shortage at the next step adds no entry
step-runs : (config : Configuration) (nexus : ℕ) (p : Program) (h : List Entry) (shortage : Shortage) → RunsTo config nexus p h (noted_at_step shortage) h
step-runs config nexus p h Nowhere = refl
step-runs config nexus p h AtBegin = refl
step-runs config nexus p h AtAct = refl
step-runs config nexus p h AtStep = refl

-- ---- a command that waits has run in the history so far

record Runs (config : Configuration) (entries : List Entry) (p : Pending) : Type 0 where
  before : List Entry
  after : List Entry
  others : List Entry
  run : RunsTo config p.initiator (program config p.request) before p.outcomes after
  whole : after ++ others ≡ entries
  none : entries_by p.initiator others ≡ []
  bytes : AreBytes p.request.out

-- another actor's entry behind it
other-runs : (config : Configuration) (entries : List Entry) (p : Pending) (e : Entry) → is_by p.initiator e ≡ false → Runs config entries p → Runs config (entries ++ e ∷ []) p
other-runs config entries p e other r = record {
  before = r.before;
  after = r.after;
  others = r.others ++ e ∷ [];
  run = r.run;
  whole = sym (append_assoc r.after r.others (e ∷ [])) ∙ ap (λ l. l ++ e ∷ []) r.whole;
  none = filter-append (is_by p.initiator) r.others (e ∷ []) ∙ ap (λ l. l ++ entries_by p.initiator (e ∷ [])) r.none ∙ one;
  bytes = r.bytes;
}
  where
    one : entries_by p.initiator (e ∷ []) ≡ []
    one = ap (λ t. if t then e ∷ [] else []) other

-- more outcomes with no entry
noted-runs : (config : Configuration) (entries : List Entry) (p : Pending) (more : List Outcome) → ((q : Program) (h : List Entry) → RunsTo config p.initiator q h more h)
    → Runs config entries p → Runs config entries (noted p more)
noted-runs config entries p more still r = record {
  before = r.before;
  after = r.after;
  others = r.others;
  run = runs-on config p.initiator (program config p.request) r.before p.outcomes more r.after r.after r.run (still _ r.after);
  whole = r.whole;
  none = r.none;
  bytes = r.bytes;
}

-- its own act, which becomes the next entry
own-runs : (config : Configuration) (entries : List Entry) (p : Pending) (unit moment : ℕ) (act : Act) (shortage : Shortage)
    → next (program_after config p.request p.outcomes) ≡ Step.Do unit act → Runs config entries p
    → Runs config (entries ++ new_entry entries (Actor.Nexus p.initiator) unit moment act ∷ [])
    (noted p (Outcome.Answered (answer config entries unit (Actor.Nexus p.initiator) moment act) ∷ noted_at_step shortage))
own-runs config entries p unit moment act shortage asks r = record {
  before = r.before;
  after = r.after ++ r.others ++ e ∷ [];
  others = [];
  run = runs-on config p.initiator (program config p.request) r.before p.outcomes _ r.after (r.after ++ r.others ++ e ∷ []) r.run
      (subst (λ n. IsTurn config p.initiator r.after n told (λ h. RunsTo config p.initiator (go_on_by (program_after config p.request p.outcomes) told) h (noted_at_step shortage) (r.after ++ r.others ++ e ∷ [])))
      (sym asks) (r.others, e, is, step-runs config p.initiator _ (r.after ++ r.others ++ e ∷ []) shortage));
  whole = append-nil (r.after ++ r.others ++ e ∷ []) ∙ ap (λ l. l ++ e ∷ []) r.whole;
  none = refl;
  bytes = r.bytes;
}
  where
    e : Entry
    e = new_entry entries (Actor.Nexus p.initiator) unit moment act

    told : Answer
    told = answer config entries unit (Actor.Nexus p.initiator) moment act

    is : IsNext config p.initiator r.after r.others (new_entry entries (Actor.Nexus p.initiator) unit moment act) unit act
        (answer config entries unit (Actor.Nexus p.initiator) moment act)
    is = record {
      not_own = r.none;
      actor = refl;
      on_unit = refl;
      asks = refl;
      answered = ap (λ h. answer config h unit (Actor.Nexus p.initiator) moment act) (sym r.whole);
    }

-- its act found no room
full-runs : (config : Configuration) (entries : List Entry) (p : Pending) (unit : ℕ) (act : Act) (shortage : Shortage) → Sound config entries → length entries ≤ 16_777_216
    → has_no_room config entries (Actor.Nexus p.initiator) unit act ≡ true
    → next (program_after config p.request p.outcomes) ≡ Step.Do unit act → Runs config entries p → Runs config entries (noted p (Outcome.Full ∷ noted_at_step shortage))
full-runs config entries p unit act shortage sound few full asks r = record {
  before = r.before;
  after = r.after;
  others = r.others;
  run = runs-on config p.initiator (program config p.request) r.before p.outcomes (Outcome.Full ∷ noted_at_step shortage) r.after r.after r.run
      (subst (IsLack (Lacks config p.initiator) r.after) (sym asks) lack, step-runs config p.initiator (give_up (program_after config p.request p.outcomes) Reply.Full) r.after shortage);
  whole = r.whole;
  none = r.none;
  bytes = r.bytes;
}
  where
    lack : Lack config p.initiator r.after unit act
    lack = record {
      others = r.others;
      none = r.none;
      full = subst (λ l. has_no_room config l (Actor.Nexus p.initiator) unit act ≡ true) (sym r.whole) full;
      sound = subst (Sound config) (sym r.whole) sound;
      few = subst (λ (l : List Entry). length l ≤ 16_777_216) (sym r.whole) few;
    }

-- the act of a Run that memory was there for, with or without room in the record
done-runs : (config : Configuration) (entries : List Entry) (p : Pending) (unit moment : ℕ) (act : Act) (shortage : Shortage) (full : Bool) → Sound config entries → length entries ≤ 16_777_216
    → has_no_room config entries (Actor.Nexus p.initiator) unit act ≡ full
    → next (program_after config p.request p.outcomes) ≡ Step.Do unit act → Runs config entries p
    → Runs config (if full then entries else entries ++ new_entry entries (Actor.Nexus p.initiator) unit moment act ∷ [])
    (noted p ((if full then Outcome.Full else Outcome.Answered (answer config entries unit (Actor.Nexus p.initiator) moment act)) ∷ noted_at_step shortage))
done-runs config entries p unit moment act shortage true sound few is asks r = full-runs config entries p unit act shortage sound few is asks r
done-runs config entries p unit moment act shortage false sound few is asks r = own-runs config entries p unit moment act shortage asks r

-- the act of a Run, whatever comes of it
acted-runs : (config : Configuration) (entries : List Entry) (p : Pending) (unit moment : ℕ) (act : Act) (shortage : Shortage) → Sound config entries → length entries ≤ 16_777_216
    → next (program_after config p.request p.outcomes) ≡ Step.Do unit act → Runs config entries p
    → Runs config (entries_at shortage entries (entries_after config entries (Actor.Nexus p.initiator) unit moment act))
    (noted p (outcomes_at shortage (outcome_of config entries (Actor.Nexus p.initiator) unit moment act)))
acted-runs config entries p unit moment act AtAct sound few asks r = noted-runs config entries p (Outcome.NoMemory ∷ []) (λ q h. refl) r
acted-runs config entries p unit moment act Nowhere sound few asks r =
    done-runs config entries p unit moment act Nowhere (has_no_room config entries (Actor.Nexus p.initiator) unit act) sound few refl asks r
acted-runs config entries p unit moment act AtBegin sound few asks r =
    done-runs config entries p unit moment act AtBegin (has_no_room config entries (Actor.Nexus p.initiator) unit act) sound few refl asks r
acted-runs config entries p unit moment act AtStep sound few asks r =
    done-runs config entries p unit moment act AtStep (has_no_room config entries (Actor.Nexus p.initiator) unit act) sound few refl asks r

-- ---- how its end is as promised

busy-kept : (config : Configuration) (initiator : ℕ) (request : Request) → IsKeptTo config (record { initiator = initiator; request = request; outcomes = Outcome.NoMemory ∷ []; reply = Reply.Busy })
busy-kept config initiator request = λ write. record { well = λ none some. absurd (busy none); not_stopped = λ e. cc }
  where
    busy : true ≡ false → ⊥
    busy e = cc

ends-kept : (config : Configuration) (entries : List Entry) (p : Pending) → Runs config entries p → Each (IsKeptTo config) (ended_now step config p)
ends-kept config entries p r = go (next_step step config p) refl
  where
    run : RunsIn config p.initiator (Lacks config p.initiator) (program config p.request) r.before p.outcomes
    run = runs-in config p.initiator (program config p.request) r.before p.outcomes r.after r.run

    well : (reply : Reply) → next_step step config p ≡ Step.Done reply
        → IsExcused (ServesInVain config p.initiator (Lacks config p.initiator)) (ran_out (program config p.request) p.outcomes) ⊎ EndsWell p.outcomes (step config p.initiator p.request p.outcomes)
        → IsExcused ⊥ (ran_out (program config p.request) p.outcomes) ⊎ IsWriteReply p.outcomes reply
    well reply e (inl excused) = inl (excused-as (ServesInVain config p.initiator (Lacks config p.initiator)) ⊥ (ran_out (program config p.request) p.outcomes) (never-in-vain config p.initiator) excused)
    well reply e (inr ends) = inr (subst (EndsWell p.outcomes) e ends)

    go : (n : Step) → next_step step config p ≡ n → Each (IsKeptTo config) (ended_by p n)
    go (Step.Do unit act) e = tt
    go (Step.Done reply) e = (
      λ write. record {
        well = λ none some. well reply e (ends-or-excused config p.initiator (Lacks config p.initiator) p.request r.before p.outcomes write run none some);
        not_stopped = subst IsNotStopped e (not-stopped config p.initiator (Lacks config p.initiator) p.request r.before p.outcomes write run);
      },
      tt,
    )

-- ---- standings

abbrev AllRun : Configuration → ReplayState → Type 0
AllRun config s = Each (Runs config s.entries) s.pending

-- those of other initiators
others-run : (config : Configuration) (entries : List Entry) (initiator : ℕ) (ps : List Pending) → Each (Runs config entries) ps → Each (Runs config entries) (without initiator ps)
others-run config entries initiator ps all =
    Each-by (Runs config entries) (without initiator ps) (λ p i. Each-in (Runs config entries) ps p all (In-filter (λ (p : Pending). not (is_of initiator p)) ps p i))

-- one of another initiator
is-other : (initiator : ℕ) (p : Pending) (e : Entry) → not (is_of initiator p) ≡ true → e.actor ≡ Actor.Nexus initiator → is_by p.initiator e ≡ false
is-other initiator p e off who = ap (λ a. same_actor a (Actor.Nexus p.initiator)) who ∙ apart (p.initiator == initiator) refl off
  where
    turned : (p.initiator == initiator) ≡ false → (initiator == p.initiator) ≡ false
    turned same = grind (arith, nat_tests)

    apart : (t : Bool) → (p.initiator == initiator) ≡ t → not t ≡ true → (initiator == p.initiator) ≡ false
    apart true same f = cc
    apart false same f = turned same

-- behind an act of the initiator
behind-act : (config : Configuration) (s : ReplayState) (initiator unit moment : ℕ) (act : Act) (shortage : Shortage) → AllRun config s
    → Each (Runs config (acted config s (Actor.Nexus initiator) unit moment act shortage).entries) (without initiator s.pending)
behind-act config s initiator unit moment act shortage all = Each-by _ (without initiator s.pending) (λ p i. one p i)
  where
    e : Entry
    e = new_entry s.entries (Actor.Nexus initiator) unit moment act

    was : (p : Pending) → In p (without initiator s.pending) → Runs config s.entries p
    was p i = Each-in (Runs config s.entries) (without initiator s.pending) p (others-run config s.entries initiator s.pending all) i

    after : (p : Pending) → In p (without initiator s.pending) → (t : Bool) → Runs config (if t then s.entries else s.entries ++ new_entry s.entries (Actor.Nexus initiator) unit moment act ∷ []) p
    after p i true = was p i
    after p i false =
        other-runs config s.entries p (new_entry s.entries (Actor.Nexus initiator) unit moment act)
        (is-other initiator p (new_entry s.entries (Actor.Nexus initiator) unit moment act) (filter-passes (λ (p : Pending). not (is_of initiator p)) s.pending p i) refl) (was p i)

    at : (p : Pending) → (m : Shortage) → Runs config s.entries p
        → Runs config (entries_after config s.entries (Actor.Nexus initiator) unit moment act) p
        → Runs config (entries_at m s.entries (entries_after config s.entries (Actor.Nexus initiator) unit moment act)) p
    at p Nowhere x y = y
    at p AtBegin x y = y
    at p AtAct x y = x
    at p AtStep x y = y

    one : (p : Pending) → In p (without initiator s.pending) → Runs config (entries_at shortage s.entries (entries_after config s.entries (Actor.Nexus initiator) unit moment act)) p
    one p i = at p shortage (was p i) (after p i (has_no_room config s.entries (Actor.Nexus initiator) unit act))

-- a command goes on: it ends, or waits
goes-run : (config : Configuration) (s : ReplayState) (p : Pending) → Each (Runs config s.entries) (without p.initiator s.pending) → Runs config s.entries p → AllRun config (gone_on step config s p)
goes-run config s p rest r = go (next_step step config p)
  where
    go : (n : Step) → AllRun config (goes_on s p n)
    go (Step.Done reply) = rest
    go (Step.Do unit act) = Each-append (Runs config s.entries) (without p.initiator s.pending) (p ∷ []) rest (r, tt)

-- what one item does, and what it ends
record ItemKept (config : Configuration) (left : ℕ) (s : ReplayState) (item : TraceItem) (shortage : Shortage) : Type 0 where
  sound : Sound config (state.after_item step config s item shortage).entries
  few : length (state.after_item step config s item shortage).entries + left ≤ 16_777_216
  run : AllRun config (state.after_item step config s item shortage)
  kept : Each (IsKeptTo config) (ended_at step config s item shortage)

-- the history stands before the next item
record IsReady (config : Configuration) (left : ℕ) (entries : List Entry) : Type 0 where
  sound : Sound config entries
  few : length entries + suc left ≤ 16_777_216

-- a step adds no entry
gone-entries : (s : ReplayState) (p : Pending) (n : Step) → (goes_on s p n).entries ≡ s.entries
gone-entries s p (Step.Done reply) = refl
gone-entries s p (Step.Do unit act) = refl

one-less : (n left : ℕ) → n + suc left ≤ 16_777_216 → n + left ≤ 16_777_216
one-less n left few = omega (arith, few)

within-all : (n left : ℕ) → n + suc left ≤ 16_777_216 → n ≤ 16_777_216
within-all n left few = omega (arith, few)

fresh-runs : (config : Configuration) (entries : List Entry) (initiator : ℕ) (request : Request) (shortage : Shortage) → AreBytes request.out
    → Runs config entries (record { initiator = initiator; request = request; outcomes = noted_at_step shortage })
fresh-runs config entries initiator request shortage bytes = record {
  before = entries;
  after = entries;
  others = [];
  run = step-runs config initiator (program config request) entries shortage;
  whole = append-nil entries;
  none = refl;
  bytes = bytes;
}

begin-kept : (config : Configuration) (left : ℕ) (s : ReplayState) (initiator moment : ℕ) (request : Request) (shortage : Shortage) → IsReady config left s.entries → AreBytes request.out → AllRun config s
    → ItemKept config left s (TraceItem.Begin initiator moment request) shortage
begin-kept config left s initiator moment request shortage ready bytes all = by shortage
  where
    begins : (m : Shortage) → AllRun config (gone_on step config (record s { items = s.items + 1 }) (record { initiator = initiator; request = request; outcomes = noted_at_step m }))
    begins m =
        goes-run config (record s { items = s.items + 1 }) (record { initiator = initiator; request = request; outcomes = noted_at_step m })
        (others-run config s.entries initiator s.pending all) (fresh-runs config s.entries initiator request m bytes)

    ends : (m : Shortage) → Each (IsKeptTo config) (ended_now step config (record { initiator = initiator; request = request; outcomes = noted_at_step m }))
    ends m = ends-kept config s.entries (record { initiator = initiator; request = request; outcomes = noted_at_step m }) (fresh-runs config s.entries initiator request m bytes)

    same : (m : Shortage) → (gone_on step config (record s { items = s.items + 1 }) (record { initiator = initiator; request = request; outcomes = noted_at_step m })).entries ≡ s.entries
    same m = gone-entries (record s { items = s.items + 1 }) (record { initiator = initiator; request = request; outcomes = noted_at_step m })
        (next_step step config (record { initiator = initiator; request = request; outcomes = noted_at_step m }))

    sounds : (m : Shortage) → Sound config (gone_on step config (record s { items = s.items + 1 }) (record { initiator = initiator; request = request; outcomes = noted_at_step m })).entries
    sounds m = subst (Sound config) (sym (same m)) ready.sound

    fews : (m : Shortage) → length (gone_on step config (record s { items = s.items + 1 }) (record { initiator = initiator; request = request; outcomes = noted_at_step m })).entries + left ≤ 16_777_216
    fews m = subst (λ (l : List Entry). length l + left ≤ 16_777_216) (sym (same m)) (one-less (length s.entries) left ready.few)

    by : (m : Shortage) → ItemKept config left s (TraceItem.Begin initiator moment request) m
    by AtBegin = record { sound = ready.sound; few = one-less (length s.entries) left ready.few; run = others-run config s.entries initiator s.pending all; kept = (busy-kept config initiator request, tt) }
    by Nowhere = record { sound = sounds Nowhere; few = fews Nowhere; run = begins Nowhere; kept = ends Nowhere }
    by AtAct = record { sound = sounds AtAct; few = fews AtAct; run = begins AtAct; kept = ends AtAct }
    by AtStep = record { sound = sounds AtStep; few = fews AtStep; run = begins AtStep; kept = ends AtStep }

run-kept : (config : Configuration) (left : ℕ) (s : ReplayState) (initiator moment : ℕ) (shortage : Shortage) → AreUnits config.units → IsReady config left s.entries → AllRun config s
    → ItemKept config left s (TraceItem.Run initiator moment) shortage
run-kept config left s initiator moment shortage units ready all = by (waiting initiator s.pending) refl
  where
    At : Option Pending → Type 0
    At w =
        Sound config (ran step config (record s { items = s.items + 1 }) moment shortage w).entries
        × (length (ran step config (record s { items = s.items + 1 }) moment shortage w).entries + left ≤ 16_777_216)
        × AllRun config (ran step config (record s { items = s.items + 1 }) moment shortage w)
        × Each (IsKeptTo config) (ended_at_run step config s moment shortage w)

    Does : Pending → Step → Type 0
    Does p n =
        Sound config (did step config (record s { items = s.items + 1 }) moment p shortage n).entries
        × (length (did step config (record s { items = s.items + 1 }) moment p shortage n).entries + left ≤ 16_777_216)
        × AllRun config (did step config (record s { items = s.items + 1 }) moment p shortage n)
        × Each (IsKeptTo config) (ended_at_act step config s moment shortage p n)

    does : (p : Pending) → Runs config s.entries p → (n : Step) → next_step step config p ≡ n → Does p n
    does p r (Step.Done reply) e = (ready.sound, one-less (length s.entries) left ready.few, all, tt)
    does p r (Step.Do unit act) e =
        let on = acted-runs config s.entries p unit moment act shortage ready.sound (within-all (length s.entries) left ready.few) e r in
        let run = runs-in config p.initiator (program config p.request) r.before p.outcomes r.after r.run in
        let asked = subst (IsAskable config) e (step-askable config p.initiator (Lacks config p.initiator) p.request r.before p.outcomes units r.bytes run) in
        let same = gone-entries (acted config (record s { items = s.items + 1 }) (Actor.Nexus p.initiator) unit moment act shortage) (noted_act config s p unit moment act shortage)
        (next_step step config (noted_act config s p unit moment act shortage)) in (
          subst (Sound config) (sym same) (sound-at config s.entries (Actor.Nexus p.initiator) unit moment act ready.sound asked.configured asked.limits (asked.asked p.initiator) shortage),
          subst (λ (l : List Entry). length l + left ≤ 16_777_216) (sym same) (few-at config s.entries (Actor.Nexus p.initiator) unit moment act left shortage ready.few),
          goes-run config (acted config (record s { items = s.items + 1 }) (Actor.Nexus p.initiator) unit moment act shortage) (noted_act config s p unit moment act shortage)
              (behind-act config s p.initiator unit moment act shortage all) on,
          ends-kept config _ (noted_act config s p unit moment act shortage) on,
        )

    found : (w : Option Pending) → waiting initiator s.pending ≡ w → At w
    found None e = (ready.sound, one-less (length s.entries) left ready.few, all, tt)
    found (Some p) e = does p (Each-in (Runs config s.entries) s.pending p all (find-in (is_of initiator) s.pending p e)) (next_step step config p) refl

    by : (w : Option Pending) → waiting initiator s.pending ≡ w → ItemKept config left s (TraceItem.Run initiator moment) shortage
    by w e = let x = found (waiting initiator s.pending) refl in record { sound = x.0; few = x.1; run = x.2; kept = x.3 }

pump-runs : (config : Configuration) (s : ReplayState) (unit moment : ℕ) → AllRun config s
    → Each (Runs config (entries_after config s.entries (Actor.Pump unit) unit moment Act.Pump)) s.pending
pump-runs config s unit moment all = Each-by _ s.pending (λ p i. after p (Each-in (Runs config s.entries) s.pending p all i) (has_no_room config s.entries (Actor.Pump unit) unit Act.Pump))
  where
    after : (p : Pending) → Runs config s.entries p → (t : Bool) → Runs config (if t then s.entries else s.entries ++ new_entry s.entries (Actor.Pump unit) unit moment Act.Pump ∷ []) p
    after p r true = r
    after p r false = other-runs config s.entries p (new_entry s.entries (Actor.Pump unit) unit moment Act.Pump) refl r

-- the data-out of the item is bytes
abbrev HasBytes : TraceItem → Type 0
HasBytes (TraceItem.Begin initiator moment request) = AreBytes request.out
HasBytes (TraceItem.Run initiator moment) = Unit {0}
HasBytes (TraceItem.Pump unit moment) = Unit {0}

item-kept : (config : Configuration) (left : ℕ) (s : ReplayState) (item : TraceItem) (shortage : Shortage) → AreUnits config.units → IsReady config left s.entries → HasBytes item → item_fits config s item ≡ true
    → AllRun config s → ItemKept config left s item shortage
item-kept config left s (TraceItem.Begin initiator moment request) shortage units ready bytes fit all = begin-kept config left s initiator moment request shortage ready bytes all
item-kept config left s (TraceItem.Run initiator moment) shortage units ready bytes fit all = run-kept config left s initiator moment shortage units ready all
item-kept config left s (TraceItem.Pump unit moment) shortage units ready bytes fit all = record {
  sound = sound-after config s.entries (Actor.Pump unit) unit moment Act.Pump ready.sound (ltb-true unit (length config.units) fit) refl (eq-eqb unit unit refl);
  few = few-after config s.entries (Actor.Pump unit) unit moment Act.Pump left ready.few;
  run = pump-runs config s unit moment all;
  kept = tt;
}

-- ---- the whole trace

record PlayKept (config : Configuration) (s : ReplayState) (xs : List Placed) (ending : Ending) (shortages : List Shortage) : Type 0 where
  legal : IsLegal config (play step config s xs ending shortages).state.entries
  kept : Each (IsKeptTo config) (ended_in step config s xs shortages)

-- an item, and those behind it
more-kept : (config : Configuration) (left : ℕ) (s : ReplayState) (x : Placed) (xs : List Placed) (ending : Ending) (shortages : List Shortage) → Sound config s.entries
    → (item_fits config s x.item ≡ true → ItemKept config left s x.item (shortage_for x.item shortages)
    × PlayKept config (state.after_item step config s x.item (shortage_for x.item shortages)) xs ending (shortages_behind x.item shortages))
    → PlayKept config s (x ∷ xs) ending shortages
more-kept config left s x xs ending shortages sound both-of = let r = by (item_fits config s x.item) refl in record { legal = r.0; kept = r.1 }
  where
    by : (t : Bool) → item_fits config s x.item ≡ t
        → IsLegal config (if t then play step config (state.after_item step config s x.item (shortage_for x.item shortages)) xs ending (shortages_behind x.item shortages)
        else record { state = s; ending = BadRecord x.place }).state.entries
        × Each (IsKeptTo config) (if t then ended_at step config s x.item (shortage_for x.item shortages)
        ++ ended_in step config (state.after_item step config s x.item (shortage_for x.item shortages)) xs (shortages_behind x.item shortages) else [])
    by true fit = let both = both-of fit in (
      both.1.legal,
      Each-append (IsKeptTo config) (ended_at step config s x.item (shortage_for x.item shortages))
          (ended_in step config (state.after_item step config s x.item (shortage_for x.item shortages)) xs (shortages_behind x.item shortages)) both.0.kept both.1.kept,
    )
    by false fit = (sound.legal, tt)

play-kept : (config : Configuration) (s : ReplayState) (xs : List Placed) (ending : Ending) (shortages : List Shortage) → AreUnits config.units → Sound config s.entries
    → length s.entries + length xs ≤ 16_777_216 → Each (λ (x : Placed). HasBytes x.item) xs → AllRun config s → PlayKept config s xs ending shortages
play-kept config s [] ending shortages units sound few bytes all = record { legal = sound.legal; kept = tt }
play-kept config s (x ∷ xs) ending shortages units sound few bytes all =
    more-kept config (length xs) s x xs ending shortages sound (λ fit.
    let one = item-kept config (length xs) s x.item (shortage_for x.item shortages) units (record { sound = sound; few = few }) bytes.0 fit all in
    (one, play-kept config (state.after_item step config s x.item (shortage_for x.item shortages)) xs ending (shortages_behind x.item shortages) units one.sound one.few bytes.1 one.run))

-- ---- what its bytes say

items-few : (n place : ℕ) (bytes : List ℕ) → length (trace_of n place bytes).items ≤ n
items-few n place [] = omega arith
items-few zero place (b ∷ bs) = omega arith
items-few (suc n) place (b ∷ bs) = go (read_item (b ∷ bs)) (λ used. items-few n (place + used) (drop used (b ∷ bs)))
  where
    go : (p : Parsed TraceItem) → ((used : ℕ) → length (trace_of n (place + used) (drop used (b ∷ bs))).items ≤ n)
        → length (led_by place p (λ used. trace_of n (place + used) (drop used (b ∷ bs)))).items ≤ suc n
    go (Whole item used) later = let low = later used in omega (arith, low)
    go Short later = omega arith
    go (Bad fault) later = omega arith

item-bytes : (item : TraceItem) → IsItem item → HasBytes item
item-bytes (TraceItem.Begin initiator moment request) is = is.2.out.1
item-bytes (TraceItem.Run initiator moment) is = tt
item-bytes (TraceItem.Pump unit moment) is = tt

items-bytes : IsSpelledSo IsItem item_bytes read_item → (n place : ℕ) (bytes : List ℕ) → AreBytes bytes → Each (λ (x : Placed). HasBytes x.item) (trace_of n place bytes).items
items-bytes spelled n place [] are = tt
items-bytes spelled zero place (b ∷ bs) are = tt
items-bytes spelled (suc n) place (b ∷ bs) are =
    go (read_item (b ∷ bs)) refl (λ used. items-bytes spelled n (place + used) (drop used (b ∷ bs)) (All-drop (λ x. x < 256) used (b ∷ bs) are))
  where
    go : (p : Parsed TraceItem) → read_item (b ∷ bs) ≡ p → ((used : ℕ) → Each (λ (x : Placed). HasBytes x.item) (trace_of n (place + used) (drop used (b ∷ bs))).items)
        → Each (λ (x : Placed). HasBytes x.item) (led_by place p (λ used. trace_of n (place + used) (drop used (b ∷ bs)))).items
    go (Whole item used) is later = (item-bytes item (spelled (b ∷ bs) item used are is).0, later used)
    go Short is later = tt
    go (Bad fault) is later = tt

-- the readers read what was spelled so
pub record Spelled : Type 0 where
  pub headers : IsSpelledSo IsConfig header_bytes read_header
  pub items : IsSpelledSo IsItem item_bytes read_item

from-none : (n : ℕ) → n ≤ 16_777_216 → 0 + n ≤ 16_777_216
from-none n low = omega (arith, low)

whole-kept : Spelled → (bytes : List ℕ) (shortages : List Shortage) (config : Configuration) (used : ℕ) → AreBytes bytes → read_header bytes ≡ Whole config used
    → PlayKept config at_first (trace_of items_limit used (drop used bytes)).items (trace_of items_limit used (drop used bytes)).ending shortages
whole-kept spelled bytes shortages config used are read =
    play-kept config at_first (trace_of items_limit used (drop used bytes)).items (trace_of items_limit used (drop used bytes)).ending shortages
    (spelled.headers bytes config used are read).0.units (sound-none config) (from-none (length (trace_of items_limit used (drop used bytes)).items) (items-few items_limit used (drop used bytes)))
    (items-bytes spelled.items items_limit used (drop used bytes) (All-drop (λ x. x < 256) used bytes are)) tt

pub played-legal : Spelled → (bytes : List ℕ) (shortages : List Shortage) → AreBytes bytes → IsHistory bytes (played step bytes shortages)
played-legal spelled bytes shortages are config used read =
    subst (λ p. IsLegal config (played_after step p bytes shortages).state.entries) (sym read) (whole-kept spelled bytes shortages config used are read).legal

pub writes-kept : Spelled → (bytes : List ℕ) (shortages : List Shortage) (config : Configuration) (used : ℕ) → AreBytes bytes → read_header bytes ≡ Whole config used
    → All (IsKeptTo config) (ended step bytes shortages)
writes-kept spelled bytes shortages config used are read =
    Each-all (IsKeptTo config) (ended step bytes shortages)
    (subst (λ p. Each (IsKeptTo config) (ended_after step p bytes shortages)) (sym read) (whole-kept spelled bytes shortages config used are read).kept)
