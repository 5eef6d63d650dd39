-- How things stand after one more item
use Rattle.std.proofs.Common.{◌≡◌, ℕ, ◌+◌, List, [], ◌∷◌, ◌++◌, length, refl, ap, sym, ◌∙◌, subst, true, false, Bool, inl, inr, append-nil, append_assoc, Less, Equal, Greater}
use Rattle.std.specs.Prelude.{cond, not, ◌⊎◌, ◌==◌, is_some, nat_lt, flat_map, Option, Some, None, Result, Ok, Err, OnOk}
use Rattle.std.specs.Ordering.{nat_cmp, is_eq}
use Rattle.std.specs.BTreeMap.{get}
use Rattle.std.proofs.lemmas.Bool.{cases_eq, eqb-true, eq-eqb, ne_eqb}
use Rattle.cm_base.specs.Configuration.{Configuration}
use Rattle.cm_history.specs.declared.act.Act.{Act}
use Rattle.cm_history.specs.declared.act.Actor.{Actor}
use Rattle.cm_frame.specs.declared.frame.Request.{Request}
use Rattle.cm_frame.specs.declared.frame.Reply.{Reply}
use Rattle.cm_frame.specs.declared.item.TraceItem.{TraceItem}
use Rattle.cmd_program.specs.declared.step.Step.{Step}
use Rattle.cmd_program.specs.declared.step.Outcome.{Outcome}
use Rattle.cmd_program.specs.Judging.{step}
use Rattle.cmd_machine.specs.declared.command.CommandOf.{CommandOf}
use Rattle.cmd_machine.specs.Rest.{StandsFor}
use Rattle.any_cmds.specs.declared.phase.AnyPhase.{AnyPhase}
use Rattle.any_cmds.specs.Meaning.{by_any}
use Rattle.trace_replay.specs.ReplayState.{Pending, ReplayState, AddressedReply, Nowhere, is_of, waiting, without, entries_after, outcome_of, next_step, goes_on, gone_on, acted, noted_act, did, ran, after_item, item_fits}
use Rattle.trace_replay.specs.Played.{addressed_bytes, output_of}
use Rattle.trace_check.specs.declared.machine.Waiting.{Waiting}
use Rattle.trace_check.specs.declared.machine.Machine.{Machine}
use Rattle.trace_check.specs.inner.Machines.{IsWaiting, WaitsFor, HasDone, IsStanding, StandsBeside}

-- ---- who waits

same-number : (i : ℕ) → (i == i) ≡ true
same-number i = eq-eqb i i refl

waits-none : (i : ℕ) (xs : List Pending) → waiting i (without i xs) ≡ None
waits-none i [] = refl
waits-none i (x ∷ xs) = go (is_of i x) refl (waits-none i xs)
  where
    go : (t : Bool) → is_of i x ≡ t → waiting i (without i xs) ≡ None → waiting i (cond (not t) (x ∷ without i xs) (without i xs)) ≡ None
    go true e ih = ih
    go false e ih = rw e ih

-- others come and go, and what waits is the same
waits-so : (i j : ℕ) (xs more : List Pending) → (i ≡ j → ⊥) → waiting i more ≡ None → waiting i (without j xs ++ more) ≡ waiting i xs
waits-so i j [] more other none = none
waits-so i j (x ∷ xs) more other none = go (is_of i x) refl (is_of j x) refl (waits-so i j xs more other none)
  where
    go : (t : Bool) → is_of i x ≡ t → (u : Bool) → is_of j x ≡ u → waiting i (without j xs ++ more) ≡ waiting i xs
        → waiting i (cond (not u) (x ∷ without j xs) (without j xs) ++ more) ≡ cond t (Some x) (waiting i xs)
    go true a true b ih = absurd (other (sym (eqb-true x.initiator i a) ∙ eqb-true x.initiator j b))
    go true a false b ih = rw a refl
    go false a true b ih = ih
    go false a false b ih = rw a ih

waits-last : (i : ℕ) (p : Pending) (xs : List Pending) → p.initiator ≡ i → waiting i (without i xs ++ p ∷ []) ≡ Some p
waits-last i p [] e = let t : (p.initiator == i) ≡ true = ap (λ n. n == i) e ∙ same-number i in rw t refl
waits-last i p (x ∷ xs) e = go (is_of i x) refl (waits-last i p xs e)
  where
    go : (t : Bool) → is_of i x ≡ t → waiting i (without i xs ++ p ∷ []) ≡ Some p
        → waiting i (cond (not t) (x ∷ without i xs) (without i xs) ++ p ∷ []) ≡ Some p
    go true k ih = ih
    go false k ih = rw k ih

pub find-of : (i : ℕ) (xs : List Pending) (p : Pending) → waiting i xs ≡ Some p → p.initiator ≡ i
find-of i [] p e = cc
find-of i (x ∷ xs) p e = go (is_of i x) refl e (λ k. find-of i xs p k)
  where
    go : (t : Bool) → is_of i x ≡ t → cond t (Some x) (waiting i xs) ≡ Some p → (waiting i xs ≡ Some p → p.initiator ≡ i) → p.initiator ≡ i
    go true a k ih = let same : x ≡ p = cc in ap (λ (q : Pending). q.initiator) (sym same) ∙ eqb-true x.initiator i a
    go false a k ih = ih k

pub not-at : (i q : ℕ) → (q ≡ i → ⊥) → is_eq (nat_cmp i q) ≡ false
not-at i q other = by (nat_lt i q)
  where
    apart : (i == q) ≡ false
    apart = ne_eqb i q (λ e. other (sym e))

    by : (t : Bool) → is_eq (cond t Less (cond (i == q) Equal Greater)) ≡ false
    by true = refl
    by false = rw apart refl

-- nothing waits of an initiator exactly where its commands are done
pub waits-alike : (config : Configuration) (w : Option Waiting) (p : Option Pending) → WaitsFor config w p → is_some w ≡ is_some p
waits-alike config None None is = refl
waits-alike config (Some w) (Some p) is = refl
waits-alike config None (Some p) is = absurd is
waits-alike config (Some w) None is = absurd is

-- ---- a command goes on

module _ (config : Configuration) (i : ℕ) (s : ReplayState) (m m' : Machine) (p : Pending) (of : p.initiator ≡ i) (b : StandsBeside config i s m) where
  -- the command is answered
  pub answered : (reply : Reply) → next_step step config p ≡ Step.Done reply → m'.units ≡ m.units → m'.waiting ≡ m.waiting
      → m'.replies.items ≡ m.replies.items ++ addressed_bytes (record { initiator = i; reply = reply }) → IsStanding config (gone_on step config s p) m'
  answered reply is units same wrote = subst (λ x. IsStanding config (goes_on s p x) m') (sym is) (record {
    done = record {
      told = ap (λ u. u.config) units ∙ b.done.told;
      entries = ap (λ u. u.entries) units ∙ b.done.entries;
      replies = wrote ∙ ap (λ l. l ++ addressed_bytes (record { initiator = i; reply = reply })) b.done.replies
          ∙ ap (λ k. output_of s ++ addressed_bytes (record { initiator = k; reply = reply })) (sym of)
          ∙ sym (output-more s (record { initiator = p.initiator; reply = reply }));
    };
    waits = λ j. subst (λ w. WaitsFor config (get nat_cmp w j) (waiting j (without p.initiator s.pending))) (sym same) (by j (cases_eq j i));
  })
    where
      output-more : (t : ReplayState) (r : AddressedReply) → flat_map addressed_bytes (t.replies ++ r ∷ []) ≡ output_of t ++ addressed_bytes r
      output-more t r = more t.replies
        where
          more : (rs : List AddressedReply) → flat_map addressed_bytes (rs ++ r ∷ []) ≡ flat_map addressed_bytes rs ++ addressed_bytes r
          more [] = append-nil (addressed_bytes r)
          more (x ∷ rs) = ap (λ l. addressed_bytes x ++ l) (more rs) ∙ sym (append_assoc (addressed_bytes x) (flat_map addressed_bytes rs) (addressed_bytes r))

      by : (j : ℕ) → (j ≡ i) ⊎ (j ≡ i → ⊥) → WaitsFor config (get nat_cmp m.waiting j) (waiting j (without p.initiator s.pending))
      by j (inl mine) =
          let none : waiting j (without p.initiator s.pending) ≡ None = ap (λ k. waiting j (without k s.pending)) (of ∙ sym mine) ∙ waits-none j s.pending in
          let free : get nat_cmp m.waiting j ≡ None = ap (get nat_cmp m.waiting) mine ∙ b.free in
          rw (none, free) tt
      by j (inr other) =
          let kept : waiting j (without p.initiator s.pending) ≡ waiting j s.pending =
          ap (waiting j) (sym (append-nil (without p.initiator s.pending))) ∙ waits-so j p.initiator s.pending [] (λ e. other (e ∙ of)) refl in
          subst (WaitsFor config (get nat_cmp m.waiting j)) (sym kept) (b.others j other)

  -- the command waits
  pub waits-on : (w : Waiting) → next_step step config p ≡ Step.Do w.unit w.act → IsWaiting config w p → m'.units ≡ m.units → m'.replies ≡ m.replies
      → get nat_cmp m'.waiting i ≡ Some w → ((j : ℕ) → is_eq (nat_cmp i j) ≡ false → get nat_cmp m'.waiting j ≡ get nat_cmp m.waiting j)
      → IsStanding config (gone_on step config s p) m'
  waits-on w is waits units replies put rest = subst (λ x. IsStanding config (goes_on s p x) m') (sym is) (record {
    done = record {
      told = ap (λ u. u.config) units ∙ b.done.told;
      entries = ap (λ u. u.entries) units ∙ b.done.entries;
      replies = ap (λ r. r.items) replies ∙ b.done.replies;
    };
    waits = λ j. by j (cases_eq j i);
  })
    where
      by : (j : ℕ) → (j ≡ i) ⊎ (j ≡ i → ⊥) → WaitsFor config (get nat_cmp m'.waiting j) (waiting j (without p.initiator s.pending ++ p ∷ []))
      by j (inl mine) =
          let here : waiting j (without p.initiator s.pending ++ p ∷ []) ≡ Some p =
          ap (λ k. waiting j (without k s.pending ++ p ∷ [])) (of ∙ sym mine) ∙ waits-last j p s.pending (of ∙ sym mine) in
          let there : get nat_cmp m'.waiting j ≡ Some w = ap (get nat_cmp m'.waiting) mine ∙ put in
          rw (here, there) waits
      by j (inr other) =
          let kept : waiting j (without p.initiator s.pending ++ p ∷ []) ≡ waiting j s.pending =
          waits-so j p.initiator s.pending (p ∷ []) (λ e. other (e ∙ of)) (let no : (p.initiator == j) ≡ false = ne_eqb p.initiator j (λ e. other (sym e ∙ of)) in rw no refl) in
          rw (kept, rest j (not-at i j other)) (b.others j other)

-- ---- what an answer that is none says

pub on-ok : {X E : Type 0} (r : Result X E) (P Q : Type 0) → (P → Q) → OnOk r P → OnOk r Q
on-ok (Ok x) P Q f p = f p
on-ok (Err e) P Q f p = tt

-- ---- one item

-- one more item, of an initiator of which nothing waits
pub beside-one : (config : Configuration) (s : ReplayState) (m : Machine) (i : ℕ) → IsStanding config s m → get nat_cmp m.waiting i ≡ None
    → StandsBeside config i (record s { items = s.items + 1 }) m
beside-one config s m i is none = record {
  done = record { told = is.done.told; entries = is.done.entries; replies = is.done.replies };
  free = none;
  others = λ j other. is.waits j;
}

pub none-waiting : (config : Configuration) (s : ReplayState) (m : Machine) (i : ℕ) → IsStanding config s m → is_some (get nat_cmp m.waiting i) ≡ is_some (waiting i s.pending)
none-waiting config s m i is = waits-alike config (get nat_cmp m.waiting i) (waiting i s.pending) (is.waits i)

-- a pump worked once
pub pumped : (config : Configuration) (s : ReplayState) (m m' : Machine) (unit moment : ℕ) → IsStanding config s m → m'.units.config ≡ m.units.config
    → m'.units.entries ≡ entries_after m.units.config m.units.entries (Actor.Pump unit) unit moment Act.Pump → m'.waiting ≡ m.waiting → m'.replies ≡ m.replies
    → IsStanding config (after_item step config s (TraceItem.Pump unit moment) Nowhere) m'
pumped config s m m' unit moment is told entries waits replies = record {
  done = record {
    told = told ∙ is.done.told;
    entries = entries ∙ ap (λ k. entries_after k m.units.entries (Actor.Pump unit) unit moment Act.Pump) is.done.told
        ∙ ap (λ es. entries_after config es (Actor.Pump unit) unit moment Act.Pump) is.done.entries;
    replies = ap (λ r. r.items) replies ∙ is.done.replies;
  };
  waits = λ j. subst (λ w. WaitsFor config (get nat_cmp w j) (waiting j s.pending)) (sym waits) (is.waits j);
}

pub none-of : (w : Option Waiting) → false ≡ is_some w → w ≡ None
none-of None e = refl
none-of (Some w) e = cc

-- the command that waits at an initiator
pub record Waits (config : Configuration) (s : ReplayState) (i : ℕ) (w : Waiting) : Type 0 where
  pub p : Pending
  pub there : waiting i s.pending ≡ Some p
  pub is : IsWaiting config w p

pub waits-there : (config : Configuration) (s : ReplayState) (m : Machine) (i : ℕ) (w : Waiting) → IsStanding config s m → get nat_cmp m.waiting i ≡ Some w → Waits config s i w
waits-there config s m i w is found = go (waiting i s.pending) refl (subst (λ x. WaitsFor config x (waiting i s.pending)) found (is.waits i))
  where
    go : (p : Option Pending) → waiting i s.pending ≡ p → WaitsFor config (Some w) p → Waits config s i w
    go None e h = absurd h
    go (Some p) e h = record { p = p; there = e; is = h }

-- the act of the command was done, and it noted what came of it
module _ (config : Configuration) (s : ReplayState) (m : Machine) (i moment : ℕ) (w : Waiting) (is : IsStanding config s m) (found : get nat_cmp m.waiting i ≡ Some w) where
  pub its : Waits config s i w
  its = waits-there config s m i w is found

  abbrev pub after-act : ReplayState
  after-act = acted config (record s { items = s.items + 1 }) (Actor.Nexus its.p.initiator) w.unit moment w.act Nowhere

  abbrev pub after-note : Pending
  after-note = noted_act config (record s { items = s.items + 1 }) its.p w.unit moment w.act Nowhere

  pub mine : its.p.initiator ≡ i
  mine = find-of i s.pending its.p its.there

  pub beside-act : (m1 : Machine) → m1.units.config ≡ m.units.config → m1.units.entries ≡ entries_after m.units.config m.units.entries (Actor.Nexus i) w.unit moment w.act
      → m1.replies ≡ m.replies → get nat_cmp m1.waiting i ≡ None → ((j : ℕ) → is_eq (nat_cmp i j) ≡ false → get nat_cmp m1.waiting j ≡ get nat_cmp m.waiting j)
      → StandsBeside config i after-act m1
  beside-act m1 told entries replies gone rest = record {
    done = record {
      told = told ∙ is.done.told;
      entries = entries ∙ ap (λ k. entries_after k m.units.entries (Actor.Nexus i) w.unit moment w.act) is.done.told
          ∙ ap (λ es. entries_after config es (Actor.Nexus i) w.unit moment w.act) is.done.entries
          ∙ ap (λ k. entries_after config s.entries (Actor.Nexus k) w.unit moment w.act) (sym mine);
      replies = ap (λ r. r.items) replies ∙ is.done.replies;
    };
    free = gone;
    others = λ j other. subst (λ x. WaitsFor config x (waiting j s.pending)) (sym (rest j (not-at i j other))) (is.waits j);
  }

  -- the command stands so, with the outcome of its act
  pub noted-so : (c : CommandOf AnyPhase) (o : Outcome) → o ≡ outcome_of m.units.config m.units.entries (Actor.Nexus i) w.unit moment w.act
      → StandsFor by_any config c its.p.initiator its.p.request (its.p.outcomes ++ o ∷ []) → StandsFor by_any config c after-note.initiator after-note.request after-note.outcomes
  noted-so c o is_so stands = subst (λ x. StandsFor by_any config c its.p.initiator its.p.request (its.p.outcomes ++ x ∷ [])) same stands
    where
      same : o ≡ outcome_of config s.entries (Actor.Nexus its.p.initiator) w.unit moment w.act
      same = is_so ∙ ap (λ k. outcome_of k m.units.entries (Actor.Nexus i) w.unit moment w.act) is.done.told
          ∙ ap (λ es. outcome_of config es (Actor.Nexus i) w.unit moment w.act) is.done.entries
          ∙ ap (λ k. outcome_of config s.entries (Actor.Nexus k) w.unit moment w.act) (sym mine)

  pub ran-on : (m' : Machine) → IsStanding config (gone_on step config after-act after-note) m' → IsStanding config (after_item step config s (TraceItem.Run i moment) Nowhere) m'
  ran-on m' stands = subst (λ t. IsStanding config t m') (sym same) stands
    where
      same : after_item step config s (TraceItem.Run i moment) Nowhere ≡ gone_on step config after-act after-note
      same =
          ap (ran step config (record s { items = s.items + 1 }) moment Nowhere) its.there
          ∙ ap (did step config (record s { items = s.items + 1 }) moment its.p Nowhere) its.is.asks
