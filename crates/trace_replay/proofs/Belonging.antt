-- A command that was refused memory is answered BUSY, or waits
use Rattle.std.proofs.Common.{◌≡◌, ℕ, ◌+◌, List, [], ◌∷◌, ◌++◌, drop, refl, ap, sym, ◌∙◌, subst, true, false, Bool, inl, inr}
use Rattle.std.specs.Prelude.{cond, find, not, ◌⊎◌, ◌&&◌, ◌==◌, Option, Some, None, is_some}
use Rattle.std.proofs.lemmas.Bool.{cases_eq, eq-eqb, eqb-true}
use Rattle.cm_base.specs.Configuration.{Configuration}
use Rattle.cm_base.specs.declared.parsed.Parsed.{Parsed}
use Rattle.cm_base.specs.declared.parsed.Parsed.TheVariants.{Whole, Short, Bad}
use Rattle.cm_history.specs.declared.act.Actor.{Actor}
use Rattle.cm_history.specs.History.{answer}
use Rattle.cm_history.proofs.PublicLaws.{both as both-true}
use Rattle.cm_frame.specs.declared.frame.Request.{Request}
use Rattle.cm_frame.specs.declared.frame.Reply.{Reply}
use Rattle.cm_frame.specs.declared.item.TraceItem.{TraceItem}
use Rattle.cm_frame.specs.Reading.{read_header}
use Rattle.cmd_program.specs.declared.step.Outcome.{Outcome}
use Rattle.cmd_program.specs.declared.step.Step.{Step}
use Rattle.cmd_program.specs.Stepping.{Stepping, gave_up, gives_up}
use Rattle.cmd_program.proofs.PublicLaws.{IsBusyAtEnd, EndsBusy}
use Rattle.trace_replay.specs.Items.{Ending, BadRecord, Placed, trace_of, items_limit}
use Rattle.trace_replay.specs.ReplayState.{Pending, ReplayState, Shortage, Nowhere, AtBegin, AtAct, AtStep, at_first, waiting, without, noted, replied, goes_on, next_step, gone_on, begun, acted, noted_at_step, noted_act, outcomes_at, outcome_of, has_no_room, did, ran, after_item, item_fits}
use Rattle.trace_replay.specs.Played.{play, shortage_for, shortages_behind}
use Rattle.trace_replay.specs.Ended.{Ended, ended_by, ended_now, ended_at_begin, ended_at_act, ended_at_run, ended_at, ended_in}
use Rattle.trace_replay.specs.Shortages.{is_no_shortage, allowed_at_act, allowed_at_run, is_allowed, are_allowed, may_lack, allowed_after}
use Rattle.trace_replay.specs.Belonging.{first_of, WaitsInWant, IsBusyOrWaits, IsShown, AreShown, AreShownAfter, RefusalsAreShown}
use Rattle.trace_replay.proofs.ShownShortages.{Wanted, Waits, wanted-any, same-number, waits-last, waits-beside, find-of, wanted-more, wanted-at-act, wanted-at-step}

-- the command of the initiator is among those that ended, BUSY; or none of its is, and it waits
abbrev Becomes : ℕ → List Ended → ReplayState → Type 0
Becomes i front after =
    ((e : Ended) × (first_of i front ≡ Some e) × (e.reply ≡ Reply.Busy)) ⊎ ((first_of i front ≡ None) × ((p : Pending) × (waiting i after.pending ≡ Some p) × Wanted p))

first-own : (e : Ended) (i : ℕ) → e.initiator ≡ i → first_of i (e ∷ []) ≡ Some e
first-own e i same = ap (λ t. cond t (Some e) None) (eq-eqb e.initiator i same)

first-other : (e : Ended) (i : ℕ) → (e.initiator ≡ i → ⊥) → first_of i (e ∷ []) ≡ None
first-other e i other = go (e.initiator == i) refl
  where
    go : (t : Bool) → (e.initiator == i) ≡ t → cond t (Some e) None ≡ None
    go true is = absurd (other (eqb-true e.initiator i is))
    go false is = refl

-- ---- the command goes on

goes-becomes : (s : ReplayState) (p : Pending) (n : Step) → Wanted p → IsBusyAtEnd n → Becomes p.initiator (ended_by p n) (goes_on s p n)
goes-becomes s p (Step.Done reply) w busy = inl (record { initiator = p.initiator; request = p.request; outcomes = p.outcomes; reply = reply }, first-own _ p.initiator refl, busy)
goes-becomes s p (Step.Do unit act) w busy = inr (refl, (p, waits-last p.initiator p s.pending refl, w))

gone-becomes : (step : Stepping) → EndsBusy step → (config : Configuration) (s : ReplayState) (p : Pending) → Wanted p → Becomes p.initiator (ended_now step config p) (gone_on step config s p)
gone-becomes step ends config s p w =
    goes-becomes s p (next_step step config p) w
    (subst (λ os. IsBusyAtEnd (step config p.initiator p.request os)) w.is (ends config p.initiator p.request w.before w.after w.none))

-- another command goes on
goes-beside : (s : ReplayState) (q : Pending) (n : Step) (i : ℕ) (p : Pending) → (i ≡ q.initiator → ⊥) → waiting i s.pending ≡ Some p → Wanted p → Becomes i (ended_by q n) (goes_on s q n)
goes-beside s q (Step.Done reply) i p other there w =
    inr (first-other _ i (λ e. other (sym e)), (p, ap (waiting i) (sym (nothing (without q.initiator s.pending))) ∙ waits-beside i q.initiator p s.pending [] other there, w))
  where
    nothing : (xs : List Pending) → xs ++ [] ≡ xs
    nothing [] = refl
    nothing (x ∷ xs) = ap (λ l. x ∷ l) (nothing xs)
goes-beside s q (Step.Do unit act) i p other there w = inr (refl, (p, waits-beside i q.initiator p s.pending (q ∷ []) other there, w))

-- ---- an item, behind which a command that was refused memory waits or is answered

begun-beside : (step : Stepping) (config : Configuration) (s : ReplayState) (j m : ℕ) (request : Request) (shortage : Shortage) (i : ℕ) (p : Pending)
    → (i ≡ j → ⊥) → waiting i s.pending ≡ Some p → Wanted p → Becomes i (ended_at_begin step config j request shortage) (begun step config s j request shortage)
begun-beside step config s j m request AtBegin i p other there w = goes-beside s (record { initiator = j; request = request; outcomes = Outcome.NoMemory ∷ [] }) (Step.Done Reply.Busy) i p other there w
begun-beside step config s j m request Nowhere i p other there w = goes-beside s (record { initiator = j; request = request; outcomes = [] }) _ i p other there w
begun-beside step config s j m request AtAct i p other there w = goes-beside s (record { initiator = j; request = request; outcomes = [] }) _ i p other there w
begun-beside step config s j m request AtStep i p other there w = goes-beside s (record { initiator = j; request = request; outcomes = Outcome.NoMemory ∷ [] }) _ i p other there w

module _ (step : Stepping) (ends : EndsBusy step) (config : Configuration) (s : ReplayState) (moment : ℕ) (shortage : Shortage) where
  did-becomes : (q : Pending) (n : Step) (i : ℕ) (p : Pending) → (waiting i s.pending ≡ Some p) → waiting q.initiator s.pending ≡ Some q → Wanted p
      → (q.initiator ≡ i) ⊎ (q.initiator ≡ i → ⊥) → Becomes i (ended_at_act step config s moment shortage q n) (did step config (record s { items = s.items + 1 }) moment q shortage n)
  did-becomes q (Step.Done reply) i p there mine w same = inr (refl, (p, there, w))
  did-becomes q (Step.Do unit act) i p there mine w (inl same) =
      let is : p ≡ q = some-one (sym there ∙ subst (λ k. waiting k s.pending ≡ Some q) same mine) in
      subst (λ k. Becomes k (ended_now step config (noted_act config s q unit moment act shortage)) (gone_on step config (acted (config) (record s { items = s.items + 1 }) (Actor.Nexus q.initiator) unit moment act shortage) (noted_act config s q unit moment act shortage))) same
      (gone-becomes step ends config (acted config (record s { items = s.items + 1 }) (Actor.Nexus q.initiator) unit moment act shortage) (noted_act config s q unit moment act shortage)
      (wanted-more q (outcomes_at shortage (outcome_of config s.entries (Actor.Nexus q.initiator) unit moment act)) (subst Wanted is w)))
    where
      some-one : Some p ≡ Some q → p ≡ q
      some-one e = cc
  did-becomes q (Step.Do unit act) i p there mine w (inr other) =
      goes-beside (acted config (record s { items = s.items + 1 }) (Actor.Nexus q.initiator) unit moment act shortage) (noted_act config s q unit moment act shortage)
      (next_step step config (noted_act config s q unit moment act shortage)) i p (λ e. other (sym e)) there w

item-becomes : (step : Stepping) → EndsBusy step → (config : Configuration) (s : ReplayState) (item : TraceItem) (shortage : Shortage) (i : ℕ) (p : Pending)
    → item_fits config s item ≡ true → waiting i s.pending ≡ Some p → Wanted p → Becomes i (ended_at step config s item shortage) (after_item step config s item shortage)
item-becomes step ends config s (TraceItem.Begin j m request) shortage i p fit there w =
    begun-beside step config (record s { items = s.items + 1 }) j m request shortage i p
    (λ same. let mine : waiting j s.pending ≡ Some p = ap (λ k. waiting k s.pending) (sym same) ∙ there in let bad : false ≡ true = ap (λ f. not (is_some f)) (sym mine) ∙ fit in cc)
    there w
item-becomes step ends config s (TraceItem.Run j moment) shortage i p fit there w = go (waiting j s.pending) refl
  where
    go : (found : Option Pending) → waiting j s.pending ≡ found
        → Becomes i (ended_at_run step config s moment shortage found) (ran step config (record s { items = s.items + 1 }) moment shortage found)
    go None e = inr (refl, (p, there, w))
    go (Some q) e =
        let of : q.initiator ≡ j = find-of j s.pending q e in
        did-becomes step ends config s moment shortage q (next_step step config q) i p there (ap (λ k. waiting k s.pending) of ∙ e) w (cases_eq q.initiator i)
item-becomes step ends config s (TraceItem.Pump unit moment) shortage i p fit there w = inr (refl, (p, there, w))

-- ---- the items behind it

first-append : (i : ℕ) (xs ys : List Ended) → first_of i xs ≡ None → first_of i (xs ++ ys) ≡ first_of i ys
first-append i [] ys none = refl
first-append i (x ∷ xs) ys none = go (x.initiator == i) none (λ e. first-append i xs ys e)
  where
    go : (t : Bool) → cond t (Some x) (first_of i xs) ≡ None → (first_of i xs ≡ None → first_of i (xs ++ ys) ≡ first_of i ys) → cond t (Some x) (first_of i (xs ++ ys)) ≡ first_of i ys
    go true e later = cc
    go false e later = later e

first-front : (i : ℕ) (xs ys : List Ended) (e : Ended) → first_of i xs ≡ Some e → first_of i (xs ++ ys) ≡ Some e
first-front i [] ys e is = cc
first-front i (x ∷ xs) ys e is = go (x.initiator == i) is (λ k. first-front i xs ys e k)
  where
    go : (t : Bool) → cond t (Some x) (first_of i xs) ≡ Some e → (first_of i xs ≡ Some e → first_of i (xs ++ ys) ≡ Some e) → cond t (Some x) (first_of i (xs ++ ys)) ≡ Some e
    go true k later = k
    go false k later = later k

waits-so : (i : ℕ) (s : ReplayState) (p : Pending) → waiting i s.pending ≡ Some p → Wanted p → IsBusyOrWaits i None s
waits-so i s p there w = subst WaitsInWant (sym there) (wanted-any p w)

-- what becomes of it, and of the items behind
behind-becomes : (i : ℕ) (front rest : List Ended) (after end : ReplayState) → Becomes i front after
    → ((p : Pending) → waiting i after.pending ≡ Some p → Wanted p → IsBusyOrWaits i (first_of i rest) end) → IsBusyOrWaits i (first_of i (front ++ rest)) end
behind-becomes i front rest after end (inl b) later = subst (λ f. IsBusyOrWaits i f end) (sym (first-front i front rest b.0 b.1)) b.2
behind-becomes i front rest after end (inr b) later = subst (λ f. IsBusyOrWaits i f end) (sym (first-append i front rest b.0)) (later b.1.0 b.1.1 b.1.2)

play-becomes : (step : Stepping) → EndsBusy step → (config : Configuration) (s : ReplayState) (xs : List Placed) (ending : Ending) (shortages : List Shortage) (i : ℕ) (p : Pending)
    → waiting i s.pending ≡ Some p → Wanted p → IsBusyOrWaits i (first_of i (ended_in step config s xs shortages)) (play step config s xs ending shortages).state
play-becomes step ends config s [] ending shortages i p there w = waits-so i s p there w
play-becomes step ends config s (x ∷ xs) ending shortages i p there w =
    go (item_fits config s x.item) refl (λ q here v. play-becomes step ends config (after_item step config s x.item (shortage_for x.item shortages)) xs ending (shortages_behind x.item shortages) i q here v)
  where
    go : (t : Bool) → item_fits config s x.item ≡ t
        → ((q : Pending) → waiting i (after_item step config s x.item (shortage_for x.item shortages)).pending ≡ Some q → Wanted q
        → IsBusyOrWaits i (first_of i (ended_in step config (after_item step config s x.item (shortage_for x.item shortages)) xs (shortages_behind x.item shortages)))
        (play step config (after_item step config s x.item (shortage_for x.item shortages)) xs ending (shortages_behind x.item shortages)).state)
        → IsBusyOrWaits i (first_of i (cond t (ended_at step config s x.item (shortage_for x.item shortages)
        ++ ended_in step config (after_item step config s x.item (shortage_for x.item shortages)) xs (shortages_behind x.item shortages)) []))
        (cond t (play step config (after_item step config s x.item (shortage_for x.item shortages)) xs ending (shortages_behind x.item shortages)) (record { state = s; ending = BadRecord x.place })).state
    go false fit later = waits-so i s p there w
    go true fit later =
        behind-becomes i (ended_at step config s x.item (shortage_for x.item shortages)) _ (after_item step config s x.item (shortage_for x.item shortages)) _
        (item-becomes step ends config s x.item (shortage_for x.item shortages) i p fit there w) later

-- ---- the item at which memory was refused

begun-short : (step : Stepping) → EndsBusy step → (config : Configuration) (s : ReplayState) (j m : ℕ) (request : Request) (shortage : Shortage)
    → is_allowed step config s (TraceItem.Begin j m request) shortage ≡ true → is_no_shortage shortage ≡ false
    → Becomes j (ended_at_begin step config j request shortage) (begun step config (record s { items = s.items + 1 }) j request shortage)
begun-short step ends config s j m request Nowhere may some = cc
begun-short step ends config s j m request AtAct may some = cc
begun-short step ends config s j m request AtBegin may some = inl (record { initiator = j; request = request; outcomes = Outcome.NoMemory ∷ []; reply = Reply.Busy }, first-own _ j refl, refl)
begun-short step ends config s j m request AtStep may some =
    gone-becomes step ends config (record s { items = s.items + 1 }) (record { initiator = j; request = request; outcomes = Outcome.NoMemory ∷ [] })
    (record { before = []; after = []; none = refl; is = refl })

did-short-becomes : (step : Stepping) → EndsBusy step → (config : Configuration) (s : ReplayState) (moment : ℕ) (p : Pending) (shortage : Shortage) (n : Step)
    → gave_up p.outcomes ≡ false → allowed_at_act config s.entries (Actor.Nexus p.initiator) shortage n ≡ true → is_no_shortage shortage ≡ false
    → Becomes p.initiator (ended_at_act step config s moment shortage p n) (did step config (record s { items = s.items + 1 }) moment p shortage n)
did-short-becomes step ends config s moment p shortage (Step.Done reply) none may some = cc
did-short-becomes step ends config s moment p Nowhere (Step.Do unit act) none may some = cc
did-short-becomes step ends config s moment p AtBegin (Step.Do unit act) none may some = cc
did-short-becomes step ends config s moment p AtAct (Step.Do unit act) none may some =
    gone-becomes step ends config (acted config (record s { items = s.items + 1 }) (Actor.Nexus p.initiator) unit moment act AtAct) (noted_act config s p unit moment act AtAct)
    (wanted-at-act p (outcome_of config s.entries (Actor.Nexus p.initiator) unit moment act) none)
did-short-becomes step ends config s moment p AtStep (Step.Do unit act) none may some =
    gone-becomes step ends config (acted config (record s { items = s.items + 1 }) (Actor.Nexus p.initiator) unit moment act AtStep) (noted_act config s p unit moment act AtStep)
    (wanted-at-step p (outcome_of config s.entries (Actor.Nexus p.initiator) unit moment act) none (answered (has_no_room config s.entries (Actor.Nexus p.initiator) unit act) (Outcome.Answered (answer config s.entries unit (Actor.Nexus p.initiator) moment act)) may refl))
  where
    answered : (full : Bool) (o : Outcome) → not full ≡ true → gives_up o ≡ false → gives_up (cond full Outcome.Full o) ≡ false
    answered true o m g = cc
    answered false o m g = g

ran-short-becomes : (step : Stepping) → EndsBusy step → (config : Configuration) (s : ReplayState) (j moment : ℕ) (shortage : Shortage) (found : Option Pending) → waiting j s.pending ≡ found
    → is_some found ≡ true → allowed_at_run step config s shortage found ≡ true → is_no_shortage shortage ≡ false
    → Becomes j (ended_at_run step config s moment shortage found) (ran step config (record s { items = s.items + 1 }) moment shortage found)
ran-short-becomes step ends config s j moment shortage None e there may some = cc
ran-short-becomes step ends config s j moment shortage (Some p) e there may some =
    subst (λ k. Becomes k (ended_at_act step config s moment shortage p (next_step step config p)) (did step config (record s { items = s.items + 1 }) moment p shortage (next_step step config p)))
    (find-of j s.pending p e) (go (gave_up p.outcomes) refl may)
  where
    go : (t : Bool) → gave_up p.outcomes ≡ t → cond t (is_no_shortage shortage) (allowed_at_act config s.entries (Actor.Nexus p.initiator) shortage (next_step step config p)) ≡ true
        → Becomes p.initiator (ended_at_act step config s moment shortage p (next_step step config p)) (did step config (record s { items = s.items + 1 }) moment p shortage (next_step step config p))
    go true e m = cc
    go false e m = did-short-becomes step ends config s moment p shortage (next_step step config p) e m some

-- ---- the whole trace

play-shown : (step : Stepping) → EndsBusy step → (config : Configuration) (s : ReplayState) (xs : List Placed) (ending : Ending) (shortages : List Shortage)
    → are_allowed step config s xs shortages ≡ true → AreShown step config s xs ending shortages
play-shown step ends config s [] ending shortages may = tt
play-shown step ends config s (x ∷ xs) ending shortages may = λ fit.
    let both = allowed fit in (
      one x.item refl fit both.0,
      play-shown step ends config (after_item step config s x.item (shortage_for x.item shortages)) xs ending (shortages_behind x.item shortages) both.1,
    )
  where
    allowed : item_fits config s x.item ≡ true → (is_allowed step config s x.item (shortage_for x.item shortages) ≡ true)
        × (are_allowed step config (after_item step config s x.item (shortage_for x.item shortages)) xs (shortages_behind x.item shortages) ≡ true)
    allowed fit = both-true _ _ (subst (λ t. cond t (is_allowed step config s x.item (shortage_for x.item shortages)
        && are_allowed step config (after_item step config s x.item (shortage_for x.item shortages)) xs (shortages_behind x.item shortages)) true ≡ true) fit may)

    -- the item, and all behind it
    from : (i : ℕ) → item_fits config s x.item ≡ true → Becomes i (ended_at step config s x.item (shortage_for x.item shortages)) (after_item step config s x.item (shortage_for x.item shortages))
        → IsBusyOrWaits i (first_of i (ended_in step config s (x ∷ xs) shortages)) (play step config s (x ∷ xs) ending shortages).state
    from i fit becomes =
        subst (λ t. IsBusyOrWaits i (first_of i (cond t (ended_at step config s x.item (shortage_for x.item shortages)
        ++ ended_in step config (after_item step config s x.item (shortage_for x.item shortages)) xs (shortages_behind x.item shortages)) []))
        (cond t (play step config (after_item step config s x.item (shortage_for x.item shortages)) xs ending (shortages_behind x.item shortages)) (record { state = s; ending = BadRecord x.place })).state) (sym fit)
        (behind-becomes i (ended_at step config s x.item (shortage_for x.item shortages)) _ (after_item step config s x.item (shortage_for x.item shortages)) _ becomes
        (λ p there w. play-becomes step ends config (after_item step config s x.item (shortage_for x.item shortages)) xs ending (shortages_behind x.item shortages) i p there w))

    one : (item : TraceItem) → x.item ≡ item → item_fits config s x.item ≡ true → is_allowed step config s x.item (shortage_for x.item shortages) ≡ true
        → IsShown x.item (shortage_for x.item shortages) (ended_in step config s (x ∷ xs) shortages) (play step config s (x ∷ xs) ending shortages).state
    one (TraceItem.Pump unit moment) is fit ok =
        subst (λ k. IsShown k (shortage_for x.item shortages) (ended_in step config s (x ∷ xs) shortages) (play step config s (x ∷ xs) ending shortages).state) (sym is) tt
    one (TraceItem.Begin j m request) is fit ok =
        subst (λ k. IsShown k (shortage_for x.item shortages) (ended_in step config s (x ∷ xs) shortages) (play step config s (x ∷ xs) ending shortages).state) (sym is)
        (λ some. from j fit (subst (λ k. Becomes j (ended_at step config s k (shortage_for x.item shortages)) (after_item step config s k (shortage_for x.item shortages))) (sym is)
        (begun-short step ends config s j m request (shortage_for x.item shortages) (subst (λ k. is_allowed step config s k (shortage_for x.item shortages) ≡ true) is ok) some)))
    one (TraceItem.Run j moment) is fit ok =
        subst (λ k. IsShown k (shortage_for x.item shortages) (ended_in step config s (x ∷ xs) shortages) (play step config s (x ∷ xs) ending shortages).state) (sym is)
        (λ some. from j fit (subst (λ k. Becomes j (ended_at step config s k (shortage_for x.item shortages)) (after_item step config s k (shortage_for x.item shortages))) (sym is)
        (ran-short-becomes step ends config s j moment (shortage_for x.item shortages) (waiting j s.pending) refl (subst (λ k. item_fits config s k ≡ true) is fit)
        (subst (λ k. is_allowed step config s k (shortage_for x.item shortages) ≡ true) is ok) some)))

pub refusals-shown : (step : Stepping) → EndsBusy step → (bytes : List ℕ) (shortages : List Shortage) → may_lack step bytes shortages ≡ true → RefusalsAreShown step bytes shortages
refusals-shown step ends bytes shortages may = go (read_header bytes) may
  where
    go : (p : Parsed Configuration) → allowed_after step p bytes shortages ≡ true → AreShownAfter step p bytes shortages
    go Short m = tt
    go (Bad place) m = tt
    go (Whole config used) m = play-shown step ends config at_first (trace_of items_limit used (drop used bytes)).items (trace_of items_limit used (drop used bytes)).ending shortages m
