-- Where a shortage stands, a reply or a waiting command shows it
use Rattle.std.proofs.Common.{◌≡◌, ℕ, ◌+◌, ◌<◌, ◌≤◌, List, [], ◌∷◌, ◌++◌, drop, refl, ap, sym, ◌∙◌, subst, arith, true, false, Bool, inl, inr, append_assoc, append-nil}
use Rattle.std.specs.Prelude.{cond, not, ◌⊎◌, ◌&&◌, ◌||◌, ◌==◌, Option, Some, None, is_some, nat_lt, count_by}
use Rattle.std.specs.List.{list_any}
use Rattle.std.proofs.lemmas.List.Sums.{sum_by-append}
use Rattle.std.proofs.lemmas.Bool.{lt-ltb, cases_eq, eq-eqb, eqb-true}
use Rattle.cm_base.specs.Configuration.{Configuration}
use Rattle.cm_history.specs.declared.act.Actor.{Actor}
use Rattle.cm_history.specs.History.{answer}
use Rattle.cm_frame.specs.declared.frame.Request.{Request}
use Rattle.cm_frame.specs.declared.frame.Reply.{Reply}
use Rattle.cm_frame.specs.declared.item.TraceItem.{TraceItem}
use Rattle.cmd_program.specs.declared.step.Outcome.{Outcome}
use Rattle.cmd_program.specs.declared.step.Step.{Step}
use Rattle.cmd_program.specs.Stepping.{Stepping, gives_up, gave_up, is_no_memory}
use Rattle.cmd_program.proofs.PublicLaws.{IsBusyAtEnd, EndsBusy}
use Rattle.trace_replay.specs.ReplayState.{Pending, AddressedReply, ReplayState, is_of, waiting, without, noted, replied, goes_on, gone_on, next_step}
use Rattle.trace_replay.specs.Played.{is_busy_reply, replies_that}
use Rattle.trace_replay.specs.Shortages.{met_want}
use Rattle.cm_base.specs.declared.parsed.Parsed.{Parsed}
use Rattle.cm_base.specs.declared.parsed.Parsed.TheVariants.{Whole, Short, Bad}
use Rattle.cm_frame.specs.Reading.{read_header}
use Rattle.trace_replay.specs.Items.{Ending, BadRecord, Placed, trace_of, items_limit}
use Rattle.trace_replay.specs.ReplayState.{Shortage, Nowhere, AtBegin, AtAct, AtStep, acted, noted_act, begun, did, ran, changed, after_item, item_fits, outcome_of, outcomes_at, has_no_room, at_first}
use Rattle.trace_replay.specs.Played.{played_after, play, shortage_for, shortages_behind}
use Rattle.trace_replay.specs.Shortages.{is_no_shortage, allowed_at_act, allowed_at_run, is_allowed, are_allowed, allowed_after}
use Rattle.trace_replay.proofs.LoopLaws.{ShortagesTell}
use Rattle.trace_replay.proofs.Grows.{Follows, next-follows}
use Rattle.cm_history.proofs.PublicLaws.{both as both-true}

-- ---- words

-- the first outcome at which the command gave up was want of memory
pub record Wanted (p : Pending) : Type 0 where
  pub before : List Outcome
  pub after : List Outcome
  pub none : gave_up before ≡ false
  pub is : before ++ Outcome.NoMemory ∷ after ≡ p.outcomes

-- such a command waits
pub record Waits (s : ReplayState) : Type 0 where
  pub p : Pending
  pub there : waiting p.initiator s.pending ≡ Some p
  pub wanted : Wanted p

abbrev pub HasBusy : ReplayState → Type 0
HasBusy s = 0 < replies_that is_busy_reply s

abbrev pub Shows : ReplayState → Type 0
Shows s = HasBusy s ⊎ Waits s

-- ---- lists

pub any-append : (p : Outcome → Bool) (xs ys : List Outcome) → list_any p (xs ++ ys) ≡ (list_any p xs || list_any p ys)
any-append p [] ys = refl
any-append p (x ∷ xs) ys = go (p x) (any-append p xs ys)
  where
    go : (t : Bool) → list_any p (xs ++ ys) ≡ (list_any p xs || list_any p ys) → (t || list_any p (xs ++ ys)) ≡ ((t || list_any p xs) || list_any p ys)
    go true e = refl
    go false e = e

pub or-true : (b : Bool) → (b || true) ≡ true
or-true true = refl
or-true false = refl

pub wanted-any : (p : Pending) → Wanted p → list_any is_no_memory p.outcomes ≡ true
wanted-any p w = ap (list_any is_no_memory) (sym w.is) ∙ any-append is_no_memory w.before (Outcome.NoMemory ∷ w.after) ∙ or-true (list_any is_no_memory w.before)

find-any : (i : ℕ) (f : Pending → Bool) (xs : List Pending) (p : Pending) → waiting i xs ≡ Some p → f p ≡ true → list_any f xs ≡ true
find-any i f [] p e h = cc
find-any i f (x ∷ xs) p e h = go (is_of i x) e (λ k. find-any i f xs p k h)
  where
    go : (t : Bool) → cond t (Some x) (waiting i xs) ≡ Some p → (waiting i xs ≡ Some p → list_any f xs ≡ true) → (f x || list_any f xs) ≡ true
    go true k ih = let same : x ≡ p = cc in ap (λ b. b || list_any f xs) (ap f same ∙ h)
    go false k ih = rw (ih k) (or-true (f x))

shows-want : (s : ReplayState) → Shows s → met_want s ≡ true
shows-want s (inl busy) = ap (λ b. b || list_any (λ (p : Pending). list_any is_no_memory p.outcomes) s.pending) (lt-ltb 0 _ busy)
shows-want s (inr w) =
    ap (λ b. nat_lt 0 (replies_that is_busy_reply s) || b) (find-any w.p.initiator (λ (p : Pending). list_any is_no_memory p.outcomes) s.pending w.p w.there (wanted-any w.p w.wanted))
    ∙ or-true (nat_lt 0 (replies_that is_busy_reply s))

busy-count : (xs ys : List AddressedReply) → count_by (λ (r : AddressedReply). is_busy_reply r.reply) xs ≤ count_by (λ (r : AddressedReply). is_busy_reply r.reply) (xs ++ ys)
busy-count xs ys = omega (arith, sum_by-append (λ (r : AddressedReply). cond (is_busy_reply r.reply) 1 0) xs ys)

pub busy-follows : (s t : ReplayState) → Follows s t → HasBusy s → HasBusy t
busy-follows s t f busy =
    let more : 0 < count_by (λ (r : AddressedReply). is_busy_reply r.reply) (s.replies ++ f.more) = omega (arith, busy-count s.replies f.more, busy) in
    subst (λ rs. 0 < count_by (λ (r : AddressedReply). is_busy_reply r.reply) rs) f.is more

-- ---- who waits

pub same-number : (i : ℕ) → (i == i) ≡ true
same-number i = eq-eqb i i refl

pub waits-last : (i : ℕ) (p : Pending) (xs : List Pending) → p.initiator ≡ i → waiting i (without i xs ++ p ∷ []) ≡ Some p
waits-last i p [] e = let t : (p.initiator == i) ≡ true = ap (λ n. n == i) e ∙ same-number i in rw t refl
waits-last i p (x ∷ xs) e = go (is_of i x) refl (waits-last i p xs e)
  where
    go : (t : Bool) → is_of i x ≡ t → waiting i (without i xs ++ p ∷ []) ≡ Some p
        → waiting i (cond (not t) (x ∷ without i xs) (without i xs) ++ p ∷ []) ≡ Some p
    go true k ih = ih
    go false k ih = rw k ih

-- others come and go, and the command still waits
pub waits-beside : (i j : ℕ) (p : Pending) (xs more : List Pending) → (i ≡ j → ⊥) → waiting i xs ≡ Some p → waiting i (without j xs ++ more) ≡ Some p
waits-beside i j p [] more other e = cc
waits-beside i j p (x ∷ xs) more other e = go (is_of i x) refl (is_of j x) refl e (λ k. waits-beside i j p xs more other k)
  where
    go : (t : Bool) → is_of i x ≡ t → (u : Bool) → is_of j x ≡ u → cond t (Some x) (waiting i xs) ≡ Some p
        → (waiting i xs ≡ Some p → waiting i (without j xs ++ more) ≡ Some p)
        → waiting i (cond (not u) (x ∷ without j xs) (without j xs) ++ more) ≡ Some p
    go true a true b k ih = absurd (other (sym (eqb-true x.initiator i a) ∙ eqb-true x.initiator j b))
    go true a false b k ih = rw a k
    go false a true b k ih = ih k
    go false a false b k ih = rw a (ih k)

-- the command that is found is of the initiator
pub find-of : (i : ℕ) (xs : List Pending) (p : Pending) → waiting i xs ≡ Some p → p.initiator ≡ i
find-of i [] p e = cc
find-of i (x ∷ xs) p e = go (is_of i x) refl e (λ k. find-of i xs p k)
  where
    go : (t : Bool) → is_of i x ≡ t → cond t (Some x) (waiting i xs) ≡ Some p → (waiting i xs ≡ Some p → p.initiator ≡ i) → p.initiator ≡ i
    go true a k ih = let same : x ≡ p = cc in ap (λ (q : Pending). q.initiator) (sym same) ∙ eqb-true x.initiator i a
    go false a k ih = ih k

-- ---- one command goes on

pub wanted-more : (p : Pending) (more : List Outcome) → Wanted p → Wanted (noted p more)
wanted-more p more w = record {
  before = w.before;
  after = w.after ++ more;
  none = w.none;
  is = sym (append_assoc w.before (Outcome.NoMemory ∷ w.after) more) ∙ ap (λ l. l ++ more) w.is;
}

replied-busy : (s : ReplayState) (i : ℕ) (reply : Reply) → reply ≡ Reply.Busy → HasBusy (replied s i reply)
replied-busy s i reply e =
    let last : cond {A = ℕ} (is_busy_reply reply) 1 0 ≡ 1 = ap (λ r. cond {A = ℕ} (is_busy_reply r) 1 0) e in
    omega (arith, last, sum_by-append (λ (r : AddressedReply). cond (is_busy_reply r.reply) 1 0) s.replies ((record { initiator = i; reply = reply }) ∷ []))

goes_on-shows : (s : ReplayState) (p : Pending) (next : Step) → Wanted p → IsBusyAtEnd next → Shows (goes_on s p next)
goes_on-shows s p (Step.Done reply) w busy = inl (replied-busy s p.initiator reply busy)
goes_on-shows s p (Step.Do unit act) w busy = inr (record { p = p; there = waits-last p.initiator p s.pending refl; wanted = w })

gone_on-shows : (step : Stepping) → EndsBusy step → (config : Configuration) (s : ReplayState) (p : Pending) → Wanted p → Shows (gone_on step config s p)
gone_on-shows step ends config s p w =
    goes_on-shows s p (next_step step config p) w
    (subst (λ os. IsBusyAtEnd (step config p.initiator p.request os)) w.is (ends config p.initiator p.request w.before w.after w.none))

-- ---- a command that waits goes on waiting while others are served

beside : (s : ReplayState) (q : Pending) (next : Step) (w : Waits s) → (w.p.initiator ≡ q.initiator → ⊥) → Waits (goes_on s q next)
beside s q (Step.Done reply) w other = record {
  p = w.p;
  there = ap (waiting w.p.initiator) (sym (append-nil (without q.initiator s.pending))) ∙ waits-beside w.p.initiator q.initiator w.p s.pending [] other w.there;
  wanted = w.wanted;
}
beside s q (Step.Do unit act) w other = record {
  p = w.p;
  there = waits-beside w.p.initiator q.initiator w.p s.pending (q ∷ []) other w.there;
  wanted = w.wanted;
}

begun-beside : (step : Stepping) (config : Configuration) (s : ReplayState) (j : ℕ) (request : Request) (shortage : Shortage) (w : Waits s)
    → (w.p.initiator ≡ j → ⊥) → Waits (begun step config s j request shortage)
begun-beside step config s j request AtBegin w other = beside s (record { initiator = j; request = request; outcomes = [] }) (Step.Done Reply.Busy) w other
begun-beside step config s j request Nowhere w other = beside s (record { initiator = j; request = request; outcomes = [] }) _ w other
begun-beside step config s j request AtAct w other = beside s (record { initiator = j; request = request; outcomes = [] }) _ w other
begun-beside step config s j request AtStep w other = beside s (record { initiator = j; request = request; outcomes = Outcome.NoMemory ∷ [] }) _ w other

did-beside : (step : Stepping) (config : Configuration) (s : ReplayState) (moment : ℕ) (q : Pending) (shortage : Shortage) (next : Step) (w : Waits s)
    → (w.p.initiator ≡ q.initiator → ⊥) → Waits (did step config s moment q shortage next)
did-beside step config s moment q shortage (Step.Done reply) w other = w
did-beside step config s moment q shortage (Step.Do unit act) w other =
    beside (acted config s (Actor.Nexus q.initiator) unit moment act shortage) (noted_act config s q unit moment act shortage)
    (next_step step config (noted_act config s q unit moment act shortage)) (record { p = w.p; there = w.there; wanted = w.wanted }) other

did-shows : (step : Stepping) → EndsBusy step → (config : Configuration) (s : ReplayState) (moment : ℕ) (shortage : Shortage) (next : Step) (w : Waits s)
    → Shows (did step config s moment w.p shortage next)
did-shows step ends config s moment shortage (Step.Done reply) w = inr w
did-shows step ends config s moment shortage (Step.Do unit act) w =
    gone_on-shows step ends config (acted config s (Actor.Nexus w.p.initiator) unit moment act shortage) (noted_act config s w.p unit moment act shortage)
    (wanted-more w.p (outcomes_at shortage (outcome_of config s.entries (Actor.Nexus w.p.initiator) unit moment act)) w.wanted)

ran-shows : (step : Stepping) → EndsBusy step → (config : Configuration) (s : ReplayState) (j moment : ℕ) (shortage : Shortage) (w : Waits s)
    → Shows (ran step config s moment shortage (waiting j s.pending))
ran-shows step ends config s j moment shortage w = go (cases_eq w.p.initiator j)
  where
    others : (w.p.initiator ≡ j → ⊥) → (found : Option Pending) → waiting j s.pending ≡ found → Shows (ran step config s moment shortage found)
    others other None e = inr w
    others other (Some q) e = inr (did-beside step config s moment q shortage (next_step step config q) w (λ same. other (same ∙ find-of j s.pending q e)))

    go : ((w.p.initiator ≡ j) ⊎ (w.p.initiator ≡ j → ⊥)) → Shows (ran step config s moment shortage (waiting j s.pending))
    go (inl same) =
        let mine : waiting j s.pending ≡ Some w.p = ap (λ i. waiting i s.pending) (sym same) ∙ w.there in
        subst (λ found. Shows (ran step config s moment shortage found)) (sym mine) (did-shows step ends config s moment shortage (next_step step config w.p) w)
    go (inr other) = others other (waiting j s.pending) refl

changed-shows : (step : Stepping) → EndsBusy step → (config : Configuration) (s : ReplayState) (item : TraceItem) (shortage : Shortage) → item_fits config s item ≡ true
    → Waits s → Shows (changed step config s item shortage)
changed-shows step ends config s (TraceItem.Begin j moment request) shortage fit w =
    inr (begun-beside step config s j request shortage w (λ same.
    let mine : waiting j s.pending ≡ Some w.p = ap (λ i. waiting i s.pending) (sym same) ∙ w.there in
    let bad : false ≡ true = ap (λ f. not (is_some f)) (sym mine) ∙ fit in
    cc))
changed-shows step ends config s (TraceItem.Run j moment) shortage fit w = ran-shows step ends config s j moment shortage w
changed-shows step ends config s (TraceItem.Pump unit moment) shortage fit w = inr (record { p = w.p; there = w.there; wanted = w.wanted })

next-shows : (step : Stepping) → EndsBusy step → (config : Configuration) (s : ReplayState) (item : TraceItem) (shortage : Shortage) → item_fits config s item ≡ true
    → Shows s → Shows (after_item step config s item shortage)
next-shows step ends config s item shortage fit (inl busy) = inl (busy-follows s (after_item step config s item shortage) (next-follows step config s item shortage) busy)
next-shows step ends config s item shortage fit (inr w) =
    changed-shows step ends config (record s { items = s.items + 1 }) item shortage (counted item fit) (record { p = w.p; there = w.there; wanted = w.wanted })
  where
    counted : (x : TraceItem) → item_fits config s x ≡ true → item_fits config (record s { items = s.items + 1 }) x ≡ true
    counted (TraceItem.Begin i m r) f = f
    counted (TraceItem.Run i m) f = f
    counted (TraceItem.Pump u m) f = f

pub play-shows : (step : Stepping) → EndsBusy step → (config : Configuration) (s : ReplayState) (xs : List Placed) (ending : Ending) (shortages : List Shortage)
    → Shows s → Shows (play step config s xs ending shortages).state
play-shows step ends config s [] ending shortages shows = shows
play-shows step ends config s (x ∷ xs) ending shortages shows =
    go (item_fits config s x.item) (λ fit. play-shows step ends config (after_item step config s x.item (shortage_for x.item shortages)) xs ending (shortages_behind x.item shortages)
    (next-shows step ends config s x.item (shortage_for x.item shortages) fit shows))
  where
    go : (t : Bool) → (t ≡ true → Shows (play step config (after_item step config s x.item (shortage_for x.item shortages)) xs ending (shortages_behind x.item shortages)).state)
        → Shows (cond t (play step config (after_item step config s x.item (shortage_for x.item shortages)) xs ending (shortages_behind x.item shortages))
        (record { state = s; ending = BadRecord x.place })).state
    go true later = later refl
    go false later = shows

-- ---- a shortage shows

none-in : (os : List Outcome) (o : Outcome) → gave_up os ≡ false → gives_up o ≡ false → gave_up (os ++ o ∷ []) ≡ false
none-in os o a b = any-append gives_up os (o ∷ []) ∙ rw (a, b) refl

begun-shows : (step : Stepping) → EndsBusy step → (config : Configuration) (s : ReplayState) (j m : ℕ) (request : Request) (shortage : Shortage)
    → is_allowed step config s (TraceItem.Begin j m request) shortage ≡ true → is_no_shortage shortage ≡ false → Shows (begun step config s j request shortage)
begun-shows step ends config s j m request Nowhere may some = cc
begun-shows step ends config s j m request AtAct may some = cc
begun-shows step ends config s j m request AtBegin may some = inl (replied-busy s j Reply.Busy refl)
begun-shows step ends config s j m request AtStep may some =
    gone_on-shows step ends config s (record { initiator = j; request = request; outcomes = Outcome.NoMemory ∷ [] })
    (record { before = []; after = []; none = refl; is = refl })

pub wanted-at-act : (p : Pending) (outcome : Outcome) → gave_up p.outcomes ≡ false → Wanted (noted p (outcomes_at AtAct outcome))
wanted-at-act p outcome none = record { before = p.outcomes; after = []; none = none; is = refl }

pub wanted-at-step : (p : Pending) (outcome : Outcome) → gave_up p.outcomes ≡ false → gives_up outcome ≡ false → Wanted (noted p (outcomes_at AtStep outcome))
wanted-at-step p outcome none answered =
    record { before = p.outcomes ++ outcome ∷ []; after = []; none = none-in p.outcomes outcome none answered; is = append_assoc p.outcomes (outcome ∷ []) (Outcome.NoMemory ∷ []) }

did-short : (step : Stepping) → EndsBusy step → (config : Configuration) (s : ReplayState) (moment : ℕ) (p : Pending) (shortage : Shortage) (next : Step)
    → gave_up p.outcomes ≡ false → allowed_at_act config s.entries (Actor.Nexus p.initiator) shortage next ≡ true → is_no_shortage shortage ≡ false
    → Shows (did step config s moment p shortage next)
did-short step ends config s moment p shortage (Step.Done reply) none may some = cc
did-short step ends config s moment p Nowhere (Step.Do unit act) none may some = cc
did-short step ends config s moment p AtBegin (Step.Do unit act) none may some = cc
did-short step ends config s moment p AtAct (Step.Do unit act) none may some =
    gone_on-shows step ends config (acted config s (Actor.Nexus p.initiator) unit moment act AtAct) (noted_act config s p unit moment act AtAct)
    (wanted-at-act p (outcome_of config s.entries (Actor.Nexus p.initiator) unit moment act) none)
did-short step ends config s moment p AtStep (Step.Do unit act) none may some =
    gone_on-shows step ends config (acted config s (Actor.Nexus p.initiator) unit moment act AtStep) (noted_act config s p unit moment act AtStep)
    (wanted-at-step p (outcome_of config s.entries (Actor.Nexus p.initiator) unit moment act) none (answered (has_no_room config s.entries (Actor.Nexus p.initiator) unit act) (Outcome.Answered (answer config s.entries unit (Actor.Nexus p.initiator) moment act)) may refl))
  where
    answered : (full : Bool) (o : Outcome) → not full ≡ true → gives_up o ≡ false → gives_up (cond full Outcome.Full o) ≡ false
    answered true o m g = cc
    answered false o m g = g

ran-short : (step : Stepping) → EndsBusy step → (config : Configuration) (s : ReplayState) (j moment : ℕ) (shortage : Shortage) (found : Option Pending)
    → is_some found ≡ true → allowed_at_run step config s shortage found ≡ true → is_no_shortage shortage ≡ false
    → Shows (ran step config s moment shortage found)
ran-short step ends config s j moment shortage None there may some = cc
ran-short step ends config s j moment shortage (Some p) there may some = go (gave_up p.outcomes) refl may
  where
    go : (t : Bool) → gave_up p.outcomes ≡ t → cond t (is_no_shortage shortage) (allowed_at_act config s.entries (Actor.Nexus p.initiator) shortage (next_step step config p)) ≡ true
        → Shows (did step config s moment p shortage (next_step step config p))
    go true e m = cc
    go false e m = did-short step ends config s moment p shortage (next_step step config p) e m some

next-short : (step : Stepping) → EndsBusy step → (config : Configuration) (s : ReplayState) (item : TraceItem) (shortages : List Shortage)
    → item_fits config s item ≡ true → is_allowed step config s item (shortage_for item shortages) ≡ true → is_no_shortage (shortage_for item shortages) ≡ false
    → Shows (after_item step config s item (shortage_for item shortages))
next-short step ends config s (TraceItem.Begin j m request) shortages fit may some =
    begun-shows step ends config (record s { items = s.items + 1 }) j m request (shortage_for (TraceItem.Begin j m request) shortages)
    (go (shortage_for (TraceItem.Begin j m request) shortages) may) some
  where
    go : (shortage : Shortage) → is_allowed step config s (TraceItem.Begin j m request) shortage ≡ true
        → is_allowed step config (record s { items = s.items + 1 }) (TraceItem.Begin j m request) shortage ≡ true
    go Nowhere e = e
    go AtBegin e = e
    go AtAct e = e
    go AtStep e = e
next-short step ends config s (TraceItem.Run j m) shortages fit may some =
    ran-short step ends config (record s { items = s.items + 1 }) j m (shortage_for (TraceItem.Run j m) shortages) (waiting j s.pending) fit
    (go (waiting j s.pending) may) some
  where
    go : (found : Option Pending) → allowed_at_run step config s (shortage_for (TraceItem.Run j m) shortages) found ≡ true
        → allowed_at_run step config (record s { items = s.items + 1 }) (shortage_for (TraceItem.Run j m) shortages) found ≡ true
    go None e = e
    go (Some p) e = e
next-short step ends config s (TraceItem.Pump u m) shortages fit may some = cc

-- an item with no shortage, as if no shortages came at all
no-shortage-then : (item : TraceItem) (shortages : List Shortage) → is_no_shortage (shortage_for item shortages) ≡ true → shortage_for item shortages ≡ shortage_for item []
no-shortage-then (TraceItem.Pump u m) shortages e = refl
no-shortage-then (TraceItem.Begin i m r) shortages e = go (shortage_for (TraceItem.Begin i m r) shortages) e
  where
    go : (shortage : Shortage) → is_no_shortage shortage ≡ true → shortage ≡ Nowhere
    go Nowhere e = refl
    go AtBegin e = cc
    go AtAct e = cc
    go AtStep e = cc
no-shortage-then (TraceItem.Run i m) shortages e = go (shortage_for (TraceItem.Run i m) shortages) e
  where
    go : (shortage : Shortage) → is_no_shortage shortage ≡ true → shortage ≡ Nowhere
    go Nowhere e = refl
    go AtBegin e = cc
    go AtAct e = cc
    go AtStep e = cc

pub none-behind : (item : TraceItem) → shortages_behind item [] ≡ []
none-behind (TraceItem.Begin i m r) = refl
none-behind (TraceItem.Run i m) = refl
none-behind (TraceItem.Pump u m) = refl

-- the same as with no shortages, or it shows
abbrev Tells : Stepping → Configuration → ReplayState → List Placed → Ending → List Shortage → Type 0
Tells step config s xs ending shortages =
    (play step config s xs ending shortages ≡ play step config s xs ending []) ⊎ Shows (play step config s xs ending shortages).state

pub play-tells : (step : Stepping) → EndsBusy step → (config : Configuration) (s : ReplayState) (xs : List Placed) (ending : Ending) (shortages : List Shortage)
    → are_allowed step config s xs shortages ≡ true → Tells step config s xs ending shortages
play-tells step ends config s [] ending shortages may = inl refl
play-tells step ends config s (x ∷ xs) ending shortages may =
    go (item_fits config s x.item) refl may (is_no_shortage (shortage_for x.item shortages)) refl
    (λ m. play-tells step ends config (after_item step config s x.item (shortage_for x.item shortages)) xs ending (shortages_behind x.item shortages) m)
  where
    go : (t : Bool) → item_fits config s x.item ≡ t
        → cond t (is_allowed step config s x.item (shortage_for x.item shortages)
        && are_allowed step config (after_item step config s x.item (shortage_for x.item shortages)) xs (shortages_behind x.item shortages)) true ≡ true
        → (u : Bool) → is_no_shortage (shortage_for x.item shortages) ≡ u
        → (are_allowed step config (after_item step config s x.item (shortage_for x.item shortages)) xs (shortages_behind x.item shortages) ≡ true
        → Tells step config (after_item step config s x.item (shortage_for x.item shortages)) xs ending (shortages_behind x.item shortages))
        → (cond t (play step config (after_item step config s x.item (shortage_for x.item shortages)) xs ending (shortages_behind x.item shortages)) (record { state = s; ending = BadRecord x.place })
        ≡ cond t (play step config (after_item step config s x.item (shortage_for x.item [])) xs ending (shortages_behind x.item [])) (record { state = s; ending = BadRecord x.place }))
        ⊎ Shows (cond t (play step config (after_item step config s x.item (shortage_for x.item shortages)) xs ending (shortages_behind x.item shortages)) (record { state = s; ending = BadRecord x.place })).state
    go false fit m u none later = inl refl
    go true fit m false some later =
        inr (play-shows step ends config (after_item step config s x.item (shortage_for x.item shortages)) xs ending (shortages_behind x.item shortages)
        (next-short step ends config s x.item shortages fit (both-true _ _ m).0 some))
    go true fit m true none later = same (later (both-true _ _ m).1)
      where
        same : Tells step config (after_item step config s x.item (shortage_for x.item shortages)) xs ending (shortages_behind x.item shortages)
            → (play step config (after_item step config s x.item (shortage_for x.item shortages)) xs ending (shortages_behind x.item shortages)
            ≡ play step config (after_item step config s x.item (shortage_for x.item [])) xs ending (shortages_behind x.item []))
            ⊎ Shows (play step config (after_item step config s x.item (shortage_for x.item shortages)) xs ending (shortages_behind x.item shortages)).state
        same (inr shows) = inr shows
        same (inl e) = inl (e
            ∙ ap (λ shortage. play step config (after_item step config s x.item shortage) xs ending []) (no-shortage-then x.item shortages none)
            ∙ ap (play step config (after_item step config s x.item (shortage_for x.item [])) xs ending) (sym (none-behind x.item)))

pub shortages-tell : (step : Stepping) → EndsBusy step → ShortagesTell step
shortages-tell step ends bytes shortages may = go (read_header bytes) may
  where
    go : (p : Parsed Configuration) → allowed_after step p bytes shortages ≡ true
        → (played_after step p bytes shortages ≡ played_after step p bytes []) ⊎ (met_want (played_after step p bytes shortages).state ≡ true)
    go Short m = inl refl
    go (Bad place) m = inl refl
    go (Whole config used) m =
        told (play-tells step ends config at_first (trace_of items_limit used (drop used bytes)).items (trace_of items_limit used (drop used bytes)).ending shortages m)
      where
        told : Tells step config at_first (trace_of items_limit used (drop used bytes)).items (trace_of items_limit used (drop used bytes)).ending shortages
            → (played_after step (Whole config used) bytes shortages ≡ played_after step (Whole config used) bytes [])
            ⊎ (met_want (played_after step (Whole config used) bytes shortages).state ≡ true)
        told (inl e) = inl e
        told (inr shows) = inr (shows-want _ shows)
