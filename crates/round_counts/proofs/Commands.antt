-- The commands of a trace, played where memory is never refused and each act has room
use Rattle.std.proofs.Common.{◌≡◌, ℕ, ◌+◌, List, [], ◌∷◌, ◌++◌, length, map, true, false, refl, sym, ap, ◌∙◌, subst, arith}
use Rattle.std.specs.Prelude.{Some, ◌==◌, nat_lt, is_some, if◌then◌else◌}
use Rattle.std.proofs.lemmas.Bool.Decides.{nat_tests}
use Rattle.cm_base.specs.Configuration.{Configuration}
use Rattle.lba_ranges.specs.HeldBlocks.{HeldBlocks}
use Rattle.cm_frame.specs.declared.frame.Request.{Request}
use Rattle.cm_frame.specs.declared.frame.Reply.{Reply}
use Rattle.cm_frame.specs.declared.item.TraceItem.{TraceItem}
use Rattle.cm_history.specs.declared.act.Act.{Act}
use Rattle.cm_history.specs.declared.act.Actor.{Actor}
use Rattle.cm_history.specs.declared.act.Entry.{Entry}
use Rattle.cm_history.specs.declared.answer.Answer.{Answer}
use Rattle.cm_history.specs.History.{answer}
use Rattle.cmd_program.specs.declared.step.Outcome.{Outcome}
use Rattle.cmd_program.specs.declared.step.Step.{Step}
use Rattle.cmd_program.specs.Stepping.{Stepping}
use Rattle.trace_replay.specs.Items.{Ending, Placed}
use Rattle.trace_replay.specs.ReplayState.{ReplayState, Pending, AddressedReply, Nowhere, waiting, without, goes_on, did, ran, new_entry, has_no_room, entries_after, outcome_of, after_item, item_fits}
use Rattle.trace_replay.specs.Played.{play, shortage_for, shortages_behind}
use Rattle.round_counts.proofs.Told.{good_to}

-- each item fits when its turn comes, and so it stands behind the last
abbrev pub Goes : Stepping → Configuration → (ReplayState → Type 0) → ReplayState → List TraceItem → Type 0
Goes step config P s [] = P s
Goes step config P s (x ∷ xs) = (item_fits config s x ≡ true) × Goes step config P (after_item step config s x Nowhere) xs

never-short : (x : TraceItem) → shortage_for x [] ≡ Nowhere
never-short (TraceItem.Begin initiator moment request) = refl
never-short (TraceItem.Run initiator moment) = refl
never-short (TraceItem.Pump unit moment) = refl

none-behind : (x : TraceItem) → shortages_behind x [] ≡ []
none-behind (TraceItem.Begin initiator moment request) = refl
none-behind (TraceItem.Run initiator moment) = refl
none-behind (TraceItem.Pump unit moment) = refl

-- then the trace is played to its end
pub all-played : (step : Stepping) (config : Configuration) (P : ReplayState → Type 0) (s : ReplayState) (xs : List Placed) (ending : Ending)
    → Goes step config P s (map (λ (x : Placed). x.item) xs)
    → ((play step config s xs ending []).ending ≡ ending) × P (play step config s xs ending []).state
all-played step config P s [] ending goes = (refl, goes)
all-played step config P s (x ∷ xs) ending goes =
    rw (goes.0, never-short x.item, none-behind x.item) (all-played step config P (after_item step config s x.item Nowhere) xs ending goes.1)

-- how things stand between two commands
abbrev pub between : ℕ → List Entry → List AddressedReply → ReplayState
between n entries replies = record { items = n; entries = entries; pending = []; replies = replies }

-- the request asks for one act, and goes on by its answer
pub record IsAsking (step : Stepping) (config : Configuration) (r : Request) (unit : ℕ) (act : Act) (told : Answer → Step) : Type 0 where
  pub asks : (nexus : ℕ) → step config nexus r [] ≡ Step.Do unit act
  pub ends : (nexus : ℕ) (a : Answer) → step config nexus r (Outcome.Answered a ∷ []) ≡ told a

-- The request redeems a token; with its eight blocks it asks for an act of the other unit, and goes on by its answer.
pub record IsRedeeming (step : Stepping) (config : Configuration) (r : Request) (text : List ℕ) (start : HeldBlocks → Act) (told : Answer → Step) : Type 0 where
  pub asks : (nexus : ℕ) → step config nexus r [] ≡ Step.Do 0 (Act.Redeem text 1)
  pub starts : (nexus : ℕ) (rod : HeldBlocks) → length rod.items ≡ 8 → step config nexus r (Outcome.Answered (Answer.Rod rod) ∷ []) ≡ Step.Do 1 (start rod)
  pub ends : (nexus : ℕ) (rod : HeldBlocks) (a : Answer) → length rod.items ≡ 8
      → step config nexus r (Outcome.Answered (Answer.Rod rod) ∷ Outcome.Answered a ∷ []) ≡ told a

-- the act has room, and is answered so
pub record IsDone (config : Configuration) (entries : List Entry) (actor : Actor) (unit m : ℕ) (act : Act) (a : Answer) : Type 0 where
  pub room : has_no_room config entries actor unit act ≡ false
  pub told : answer config entries unit actor m act ≡ a

-- the history with the act
abbrev pub with_act : List Entry → Actor → ℕ → ℕ → Act → List Entry
with_act entries actor unit m act = entries ++ new_entry entries actor unit m act ∷ []

done-outcome : (config : Configuration) (entries : List Entry) (actor : Actor) (unit m : ℕ) (act : Act) (a : Answer) → IsDone config entries actor unit m act a
    → outcome_of config entries actor unit m act ≡ Outcome.Answered a
done-outcome config entries actor unit m act a d =
    ap (λ b. if b then Outcome.Full else Outcome.Answered (answer config entries unit actor m act)) d.room ∙ ap Outcome.Answered d.told

done-entries : (config : Configuration) (entries : List Entry) (actor : Actor) (unit m : ℕ) (act : Act) (a : Answer) → IsDone config entries actor unit m act a
    → entries_after config entries actor unit m act ≡ with_act entries actor unit m act
done-entries config entries actor unit m act a d = ap (λ b. if b then entries else with_act entries actor unit m act) d.room

-- ---- one command

abbrev waits_as : ℕ → Request → List Outcome → Pending
waits_as i r outcomes = record { initiator = i; request = r; outcomes = outcomes }

-- while one command waits
abbrev waiting_with : ℕ → List Entry → Pending → List AddressedReply → ReplayState
waiting_with n entries p replies = record { items = n; entries = entries; pending = p ∷ []; replies = replies }

waits : (i : ℕ) (r : Request) (outcomes : List Outcome) → waiting i (waits_as i r outcomes ∷ []) ≡ Some (waits_as i r outcomes)
waits i r outcomes = let self : (i == i) ≡ true = grind (arith, nat_tests) in rw self refl

gone : (i : ℕ) (r : Request) (outcomes : List Outcome) → without i (waits_as i r outcomes ∷ []) ≡ []
gone i r outcomes = let self : (i == i) ≡ true = grind (arith, nat_tests) in rw self refl

module _ (step : Stepping) (config : Configuration) (P : ReplayState → Type 0) where
  -- a Begin of a command that asks for an act
  begins : (n : ℕ) (entries : List Entry) (replies : List AddressedReply) (i m : ℕ) (r : Request) (unit : ℕ) (act : Act) (xs : List TraceItem)
      → step config i r [] ≡ Step.Do unit act → Goes step config P (waiting_with (n + 1) entries (waits_as i r []) replies) xs
      → Goes step config P (between n entries replies) (TraceItem.Begin i m r ∷ xs)
  begins n entries replies i m r unit act xs asks later =
      let after : after_item step config (between n entries replies) (TraceItem.Begin i m r) Nowhere ≡ waiting_with (n + 1) entries (waits_as i r []) replies =
      ap (goes_on (between (n + 1) entries replies) (waits_as i r [])) asks in
      (refl, subst (λ s. Goes step config P s xs) (sym after) later)

  -- a Run does the act of the command
  does : (n : ℕ) (entries : List Entry) (replies : List AddressedReply) (i m : ℕ) (r : Request) (outcomes : List Outcome) (unit : ℕ) (act : Act) (a : Answer) (last : Step)
      → step config i r outcomes ≡ Step.Do unit act → IsDone config entries (Actor.Nexus i) unit m act a → step config i r (outcomes ++ Outcome.Answered a ∷ []) ≡ last
      → ran step config (waiting_with (n + 1) entries (waits_as i r outcomes) replies) m Nowhere (waiting i (waits_as i r outcomes ∷ []))
      ≡ goes_on (waiting_with (n + 1) (with_act entries (Actor.Nexus i) unit m act) (waits_as i r outcomes) replies) (waits_as i r (outcomes ++ Outcome.Answered a ∷ [])) last
  does n entries replies i m r outcomes unit act a last asks done goes =
      let p = waits_as i r outcomes in
      let s = waiting_with (n + 1) entries p replies in
      let now = entries_after config entries (Actor.Nexus i) unit m act in
      ap (ran step config s m Nowhere) (waits i r outcomes)
      ∙ ap (did step config s m p Nowhere) asks
      ∙ ap (λ x. goes_on (waiting_with (n + 1) now p replies) (waits_as i r (outcomes ++ x ∷ [])) (step config i r (outcomes ++ x ∷ []))) (done-outcome config entries (Actor.Nexus i) unit m act a done)
      ∙ ap (λ l. goes_on (waiting_with (n + 1) l p replies) (waits_as i r (outcomes ++ Outcome.Answered a ∷ [])) (step config i r (outcomes ++ Outcome.Answered a ∷ []))) (done-entries config entries (Actor.Nexus i) unit m act a done)
      ∙ ap (goes_on (waiting_with (n + 1) (with_act entries (Actor.Nexus i) unit m act) p replies) (waits_as i r (outcomes ++ Outcome.Answered a ∷ []))) goes

  -- a Run after which the command waits again
  runs-on : (n : ℕ) (entries : List Entry) (replies : List AddressedReply) (i m : ℕ) (r : Request) (outcomes : List Outcome)
      (unit : ℕ) (act : Act) (a : Answer) (other : ℕ) (more : Act) (xs : List TraceItem)
      → step config i r outcomes ≡ Step.Do unit act → IsDone config entries (Actor.Nexus i) unit m act a → step config i r (outcomes ++ Outcome.Answered a ∷ []) ≡ Step.Do other more
      → Goes step config P (waiting_with (n + 1) (with_act entries (Actor.Nexus i) unit m act) (waits_as i r (outcomes ++ Outcome.Answered a ∷ [])) replies) xs
      → Goes step config P (waiting_with n entries (waits_as i r outcomes) replies) (TraceItem.Run i m ∷ xs)
  runs-on n entries replies i m r outcomes unit act a other more xs asks done goes later =
      let now = with_act entries (Actor.Nexus i) unit m act in
      let last = waits_as i r (outcomes ++ Outcome.Answered a ∷ []) in
      let on = does n entries replies i m r outcomes unit act a (Step.Do other more) asks done goes
      ∙ ap (λ l. record { items = n + 1; entries = now; pending = l ++ last ∷ []; replies = replies }) (gone i r outcomes) in
      (ap is_some (waits i r outcomes), subst (λ s. Goes step config P s xs) (sym on) later)

  -- a Run by which the command is answered
  runs-out : (n : ℕ) (entries : List Entry) (replies : List AddressedReply) (i m : ℕ) (r : Request) (outcomes : List Outcome)
      (unit : ℕ) (act : Act) (a : Answer) (bytes : List ℕ) (xs : List TraceItem)
      → step config i r outcomes ≡ Step.Do unit act → IsDone config entries (Actor.Nexus i) unit m act a → step config i r (outcomes ++ Outcome.Answered a ∷ []) ≡ Step.Done (Reply.Good bytes)
      → Goes step config P (between (n + 1) (with_act entries (Actor.Nexus i) unit m act) (replies ++ good_to i bytes ∷ [])) xs
      → Goes step config P (waiting_with n entries (waits_as i r outcomes) replies) (TraceItem.Run i m ∷ xs)
  runs-out n entries replies i m r outcomes unit act a bytes xs asks done goes later =
      let now = with_act entries (Actor.Nexus i) unit m act in
      let out = does n entries replies i m r outcomes unit act a (Step.Done (Reply.Good bytes)) asks done goes
      ∙ ap (λ l. record { items = n + 1; entries = now; pending = l; replies = replies ++ good_to i bytes ∷ [] }) (gone i r outcomes) in
      (ap is_some (waits i r outcomes), subst (λ s. Goes step config P s xs) (sym out) later)

  -- a command of one act
  pub one-act : (n : ℕ) (entries : List Entry) (replies : List AddressedReply) (i m : ℕ) (r : Request) (unit : ℕ) (act : Act) (told : Answer → Step) (a : Answer) (bytes : List ℕ) (xs : List TraceItem)
      → IsAsking step config r unit act told → IsDone config entries (Actor.Nexus i) unit m act a → told a ≡ Step.Done (Reply.Good bytes)
      → Goes step config P (between (n + 2) (with_act entries (Actor.Nexus i) unit m act) (replies ++ good_to i bytes ∷ [])) xs
      → Goes step config P (between n entries replies) (TraceItem.Begin i m r ∷ TraceItem.Run i m ∷ xs)
  one-act n entries replies i m r unit act told a bytes xs is done ends later =
      let two : n + 2 ≡ n + 1 + 1 = omega arith in
      begins n entries replies i m r unit act (TraceItem.Run i m ∷ xs) (is.asks i)
      (runs-out (n + 1) entries replies i m r [] unit act a bytes xs (is.asks i) done (is.ends i a ∙ ends)
      (subst (λ k. Goes step config P (between k (with_act entries (Actor.Nexus i) unit m act) (replies ++ good_to i bytes ∷ [])) xs) two later))

  -- a command that redeems a token of eight blocks, and starts to write them
  pub two-acts : (n : ℕ) (entries : List Entry) (replies : List AddressedReply) (i m : ℕ) (r : Request) (text : List ℕ) (start : HeldBlocks → Act) (told : Answer → Step) (rod : HeldBlocks) (a : Answer) (bytes : List ℕ) (xs : List TraceItem)
      → IsRedeeming step config r text start told → length rod.items ≡ 8
      → IsDone config entries (Actor.Nexus i) 0 m (Act.Redeem text 1) (Answer.Rod rod)
      → IsDone config (with_act entries (Actor.Nexus i) 0 m (Act.Redeem text 1)) (Actor.Nexus i) 1 m (start rod) a → told a ≡ Step.Done (Reply.Good bytes)
      → Goes step config P (between (n + 3) (with_act (with_act entries (Actor.Nexus i) 0 m (Act.Redeem text 1)) (Actor.Nexus i) 1 m (start rod)) (replies ++ good_to i bytes ∷ [])) xs
      → Goes step config P (between n entries replies) (TraceItem.Begin i m r ∷ TraceItem.Run i m ∷ TraceItem.Run i m ∷ xs)
  two-acts n entries replies i m r text start told rod a bytes xs is eight redeemed started ends later =
      let three : n + 3 ≡ n + 1 + 1 + 1 = omega arith in
      let now = with_act entries (Actor.Nexus i) 0 m (Act.Redeem text 1) in
      begins n entries replies i m r 0 (Act.Redeem text 1) (TraceItem.Run i m ∷ TraceItem.Run i m ∷ xs) (is.asks i)
      (runs-on (n + 1) entries replies i m r [] 0 (Act.Redeem text 1) (Answer.Rod rod) 1 (start rod) (TraceItem.Run i m ∷ xs) (is.asks i) redeemed (is.starts i rod eight)
      (runs-out (n + 1 + 1) now replies i m r (Outcome.Answered (Answer.Rod rod) ∷ []) 1 (start rod) a bytes xs (is.starts i rod eight) started (is.ends i rod a eight ∙ ends)
      (subst (λ k. Goes step config P (between k (with_act now (Actor.Nexus i) 1 m (start rod)) (replies ++ good_to i bytes ∷ [])) xs) three later)))

  -- a Pump of a unit that is there
  pub pumps : (n : ℕ) (entries : List Entry) (replies : List AddressedReply) (unit m : ℕ) (a : Answer) (xs : List TraceItem)
      → nat_lt unit (length config.units) ≡ true → IsDone config entries (Actor.Pump unit) unit m Act.Pump a
      → Goes step config P (between (n + 1) (with_act entries (Actor.Pump unit) unit m Act.Pump) replies) xs
      → Goes step config P (between n entries replies) (TraceItem.Pump unit m ∷ xs)
  pumps n entries replies unit m a xs there done later =
      (there, subst (λ l. Goes step config P (between (n + 1) l replies) xs) (sym (done-entries config entries (Actor.Pump unit) unit m Act.Pump a done)) later)
