-- A write in the foreground that was started ends well
use Rattle.std.proofs.Common.{◌≡◌, ◌∙◌, ℕ, zero, suc, ◌+◌, ◌*◌, ◌<◌, ◌≤◌, List, [], ◌∷◌, ◌++◌, length, refl, ap, sym, subst, arith, inl, inr, false, true, Bool, append-nil, append_assoc}
use Rattle.std.specs.Prelude.{◌==◌, ◌&&◌, ◌||◌, ◌⊎◌, not, cond, fold, slice_range, nat_lt, nat_le, Option, Some, None, if◌then◌else◌}
use Rattle.std.proofs.lemmas.Bool.{cases_eq}
use Rattle.std.proofs.lemmas.Bool.Decides.{nat_tests}
use Rattle.std.proofs.lemmas.List.{length-replicate}
use Rattle.std.proofs.lemmas.Grind.{common_steps}
use Rattle.cm_base.specs.Configuration.{Configuration}
use Rattle.cm_base.specs.Units.{unit_of, is_configured}
use Rattle.lba_ranges.specs.declared.ranges.Range.{Range}
use Rattle.lba_ranges.specs.Denoted.{blocks_of, is_within}
use Rattle.lba_ranges.specs.HeldBlocks.{HeldBlocks}
use Rattle.lba_ranges.specs.Writings.{Held}
use Rattle.lba_ranges.proofs.PublicLaws.{length-blocks_of}
use Rattle.scsi_sense.specs.SenseCode.{SenseCode}
use Rattle.scsi_sense.specs.Codes.{logical_unit_not_supported, invalid_field_in_parameter_list, token_unknown, space_allocation_failed, operation_in_progress, lba_out_of_range, insufficient_resources}
use Rattle.scsi_cdb.specs.declared.cdb.Cdb.{Cdb}
use Rattle.scsi_cdb.specs.Decoded.{decoded}
use Rattle.block_params.specs.ListsRead.{write_token_read}
use Rattle.rod_token.specs.declared.kind.TokenKind.{TokenKind}
use Rattle.rod_token.specs.TokenText.{classify}
use Rattle.cm_frame.specs.declared.frame.Request.{Request}
use Rattle.cm_frame.specs.declared.frame.Reply.{Reply}
use Rattle.cm_history.specs.Bounds.{piece_blocks}
use Rattle.cm_history.specs.declared.act.Act.{Act}
use Rattle.cm_history.specs.declared.act.Actor.{Actor}
use Rattle.cm_history.specs.declared.act.Entry.{Entry}
use Rattle.cm_history.specs.declared.answer.Answer.{Answer}
use Rattle.cm_history.specs.declared.answer.OpState.{OpState}
use Rattle.cm_history.specs.Deeds.{Deed, same_actor, is_refusal, is_answered}
use Rattle.cm_history.specs.Operations.{OfToken, list_of, is_failure, is_making, makes_operation}
use Rattle.cm_history.specs.Reserving.{reservations, bars_act}
use Rattle.cm_history.specs.Answers.{deed, answer_after, is_busy, is_crowded}
use Rattle.cm_history.specs.History.{past_of, answer}
use Rattle.cm_history.specs.Forms.{HasKind}
use Rattle.cm_history.specs.Completeness.{state_after}
use Rattle.cm_history.proofs.PublicLaws.{answer-kind, past-is, past_of-mine, past_of-other, more_of, same_actor-self as actor-self, Follows, follows-more, follows-started, follows-answer, no-failure as not-failed, length-paired}
use Rattle.cmd_program.specs.declared.step.Outcome.{Outcome}
use Rattle.cmd_program.specs.declared.step.Step.{Step}
use Rattle.cmd_program.specs.Stepping.{gave_up}
use Rattle.cmd_program.specs.Program.{Program, Ends, Asks, next, moved, done, refused, unless_refused, ask_then}
use Rattle.cmd_program.specs.SingleActs.{act_alone}
use Rattle.cm_history.specs.Room.{pieces}
use Rattle.cmd_program.specs.TokenWrite.{TokenWrite, wanted, delete_by, end_of, advancing, started, starting, rod_part, after_redeem, zero_rod, write_by, write_using_token}
use Rattle.cmd_program.specs.Judging.{step, program, judged_cdb, judged_out, out_fault}
use Rattle.cmd_program.specs.InHistory.{Lacking, is_by, entries_by, IsNext, RunsIn}
use Rattle.cmd_program.specs.WriteEnds.{IsWriteNow, is_progress, has_started, is_stop, was_stopped, EndsWell}

-- ---- entries of others, and one of its own

pub none-of : (nexus : ℕ) (e : Entry) (es : List Entry) → entries_by nexus (e ∷ es) ≡ [] → (is_by nexus e ≡ false) × (entries_by nexus es ≡ [])
none-of nexus e es none = go (is_by nexus e) refl none
  where
    go : (t : Bool) → is_by nexus e ≡ t → cond t (e ∷ entries_by nexus es) (entries_by nexus es) ≡ [] → (is_by nexus e ≡ false) × (entries_by nexus es ≡ [])
    go true is empty = cc
    go false is empty = (is, empty)

-- an entry of another actor
pub other-follows : (config : Configuration) (unit nexus : ℕ) (m : Deed) (id k : ℕ) (h : List Entry) (e : Entry) → m.entry.actor ≡ Actor.Nexus nexus → is_by nexus e ≡ false
    → Follows m id (past_of config unit h) k → Follows m id (past_of config unit (h ++ e ∷ [])) k
other-follows config unit nexus m id k h e who other f = go (cases_eq e.unit unit)
  where
    off : same_actor e.actor m.entry.actor ≡ false
    off = ap (same_actor e.actor) who ∙ other

    never_on : same_actor e.actor m.entry.actor ≡ true → ⊥
    never_on on = let both : false ≡ true = sym off ∙ on in cc

    same : k + more_of true (same_actor e.actor m.entry.actor) ≡ k
    same = ap (λ t. k + more_of true t) off ∙ omega arith

    go : (e.unit ≡ unit) ⊎ (e.unit ≡ unit → ⊥) → Follows m id (past_of config unit (h ++ e ∷ [])) k
    go (inl here) =
        subst (λ p. Follows m id p k) (sym (past_of-mine config unit h e here))
        (subst (Follows m id (deed config unit (past_of config unit h) e ∷ past_of config unit h)) same
        (follows-more config unit m id (past_of config unit h) k (deed config unit (past_of config unit h) e) refl (λ on. absurd (never_on on)) (λ on. absurd (never_on on)) f))
    go (inr there) = subst (λ p. Follows m id p k) (sym (past_of-other config unit h e there)) f

pub others-follow : (config : Configuration) (unit nexus : ℕ) (m : Deed) (id k : ℕ) (h others : List Entry) → m.entry.actor ≡ Actor.Nexus nexus → entries_by nexus others ≡ []
    → Follows m id (past_of config unit h) k → Follows m id (past_of config unit (h ++ others)) k
others-follow config unit nexus m id k h [] who none f = subst (λ l. Follows m id (past_of config unit l) k) (sym (append-nil h)) f
others-follow config unit nexus m id k h (e ∷ es) who none f =
    let both = none-of nexus e es none in
    subst (λ l. Follows m id (past_of config unit l) k) (append_assoc h (e ∷ []) es)
    (others-follow config unit nexus m id k (h ++ e ∷ []) es who both.1 (other-follows config unit nexus m id k h e who both.0 f))

-- an Advance of its own that was not stopped
pub own-follows : (config : Configuration) (unit nexus : ℕ) (m : Deed) (id k : ℕ) (before others : List Entry) (e : Entry) (told : Answer) → m.entry.actor ≡ Actor.Nexus nexus
    → IsNext config nexus before others e unit (Act.Advance id) told → is_failure told ≡ false
    → Follows m id (past_of config unit (before ++ others)) k → Follows m id (past_of config unit (before ++ others ++ e ∷ [])) (k + 1)
own-follows config unit nexus m id k before others e told who is none f =
    subst (λ p. Follows m id p (k + 1)) (sym (past_of-mine config unit (before ++ others) e is.on_unit))
    (subst (λ t. Follows m id (deed config unit (past_of config unit (before ++ others)) e ∷ past_of config unit (before ++ others)) (k + more_of true t)) on
    (follows-more config unit m id (past_of config unit (before ++ others)) k (deed config unit (past_of config unit (before ++ others)) e) refl
    (λ own. is.asks) (λ own. ap is_failure told_is ∙ none) f))
  where
    on : same_actor e.actor m.entry.actor ≡ true
    on = ap (λ a. same_actor a m.entry.actor) (is.actor ∙ sym who) ∙ actor-self m.entry.actor

    told_is : answer_after config unit (past_of config unit (before ++ others)) e.actor e.moment e.act ≡ told
    told_is =
        ap (λ a. answer_after config unit (past_of config unit (before ++ others)) a e.moment e.act) is.actor
        ∙ ap (answer_after config unit (past_of config unit (before ++ others)) (Actor.Nexus nexus) e.moment) is.asks
        ∙ sym is.answered

-- ---- programs that end

-- a program that has ended asks for nothing
pub nothing-more : (config : Configuration) (nexus : ℕ) (Lacks : Lacking) (reply : Reply) (h : List Entry) (os : List Outcome) → RunsIn config nexus Lacks (Ends reply) h os → gave_up os ≡ false → os ≡ []
nothing-more config nexus Lacks reply h [] run none = refl
nothing-more config nexus Lacks reply h (Outcome.Answered told ∷ os) run none = absurd run
nothing-more config nexus Lacks reply h (Outcome.Full ∷ os) run none = cc
nothing-more config nexus Lacks reply h (Outcome.NoMemory ∷ os) run none = cc

-- behind this history the program ends well
abbrev EndsAt : Configuration → ℕ → Lacking → Program → List Entry → Type 0
EndsAt config nexus Lacks p h = (os : List Outcome) → RunsIn config nexus Lacks p h os → gave_up os ≡ false → EndsWell os (next (fold moved p os))

done-ends : (config : Configuration) (nexus : ℕ) (Lacks : Lacking) (h : List Entry) → EndsAt config nexus Lacks done h
done-ends config nexus Lacks h os run none =
    subst (λ l. EndsWell l (next (fold moved done l))) (sym (nothing-more config nexus Lacks (Reply.Good []) h os run none)) (inl (refl, refl))

-- one more answer, at which nothing was stopped
ends-more : (told : Answer) (os : List Outcome) (s : Step) → is_stop (Outcome.Answered told) ≡ false → EndsWell os s → EndsWell (Outcome.Answered told ∷ os) s
ends-more told os (Step.Do unit act) free ends = tt
ends-more told os (Step.Done reply) free ends = go ends
  where
    same : was_stopped (Outcome.Answered told ∷ os) ≡ was_stopped os
    same = ap (λ t. t || was_stopped os) free

    go : ((was_stopped os ≡ false) × (reply ≡ Reply.Good [])) ⊎ ((was_stopped os ≡ true) × (reply ≡ Reply.Check space_allocation_failed))
        → ((was_stopped (Outcome.Answered told ∷ os) ≡ false) × (reply ≡ Reply.Good [])) ⊎ ((was_stopped (Outcome.Answered told ∷ os) ≡ true) × (reply ≡ Reply.Check space_allocation_failed))
    go (inl good) = inl (same ∙ good.0, good.1)
    go (inr stop) = inr (same ∙ stop.0, stop.1)

delete-ends : (config : Configuration) (nexus : ℕ) (Lacks : Lacking) (delete : Bool) (kind : TokenKind) (h : List Entry) → EndsAt config nexus Lacks (delete_by delete kind) h
delete-ends config nexus Lacks true (TokenKind.Names creator serial) h = go
  where
    go : EndsAt config nexus Lacks (act_alone creator (Act.Delete serial)) h
    go [] run none = tt
    go (Outcome.Full ∷ os) run none = cc
    go (Outcome.NoMemory ∷ os) run none = cc
    go (Outcome.Answered told ∷ os) run none =
        let is : told ≡ Answer.Done = run.2.answered in
        subst (λ a. EndsWell (Outcome.Answered a ∷ os) (next (fold moved (unless_refused done a) os))) (sym is)
        (ends-more Answer.Done os (next (fold moved done os)) refl
        (done-ends config nexus Lacks (h ++ run.0 ++ run.1 ∷ []) os (subst (λ a. RunsIn config nexus Lacks (unless_refused done a) (h ++ run.0 ++ run.1 ∷ []) os) is run.3) none))
delete-ends config nexus Lacks true TokenKind.BadLength h = done-ends config nexus Lacks h
delete-ends config nexus Lacks true TokenKind.BadType h = done-ends config nexus Lacks h
delete-ends config nexus Lacks true TokenKind.Zero h = done-ends config nexus Lacks h
delete-ends config nexus Lacks false kind h = done-ends config nexus Lacks h

-- ---- from the Start on

pub not-stop : (t : Bool) (n : ℕ) → is_stop (Outcome.Answered (Answer.Progress (if t then OpState.Done else OpState.Running) n)) ≡ false
not-stop true n = refl
not-stop false n = refl

-- a piece was stopped
stop-ends : (config : Configuration) (nexus : ℕ) (Lacks : Lacking) (w : TokenWrite) (left n : ℕ) (h : List Entry) (os : List Outcome)
    → RunsIn config nexus Lacks (advancing w left (Answer.Progress (OpState.Failed space_allocation_failed) n)) h os → gave_up os ≡ false
    → EndsWell (Outcome.Answered (Answer.Progress (OpState.Failed space_allocation_failed) n) ∷ os) (next (fold moved (advancing w left (Answer.Progress (OpState.Failed space_allocation_failed) n)) os))
stop-ends config nexus Lacks w left n h os run none =
    subst (λ l. EndsWell (Outcome.Answered (Answer.Progress (OpState.Failed space_allocation_failed) n) ∷ l) (next (fold moved (refused space_allocation_failed) l)))
    (sym (nothing-more config nexus Lacks (Reply.Check space_allocation_failed) h os run none)) (inr (refl, refl))

module _ (config : Configuration) (nexus : ℕ) (Lacks : Lacking) (w : TokenWrite) (m : Deed) (rod : HeldBlocks)
    (starts : m.entry.act ≡ Act.Start w.id false w.list.ranges rod) (who : m.entry.actor ≡ Actor.Nexus nexus) where
  -- so many Advances were answered, and so many are left
  abbrev Goes-on : ℕ → Type 0
  Goes-on left = (k n : ℕ) (h : List Entry) → length (list_of m.entry.act) ≤ piece_blocks * (k + left) → Follows m w.id (past_of config w.unit h) k
      → EndsAt config nexus Lacks (advancing w left (Answer.Progress (state_after k (length (list_of m.entry.act))) n)) h

  advance-ends : (left : ℕ) → Goes-on left → (k : ℕ) (h : List Entry) → length (list_of m.entry.act) ≤ piece_blocks * (k + suc left) → Follows m w.id (past_of config w.unit h) k
      → nat_le (length (list_of m.entry.act)) (piece_blocks * k) ≡ false
      → EndsAt config nexus Lacks (Asks (record { unit = w.unit; act = Act.Advance w.id }) (Some (end_of w)) (advancing w left)) h
  advance-ends left again k h low f more [] run none = tt
  advance-ends left again k h low f more (Outcome.Full ∷ os) run none = cc
  advance-ends left again k h low f more (Outcome.NoMemory ∷ os) run none = cc
  advance-ends left again k h low f more (Outcome.Answered told ∷ os) run none =
      go (follows-answer config w.unit (past_of config w.unit (h ++ run.0)) (past-is config w.unit (h ++ run.0)) m w.id k w.list.ranges rod starts f_others more run.1.moment)
    where
      f_others : Follows m w.id (past_of config w.unit (h ++ run.0)) k
      f_others = others-follow config w.unit nexus m w.id k h run.0 who run.2.not_own f

      told_is : told ≡ answer_after config w.unit (past_of config w.unit (h ++ run.0)) m.entry.actor run.1.moment (Act.Advance w.id)
      told_is = run.2.answered ∙ ap (λ a. answer_after config w.unit (past_of config w.unit (h ++ run.0)) a run.1.moment (Act.Advance w.id)) (sym who)

      low_on : length (list_of m.entry.act) ≤ piece_blocks * (k + 1 + left)
      low_on = omega (arith, low)

      go : ((n : ℕ) × (answer_after config w.unit (past_of config w.unit (h ++ run.0)) m.entry.actor run.1.moment (Act.Advance w.id) ≡ Answer.Progress (OpState.Failed space_allocation_failed) n))
          ⊎ ((n : ℕ) × (answer_after config w.unit (past_of config w.unit (h ++ run.0)) m.entry.actor run.1.moment (Act.Advance w.id)
          ≡ Answer.Progress (state_after (k + 1) (length (list_of m.entry.act))) n))
          → EndsWell (Outcome.Answered told ∷ os) (next (fold moved (advancing w left told) os))
      go (inl stop) =
          let is : told ≡ Answer.Progress (OpState.Failed space_allocation_failed) stop.0 = told_is ∙ stop.1 in
          subst (λ a. EndsWell (Outcome.Answered a ∷ os) (next (fold moved (advancing w left a) os))) (sym is)
          (stop-ends config nexus Lacks w left stop.0 (h ++ run.0 ++ run.1 ∷ []) os (subst (λ a. RunsIn config nexus Lacks (advancing w left a) (h ++ run.0 ++ run.1 ∷ []) os) is run.3) none)
      go (inr on) =
          let t = nat_le (length (list_of m.entry.act)) (piece_blocks * (k + 1)) in
          let next_told = Answer.Progress (state_after (k + 1) (length (list_of m.entry.act))) on.0 in
          let is : told ≡ Answer.Progress (state_after (k + 1) (length (list_of m.entry.act))) on.0 = told_is ∙ on.1 in
          let f_own : Follows m w.id (past_of config w.unit (h ++ run.0 ++ run.1 ∷ [])) (k + 1) =
          own-follows config w.unit nexus m w.id k h run.0 run.1 told who run.2 (ap is_failure is ∙ not-failed t on.0) f_others in
          subst (λ a. EndsWell (Outcome.Answered a ∷ os) (next (fold moved (advancing w left a) os))) (sym is)
          (ends-more next_told os (next (fold moved (advancing w left next_told) os)) (not-stop t on.0)
          (again (k + 1) on.0 (h ++ run.0 ++ run.1 ∷ []) low_on f_own os
          (subst (λ a. RunsIn config nexus Lacks (advancing w left a) (h ++ run.0 ++ run.1 ∷ []) os) is run.3) none))

  goes-on : (left : ℕ) → Goes-on left
  goes-on zero k n h low f = go (nat_le (length (list_of m.entry.act)) (piece_blocks * k)) refl
    where
      go : (t : Bool) → nat_le (length (list_of m.entry.act)) (piece_blocks * k) ≡ t → EndsAt config nexus Lacks (advancing w zero (Answer.Progress (if t then OpState.Done else OpState.Running) n)) h
      go true is = delete-ends config nexus Lacks w.list.delete (classify w.list.token) h
      go false is = absurd (let high : 1024 * k < length (list_of m.entry.act) = grind (arith, nat_tests) in omega (arith, low, high))
  goes-on (suc left) k n h low f = go (nat_le (length (list_of m.entry.act)) (piece_blocks * k)) refl (goes-on left)
    where
      go : (t : Bool) → nat_le (length (list_of m.entry.act)) (piece_blocks * k) ≡ t → Goes-on left
          → EndsAt config nexus Lacks (advancing w (suc left) (Answer.Progress (if t then OpState.Done else OpState.Running) n)) h
      go true is again = delete-ends config nexus Lacks w.list.delete (classify w.list.token) h
      go false is again = advance-ends left again k h low f is

-- ---- the Start

-- a refusal, or how far it has come
abbrev pub StartCases : HeldBlocks → Answer → Type 0
StartCases rod a = ((sense : SenseCode) × (a ≡ Answer.Refused sense)) ⊎ ((a ≡ Answer.Conflict) ⊎ (a ≡ Answer.Progress (if length rod.items == 0 then OpState.Done else OpState.Running) 0))

-- what a Start is answered
pub start-cases : (config : Configuration) (unit : ℕ) (h : List Entry) (actor : Actor) (now id : ℕ) (ranges : List Range) (rod : HeldBlocks)
    → StartCases rod (answer config h unit actor now (Act.Start id false ranges rod))
start-cases config unit h actor now id ranges rod =
    by (bars_act (reservations (past_of config unit h)) actor (Act.Start id false ranges rod))
    (is_busy (past_of config unit h) actor OfToken id) (not (is_within (unit_of config unit).blocks ranges)) (is_crowded (past_of config unit h))
  where
    by : (t a b c : Bool)
        → StartCases rod (if t then Answer.Conflict else if a then Answer.Refused operation_in_progress else if b then Answer.Refused lba_out_of_range else if c then Answer.Refused insufficient_resources
        else Answer.Progress (if length rod.items == 0 then OpState.Done else OpState.Running) 0)
    by true a b c = inr (inl refl)
    by false true b c = inl (operation_in_progress, refl)
    by false false true c = inl (lba_out_of_range, refl)
    by false false false true = inl (insufficient_resources, refl)
    by false false false false = inr (inr refl)

-- behind this history the program ends well, if its Start is answered
abbrev StartsAt : Configuration → ℕ → Lacking → Program → List Entry → Type 0
StartsAt config nexus Lacks p h = (os : List Outcome) → RunsIn config nexus Lacks p h os → gave_up os ≡ false → has_started os ≡ true → EndsWell os (next (fold moved p os))

ended-starts : (config : Configuration) (nexus : ℕ) (Lacks : Lacking) (reply : Reply) (h : List Entry) → StartsAt config nexus Lacks (Ends reply) h
ended-starts config nexus Lacks reply h os run none some =
    let e : os ≡ [] = nothing-more config nexus Lacks reply h os run none in
    let same : false ≡ true = sym (ap has_started e) ∙ some in
    cc

-- one more answer, which tells of no progress, and behind which it has ended
refused-starts : (config : Configuration) (nexus : ℕ) (Lacks : Lacking) (told : Answer) (reply : Reply) (h : List Entry) (os : List Outcome) → is_progress (Outcome.Answered told) ≡ false
    → RunsIn config nexus Lacks (Ends reply) h os → gave_up os ≡ false → has_started (Outcome.Answered told ∷ os) ≡ true → ⊥
refused-starts config nexus Lacks told reply h os plain run none some =
    let e : os ≡ [] = nothing-more config nexus Lacks reply h os run none in
    let same : false ≡ true = sym (ap (λ t. t || has_started os) plain ∙ ap has_started e) ∙ some in
    cc

same-start : (size items k : ℕ) → size ≡ items → (items == 0) ≡ nat_le size (1024 * 0)
same-start size items k e = go (items == 0) refl
  where
    go : (t : Bool) → (items == 0) ≡ t → t ≡ nat_le size (1024 * 0)
    go true is = grind (arith, nat_tests)
    go false is = grind (arith, nat_tests)

-- the deed that the Start was
abbrev pub begun : Configuration → TokenWrite → List Entry → List Entry → Entry → Deed
begun config w before others e = deed config w.unit (past_of config w.unit (before ++ others)) e

abbrev pub told_as : Configuration → TokenWrite → List Entry → List Entry → Entry → Answer
told_as config w before others e = Answer.Progress (state_after 0 (length (list_of (begun config w before others e).entry.act))) 0

-- what stands once the Start was answered with progress
pub record HasBegun (config : Configuration) (nexus : ℕ) (w : TokenWrite) (rod : HeldBlocks) (before others : List Entry) (e : Entry) (told : Answer) : Type 0 where
  pub starts : (begun config w before others e).entry.act ≡ Act.Start w.id false w.list.ranges rod
  pub who : (begun config w before others e).entry.actor ≡ Actor.Nexus nexus
  pub as_state : told ≡ told_as config w before others e
  pub enough : length (list_of (begun config w before others e).entry.act) ≤ piece_blocks * (0 + pieces (wanted w))
  pub follows : Follows (begun config w before others e) w.id (past_of config w.unit (before ++ others ++ e ∷ [])) 0

pub has-begun : (config : Configuration) (nexus : ℕ) (w : TokenWrite) (rod : HeldBlocks) → length rod.items ≡ wanted w → (before others : List Entry) (e : Entry) (told : Answer)
    → IsNext config nexus before others e w.unit (Act.Start w.id false w.list.ranges rod) told
    → told ≡ Answer.Progress (if length rod.items == 0 then OpState.Done else OpState.Running) 0
    → HasBegun config nexus w rod before others e told
has-begun config nexus w rod whole before others e told is progress = record { starts = starts; who = who; as_state = as_state; enough = enough; follows = f }
  where
    starts : (begun config w before others e).entry.act ≡ Act.Start w.id false w.list.ranges rod
    starts = is.asks

    who : (begun config w before others e).entry.actor ≡ Actor.Nexus nexus
    who = is.actor

    size : length (list_of (begun config w before others e).entry.act) ≡ length rod.items
    size =
        ap (λ a. length (list_of a)) is.asks
        ∙ length-paired (blocks_of w.list.ranges) rod.items (length-blocks_of w.list.ranges ∙ sym whole)

    as_state : told ≡ (told_as config w before others e)
    as_state = progress ∙ ap (λ t. Answer.Progress (if t then OpState.Done else OpState.Running) 0) (same-start (length (list_of (begun config w before others e).entry.act)) (length rod.items) 0 size)

    enough : length (list_of (begun config w before others e).entry.act) ≤ piece_blocks * (0 + pieces (wanted w))
    enough = enough_of (length (list_of (begun config w before others e).entry.act)) (wanted w) (size ∙ whole)
      where
        enough_of : (n blocks : ℕ) → n ≡ blocks → n ≤ 1024 * (0 + pieces blocks)
        enough_of n blocks same = omega (arith, same)

    answered : (begun config w before others e).answer ≡ told
    answered =
        ap (λ a. answer_after config w.unit (past_of config w.unit (before ++ others)) a e.moment e.act) is.actor
        ∙ ap (answer_after config w.unit (past_of config w.unit (before ++ others)) (Actor.Nexus nexus) e.moment) is.asks
        ∙ sym is.answered

    makes : makes_operation (begun config w before others e) ≡ true
    makes = ap (λ a. is_making a && is_answered (begun config w before others e)) is.asks ∙ ap (λ a. not (is_refusal a)) (answered ∙ progress)

    f : Follows (begun config w before others e) w.id (past_of config w.unit (before ++ others ++ e ∷ [])) 0
    f = subst (λ p. Follows (begun config w before others e) w.id p 0) (sym (past_of-mine config w.unit (before ++ others) e is.on_unit))
        (follows-started config w.unit (past_of config w.unit (before ++ others)) w.id (begun config w before others e) (past-is config w.unit (before ++ others)) refl makes)

module _ (config : Configuration) (nexus : ℕ) (Lacks : Lacking) (w : TokenWrite) (rod : HeldBlocks) (whole : length rod.items ≡ wanted w) where
  -- the Start was answered with progress
  begun-ends : (before others : List Entry) (e : Entry) (told : Answer) (os : List Outcome)
      → IsNext config nexus before others e w.unit (Act.Start w.id false w.list.ranges rod) told
      → told ≡ Answer.Progress (if length rod.items == 0 then OpState.Done else OpState.Running) 0
      → RunsIn config nexus Lacks (advancing w (pieces (wanted w)) told) (before ++ others ++ e ∷ []) os → gave_up os ≡ false
      → EndsWell (Outcome.Answered told ∷ os) (next (fold moved (advancing w (pieces (wanted w)) told) os))
  begun-ends before others e told os is progress run none =
      let h = has-begun config nexus w rod whole before others e told is progress in
      subst (λ a. EndsWell (Outcome.Answered a ∷ os) (next (fold moved (advancing w (pieces (wanted w)) a) os))) (sym h.as_state)
      (ends-more (told_as config w before others e) os (next (fold moved (advancing w (pieces (wanted w)) (told_as config w before others e)) os)) (not-stop (nat_le (length (list_of (begun config w before others e).entry.act)) (piece_blocks * 0)) 0)
      (goes-on config nexus Lacks w (begun config w before others e) rod h.starts h.who (pieces (wanted w)) 0 0 (before ++ others ++ e ∷ []) h.enough h.follows os
      (subst (λ a. RunsIn config nexus Lacks (advancing w (pieces (wanted w)) a) (before ++ others ++ e ∷ []) os) h.as_state run) none))

  starting-ends : (immed : Bool) → immed ≡ false → (h : List Entry)
      → StartsAt config nexus Lacks (ask_then w.unit (Act.Start w.id immed w.list.ranges rod) (started w immed)) h
  starting-ends true foreground h os run none some = cc
  starting-ends false foreground h [] run none some = cc
  starting-ends false foreground h (Outcome.Full ∷ os) run none some = cc
  starting-ends false foreground h (Outcome.NoMemory ∷ os) run none some = cc
  starting-ends false foreground h (Outcome.Answered told ∷ os) run none some =
      go (start-cases config w.unit (h ++ run.0) (Actor.Nexus nexus) run.1.moment w.id w.list.ranges rod)
    where
      go : StartCases rod (answer config (h ++ run.0) w.unit (Actor.Nexus nexus) run.1.moment (Act.Start w.id false w.list.ranges rod))
          → EndsWell (Outcome.Answered told ∷ os) (next (fold moved (advancing w (pieces (wanted w)) told) os))
      go (inl refusal) =
          let is : told ≡ Answer.Refused refusal.0 = run.2.answered ∙ refusal.1 in
          absurd (refused-starts config nexus Lacks (Answer.Refused refusal.0) (Reply.Check refusal.0) (h ++ run.0 ++ run.1 ∷ []) os refl
          (subst (λ a. RunsIn config nexus Lacks (advancing w (pieces (wanted w)) a) (h ++ run.0 ++ run.1 ∷ []) os) is run.3) none
          (subst (λ a. has_started (Outcome.Answered a ∷ os) ≡ true) is some))
      go (inr (inl barred)) =
          let is : told ≡ Answer.Conflict = run.2.answered ∙ barred in
          absurd (refused-starts config nexus Lacks Answer.Conflict Reply.Conflict (h ++ run.0 ++ run.1 ∷ []) os refl
          (subst (λ a. RunsIn config nexus Lacks (advancing w (pieces (wanted w)) a) (h ++ run.0 ++ run.1 ∷ []) os) is run.3) none
          (subst (λ a. has_started (Outcome.Answered a ∷ os) ≡ true) is some))
      go (inr (inr progress)) = begun-ends h run.0 run.1 told os run.2 (run.2.answered ∙ progress) run.3 none

-- ---- the Redeem

pub part-whole : (w : TokenWrite) (rod : HeldBlocks) → nat_lt (length rod.items) (w.list.offset + wanted w) ≡ false → length (rod_part w rod).items ≡ wanted w
part-whole w rod enough = part (length rod.items) w.list.offset (wanted w) rod.items refl enough
  where
    part : (n offset want : ℕ) (xs : List Held) → length xs ≡ n → nat_lt n (offset + want) ≡ false → length (slice_range xs offset (offset + want)) ≡ want
    part n offset want xs is low = grind (arith, common_steps, nat_tests)

rod-ends : (config : Configuration) (nexus : ℕ) (Lacks : Lacking) (w : TokenWrite) (rod : HeldBlocks) (h : List Entry) → w.list.immed ≡ false
    → (t : Bool) → nat_lt (length rod.items) (w.list.offset + wanted w) ≡ t → (os : List Outcome)
    → RunsIn config nexus Lacks (if t then refused invalid_field_in_parameter_list else starting w (rod_part w rod)) h os → gave_up os ≡ false → has_started os ≡ true
    → EndsWell os (next (fold moved (if t then refused invalid_field_in_parameter_list else starting w (rod_part w rod)) os))
rod-ends config nexus Lacks w rod h now true short os run none some = ended-starts config nexus Lacks (Reply.Check invalid_field_in_parameter_list) h os run none some
rod-ends config nexus Lacks w rod h now false enough os run none some =
    starting-ends config nexus Lacks w (rod_part w rod) (part-whole w rod enough) w.list.immed now h os run none some

redeemed-ends : (config : Configuration) (nexus : ℕ) (Lacks : Lacking) (w : TokenWrite) (h : List Entry) (told : Answer) → w.list.immed ≡ false → HasKind (Act.Redeem w.list.token w.unit) told
    → (os : List Outcome) → RunsIn config nexus Lacks (after_redeem w told) h os → gave_up os ≡ false → has_started (Outcome.Answered told ∷ os) ≡ true
    → EndsWell (Outcome.Answered told ∷ os) (next (fold moved (after_redeem w told) os))
redeemed-ends config nexus Lacks w h (Answer.Rod rod) now kind os run none some =
    ends-more (Answer.Rod rod) os (next (fold moved (after_redeem w (Answer.Rod rod)) os)) refl
    (rod-ends config nexus Lacks w rod h now (nat_lt (length rod.items) (w.list.offset + wanted w)) refl os run none some)
redeemed-ends config nexus Lacks w h (Answer.Refused sense) now kind os run none some =
    absurd (refused-starts config nexus Lacks (Answer.Refused sense) (Reply.Check sense) h os refl run none some)
redeemed-ends config nexus Lacks w h Answer.Conflict now kind os run none some = cc
redeemed-ends config nexus Lacks w h _ now kind os run none some = absurd kind

redeem-ends : (config : Configuration) (nexus : ℕ) (Lacks : Lacking) (w : TokenWrite) (creator : ℕ) (h : List Entry) → w.list.immed ≡ false
    → StartsAt config nexus Lacks (ask_then creator (Act.Redeem w.list.token w.unit) (after_redeem w)) h
redeem-ends config nexus Lacks w creator h now [] run none some = cc
redeem-ends config nexus Lacks w creator h now (Outcome.Full ∷ os) run none some = cc
redeem-ends config nexus Lacks w creator h now (Outcome.NoMemory ∷ os) run none some = cc
redeem-ends config nexus Lacks w creator h now (Outcome.Answered told ∷ os) run none some =
    redeemed-ends config nexus Lacks w (h ++ run.0 ++ run.1 ∷ []) told now
    (subst (HasKind (Act.Redeem w.list.token w.unit)) (sym run.2.answered)
    (answer-kind config (h ++ run.0) creator (Actor.Nexus nexus) run.1.moment (Act.Redeem w.list.token w.unit))) os run.3 none some

kind-ends : (config : Configuration) (nexus : ℕ) (Lacks : Lacking) (w : TokenWrite) (kind : TokenKind) (h : List Entry) → w.list.immed ≡ false → StartsAt config nexus Lacks (write_by config w kind) h
kind-ends config nexus Lacks w TokenKind.BadLength h now = ended-starts config nexus Lacks _ h
kind-ends config nexus Lacks w TokenKind.BadType h now = ended-starts config nexus Lacks _ h
kind-ends config nexus Lacks w TokenKind.Zero h now = starting-ends config nexus Lacks w (zero_rod config w) (length-replicate (wanted w) None) w.list.immed now h
kind-ends config nexus Lacks w (TokenKind.Names creator serial) h now = go (is_configured config creator)
  where
    go : (there : Bool) → StartsAt config nexus Lacks (cond there (ask_then creator (Act.Redeem w.list.token w.unit) (after_redeem w)) (refused token_unknown)) h
    go true = redeem-ends config nexus Lacks w creator h now
    go false = ended-starts config nexus Lacks (Reply.Check token_unknown) h

-- ---- the whole command

-- a command that was never refused memory or room
pub ends-well : (config : Configuration) (nexus : ℕ) (Lacks : Lacking) (r : Request) (before : List Entry) (os : List Outcome)
    → IsWriteNow r → RunsIn config nexus Lacks (program config r) before os → gave_up os ≡ false → has_started os ≡ true → EndsWell os (step config nexus r os)
ends-well config nexus Lacks r before os is run none some = whole (is_configured config r.unit) os run none some
  where
    w : TokenWrite
    w = record { unit = r.unit; id = is.id; list = is.list }

    write : StartsAt config nexus Lacks (write_by config (record { unit = r.unit; id = is.id; list = is.list }) (classify is.list.token)) before
    write = kind-ends config nexus Lacks (record { unit = r.unit; id = is.id; list = is.list }) (classify is.list.token) before is.immed

    read : StartsAt config nexus Lacks (write_using_token config r.unit is.id (write_token_read r.out)) before
    read = subst (λ l. StartsAt config nexus Lacks (write_using_token config r.unit is.id l) before) (sym is.read) write

    out : (fault : Option SenseCode) → StartsAt config nexus Lacks (judged_out config r (Cdb.WriteUsingToken is.id is.length) fault) before
    out (Some sense) = ended-starts config nexus Lacks (Reply.Check sense) before
    out None = read

    command : StartsAt config nexus Lacks (judged_cdb config r (decoded r.cdb)) before
    command = subst (λ c. StartsAt config nexus Lacks (judged_cdb config r c) before) (sym is.command)
        (out (out_fault (unit_of config r.unit) r.out (Cdb.WriteUsingToken is.id is.length)))

    whole : (b : Bool) → StartsAt config nexus Lacks (cond b (judged_cdb config r (decoded r.cdb)) (refused logical_unit_not_supported)) before
    whole true = command
    whole false = ended-starts config nexus Lacks (Reply.Check logical_unit_not_supported) before
