-- A write in the foreground that was started and found no room did so for its Delete, or for an Advance that serves it
use Rattle.std.proofs.Common.{◌≡◌, ◌∙◌, ℕ, zero, suc, ◌+◌, ◌*◌, List, [], ◌∷◌, ◌++◌, length, refl, ap, sym, subst, inl, inr, false, true, Bool, append_assoc}
use Rattle.std.specs.Prelude.{◌==◌, ◌||◌, ◌⊎◌, cond, fold, nat_lt, nat_le, Option, Some, None, is_some, if◌then◌else◌}
use Rattle.std.proofs.lemmas.List.{length-replicate}
use Rattle.cm_base.specs.Configuration.{Configuration}
use Rattle.cm_base.specs.declared.config.UnitConfig.{UnitConfig}
use Rattle.cm_base.specs.Units.{unit_of, is_configured}
use Rattle.lba_ranges.specs.HeldBlocks.{HeldBlocks}
use Rattle.scsi_sense.specs.SenseCode.{SenseCode}
use Rattle.scsi_sense.specs.Codes.{logical_unit_not_supported, invalid_field_in_cdb, invalid_field_in_parameter_list, token_unknown, space_allocation_failed, copy_aborted}
use Rattle.scsi_cdb.specs.declared.cdb.Cdb.{Cdb}
use Rattle.scsi_cdb.specs.Decoded.{decoded}
use Rattle.block_params.specs.ListsRead.{write_token_read}
use Rattle.rod_token.specs.declared.kind.TokenKind.{TokenKind}
use Rattle.rod_token.specs.TokenText.{classify}
use Rattle.cm_frame.specs.declared.frame.Request.{Request}
use Rattle.cm_frame.specs.declared.frame.Reply.{Reply}
use Rattle.cm_history.specs.Bounds.{piece_blocks}
use Rattle.cm_history.specs.declared.act.Act.{Act}
use Rattle.cm_history.specs.declared.act.Actor.{Actor}
use Rattle.cm_history.specs.declared.act.Entry.{Entry}
use Rattle.cm_history.specs.declared.answer.Answer.{Answer}
use Rattle.cm_history.specs.declared.answer.OpState.{OpState}
use Rattle.cm_history.specs.Deeds.{Deed, same_actor}
use Rattle.cm_history.specs.Operations.{Operation, list_of, is_failure, would_serve}
use Rattle.cm_history.specs.Reserving.{reservations, bars_act}
use Rattle.cm_history.specs.Answers.{answer_after, progress}
use Rattle.cm_history.specs.History.{past_of, answer}
use Rattle.cm_history.specs.Forms.{HasKind}
use Rattle.cm_history.specs.Completeness.{state_after}
use Rattle.cm_history.specs.Room.{pieces}
use Rattle.cm_history.proofs.PublicLaws.{answer-kind, past-is, same_actor-self as actor-self, Follows, follows-answer, no-failure as not-failed}
use Rattle.cmd_program.specs.declared.step.Outcome.{Outcome}
use Rattle.cmd_program.specs.declared.step.Step.{Step}
use Rattle.cmd_program.specs.Stepping.{gave_up, wanted_memory}
use Rattle.cmd_program.specs.Program.{Ask, Program, Ends, Asks, GivesUp, next, done, refused, unless_refused, ask_then}
use Rattle.cmd_program.specs.SingleActs.{act_alone}
use Rattle.cmd_program.specs.TokenWrite.{TokenWrite, wanted, delete_by, end_of, advancing, started, starting, rod_part, after_redeem, zero_rod, write_by, write_using_token}
use Rattle.cmd_program.specs.Judging.{step, program, judged_cdb, judged_out, out_fault}
use Rattle.cmd_program.specs.InHistory.{Lacking, LacksAny, is_by, entries_by, IsNext, RunsIn}
use Rattle.cmd_program.specs.WriteEnds.{IsWriteNow, is_progress, has_started, ran_out, IsExcused, ServesInVain, EndsWell, WritesEndWell}
use Rattle.cmd_program.proofs.WriteEnds.{not-stop, StartCases, start-cases, begun, told_as, HasBegun, has-begun, others-follow, own-follows, part-whole, ends-well}

-- ---- an Advance that goes on serves

-- where it is answered with progress, there is an operation
serves-by : (config : Configuration) (unit : ℕ) (past : List Deed) (actor : Actor) (now id n : ℕ) (state : OpState)
    → answer_after config unit past actor now (Act.Advance id) ≡ Answer.Progress state n → is_some (would_serve past actor (Act.Advance id)) ≡ true
serves-by config unit past actor now id n state told = go (bars_act (reservations past) actor (Act.Advance id)) (would_serve past actor (Act.Advance id)) told
  where
    go : (t : Bool) (o : Option Operation)
        → (if t then Answer.Conflict else progress (unit_of config unit) past (Answer.Refused invalid_field_in_cdb) o) ≡ Answer.Progress state n → is_some o ≡ true
    go true o is = cc
    go false None is = cc
    go false (Some o) is = refl

-- the last entry of these is the nexus's, and on the unit
record EndsOwn (nexus unit : ℕ) (h : List Entry) : Type 0 where
  front : List Entry
  last : Entry
  all : front ++ last ∷ [] ≡ h
  own : is_by nexus last ≡ true
  on_unit : last.unit ≡ unit

-- behind such an entry
ends-own : (config : Configuration) (nexus unit : ℕ) (before others : List Entry) (e : Entry) (act : Act) (told : Answer) → IsNext config nexus before others e unit act told
    → EndsOwn nexus unit (before ++ others ++ e ∷ [])
ends-own config nexus unit before others e act told is = record {
  front = before ++ others;
  last = e;
  all = refl;
  own = ap (λ a. same_actor a (Actor.Nexus nexus)) is.actor ∙ actor-self (Actor.Nexus nexus);
  on_unit = is.on_unit;
}

-- ---- programs that end

-- a program that has given up, and has nothing left to ask, does nothing more
none-behind : (config : Configuration) (nexus : ℕ) (Lacks : Lacking) (reply : Reply) (h : List Entry) (os : List Outcome) → RunsIn config nexus Lacks (GivesUp None reply) h os
    → wanted_memory os ≡ false → os ≡ []
none-behind config nexus Lacks reply h [] run none = refl
none-behind config nexus Lacks reply h (Outcome.Answered told ∷ os) run none = absurd run
none-behind config nexus Lacks reply h (Outcome.Full ∷ os) run none = absurd run.0
none-behind config nexus Lacks reply h (Outcome.NoMemory ∷ os) run none = cc

-- where it found no room, that is excused
abbrev VainAt : Configuration → ℕ → Lacking → Program → List Entry → Type 0
VainAt config nexus Lacks p h = (os : List Outcome) → RunsIn config nexus Lacks p h os → wanted_memory os ≡ false → gave_up os ≡ true
    → IsExcused (ServesInVain config nexus Lacks) (ran_out p os)

ended-vain : (config : Configuration) (nexus : ℕ) (Lacks : Lacking) (reply : Reply) (h : List Entry) → VainAt config nexus Lacks (Ends reply) h
ended-vain config nexus Lacks reply h [] run none gave = cc
ended-vain config nexus Lacks reply h (Outcome.Answered told ∷ os) run none gave = absurd run
ended-vain config nexus Lacks reply h (Outcome.Full ∷ os) run none gave = absurd run.0
ended-vain config nexus Lacks reply h (Outcome.NoMemory ∷ os) run none gave = cc

told-vain : (config : Configuration) (nexus : ℕ) (Lacks : Lacking) (told : Answer) (h : List Entry) → VainAt config nexus Lacks (unless_refused done told) h
told-vain config nexus Lacks (Answer.Refused sense) h = ended-vain config nexus Lacks (Reply.Check sense) h
told-vain config nexus Lacks Answer.Conflict h = ended-vain config nexus Lacks Reply.Conflict h
told-vain config nexus Lacks _ h = ended-vain config nexus Lacks (Reply.Good []) h

delete-vain : (config : Configuration) (nexus : ℕ) (Lacks : Lacking) (delete : Bool) (kind : TokenKind) (h : List Entry) → VainAt config nexus Lacks (delete_by delete kind) h
delete-vain config nexus Lacks true (TokenKind.Names creator serial) h = go
  where
    go : VainAt config nexus Lacks (act_alone creator (Act.Delete serial)) h
    go [] run none gave = cc
    go (Outcome.Full ∷ os) run none gave = tt
    go (Outcome.NoMemory ∷ os) run none gave = cc
    go (Outcome.Answered told ∷ os) run none gave = told-vain config nexus Lacks told (h ++ run.0 ++ run.1 ∷ []) os run.3 none gave
delete-vain config nexus Lacks true TokenKind.BadLength h = ended-vain config nexus Lacks (Reply.Good []) h
delete-vain config nexus Lacks true TokenKind.BadType h = ended-vain config nexus Lacks (Reply.Good []) h
delete-vain config nexus Lacks true TokenKind.Zero h = ended-vain config nexus Lacks (Reply.Good []) h
delete-vain config nexus Lacks false kind h = ended-vain config nexus Lacks (Reply.Good []) h

-- ---- from the Start on

module _ (config : Configuration) (nexus : ℕ) (Lacks : Lacking) (w : TokenWrite) (m : Deed) (rod : HeldBlocks)
    (starts : m.entry.act ≡ Act.Start w.id false w.list.ranges rod) (who : m.entry.actor ≡ Actor.Nexus nexus) where
  -- so many Advances were answered, and so many are left
  abbrev Vain-on : ℕ → Type 0
  Vain-on left = (k n : ℕ) (h : List Entry) → Follows m w.id (past_of config w.unit h) k → EndsOwn nexus w.unit h
      → VainAt config nexus Lacks (advancing w left (Answer.Progress (state_after k (length (list_of m.entry.act))) n)) h

  -- its operation runs behind all that others do
  serves : (k : ℕ) (h : List Entry) → Follows m w.id (past_of config w.unit h) k → nat_le (length (list_of m.entry.act)) (piece_blocks * k) ≡ false
      → (others : List Entry) → entries_by nexus others ≡ []
      → is_some (would_serve (past_of config w.unit (h ++ others)) (Actor.Nexus nexus) (Act.Advance w.id)) ≡ true
  serves k h f more others none =
      go (follows-answer config w.unit (past_of config w.unit (h ++ others)) (past-is config w.unit (h ++ others)) m w.id k w.list.ranges rod starts
      (others-follow config w.unit nexus m w.id k h others who none f) more 0)
    where
      as-nexus : (state : OpState) (n : ℕ) → answer_after config w.unit (past_of config w.unit (h ++ others)) m.entry.actor 0 (Act.Advance w.id) ≡ Answer.Progress state n
          → is_some (would_serve (past_of config w.unit (h ++ others)) (Actor.Nexus nexus) (Act.Advance w.id)) ≡ true
      as-nexus state n told =
          serves-by config w.unit (past_of config w.unit (h ++ others)) (Actor.Nexus nexus) 0 w.id n state
          (ap (λ a. answer_after config w.unit (past_of config w.unit (h ++ others)) a 0 (Act.Advance w.id)) (sym who) ∙ told)

      go : ((n : ℕ) × (answer_after config w.unit (past_of config w.unit (h ++ others)) m.entry.actor 0 (Act.Advance w.id) ≡ Answer.Progress (OpState.Failed space_allocation_failed) n))
          ⊎ ((n : ℕ) × (answer_after config w.unit (past_of config w.unit (h ++ others)) m.entry.actor 0 (Act.Advance w.id)
          ≡ Answer.Progress (state_after (k + 1) (length (list_of m.entry.act))) n))
          → is_some (would_serve (past_of config w.unit (h ++ others)) (Actor.Nexus nexus) (Act.Advance w.id)) ≡ true
      go (inl stop) = as-nexus (OpState.Failed space_allocation_failed) stop.0 stop.1
      go (inr on) = as-nexus (state_after (k + 1) (length (list_of m.entry.act))) on.0 on.1

  -- an Advance that found no room
  in-vain : (k : ℕ) (h : List Entry) → Follows m w.id (past_of config w.unit h) k → nat_le (length (list_of m.entry.act)) (piece_blocks * k) ≡ false
      → (x : EndsOwn nexus w.unit h) → Lacks h w.unit (Act.Advance w.id) → ServesInVain config nexus Lacks
  in-vain k h f more x lacks = record {
    before = x.front;
    last = x.last;
    own = x.own;
    id = w.id;
    serves = λ others none.
        subst (λ u. is_some (would_serve (past_of config u (x.front ++ x.last ∷ others)) (Actor.Nexus nexus) (Act.Advance w.id)) ≡ true) (sym x.on_unit)
        (subst (λ l. is_some (would_serve (past_of config w.unit l) (Actor.Nexus nexus) (Act.Advance w.id)) ≡ true)
        (ap (λ l. l ++ others) (sym x.all) ∙ append_assoc x.front (x.last ∷ []) others) (serves k h f more others none));
    lacks = subst (λ u. Lacks (x.front ++ x.last ∷ []) u (Act.Advance w.id)) (sym x.on_unit) (subst (λ l. Lacks l w.unit (Act.Advance w.id)) (sym x.all) lacks);
  }

  advance-vain : (left : ℕ) → Vain-on left → (k : ℕ) (h : List Entry) → Follows m w.id (past_of config w.unit h) k → EndsOwn nexus w.unit h
      → nat_le (length (list_of m.entry.act)) (piece_blocks * k) ≡ false
      → VainAt config nexus Lacks (Asks (record { unit = w.unit; act = Act.Advance w.id }) (Some (end_of w)) (advancing w left)) h
  advance-vain left again k h f x more [] run none gave = cc
  advance-vain left again k h f x more (Outcome.Full ∷ os) run none gave = in-vain k h f more x run.0
  advance-vain left again k h f x more (Outcome.NoMemory ∷ os) run none gave = cc
  advance-vain left again k h f x more (Outcome.Answered told ∷ os) run none gave =
      go (follows-answer config w.unit (past_of config w.unit (h ++ run.0)) (past-is config w.unit (h ++ run.0)) m w.id k w.list.ranges rod starts f_others more run.1.moment)
    where
      f_others : Follows m w.id (past_of config w.unit (h ++ run.0)) k
      f_others = others-follow config w.unit nexus m w.id k h run.0 who run.2.not_own f

      told_is : told ≡ answer_after config w.unit (past_of config w.unit (h ++ run.0)) m.entry.actor run.1.moment (Act.Advance w.id)
      told_is = run.2.answered ∙ ap (λ a. answer_after config w.unit (past_of config w.unit (h ++ run.0)) a run.1.moment (Act.Advance w.id)) (sym who)

      go : ((n : ℕ) × (answer_after config w.unit (past_of config w.unit (h ++ run.0)) m.entry.actor run.1.moment (Act.Advance w.id) ≡ Answer.Progress (OpState.Failed space_allocation_failed) n))
          ⊎ ((n : ℕ) × (answer_after config w.unit (past_of config w.unit (h ++ run.0)) m.entry.actor run.1.moment (Act.Advance w.id)
          ≡ Answer.Progress (state_after (k + 1) (length (list_of m.entry.act))) n))
          → IsExcused (ServesInVain config nexus Lacks) (ran_out (advancing w left told) os)
      go (inl stop) =
          let is : told ≡ Answer.Progress (OpState.Failed space_allocation_failed) stop.0 = told_is ∙ stop.1 in
          subst (λ a. IsExcused (ServesInVain config nexus Lacks) (ran_out (advancing w left a) os)) (sym is)
          (ended-vain config nexus Lacks (Reply.Check space_allocation_failed) (h ++ run.0 ++ run.1 ∷ []) os
          (subst (λ a. RunsIn config nexus Lacks (advancing w left a) (h ++ run.0 ++ run.1 ∷ []) os) is run.3) none gave)
      go (inr on) =
          let is : told ≡ Answer.Progress (state_after (k + 1) (length (list_of m.entry.act))) on.0 = told_is ∙ on.1 in
          let f_own : Follows m w.id (past_of config w.unit (h ++ run.0 ++ run.1 ∷ [])) (k + 1) =
          own-follows config w.unit nexus m w.id k h run.0 run.1 told who run.2
          (ap is_failure is ∙ not-failed (nat_le (length (list_of m.entry.act)) (piece_blocks * (k + 1))) on.0) f_others in
          subst (λ a. IsExcused (ServesInVain config nexus Lacks) (ran_out (advancing w left a) os)) (sym is)
          (again (k + 1) on.0 (h ++ run.0 ++ run.1 ∷ []) f_own (ends-own config nexus w.unit h run.0 run.1 (Act.Advance w.id) told run.2) os
          (subst (λ a. RunsIn config nexus Lacks (advancing w left a) (h ++ run.0 ++ run.1 ∷ []) os) is run.3) none gave)

  vain-on : (left : ℕ) → Vain-on left
  vain-on zero k n h f x = go (nat_le (length (list_of m.entry.act)) (piece_blocks * k))
    where
      go : (t : Bool) → VainAt config nexus Lacks (advancing w zero (Answer.Progress (if t then OpState.Done else OpState.Running) n)) h
      go true = delete-vain config nexus Lacks w.list.delete (classify w.list.token) h
      go false = ended-vain config nexus Lacks (Reply.Check copy_aborted) h
  vain-on (suc left) k n h f x = go (nat_le (length (list_of m.entry.act)) (piece_blocks * k)) refl (vain-on left)
    where
      go : (t : Bool) → nat_le (length (list_of m.entry.act)) (piece_blocks * k) ≡ t → Vain-on left
          → VainAt config nexus Lacks (advancing w (suc left) (Answer.Progress (if t then OpState.Done else OpState.Running) n)) h
      go true is again = delete-vain config nexus Lacks w.list.delete (classify w.list.token) h
      go false is again = advance-vain left again k h f x is

-- ---- the Start

-- where it was started and found no room, that is excused
abbrev StartsVain : Configuration → ℕ → Lacking → Program → List Entry → Type 0
StartsVain config nexus Lacks p h = (os : List Outcome) → RunsIn config nexus Lacks p h os → wanted_memory os ≡ false → gave_up os ≡ true → has_started os ≡ true
    → IsExcused (ServesInVain config nexus Lacks) (ran_out p os)

ended-starts-vain : (config : Configuration) (nexus : ℕ) (Lacks : Lacking) (reply : Reply) (h : List Entry) → StartsVain config nexus Lacks (Ends reply) h
ended-starts-vain config nexus Lacks reply h os run none gave some = ended-vain config nexus Lacks reply h os run none gave

-- it found no room before it was started
full-first : (config : Configuration) (nexus : ℕ) (Lacks : Lacking) (h : List Entry) (os : List Outcome) → RunsIn config nexus Lacks (GivesUp None Reply.Full) h os
    → wanted_memory os ≡ false → has_started (Outcome.Full ∷ os) ≡ true → ⊥
full-first config nexus Lacks h os run none some =
    let e : os ≡ [] = none-behind config nexus Lacks Reply.Full h os run none in
    let same : false ≡ true = sym (ap has_started e) ∙ some in
    cc

module _ (config : Configuration) (nexus : ℕ) (Lacks : Lacking) (w : TokenWrite) (rod : HeldBlocks) (whole : length rod.items ≡ wanted w) where
  starting-vain : (immed : Bool) → immed ≡ false → (h : List Entry)
      → StartsVain config nexus Lacks (ask_then w.unit (Act.Start w.id immed w.list.ranges rod) (started w immed)) h
  starting-vain true foreground h os run none gave some = cc
  starting-vain false foreground h [] run none gave some = cc
  starting-vain false foreground h (Outcome.Full ∷ os) run none gave some = absurd (full-first config nexus Lacks h os run.1 none some)
  starting-vain false foreground h (Outcome.NoMemory ∷ os) run none gave some = cc
  starting-vain false foreground h (Outcome.Answered told ∷ os) run none gave some =
      go (start-cases config w.unit (h ++ run.0) (Actor.Nexus nexus) run.1.moment w.id w.list.ranges rod)
    where
      by : (a : Answer) → told ≡ a → VainAt config nexus Lacks (advancing w (pieces (wanted w)) a) (h ++ run.0 ++ run.1 ∷ [])
          → IsExcused (ServesInVain config nexus Lacks) (ran_out (advancing w (pieces (wanted w)) told) os)
      by a is vain =
          subst (λ x. IsExcused (ServesInVain config nexus Lacks) (ran_out (advancing w (pieces (wanted w)) x) os)) (sym is)
          (vain os (subst (λ x. RunsIn config nexus Lacks (advancing w (pieces (wanted w)) x) (h ++ run.0 ++ run.1 ∷ []) os) is run.3) none gave)

      go : StartCases rod (answer config (h ++ run.0) w.unit (Actor.Nexus nexus) run.1.moment (Act.Start w.id false w.list.ranges rod))
          → IsExcused (ServesInVain config nexus Lacks) (ran_out (advancing w (pieces (wanted w)) told) os)
      go (inl refusal) = by (Answer.Refused refusal.0) (run.2.answered ∙ refusal.1) (ended-vain config nexus Lacks (Reply.Check refusal.0) (h ++ run.0 ++ run.1 ∷ []))
      go (inr (inl barred)) = by Answer.Conflict (run.2.answered ∙ barred) (ended-vain config nexus Lacks Reply.Conflict (h ++ run.0 ++ run.1 ∷ []))
      go (inr (inr progress)) =
          let b = has-begun config nexus w rod whole h run.0 run.1 told run.2 (run.2.answered ∙ progress) in
          by (told_as config w h run.0 run.1) b.as_state
          (vain-on config nexus Lacks w (begun config w h run.0 run.1) rod b.starts b.who (pieces (wanted w)) 0 0 (h ++ run.0 ++ run.1 ∷ []) b.follows
          (ends-own config nexus w.unit h run.0 run.1 (Act.Start w.id false w.list.ranges rod) told run.2))

-- ---- the Redeem

rod-vain : (config : Configuration) (nexus : ℕ) (Lacks : Lacking) (w : TokenWrite) (rod : HeldBlocks) (h : List Entry) → w.list.immed ≡ false
    → (t : Bool) → nat_lt (length rod.items) (w.list.offset + wanted w) ≡ t
    → StartsVain config nexus Lacks (if t then refused invalid_field_in_parameter_list else starting w (rod_part w rod)) h
rod-vain config nexus Lacks w rod h now true short = ended-starts-vain config nexus Lacks (Reply.Check invalid_field_in_parameter_list) h
rod-vain config nexus Lacks w rod h now false enough = starting-vain config nexus Lacks w (rod_part w rod) (part-whole w rod enough) w.list.immed now h

redeemed-vain : (config : Configuration) (nexus : ℕ) (Lacks : Lacking) (w : TokenWrite) (h : List Entry) (told : Answer) → w.list.immed ≡ false → HasKind (Act.Redeem w.list.token w.unit) told
    → (os : List Outcome) → RunsIn config nexus Lacks (after_redeem w told) h os → wanted_memory os ≡ false → gave_up os ≡ true → has_started (Outcome.Answered told ∷ os) ≡ true
    → IsExcused (ServesInVain config nexus Lacks) (ran_out (after_redeem w told) os)
redeemed-vain config nexus Lacks w h (Answer.Rod rod) now kind os run none gave some =
    rod-vain config nexus Lacks w rod h now (nat_lt (length rod.items) (w.list.offset + wanted w)) refl os run none gave some
redeemed-vain config nexus Lacks w h (Answer.Refused sense) now kind os run none gave some = ended-vain config nexus Lacks (Reply.Check sense) h os run none gave
redeemed-vain config nexus Lacks w h Answer.Conflict now kind os run none gave some = cc
redeemed-vain config nexus Lacks w h _ now kind os run none gave some = absurd kind

redeem-vain : (config : Configuration) (nexus : ℕ) (Lacks : Lacking) (w : TokenWrite) (creator : ℕ) (h : List Entry) → w.list.immed ≡ false
    → StartsVain config nexus Lacks (ask_then creator (Act.Redeem w.list.token w.unit) (after_redeem w)) h
redeem-vain config nexus Lacks w creator h now [] run none gave some = cc
redeem-vain config nexus Lacks w creator h now (Outcome.Full ∷ os) run none gave some = absurd (full-first config nexus Lacks h os run.1 none some)
redeem-vain config nexus Lacks w creator h now (Outcome.NoMemory ∷ os) run none gave some = cc
redeem-vain config nexus Lacks w creator h now (Outcome.Answered told ∷ os) run none gave some =
    redeemed-vain config nexus Lacks w (h ++ run.0 ++ run.1 ∷ []) told now
    (subst (HasKind (Act.Redeem w.list.token w.unit)) (sym run.2.answered)
    (answer-kind config (h ++ run.0) creator (Actor.Nexus nexus) run.1.moment (Act.Redeem w.list.token w.unit))) os run.3 none gave some

kind-vain : (config : Configuration) (nexus : ℕ) (Lacks : Lacking) (w : TokenWrite) (kind : TokenKind) (h : List Entry) → w.list.immed ≡ false → StartsVain config nexus Lacks (write_by config w kind) h
kind-vain config nexus Lacks w TokenKind.BadLength h now = ended-starts-vain config nexus Lacks _ h
kind-vain config nexus Lacks w TokenKind.BadType h now = ended-starts-vain config nexus Lacks _ h
kind-vain config nexus Lacks w TokenKind.Zero h now = starting-vain config nexus Lacks w (zero_rod config w) (length-replicate (wanted w) None) w.list.immed now h
kind-vain config nexus Lacks w (TokenKind.Names creator serial) h now = go (is_configured config creator)
  where
    go : (there : Bool) → StartsVain config nexus Lacks (cond there (ask_then creator (Act.Redeem w.list.token w.unit) (after_redeem w)) (refused token_unknown)) h
    go true = redeem-vain config nexus Lacks w creator h now
    go false = ended-starts-vain config nexus Lacks (Reply.Check token_unknown) h

-- ---- the whole command

command-vain : (config : Configuration) (nexus : ℕ) (Lacks : Lacking) (r : Request) (before : List Entry) → IsWriteNow r → StartsVain config nexus Lacks (program config r) before
command-vain config nexus Lacks r before is = whole (is_configured config r.unit)
  where
    write : StartsVain config nexus Lacks (write_by config (record { unit = r.unit; id = is.id; list = is.list }) (classify is.list.token)) before
    write = kind-vain config nexus Lacks (record { unit = r.unit; id = is.id; list = is.list }) (classify is.list.token) before is.immed

    read : StartsVain config nexus Lacks (write_using_token config r.unit is.id (write_token_read r.out)) before
    read = subst (λ l. StartsVain config nexus Lacks (write_using_token config r.unit is.id l) before) (sym is.read) write

    out : (fault : Option SenseCode) → StartsVain config nexus Lacks (judged_out config r (Cdb.WriteUsingToken is.id is.length) fault) before
    out (Some sense) = ended-starts-vain config nexus Lacks (Reply.Check sense) before
    out None = read

    command : StartsVain config nexus Lacks (judged_cdb config r (decoded r.cdb)) before
    command = subst (λ c. StartsVain config nexus Lacks (judged_cdb config r c) before) (sym is.command)
        (out (out_fault (unit_of config r.unit) r.out (Cdb.WriteUsingToken is.id is.length)))

    whole : (b : Bool) → StartsVain config nexus Lacks (cond b (judged_cdb config r (decoded r.cdb)) (refused logical_unit_not_supported)) before
    whole true = command
    whole false = ended-starts-vain config nexus Lacks (Reply.Check logical_unit_not_supported) before

-- a started write ends well, or is excused
pub ends-or-excused : (config : Configuration) (nexus : ℕ) (Lacks : Lacking) (r : Request) (before : List Entry) (os : List Outcome)
    → IsWriteNow r → RunsIn config nexus Lacks (program config r) before os → wanted_memory os ≡ false → has_started os ≡ true
    → IsExcused (ServesInVain config nexus Lacks) (ran_out (program config r) os) ⊎ EndsWell os (step config nexus r os)
ends-or-excused config nexus Lacks r before os is run none some = go (gave_up os) refl
  where
    go : (t : Bool) → gave_up os ≡ t → IsExcused (ServesInVain config nexus Lacks) (ran_out (program config r) os) ⊎ EndsWell os (step config nexus r os)
    go true gave = inl (command-vain config nexus Lacks r before is os run none gave some)
    go false gave = inr (ends-well config nexus Lacks r before os is run gave some)

pub writes-end-well : (config : Configuration) → WritesEndWell config
writes-end-well config nexus r before os is run none some = ends-or-excused config nexus LacksAny r before os is run none some

-- what excuses an Advance, told in other words
pub excused-as : (P Q : Type 0) (act : Option Act) → (P → Q) → IsExcused P act → IsExcused Q act
excused-as P Q (Some (Act.Delete serial)) f is = tt
excused-as P Q (Some (Act.Advance id)) f is = f is
excused-as P Q _ f is = absurd is
