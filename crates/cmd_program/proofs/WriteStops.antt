-- The check 0A/00/00 never ends a write in the foreground
use Rattle.std.proofs.Common.{◌≡◌, ◌∙◌, ℕ, List, [], ◌∷◌, ◌++◌, length, refl, ap, sym, subst, arith, inl, inr, false, true, Bool}
use Rattle.std.specs.Prelude.{◌≢◌, ◌==◌, ◌+◌, ◌⊎◌, not, max, cond, fold, nat_lt, Option, Some, None, if◌then◌else◌}
use Rattle.std.specs.Str.{bytes_eq}
use Rattle.cm_base.specs.Configuration.{Configuration}
use Rattle.cm_base.specs.Units.{unit_of, is_configured}
use Rattle.lba_ranges.specs.declared.ranges.Range.{Range}
use Rattle.lba_ranges.specs.Denoted.{total, is_within}
use Rattle.lba_ranges.specs.HeldBlocks.{HeldBlocks}
use Rattle.scsi_sense.specs.SenseCode.{SenseCode}
use Rattle.scsi_sense.specs.Codes.{logical_unit_not_supported, invalid_field_in_parameter_list, parameter_list_length_error, invalid_token_length, unsupported_token_type, token_unknown, copy_aborted, space_allocation_failed, operation_in_progress, lba_out_of_range, insufficient_resources, remote_token_usage_not_supported, token_corrupt}
use Rattle.scsi_cdb.specs.declared.cdb.Cdb.{Cdb}
use Rattle.scsi_cdb.specs.Decoded.{decoded}
use Rattle.block_params.specs.ListsRead.{write_token_read}
use Rattle.rod_token.specs.declared.kind.TokenKind.{TokenKind}
use Rattle.rod_token.specs.TokenText.{classify, token_text}
use Rattle.cm_frame.specs.declared.frame.Request.{Request}
use Rattle.cm_frame.specs.declared.frame.Reply.{Reply}
use Rattle.cm_history.specs.declared.act.Act.{Act}
use Rattle.cm_history.specs.declared.act.Actor.{Actor}
use Rattle.cm_history.specs.declared.act.Entry.{Entry}
use Rattle.cm_history.specs.declared.answer.Answer.{Answer}
use Rattle.cm_history.specs.declared.answer.OpState.{OpState}
use Rattle.cm_history.specs.Deeds.{moment}
use Rattle.cm_history.specs.Tokens.{Token, Fate, Live, Expired, Evicted, Deleted}
use Rattle.cm_history.specs.Redeeming.{are_alike, fate_at, answer_by_fate, named_token}
use Rattle.cm_history.specs.Redeeming as token
use Rattle.cm_history.specs.Operations.{OfToken}
use Rattle.cm_history.specs.Reserving.{reservations, bars_act}
use Rattle.cm_history.specs.Answers.{answer_unbarred, is_busy, is_crowded}
use Rattle.cm_history.specs.History.{past_of, answer}
use Rattle.cm_history.specs.Forms.{HasKind}
use Rattle.cm_history.proofs.PublicLaws.{answer-kind}
use Rattle.cmd_program.specs.declared.step.Outcome.{Outcome}
use Rattle.cmd_program.specs.declared.step.Step.{Step}
use Rattle.cmd_program.specs.Stepping.{gave_up}
use Rattle.cmd_program.specs.Program.{Ask, Program, Ends, Asks, GivesUp, next, moved, refused, ask_then}
use Rattle.cmd_program.specs.TokenWrite.{TokenWrite, wanted, started, starting, rod_part, after_redeem, zero_rod, write_by, write_using_token}
use Rattle.cmd_program.specs.Judging.{program, judged_cdb, judged_out, step}
use Rattle.cmd_program.specs.InHistory.{Lacking, LacksAny, RunsIn}
use Rattle.cmd_program.specs.WriteEnds.{IsWriteNow, has_started, was_stopped, EndsWell, IsNotStopped, WritesAreNotStopped}
use Rattle.cmd_program.proofs.Open.{IsOpen}
use Rattle.cmd_program.proofs.Busy.{program-open}
use Rattle.cmd_program.proofs.WriteEnds.{nothing-more, ends-well}

-- ---- senses

abbrev key_of : Reply → ℕ
key_of (Reply.Check sense) = sense.key
key_of _ = 0

apart-keys : (a b : ℕ) → (a ≡ 5) ⊎ ((a ≡ 7) ⊎ (a ≡ 0)) → b ≡ 10 → a ≡ b → ⊥
apart-keys a b (inl e) f same = absurd (omega (arith, e, f, same))
apart-keys a b (inr (inl e)) f same = absurd (omega (arith, e, f, same))
apart-keys a b (inr (inr e)) f same = absurd (omega (arith, e, f, same))

other-key : (sense : SenseCode) → sense.key ≡ 5 → Reply.Check sense ≢ Reply.Check copy_aborted
other-key sense five = λ same. apart-keys sense.key 10 (inl five) refl (ap key_of same)

over-key : Reply.Check space_allocation_failed ≢ Reply.Check copy_aborted
over-key = λ same. apart-keys 7 10 (inr (inl refl)) refl (ap key_of same)

not-check : (reply : Reply) → key_of reply ≡ 0 → reply ≢ Reply.Check copy_aborted
not-check reply zero_key = λ same. apart-keys (key_of reply) 10 (inr (inr zero_key)) refl (ap key_of same)

-- where it is a refusal, its key is 5
abbrev IsPlain : Answer → Type 0
IsPlain (Answer.Refused sense) = sense.key ≡ 5
IsPlain _ = Unit {0}

start-plain : (config : Configuration) (unit : ℕ) (h : List Entry) (actor : Actor) (now id : ℕ) (background : Bool) (ranges : List Range) (rod : HeldBlocks)
    → IsPlain (answer config h unit actor now (Act.Start id background ranges rod))
start-plain config unit h actor now id background ranges rod =
    unless_barred (bars_act (reservations (past_of config unit h)) actor (Act.Start id background ranges rod))
    (go (is_busy (past_of config unit h) actor OfToken id) (not (is_within (unit_of config unit).blocks ranges)) (is_crowded (past_of config unit h)))
  where
    go : (a b c : Bool) → IsPlain (if a then Answer.Refused operation_in_progress else if b then Answer.Refused lba_out_of_range else if c then Answer.Refused insufficient_resources else Answer.Progress (if length rod.items == 0 then OpState.Done else OpState.Running) 0)
    go true b c = refl
    go false true c = refl
    go false false true = refl
    go false false false = tt

    unless_barred : (t : Bool) → IsPlain (answer_unbarred config unit (past_of config unit h) actor now (Act.Start id background ranges rod))
        → IsPlain (if t then Answer.Conflict else answer_unbarred config unit (past_of config unit h) actor now (Act.Start id background ranges rod))
    unless_barred true plain = tt
    unless_barred false plain = plain

redeem-plain : (config : Configuration) (unit : ℕ) (h : List Entry) (actor : Actor) (now : ℕ) (text : List ℕ) (target : ℕ)
    → IsPlain (answer config h unit actor now (Act.Redeem text target))
redeem-plain config unit h actor now text target = by (named_token (past_of config unit h) text)
  where
    fate : (t : Token) (f : Fate) → IsPlain (answer_by_fate (unit_of config unit) t f)
    fate t Live = tt
    fate t Expired = refl
    fate t Evicted = refl
    fate t Deleted = refl

    go : (t : Token) (a b : Bool) → IsPlain (if a then Answer.Refused remote_token_usage_not_supported else if b then Answer.Refused token_corrupt else
        answer_by_fate (unit_of config unit) t (fate_at (max now (moment (past_of config unit h))) t t.fate))
    go t true b = refl
    go t false true = refl
    go t false false = fate t (fate_at (max now (moment (past_of config unit h))) t t.fate)

    by : (t : Option Token) → IsPlain (token.redeemed config unit (max now (moment (past_of config unit h))) text target t)
    by None = refl
    by (Some t) = go t (not (are_alike (unit_of config unit) (unit_of config target))) (not (bytes_eq text (token_text config unit t.serial (total t.ranges))))

-- ---- where it gave up

gone-fine : (last : Option Ask) (reply : Reply) (os : List Outcome) → reply ≢ Reply.Check copy_aborted → IsNotStopped (next (fold moved (GivesUp last reply) os))
gone-fine (Some ask) reply [] fine = tt
gone-fine None reply [] fine = fine
gone-fine last reply (Outcome.Answered a ∷ os) fine = gone-fine None reply os fine
gone-fine last reply (Outcome.Full ∷ os) fine = gone-fine None reply os fine
gone-fine last reply (Outcome.NoMemory ∷ os) fine = gone-fine None reply os fine

gave-up-fine : (p : Program) (os : List Outcome) → IsOpen p → gave_up os ≡ true → IsNotStopped (next (fold moved p os))
gave-up-fine p [] open_so_far some = cc
gave-up-fine (Ends reply) (Outcome.Answered a ∷ os) open_so_far some = gave-up-fine (Ends reply) os tt some
gave-up-fine (Asks ask last go_on) (Outcome.Answered a ∷ os) open_so_far some = gave-up-fine (go_on a) os (open_so_far a) some
gave-up-fine (GivesUp last reply) (Outcome.Answered a ∷ os) open_so_far some = absurd open_so_far
gave-up-fine (Ends reply) (Outcome.Full ∷ os) open_so_far some = gone-fine None Reply.Full os (not-check Reply.Full refl)
gave-up-fine (Ends reply) (Outcome.NoMemory ∷ os) open_so_far some = gone-fine None Reply.Busy os (not-check Reply.Busy refl)
gave-up-fine (Asks ask last go_on) (Outcome.Full ∷ os) open_so_far some = gone-fine last Reply.Full os (not-check Reply.Full refl)
gave-up-fine (Asks ask last go_on) (Outcome.NoMemory ∷ os) open_so_far some = gone-fine last Reply.Busy os (not-check Reply.Busy refl)
gave-up-fine (GivesUp last reply) (Outcome.Full ∷ os) open_so_far some = absurd open_so_far
gave-up-fine (GivesUp last reply) (Outcome.NoMemory ∷ os) open_so_far some = absurd open_so_far

-- ---- where it was not started

abbrev FineAt : Configuration → ℕ → Lacking → Program → List Entry → Type 0
FineAt config nexus Lacks p h = (os : List Outcome) → RunsIn config nexus Lacks p h os → gave_up os ≡ false → has_started os ≡ false → IsNotStopped (next (fold moved p os))

ended-fine : (config : Configuration) (nexus : ℕ) (Lacks : Lacking) (reply : Reply) (h : List Entry) → reply ≢ Reply.Check copy_aborted → FineAt config nexus Lacks (Ends reply) h
ended-fine config nexus Lacks reply h fine os run none no_start =
    subst (λ l. IsNotStopped (next (fold moved (Ends reply) l))) (sym (nothing-more config nexus Lacks reply h os run none)) fine

refused-fine : (config : Configuration) (nexus : ℕ) (Lacks : Lacking) (sense : SenseCode) (h : List Entry) → sense.key ≡ 5 → FineAt config nexus Lacks (refused sense) h
refused-fine config nexus Lacks sense h five = ended-fine config nexus Lacks (Reply.Check sense) h (other-key sense five)

started-fine : (config : Configuration) (nexus : ℕ) (Lacks : Lacking) (w : TokenWrite) (immed : Bool) (rod : HeldBlocks) (told : Answer) (h : List Entry)
    → HasKind (Act.Start w.id immed w.list.ranges rod) told → IsPlain told → (os : List Outcome) → RunsIn config nexus Lacks (started w immed told) h os → gave_up os ≡ false
    → has_started (Outcome.Answered told ∷ os) ≡ false → IsNotStopped (next (fold moved (started w immed told) os))
started-fine config nexus Lacks w true rod (Answer.Refused sense) h kind plain os run none no_start = refused-fine config nexus Lacks sense h plain os run none no_start
started-fine config nexus Lacks w false rod (Answer.Refused sense) h kind plain os run none no_start = refused-fine config nexus Lacks sense h plain os run none no_start
started-fine config nexus Lacks w true rod Answer.Conflict h kind plain os run none no_start = ended-fine config nexus Lacks Reply.Conflict h (not-check Reply.Conflict refl) os run none no_start
started-fine config nexus Lacks w false rod Answer.Conflict h kind plain os run none no_start = ended-fine config nexus Lacks Reply.Conflict h (not-check Reply.Conflict refl) os run none no_start
started-fine config nexus Lacks w immed rod (Answer.Progress state count) h kind plain os run none no_start = cc
started-fine config nexus Lacks w immed rod _ h kind plain os run none no_start = absurd kind

starting-fine : (config : Configuration) (nexus : ℕ) (Lacks : Lacking) (w : TokenWrite) (rod : HeldBlocks) (h : List Entry) → FineAt config nexus Lacks (starting w rod) h
starting-fine config nexus Lacks w rod h [] run none no_start = tt
starting-fine config nexus Lacks w rod h (Outcome.Full ∷ os) run none no_start = cc
starting-fine config nexus Lacks w rod h (Outcome.NoMemory ∷ os) run none no_start = cc
starting-fine config nexus Lacks w rod h (Outcome.Answered told ∷ os) run none no_start =
    started-fine config nexus Lacks w w.list.immed rod told (h ++ run.0 ++ run.1 ∷ [])
    (subst (HasKind (Act.Start w.id w.list.immed w.list.ranges rod)) (sym run.2.answered)
    (answer-kind config (h ++ run.0) w.unit (Actor.Nexus nexus) run.1.moment (Act.Start w.id w.list.immed w.list.ranges rod)))
    (subst IsPlain (sym run.2.answered) (start-plain config w.unit (h ++ run.0) (Actor.Nexus nexus) run.1.moment w.id w.list.immed w.list.ranges rod)) os run.3 none no_start

redeemed-fine : (config : Configuration) (nexus : ℕ) (Lacks : Lacking) (w : TokenWrite) (told : Answer) (h : List Entry)
    → HasKind (Act.Redeem w.list.token w.unit) told → IsPlain told → (os : List Outcome) → RunsIn config nexus Lacks (after_redeem w told) h os → gave_up os ≡ false
    → has_started (Outcome.Answered told ∷ os) ≡ false → IsNotStopped (next (fold moved (after_redeem w told) os))
redeemed-fine config nexus Lacks w (Answer.Rod rod) h kind plain = go (nat_lt (length rod.items) (w.list.offset + wanted w))
  where
    go : (short : Bool) → (os : List Outcome) → RunsIn config nexus Lacks (cond short (refused invalid_field_in_parameter_list) (starting w (rod_part w rod))) h os → gave_up os ≡ false
        → has_started os ≡ false → IsNotStopped (next (fold moved (cond short (refused invalid_field_in_parameter_list) (starting w (rod_part w rod))) os))
    go true = refused-fine config nexus Lacks invalid_field_in_parameter_list h refl
    go false = starting-fine config nexus Lacks w (rod_part w rod) h
redeemed-fine config nexus Lacks w (Answer.Refused sense) h kind plain = refused-fine config nexus Lacks sense h plain
redeemed-fine config nexus Lacks w Answer.Conflict h kind plain = cc
redeemed-fine config nexus Lacks w _ h kind plain = absurd kind

redeem-fine : (config : Configuration) (nexus : ℕ) (Lacks : Lacking) (w : TokenWrite) (creator : ℕ) (h : List Entry)
    → FineAt config nexus Lacks (ask_then creator (Act.Redeem w.list.token w.unit) (after_redeem w)) h
redeem-fine config nexus Lacks w creator h [] run none no_start = tt
redeem-fine config nexus Lacks w creator h (Outcome.Full ∷ os) run none no_start = cc
redeem-fine config nexus Lacks w creator h (Outcome.NoMemory ∷ os) run none no_start = cc
redeem-fine config nexus Lacks w creator h (Outcome.Answered told ∷ os) run none no_start =
    redeemed-fine config nexus Lacks w told (h ++ run.0 ++ run.1 ∷ [])
    (subst (HasKind (Act.Redeem w.list.token w.unit)) (sym run.2.answered)
    (answer-kind config (h ++ run.0) creator (Actor.Nexus nexus) run.1.moment (Act.Redeem w.list.token w.unit)))
    (subst IsPlain (sym run.2.answered) (redeem-plain config creator (h ++ run.0) (Actor.Nexus nexus) run.1.moment w.list.token w.unit)) os run.3 none no_start

kind-fine : (config : Configuration) (nexus : ℕ) (Lacks : Lacking) (w : TokenWrite) (kind : TokenKind) (h : List Entry) → FineAt config nexus Lacks (write_by config w kind) h
kind-fine config nexus Lacks w TokenKind.BadLength h = refused-fine config nexus Lacks invalid_token_length h refl
kind-fine config nexus Lacks w TokenKind.BadType h = refused-fine config nexus Lacks unsupported_token_type h refl
kind-fine config nexus Lacks w TokenKind.Zero h = starting-fine config nexus Lacks w (zero_rod config w) h
kind-fine config nexus Lacks w (TokenKind.Names creator serial) h = go (is_configured config creator)
  where
    go : (there : Bool) → FineAt config nexus Lacks (cond there (ask_then creator (Act.Redeem w.list.token w.unit) (after_redeem w)) (refused token_unknown)) h
    go true = redeem-fine config nexus Lacks w creator h
    go false = refused-fine config nexus Lacks token_unknown h refl

command-fine : (config : Configuration) (nexus : ℕ) (Lacks : Lacking) (r : Request) (h : List Entry) → IsWriteNow r → FineAt config nexus Lacks (program config r) h
command-fine config nexus Lacks r h is = whole (is_configured config r.unit)
  where
    read : FineAt config nexus Lacks (write_using_token config r.unit is.id (write_token_read r.out)) h
    read = subst (λ l. FineAt config nexus Lacks (write_using_token config r.unit is.id l) h) (sym is.read)
        (kind-fine config nexus Lacks (record { unit = r.unit; id = is.id; list = is.list }) (classify is.list.token) h)

    out : (right : Bool) → FineAt config nexus Lacks (judged_out config r (Cdb.WriteUsingToken is.id is.length) (if right then None else Some parameter_list_length_error)) h
    out true = read
    out false = refused-fine config nexus Lacks parameter_list_length_error h refl

    command : FineAt config nexus Lacks (judged_cdb config r (decoded r.cdb)) h
    command = subst (λ c. FineAt config nexus Lacks (judged_cdb config r c) h) (sym is.command) (out (length r.out == is.length))

    whole : (b : Bool) → FineAt config nexus Lacks (cond b (judged_cdb config r (decoded r.cdb)) (refused logical_unit_not_supported)) h
    whole true = command
    whole false = refused-fine config nexus Lacks logical_unit_not_supported h refl

-- ---- all

well-fine : (os : List Outcome) (s : Step) → EndsWell os s → IsNotStopped s
well-fine os (Step.Do unit act) well = tt
well-fine os (Step.Done reply) well = go well
  where
    go : ((was_stopped os ≡ false) × (reply ≡ Reply.Good [])) ⊎ ((was_stopped os ≡ true) × (reply ≡ Reply.Check space_allocation_failed)) → reply ≢ Reply.Check copy_aborted
    go (inl good) = not-check reply (ap key_of good.1)
    go (inr stop) = λ same. over-key (sym stop.1 ∙ same)

pub not-stopped : (config : Configuration) (nexus : ℕ) (Lacks : Lacking) (r : Request) (before : List Entry) (os : List Outcome)
    → IsWriteNow r → RunsIn config nexus Lacks (program config r) before os → IsNotStopped (step config nexus r os)
not-stopped config nexus Lacks r before os is run = go (gave_up os) (has_started os) refl refl
  where
    go : (a b : Bool) → gave_up os ≡ a → has_started os ≡ b → IsNotStopped (step config nexus r os)
    go true b gave started_so = gave-up-fine (program config r) os (program-open config r) gave
    go false true gave started_so = well-fine os (step config nexus r os) (ends-well config nexus Lacks r before os is run gave started_so)
    go false false gave started_so = command-fine config nexus Lacks r before is os run gave started_so

pub writes-are-not-stopped : (config : Configuration) → WritesAreNotStopped config
writes-are-not-stopped config nexus r before os is run = not-stopped config nexus LacksAny r before os is run
