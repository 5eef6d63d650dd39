-- What a host reads of a report
use Rattle.std.proofs.Common.{◌≡◌, ℕ, zero, suc, ◌*◌, ◌<◌, ◌≤◌, ◌^◌, List, length, refl, ap, sym, ◌∙◌, arith, true, false, Bool}
use Rattle.std.specs.Prelude.{Some, None, Option, IfSome, is_some, take, ◌==◌, nat_le, not, cond}
use Rattle.std.specs.Option.{option_map}
use Rattle.std.proofs.lemmas.List.{take_all}
use Rattle.std.proofs.lemmas.Bool.{leb-false}
use Rattle.lba_ranges.specs.declared.ranges.Range.{Range}
use Rattle.lba_ranges.specs.Denoted.{total, is_within}
use Rattle.lba_ranges.specs.HeldBlocks.{HeldBlocks}
use Rattle.cm_base.specs.Configuration.{Configuration}
use Rattle.cm_base.specs.declared.config.UnitConfig.{UnitConfig}
use Rattle.scsi_sense.specs.SenseCode.{SenseCode}
use Rattle.scsi_sense.specs.Codes.{operation_in_progress, lba_out_of_range, insufficient_resources}
use Rattle.copy_status.specs.declared.operation.OperationStatus.{OperationStatus}
use Rattle.copy_status.specs.CopyStatus.{CopyStatus, IsStatus, told_status}
use Rattle.copy_status.specs.StatusBytes.{information_bytes, IsTokenOf}
use Rattle.rod_token.specs.TokenText.{words, token_text}
use Rattle.rand_chacha.specs.ChaCha.{key_of}
use Rattle.cm_history.specs.declared.act.Act.{Act}
use Rattle.cm_history.specs.declared.act.Actor.{Actor}
use Rattle.cm_history.specs.declared.answer.Answer.{Answer}
use Rattle.cm_history.specs.declared.answer.OpState.{OpState}
use Rattle.cm_history.specs.declared.answer.OpReport.{OpReport}
use Rattle.cm_history.specs.Deeds.{Deed, is_refusal}
use Rattle.cm_history.specs.Answers.{answer_populate, answer_start, is_busy, is_crowded, report_of, serial_made}
use Rattle.cm_history.specs.Operations.{Operation, OfToken, written, state_of, count_of, is_background}
use Rattle.cm_history.specs.Tokens.{tokens, is_populate}
use Rattle.cmd_program.specs.AnswerBytes.{operation_status, status_of, report_token_bytes}
use Rattle.odx_host.specs.Requests.{status_limit}
use Rattle.odx_host.specs.StatusRead.{Information, information_read}
use Rattle.odx_host.proofs.StatusBack.{information-back}

-- ---- bytes

length-words : (key : List ℕ) (stream place n : ℕ) → length (words key stream place n) ≡ 4 * n
length-words key stream place zero = omega arith
length-words key stream place (suc n) = omega (arith, length-words key stream (suc place) n)

pub length-text : (config : Configuration) (unit serial blocks : ℕ) → length (token_text config unit serial blocks) ≡ 512
length-text config unit serial blocks = omega (arith, length-words (key_of config.secret) unit (8 * serial) 8)

abbrev key-small : OperationStatus → Type 0
key-small (OperationStatus.Failed sense) = sense.key ≤ 15
key-small _ = Unit {0}

told-is : (populate : Bool) (s : OperationStatus) (count : ℕ) → key-small s → count ≤ 1_048_576 → IsStatus (told_status populate s count)
told-is populate OperationStatus.Completed count k low = record { code = refl; running = refl; sense = refl; key = tt; count = low }
told-is populate (OperationStatus.Failed sense) count k low = record { code = refl; running = refl; sense = refl; key = k; count = low }
told-is populate OperationStatus.Foreground count k low = record { code = refl; running = refl; sense = refl; key = tt; count = low }
told-is populate OperationStatus.Background count k low = record { code = refl; running = refl; sense = refl; key = tt; count = low }
told-is populate OperationStatus.Terminated count k low = record { code = refl; running = refl; sense = refl; key = tt; count = low }

length-none : (s : CopyStatus) (sense : Option SenseCode) → s.sense ≡ sense → length (information_bytes s None) ≤ 1024
length-none s None e = rw e (omega arith)
length-none s (Some x) e = rw e (omega arith)

length-token : (s : CopyStatus) (sense : Option SenseCode) (text : List ℕ) → s.sense ≡ sense → length text ≡ 512 → length (information_bytes s (Some text)) ≤ 1024
length-token s None text e n = rw e (omega (arith, n))
length-token s (Some x) text e n = rw e (omega (arith, n))

-- ---- a report, as its bytes

-- a report that is told as it is
pub record IsPlain (r : OpReport) : Type 0 where
  pub count : r.count ≤ 1_048_576
  pub token : is_some r.serial ≡ r.populate
  pub sense : IfSome (status_of r).sense (λ s. s.key ≤ 15)

status-plain : (r : OpReport) → IsPlain r → IsStatus (status_of r)
status-plain r is = go (operation_status r.background r.state) is.sense
  where
    go : (s : OperationStatus) → IfSome (told_status r.populate s r.count).sense (λ x. x.key ≤ 15) → IsStatus (told_status r.populate s r.count)
    go OperationStatus.Completed k = told-is r.populate OperationStatus.Completed r.count tt is.count
    go (OperationStatus.Failed sense) k = told-is r.populate (OperationStatus.Failed sense) r.count k is.count
    go OperationStatus.Foreground k = told-is r.populate OperationStatus.Foreground r.count tt is.count
    go OperationStatus.Background k = told-is r.populate OperationStatus.Background r.count tt is.count
    go OperationStatus.Terminated k = told-is r.populate OperationStatus.Terminated r.count tt is.count

-- what the host reads
abbrev pub information : Configuration → ℕ → OpReport → Information
information config unit r = record { status = status_of r; token = option_map (λ serial. token_text config unit serial r.count) r.serial }

pub report-read : (config : Configuration) (unit : ℕ) (r : OpReport) (bytes : List ℕ) → IsPlain r → bytes ≡ take status_limit (report_token_bytes config unit r)
    → information_read bytes ≡ Some (information config unit r)
report-read config unit r bytes is told = go r.serial refl
  where
    go : (serial : Option ℕ) → r.serial ≡ serial → information_read bytes ≡ Some (information config unit r)
    go None e =
        let whole = take_all 1024 (information_bytes (status_of r) None) (length-none (status_of r) (status_of r).sense refl) in
        let same : report_token_bytes config unit r ≡ information_bytes (status_of r) None =
        ap (λ s. information_bytes (status_of r) (option_map (λ serial. token_text config unit serial r.count) s)) e in
        let token : IsTokenOf (status_of r) None = (tt, ap is_some (sym e) ∙ is.token) in
        ap information_read (told ∙ ap (take 1024) same ∙ whole) ∙ information-back (status_of r) None (status-plain r is) token
        ∙ ap (λ s. Some (record { status = status_of r; token = option_map (λ serial. token_text config unit serial r.count) s })) (sym e)
    go (Some serial) e =
        let text = token_text config unit serial r.count in
        let size = length-text config unit serial r.count in
        let whole = take_all 1024 (information_bytes (status_of r) (Some text)) (length-token (status_of r) (status_of r).sense text refl size) in
        let same : report_token_bytes config unit r ≡ information_bytes (status_of r) (Some text) =
        ap (λ s. information_bytes (status_of r) (option_map (λ k. token_text config unit k r.count) s)) e in
        let token : IsTokenOf (status_of r) (Some text) = (size, ap is_some (sym e) ∙ is.token) in
        ap information_read (told ∙ ap (take 1024) same ∙ whole) ∙ information-back (status_of r) (Some text) (status-plain r is) token
        ∙ ap (λ s. Some (record { status = status_of r; token = option_map (λ k. token_text config unit k r.count) s })) (sym e)

-- ---- the report of a Populate

abbrev populate_by : ℕ → Bool → Bool → Bool → Answer
populate_by n a b c = cond a (Answer.Refused operation_in_progress) (cond b (Answer.Refused lba_out_of_range) (cond c (Answer.Refused insufficient_resources) (Answer.Made n)))

-- a Populate that is not refused is answered with the next serial
pub populate-answer : (u : UnitConfig) (past : List Deed) (actor : Actor) (id : ℕ) (ranges : List Range) (barred : Bool)
    → is_refusal (cond barred Answer.Conflict (answer_populate u past actor id ranges)) ≡ false
    → (cond barred Answer.Conflict (answer_populate u past actor id ranges) ≡ Answer.Made (length (tokens past))) × (length (tokens past) < 2 ^ 48)
populate-answer u past actor id ranges true e = cc
populate-answer u past actor id ranges false e =
    go (is_busy past actor OfToken id) (not (is_within u.blocks ranges)) (nat_le (2 ^ 48) (length (tokens past))) refl e
  where
    go : (a b c : Bool) → nat_le (2 ^ 48) (length (tokens past)) ≡ c → is_refusal (populate_by (length (tokens past)) a b c) ≡ false → (populate_by (length (tokens past)) a b c ≡ Answer.Made (length (tokens past))) × (length (tokens past) < 2 ^ 48)
    go true b c few x = cc
    go false true c few x = cc
    go false false true few x = cc
    go false false false few x = (refl, leb-false (2 ^ 48) (length (tokens past)) few)

pub populate-report : (o : Operation) (id timeout serial : ℕ) (ranges : List Range) → o.made.entry.act ≡ Act.Populate id timeout ranges → o.made.answer ≡ Answer.Made serial
    → report_of o ≡ record { populate = true; background = false; state = OpState.Done; count = total ranges; serial = Some serial }
populate-report o id timeout serial ranges act answer =
    ap (λ a. record { populate = is_populate a; background = is_background a; state = state_of o a; count = count_of (written o) a; serial = serial_made o.made.answer }) act
    ∙ ap (λ a. record { populate = true; background = false; state = OpState.Done; count = total ranges; serial = serial_made a }) answer

-- ---- the report of a Start

start-serial : (u : UnitConfig) (past : List Deed) (actor : Actor) (id : ℕ) (ranges : List Range) (rod : HeldBlocks) → serial_made (answer_start u past actor id ranges rod) ≡ None
start-serial u past actor id ranges rod = go (is_busy past actor OfToken id) (not (is_within u.blocks ranges)) (is_crowded past)
  where
    go : (a b c : Bool) → serial_made (cond a (Answer.Refused operation_in_progress) (cond b (Answer.Refused lba_out_of_range) (cond c (Answer.Refused insufficient_resources)
        (Answer.Progress (cond (length rod.items == 0) OpState.Done OpState.Running) 0)))) ≡ None
    go true b c = refl
    go false true c = refl
    go false false true = refl
    go false false false = refl

barred-serial : (barred : Bool) (a : Answer) → serial_made a ≡ None → serial_made (cond barred Answer.Conflict a) ≡ None
barred-serial true a none = refl
barred-serial false a none = none

pub start-report : (o : Operation) (id : ℕ) (ranges : List Range) (rod : HeldBlocks) (u : UnitConfig) (past : List Deed) (actor : Actor) (barred : Bool) → o.made.entry.act ≡ Act.Start id true ranges rod
    → o.made.answer ≡ cond barred Answer.Conflict (answer_start u past actor id ranges rod)
    → report_of o ≡ record { populate = false; background = true; state = state_of o (Act.Start id true ranges rod); count = length (written o); serial = None }
start-report o id ranges rod u past actor barred act answer =
    ap (λ a. record { populate = is_populate a; background = is_background a; state = state_of o a; count = count_of (written o) a; serial = serial_made o.made.answer }) act
    ∙ ap (λ s. record { populate = false; background = true; state = state_of o (Act.Start id true ranges rod); count = length (written o); serial = s })
    (ap serial_made answer ∙ barred-serial barred (answer_start u past actor id ranges rod) (start-serial u past actor id ranges rod))
