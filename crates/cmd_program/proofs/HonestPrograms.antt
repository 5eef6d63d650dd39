-- No command ends BUSY or TASK SET FULL by itself
use Rattle.std.proofs.Common.{ℕ, zero, suc, ◌+◌, List, [], ◌∷◌, length, Bool, true, false, nat_lt}
use Rattle.std.specs.Prelude.{cond, fold, take, ◌==◌, Option, Some, None, Result, Ok, Err}
use Rattle.cm_base.specs.Configuration.{Configuration}
use Rattle.cm_base.specs.Units.{is_configured}
use Rattle.scsi_sense.specs.SenseCode.{SenseCode}
use Rattle.scsi_sense.specs.Codes.{invalid_field_in_cdb, invalid_field_in_parameter_list, token_unknown, logical_unit_not_supported}
use Rattle.lba_ranges.specs.declared.ranges.Range.{Range}
use Rattle.lba_ranges.specs.HeldBlocks.{HeldBlocks}
use Rattle.scsi_inquiry.specs.UnitData.{vpd, standard}
use Rattle.scsi_cdb.specs.declared.cdb.Cdb.{Cdb}
use Rattle.scsi_cdb.specs.Decoded.{decoded}
use Rattle.cm_frame.specs.declared.frame.Request.{Request}
use Rattle.block_params.specs.declared.lists.PopulateList.{PopulateList}
use Rattle.block_params.specs.declared.lists.WriteList.{WriteList}
use Rattle.block_params.specs.ListsRead.{unmap_read, populate_read, write_token_read}
use Rattle.seg_parse.specs.declared.list.CopyList.{CopyList}
use Rattle.seg_parse.specs.ListRead.{lid1_read}
use Rattle.pr_keys.specs.declared.lists.OutList.{OutList}
use Rattle.pr_keys.specs.declared.refused.Refusal.{Refusal}
use Rattle.pr_keys.specs.Bytes.{out_list_read}
use Rattle.rod_token.specs.declared.kind.TokenKind.{TokenKind}
use Rattle.rod_token.specs.TokenText.{classify}
use Rattle.cm_history.specs.Bounds.{piece_blocks}
use Rattle.cm_history.specs.declared.act.Act.{Act}
use Rattle.cm_history.specs.declared.answer.Answer.{Answer}
use Rattle.cm_history.specs.declared.answer.OpState.{OpState}
use Rattle.cm_history.specs.Forms.{HasKind}
use Rattle.cmd_program.specs.declared.step.Outcome.{Outcome}
use Rattle.cmd_program.specs.Program.{Program, Ends, Asks, GivesUp, good, refused, done, ask_then, unless_refused, next, moved}
use Rattle.cmd_program.specs.SingleActs.{told_read, told_map, told_report, told_token, told_copy, told_keys, told_holder, inquiry, unmap, page_told, populate, reserve_in, reserve_out}
use Rattle.cm_history.specs.Room.{pieces}
use Rattle.cmd_program.specs.TokenWrite.{TokenWrite, wanted, delete_by, deleting, advancing, started, starting, rod_part, after_redeem, zero_rod, write_by, write_using_token}
use Rattle.cmd_program.specs.ExtendedCopy.{Move, Copying, Tally, close_as, end_state, left_of, copy_reply, closing, segment_done, piece_put, unless_ended, putting, captured, copying, fresh, opening, copy_by, copy_read, copy_fault, moves_of, extended_copy}
use Rattle.cmd_program.specs.Judging.{step, program, judged_cdb, judged_out}
use Rattle.cmd_program.specs.Honest.{IsHonestReply, IsHonestStep, AnswerProgram, AreAnswers}

-- whatever of its kind it is answered, the program ends with another reply
abbrev pub IsHonest : Program → Type 0
IsHonest (Ends reply) = IsHonestReply reply
IsHonest (Asks ask last go_on) = (answer : Answer) → HasKind ask.act answer → IsHonest (go_on answer)
IsHonest (GivesUp last reply) = ⊥

-- ---- commands of one act at most

read-honest : (lba count : ℕ) (a : Answer) → HasKind (Act.Read lba count) a → IsHonest (told_read a)
read-honest lba count (Answer.Blocks list) k = tt
read-honest lba count (Answer.Refused sense) k = tt
read-honest lba count Answer.Conflict k = tt
read-honest lba count _ k = absurd k

unless_refused-honest : (p : Program) (a : Answer) → IsHonest p → IsHonest (unless_refused p a)
unless_refused-honest p (Answer.Refused sense) h = tt
unless_refused-honest p Answer.Conflict h = tt
unless_refused-honest p _ h = h

map-honest : (lba allocation : ℕ) (a : Answer) → HasKind (Act.MapStatus lba) a → IsHonest (told_map allocation a)
map-honest lba allocation (Answer.Status runs) k = tt
map-honest lba allocation (Answer.Refused sense) k = tt
map-honest lba allocation Answer.Conflict k = tt
map-honest lba allocation _ k = absurd k

page-honest : (allocation : ℕ) (page : Option (List ℕ)) → IsHonest (page_told allocation page)
page-honest allocation None = tt
page-honest allocation (Some page) = tt

inquiry-honest : (unit : ℕ) (evpd : Bool) (page allocation : ℕ) → IsHonest (inquiry unit evpd page allocation)
inquiry-honest unit true page allocation = page-honest allocation (vpd unit page)
inquiry-honest unit false page allocation = go (page == 0)
  where
    go : (b : Bool) → IsHonest (cond b (good (take allocation standard)) (refused invalid_field_in_cdb))
    go true = tt
    go false = tt

unmap-honest : (unit : ℕ) (ranges : Result (List Range) SenseCode) → IsHonest (unmap unit ranges)
unmap-honest unit (Err sense) = tt
unmap-honest unit (Ok ranges) = λ a k. unless_refused-honest done a tt

populate-honest : (unit id : ℕ) (read : Result PopulateList SenseCode) → IsHonest (populate unit id read)
populate-honest unit id (Err sense) = tt
populate-honest unit id (Ok list) = λ a k. unless_refused-honest done a tt

report-honest : (id allocation : ℕ) (a : Answer) → HasKind (Act.Report id) a → IsHonest (told_report allocation a)
report-honest id allocation (Answer.Report report) k = tt
report-honest id allocation (Answer.Refused sense) k = tt
report-honest id allocation Answer.Conflict k = cc
report-honest id allocation _ k = absurd k

information-honest : (config : Configuration) (id unit allocation : ℕ) (a : Answer) → HasKind (Act.Report id) a → IsHonest (told_token config unit allocation a)
information-honest config id unit allocation (Answer.Report report) k = tt
information-honest config id unit allocation (Answer.Refused sense) k = tt
information-honest config id unit allocation Answer.Conflict k = cc
information-honest config id unit allocation _ k = absurd k

recall-honest : (id allocation : ℕ) (a : Answer) → HasKind (Act.Recall id) a → IsHonest (told_copy allocation a)
recall-honest id allocation (Answer.Copy result) k = tt
recall-honest id allocation (Answer.Refused sense) k = tt
recall-honest id allocation Answer.Conflict k = cc
recall-honest id allocation _ k = absurd k

keys-honest : (allocation : ℕ) (a : Answer) → HasKind Act.PrKeys a → IsHonest (told_keys allocation a)
keys-honest allocation (Answer.Keys generation keys) k = tt
keys-honest allocation Answer.Conflict k = cc
keys-honest allocation _ k = absurd k

holder-honest : (allocation : ℕ) (a : Answer) → HasKind Act.PrHolder a → IsHonest (told_holder allocation a)
holder-honest allocation (Answer.Holder generation holder) k = tt
holder-honest allocation Answer.Conflict k = cc
holder-honest allocation _ k = absurd k

reserve_in-honest : (unit action allocation : ℕ) → IsHonest (reserve_in unit action allocation)
reserve_in-honest unit action allocation = go (action == 0)
  where
    go : (b : Bool) → IsHonest (cond b (ask_then unit Act.PrKeys (told_keys allocation)) (ask_then unit Act.PrHolder (told_holder allocation)))
    go true = keys-honest allocation
    go false = holder-honest allocation

reserve_out-honest : (unit action scope kind : ℕ) (list : Result OutList SenseCode) → IsHonest (reserve_out unit action scope kind list)
reserve_out-honest unit action scope kind (Err sense) = tt
reserve_out-honest unit action scope kind (Ok list) = λ a k. unless_refused-honest done a tt

-- ---- WRITE USING TOKEN

delete-honest : (delete : Bool) (kind : TokenKind) → IsHonest (delete_by delete kind)
delete-honest true (TokenKind.Names creator serial) = λ a k. unless_refused-honest done a tt
delete-honest true _ = tt
delete-honest false _ = tt

deleting-honest : (w : TokenWrite) → IsHonest (deleting w)
deleting-honest w = delete-honest w.list.delete (classify w.list.token)

-- an answer of how far it has come, or a refusal
abbrev IsProgress : Answer → Type 0
IsProgress (Answer.Progress state count) = Unit {0}
IsProgress (Answer.Refused sense) = Unit {0}
IsProgress Answer.Conflict = Unit {0}
IsProgress _ = ⊥

advance-progress : (id : ℕ) (a : Answer) → HasKind (Act.Advance id) a → IsProgress a
advance-progress id (Answer.Progress state count) k = tt
advance-progress id (Answer.Refused sense) k = tt
advance-progress id Answer.Conflict k = cc
advance-progress id _ k = absurd k

start-progress : (id : ℕ) (background : Bool) (ranges : List Range) (rod : HeldBlocks) (a : Answer) → HasKind (Act.Start id background ranges rod) a → IsProgress a
start-progress id background ranges rod (Answer.Progress state count) k = tt
start-progress id background ranges rod (Answer.Refused sense) k = tt
start-progress id background ranges rod Answer.Conflict k = tt
start-progress id background ranges rod _ k = absurd k

advancing-honest : (w : TokenWrite) (left : ℕ) (a : Answer) → IsProgress a → IsHonest (advancing w left a)
advancing-honest w left (Answer.Progress OpState.Done count) k = deleting-honest w
advancing-honest w left (Answer.Progress (OpState.Failed sense) count) k = tt
advancing-honest w left (Answer.Progress OpState.Terminated count) k = tt
advancing-honest w zero (Answer.Progress OpState.Running count) k = tt
advancing-honest w (suc left) (Answer.Progress OpState.Running count) k = λ a j. advancing-honest w left a (advance-progress w.id a j)
advancing-honest w left (Answer.Refused sense) k = tt
advancing-honest w left Answer.Conflict k = tt
advancing-honest w left _ k = absurd k

started-honest : (w : TokenWrite) (immed : Bool) (a : Answer) → IsProgress a → IsHonest (started w immed a)
started-honest w true a k = unless_refused-honest (deleting w) a (deleting-honest w)
started-honest w false a k = advancing-honest w (pieces (wanted w)) a k

starting-honest : (w : TokenWrite) (rod : HeldBlocks) → IsHonest (starting w rod)
starting-honest w rod = λ a k. started-honest w w.list.immed a (start-progress w.id w.list.immed w.list.ranges rod a k)

redeemed-honest : (w : TokenWrite) (a : Answer) → HasKind (Act.Redeem w.list.token w.unit) a → IsHonest (after_redeem w a)
redeemed-honest w (Answer.Rod rod) k = go (nat_lt (length rod.items) (w.list.offset + wanted w))
  where
    go : (short : Bool) → IsHonest (cond short (refused invalid_field_in_parameter_list) (starting w (rod_part w rod)))
    go true = tt
    go false = starting-honest w (rod_part w rod)
redeemed-honest w (Answer.Refused sense) k = tt
redeemed-honest w Answer.Conflict k = cc
redeemed-honest w _ k = absurd k

kind-honest : (config : Configuration) (w : TokenWrite) (kind : TokenKind) → IsHonest (write_by config w kind)
kind-honest config w TokenKind.BadLength = tt
kind-honest config w TokenKind.BadType = tt
kind-honest config w TokenKind.Zero = starting-honest w (zero_rod config w)
kind-honest config w (TokenKind.Names creator serial) = go (is_configured config creator)
  where
    go : (there : Bool) → IsHonest (cond there (ask_then creator (Act.Redeem w.list.token w.unit) (after_redeem w)) (refused token_unknown))
    go true = redeemed-honest w
    go false = tt

write-honest : (config : Configuration) (unit id : ℕ) (read : Result WriteList SenseCode) → IsHonest (write_using_token config unit id read)
write-honest config unit id (Err sense) = tt
write-honest config unit id (Ok list) = kind-honest config (record { unit = unit; id = id; list = list }) (classify list.token)

-- ---- EXTENDED COPY

reply-honest : (ended_by : Option Refusal) → IsHonest (copy_reply ended_by)
reply-honest None = tt
reply-honest (Some Refusal.Conflict) = tt
reply-honest (Some (Refusal.Refused sense)) = tt

closing-honest : (c : Copying) (t : Tally) (ended_by : Option Refusal) → IsHonest (closing c t ended_by)
closing-honest c t ended_by = go c.opened
  where
    go : (opened : Bool) → IsHonest (cond opened (Asks (close_as c t (end_state ended_by)) (left_of c t) (unless_refused (copy_reply ended_by))) (copy_reply ended_by))
    go true = λ a k. unless_refused-honest (copy_reply ended_by) a (reply-honest ended_by)
    go false = reply-honest ended_by

ended-honest : (c : Copying) (t : Tally) (rest : Program) (a : Answer) → IsHonest rest → IsHonest (unless_ended c t rest a)
ended-honest c t rest (Answer.Refused sense) h = closing-honest c t (Some (Refusal.Refused sense))
ended-honest c t rest Answer.Conflict h = closing-honest c t (Some Refusal.Conflict)
ended-honest c t rest _ h = h

putting-honest : (c : Copying) (m : Move) (list : HeldBlocks) (rest : Tally → Program) (left at : ℕ) (t : Tally)
    → ((after : Tally) → IsHonest (rest after)) → IsHonest (putting c m list rest left at t)
putting-honest c m list rest zero at t h = h (segment_done t)
putting-honest c m list rest (suc left) at t h =
    λ a k. ended-honest c t (putting c m list rest left (at + piece_blocks) (piece_put t list at)) a
    (putting-honest c m list rest left (at + piece_blocks) (piece_put t list at) h)

captured-honest : (c : Copying) (m : Move) (rest : Tally → Program) (t : Tally) (a : Answer) → HasKind (Act.Capture m.from m.count) a
    → ((after : Tally) → IsHonest (rest after)) → IsHonest (captured c m rest t a)
captured-honest c m rest t (Answer.Blocks list) k h = putting-honest c m list rest (pieces m.count) 0 t h
captured-honest c m rest t (Answer.Refused sense) k h = closing-honest c t (Some (Refusal.Refused sense))
captured-honest c m rest t Answer.Conflict k h = closing-honest c t (Some Refusal.Conflict)
captured-honest c m rest t _ k h = absurd k

copying-honest : (c : Copying) (ms : List Move) (t : Tally) → IsHonest (copying c ms t)
copying-honest c [] t = closing-honest c t None
copying-honest c (m ∷ ms) t = go (m.count == 0) (copying-honest c ms)
  where
    go : (none : Bool) → ((after : Tally) → IsHonest (copying c ms after)) → IsHonest (cond none (copying c ms (segment_done t))
        (Asks (record { unit = m.source; act = Act.Capture m.from m.count }) (left_of c t) (captured c m (copying c ms) t)))
    go true h = h (segment_done t)
    go false h = λ a k. captured-honest c m (copying c ms) t a k h

opening-honest : (unit id : ℕ) (moves : List Move) (unrecorded : Bool) → IsHonest (opening unit id moves unrecorded)
opening-honest unit id moves true = copying-honest (record { unit = unit; id = id; opened = false }) moves fresh
opening-honest unit id moves false =
    let all = copying (record { unit = unit; id = id; opened = true }) moves fresh in
    λ a k. unless_refused-honest all a (copying-honest (record { unit = unit; id = id; opened = true }) moves fresh)

list-honest : (config : Configuration) (unit : ℕ) (list : CopyList) (fault : Option SenseCode) → IsHonest (copy_by config unit list fault)
list-honest config unit list (Some sense) = tt
list-honest config unit list None = opening-honest unit list.id (moves_of config list) (list.usage == 3)

copy_read-honest : (config : Configuration) (unit : ℕ) (read : Result CopyList SenseCode) → IsHonest (copy_read config unit read)
copy_read-honest config unit (Err sense) = tt
copy_read-honest config unit (Ok list) = list-honest config unit list (copy_fault config list)

extended-honest : (config : Configuration) (unit length : ℕ) (read : Result CopyList SenseCode) → IsHonest (extended_copy config unit length read)
extended-honest config unit zero read = tt
extended-honest config unit (suc length) read = copy_read-honest config unit read

-- ---- every command

out-honest : (config : Configuration) (r : Request) (cdb : Cdb) (fault : Option SenseCode)
    → IsHonest (judged_out config r cdb None) → IsHonest (judged_out config r cdb fault)
out-honest config r cdb (Some sense) h = tt
out-honest config r cdb None h = h

cdb-honest : (config : Configuration) (r : Request) (cdb : Result Cdb SenseCode) → IsHonest (judged_cdb config r cdb)
cdb-honest config r (Err sense) = tt
cdb-honest config r (Ok (Cdb.Read lba count)) = out-honest config r (Cdb.Read lba count) _ (read-honest lba count)
cdb-honest config r (Ok (Cdb.Write lba count)) = out-honest config r (Cdb.Write lba count) _ (λ a k. unless_refused-honest done a tt)
cdb-honest config r (Ok Cdb.TestUnitReady) = out-honest config r Cdb.TestUnitReady _ tt
cdb-honest config r (Ok (Cdb.RequestSense allocation)) = out-honest config r (Cdb.RequestSense allocation) _ tt
cdb-honest config r (Ok (Cdb.Inquiry evpd page allocation)) = out-honest config r (Cdb.Inquiry evpd page allocation) _ (inquiry-honest r.unit evpd page allocation)
cdb-honest config r (Ok (Cdb.Unmap length)) = out-honest config r (Cdb.Unmap length) _ (unmap-honest r.unit (unmap_read r.out))
cdb-honest config r (Ok Cdb.ReadCapacity10) = out-honest config r Cdb.ReadCapacity10 _ tt
cdb-honest config r (Ok (Cdb.ReadCapacity16 allocation)) = out-honest config r (Cdb.ReadCapacity16 allocation) _ tt
cdb-honest config r (Ok (Cdb.GetLbaStatus lba allocation)) = out-honest config r (Cdb.GetLbaStatus lba allocation) _ (map-honest lba allocation)
cdb-honest config r (Ok (Cdb.ReportLuns allocation)) = out-honest config r (Cdb.ReportLuns allocation) _ tt
cdb-honest config r (Ok (Cdb.CopyParameters allocation)) = out-honest config r (Cdb.CopyParameters allocation) _ tt
cdb-honest config r (Ok (Cdb.PopulateToken id length)) = out-honest config r (Cdb.PopulateToken id length) _ (populate-honest r.unit id (populate_read r.out))
cdb-honest config r (Ok (Cdb.WriteUsingToken id length)) =
    out-honest config r (Cdb.WriteUsingToken id length) _ (write-honest config r.unit id (write_token_read r.out))
cdb-honest config r (Ok (Cdb.CopyAbort id)) = out-honest config r (Cdb.CopyAbort id) _ (λ a k. unless_refused-honest done a tt)
cdb-honest config r (Ok (Cdb.CopyStatus4 id allocation)) = out-honest config r (Cdb.CopyStatus4 id allocation) _ (report-honest id allocation)
cdb-honest config r (Ok (Cdb.TokenInformation id allocation)) = out-honest config r (Cdb.TokenInformation id allocation) _ (information-honest config id r.unit allocation)
cdb-honest config r (Ok (Cdb.ExtendedCopy length)) =
    out-honest config r (Cdb.ExtendedCopy length) _ (extended-honest config r.unit length (lid1_read r.out))
cdb-honest config r (Ok (Cdb.CopyStatus1 id allocation)) = out-honest config r (Cdb.CopyStatus1 id allocation) _ (recall-honest id allocation)
cdb-honest config r (Ok (Cdb.PersistentIn action allocation)) = out-honest config r (Cdb.PersistentIn action allocation) _ (reserve_in-honest r.unit action allocation)
cdb-honest config r (Ok (Cdb.PersistentOut action scope kind length)) =
    out-honest config r (Cdb.PersistentOut action scope kind length) _ (reserve_out-honest r.unit action scope kind (out_list_read r.out))

pub program-honest : (config : Configuration) (r : Request) → IsHonest (program config r)
program-honest config r = go (is_configured config r.unit)
  where
    go : (b : Bool) → IsHonest (cond b (judged_cdb config r (decoded r.cdb)) (refused logical_unit_not_supported))
    go true = cdb-honest config r (decoded r.cdb)
    go false = tt

-- ---- after answers

answers-honest : (p : Program) (outcomes : List Outcome) → IsHonest p → AnswerProgram p outcomes → IsHonest (fold moved p outcomes)
answers-honest p [] h are = h
answers-honest (Ends reply) (Outcome.Answered a ∷ os) h are = answers-honest (Ends reply) os h are
answers-honest (Asks ask last go_on) (Outcome.Answered a ∷ os) h are = answers-honest (go_on a) os (h a are.0) are.1
answers-honest (GivesUp last reply) (o ∷ os) h are = absurd h
answers-honest (Ends reply) (Outcome.Full ∷ os) h are = absurd are
answers-honest (Ends reply) (Outcome.NoMemory ∷ os) h are = absurd are
answers-honest (Asks ask last go_on) (Outcome.Full ∷ os) h are = absurd are
answers-honest (Asks ask last go_on) (Outcome.NoMemory ∷ os) h are = absurd are

step-honest : (p : Program) → IsHonest p → IsHonestStep (next p)
step-honest (Ends reply) h = h
step-honest (Asks ask last go_on) h = tt
step-honest (GivesUp last reply) h = absurd h

pub honest_law : (config : Configuration) (nexus : ℕ) (request : Request) (outcomes : List Outcome) → AreAnswers config nexus request outcomes → IsHonestStep (step config nexus request outcomes)
honest_law config nexus r outcomes are = step-honest (fold moved (program config r) outcomes) (answers-honest (program config r) outcomes (program-honest config r) are)
