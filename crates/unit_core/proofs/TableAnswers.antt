-- What acts are answered, said of the tables
use Rattle.std.proofs.Common.{◌≡◌, ℕ, zero, suc, ◌+◌, List, [], ◌∷◌, length, take, drop, refl, ap, sym, ◌∙◌, subst, arith, true, false, Bool, inl, inr}
use Rattle.std.specs.Option.{option_map}
use Rattle.std.specs.Prelude.{Option, Some, None, ◌==◌, ◌&&◌, ◌||◌, not, find, max, is_some, Result, Ok, Err, slice_get, map, if◌then◌else◌}
use Rattle.std.specs.Str.{bytes_eq}
use Rattle.cm_base.specs.Configuration.{Configuration}
use Rattle.cm_base.specs.declared.config.UnitConfig.{UnitConfig}
use Rattle.cm_base.specs.Units.{unit_of}
use Rattle.scsi_sense.specs.SenseCode.{SenseCode}
use Rattle.lba_ranges.specs.Denoted.{blocks_of, total}
use Rattle.lba_ranges.specs.HeldBlocks.{HeldBlocks}
use Rattle.lba_ranges.specs.Writings.{Held, Writing as Pair, paired}
use Rattle.rod_token.specs.TokenText.{token_text, serial_of}
use Rattle.cm_history.specs.declared.act.Act.{Act}
use Rattle.cm_history.specs.declared.act.Actor.{Actor}
use Rattle.cm_history.specs.declared.act.Entry.{Entry}
use Rattle.cm_history.specs.declared.act.CopyEnd.{CopyEnd}
use Rattle.cm_history.specs.declared.answer.Answer.{Answer}
use Rattle.cm_history.specs.declared.answer.OpReport.{OpReport}
use Rattle.cm_history.specs.Bounds.{piece_blocks}
use Rattle.scsi_sense.specs.Codes.{invalid_field_in_cdb, remote_token_usage_not_supported, token_corrupt, token_expired}
use Rattle.cm_history.specs.Deeds.{Deed, moment, same_actor}
use Rattle.cm_history.specs.Limits.{within_limits}
use Rattle.cm_history.specs.Legal.{may_ask}
use Rattle.cm_history.specs.Tokens.{Token, Fate, Live, Expired, Evicted, Deleted, tokens, rod, is_over}
use Rattle.cm_history.specs.Redeeming.{redeemed, are_alike, answer_by_fate, fate_at}
use Rattle.cm_history.specs.Operations.{Operation, Form, OfToken, OfCopy, form_of, same_form, id_of, state, has_key, would_serve, running, is_foreground, is_background, fits, kept, operations, written, list_of, next_piece, count, result_of}
use Rattle.cm_history.specs.Answers.{answer_after, answer_report, answer_recall, answer_end, done_if, report_of, progress, piece_of}
use Rattle.cm_history.proofs.PublicLaws.{In, Each-in, find-in, find-none, same_form-is, record-found, IsBegun, begun, kept_in, find-passes, find-map, few-written, length-next, start-total, start-length, start-alike, start-few, length-paired, and_first, and_second}
use Rattle.copy_jobs.specs.declared.key.Key.{Key}
use Rattle.copy_jobs.specs.declared.job.Job.{Job}
use Rattle.copy_jobs.specs.declared.job.Work.TheVariants.{Writing}
use Rattle.copy_jobs.specs.declared.job.WriteJob.{WriteJob}
use Rattle.copy_jobs.specs.declared.piece.NextPiece.{NextPiece}
use Rattle.copy_jobs.specs.Jobs as jobs
use Rattle.copy_jobs.specs.Pieces as next
use Rattle.copy_jobs.specs.Reports as reports
use Rattle.rod_store.specs.Judging.{judged, judged_token, judged_state}
use Rattle.unit_core.specs.Keys.{key_of}
use Rattle.unit_core.specs.inner.Tables.{kept_of, tokens_of, token_state_of, job_of, jobs_of, work_of}
use Rattle.cm_history.specs.History.{past_of}
use Rattle.unit_core.specs.UnitState.{UnitState}
use Rattle.unit_core.specs.Acting.{MayRedeem}
use Rattle.unit_core.specs.inner.Planning.{quiet, IsPlan, WritesPiece}
use Rattle.lba_ranges.proofs.PublicLaws.{length-blocks_of}
use Rattle.unit_core.specs.declared.block_change.BlockChange.{BlockChange}
use Rattle.unit_core.proofs.Operating.{starts_within}
use Rattle.unit_core.proofs.Jobs.{IsNexus, IsOwn, own-nexus, found-job, is-next-key, is-next-pump, work-foreground, work-background}
use Rattle.unit_core.proofs.Keeping.{own_key, served-there}
use Rattle.unit_core.proofs.Asking.{asker, found-key, job-report, job-result}
use Rattle.unit_core.proofs.Planned.{IsKnown, own-of, plain-plan, refused-plan}
use Rattle.unit_core.proofs.ServePlans.{IsPieceOf, IsForPiece}
use Rattle.std.proofs.lemmas.Bool.{or_left, or_right}

-- ---- a redeem

get-map : {X Y : Type 0} (f : X → Y) (xs : List X) (i : ℕ) → slice_get (map f xs) i ≡ option_map f (slice_get xs i)
get-map f [] i = refl
get-map f (x ∷ xs) zero = refl
get-map f (x ∷ xs) (suc i) = get-map f xs i

-- the answer of a judgement
abbrev pub answer_of : Result HeldBlocks SenseCode → Answer
answer_of (Ok list) = Answer.Rod list
answer_of (Err sense) = Answer.Refused sense

fate-is : (unit : UnitConfig) (now : ℕ) (t : Token) (f : Fate) → answer_by_fate unit t (fate_at now t f) ≡ answer_of (judged_state now (token_state_of (rod unit t) t f))
fate-is unit now t Live = go (is_over now t)
  where
    go : (b : Bool) → answer_by_fate unit t (if b then Expired else Live) ≡ answer_of (if b then Err token_expired else Ok (rod unit t))
    go true = refl
    go false = refl
fate-is unit now t Expired = refl
fate-is unit now t Evicted = refl
fate-is unit now t Deleted = refl

token-is : (config : Configuration) (unit now : ℕ) (text : List ℕ) (target : ℕ) (o : Option Token)
    → redeemed config unit now text target o ≡ answer_of (judged_token config unit now text target (option_map (kept_of (unit_of config unit)) o))
token-is config unit now text target None = refl
token-is config unit now text target (Some t) =
    go (are_alike (unit_of config unit) (unit_of config target)) (bytes_eq text (token_text config unit t.serial (total t.ranges)))
  where
    last : Result HeldBlocks SenseCode
    last = judged_state now (token_state_of (rod (unit_of config unit) t) t t.fate)

    go : (a b : Bool)
        → (if not a then Answer.Refused remote_token_usage_not_supported else if not b then Answer.Refused token_corrupt else answer_by_fate (unit_of config unit) t (fate_at now t t.fate))
        ≡ answer_of (if not a then Err remote_token_usage_not_supported else if not b then Err token_corrupt else last)
    go false b = refl
    go true false = refl
    go true true = fate-is (unit_of config unit) now t t.fate

-- a redeem is answered as the store judges it
pub redeem-is : (config : Configuration) (unit : ℕ) (past : List Deed) (actor : Actor) (at : ℕ) (text : List ℕ) (target : ℕ)
    → answer_after config unit past actor at (Act.Redeem text target) ≡ answer_of (judged config unit (max at (moment past)) text target (tokens_of (unit_of config unit) past))
redeem-is config unit past actor at text target =
    token-is config unit (max at (moment past)) text target (slice_get (tokens past) (serial_of text))
    ∙ ap (λ o. answer_of (judged_token config unit (max at (moment past)) text target o)) (sym (get-map (kept_of (unit_of config unit)) (tokens past) (serial_of text)))

-- a live token that may be used is given
pub redeem-given : (s : UnitState) (entries : List Entry) (actor : Actor) (at : ℕ) (text : List ℕ) (target : ℕ) (t : Token) → MayRedeem s entries at text target t
    → answer_after s.config s.unit (past_of s.config s.unit entries) actor at (Act.Redeem text target) ≡ Answer.Rod (rod (unit_of s.config s.unit) t)
redeem-given s entries actor at text target t may =
    ap (redeemed s.config s.unit (max at (moment (past_of s.config s.unit entries))) text target) may.named
    ∙ ap (λ b. if not b then Answer.Refused remote_token_usage_not_supported else if not (bytes_eq text (token_text s.config s.unit t.serial (total t.ranges))) then Answer.Refused token_corrupt else by_fate t.fate) may.alike
    ∙ ap (λ b. if not b then Answer.Refused token_corrupt else by_fate t.fate) may.unaltered
    ∙ ap by_fate may.live
    ∙ ap (λ b. answer_by_fate (unit_of s.config s.unit) t (if b then Expired else Live)) may.in_time
  where
    by_fate : Fate → Answer
    by_fate f = answer_by_fate (unit_of s.config s.unit) t (fate_at (max at (moment (past_of s.config s.unit entries))) t f)

-- ---- a report

pub form-is : (actor : Actor) (form : Form) (id : ℕ) (o : Operation) → has_key actor form id o ≡ true → form_of o.made.entry.act ≡ form
form-is actor form id o e =
    let keys : (same_actor o.made.entry.actor actor && same_form (form_of o.made.entry.act) form) ≡ true = and_first (same_actor o.made.entry.actor actor && same_form (form_of o.made.entry.act) form) (id_of o.made.entry.act == id) e in
    same_form-is (form_of o.made.entry.act) form (and_second (same_actor o.made.entry.actor actor) (same_form (form_of o.made.entry.act) form) keys)

pub report-is : (config : Configuration) (unit : ℕ) (past : List Deed) (actor : Actor) (id : ℕ) → IsKnown config unit past → IsNexus actor
    → option_map (λ (j : Job). Answer.Report (reports.report_of j.work)) (find (jobs.has_key (key_of actor OfToken id)) (jobs_of past))
    ≡ option_map (λ (o : Operation). Answer.Report (report_of o)) (find (has_key actor OfToken id) (kept past))
report-is config unit past actor id known mine =
    ap (option_map (λ (j : Job). Answer.Report (reports.report_of j.work))) (found-key config unit past actor OfToken id known mine)
    ∙ go (find (has_key actor OfToken id) (kept past)) refl
  where
    go : (w : Option Operation) → find (has_key actor OfToken id) (kept past) ≡ w
        → option_map (λ (j : Job). Answer.Report (reports.report_of j.work)) (option_map job_of w) ≡ option_map (λ (o : Operation). Answer.Report (report_of o)) w
    go None e = refl
    go (Some o) e =
        let own = Each-in (IsOwn config unit) (kept past) o (own-of config unit past known) (find-in (has_key actor OfToken id) (kept past) o e) in
        let form = form-is actor OfToken id o (find-passes (has_key actor OfToken id) (kept past) o e) in
        ap (λ r. Some (Answer.Report r)) (job-report config unit o own form)

pub recall-is : (config : Configuration) (unit : ℕ) (past : List Deed) (actor : Actor) (id : ℕ) → IsKnown config unit past → IsNexus actor
    → option_map (λ (j : Job). Answer.Copy (reports.result_of j.work)) (find (jobs.has_key (key_of actor OfCopy id)) (jobs_of past))
    ≡ option_map (λ (o : Operation). Answer.Copy (result_of o.servers)) (find (has_key actor OfCopy id) (kept past))
recall-is config unit past actor id known mine =
    ap (option_map (λ (j : Job). Answer.Copy (reports.result_of j.work))) (found-key config unit past actor OfCopy id known mine)
    ∙ go (find (has_key actor OfCopy id) (kept past)) refl
  where
    go : (w : Option Operation) → find (has_key actor OfCopy id) (kept past) ≡ w
        → option_map (λ (j : Job). Answer.Copy (reports.result_of j.work)) (option_map job_of w) ≡ option_map (λ (o : Operation). Answer.Copy (result_of o.servers)) w
    go None e = refl
    go (Some o) e = ap (λ r. Some (Answer.Copy r)) (job-result o (form-is actor OfCopy id o (find-passes (has_key actor OfCopy id) (kept past) o e)))

-- ---- the next piece

-- the operation of a job that is found
pub record IsFound (w : Option Operation) (job : Job) : Type 0 where
  pub operation : Operation
  pub found : w ≡ Some operation
  pub same : job_of operation ≡ job

pub found-of : (w : Option Operation) (job : Job) → option_map job_of w ≡ Some job → IsFound w job
found-of None job e = cc
found-of (Some o) job e = record { operation = o; found = refl; same = cc }

pub none-of : (w : Option Operation) → option_map job_of w ≡ None → w ≡ None
none-of None e = refl
none-of (Some o) e = cc

paired-take : (n : ℕ) (bs : List ℕ) (xs : List Held) → paired (take n bs) (take n xs) ≡ take n (paired bs xs)
paired-take zero bs xs = refl
paired-take (suc n) [] xs = refl
paired-take (suc n) (b ∷ bs) [] = refl
paired-take (suc n) (b ∷ bs) (x ∷ xs) = ap (λ l. (let w : Pair = record { block = b; held = x } in w) ∷ l) (paired-take n bs xs)

paired-drop : (n : ℕ) (bs : List ℕ) (xs : List Held) → length bs ≡ length xs → paired (drop n bs) (drop n xs) ≡ drop n (paired bs xs)
paired-drop zero bs xs e = refl
paired-drop (suc n) [] [] e = refl
paired-drop (suc n) [] (x ∷ xs) e = cc
paired-drop (suc n) (b ∷ bs) [] e = cc
paired-drop (suc n) (b ∷ bs) (x ∷ xs) e = paired-drop n bs xs (omega arith)

write-is : (a b : WriteJob) → Writing a ≡ Writing b → a ≡ b
write-is a b e = cc

-- the piece of a write is the next of the operation
piece-of-work : (config : Configuration) (unit : ℕ) (past : List Deed) (o : Operation) (p : NextPiece) (write : WriteJob) (act : Act) → o.made.entry.act ≡ act
    → (is_foreground act || is_background act) ≡ true → within_limits config unit act ≡ true → starts_within (unit_of config unit).blocks act ≡ true
    → work_of o act ≡ Writing write → next.IsPiece write p → p.key ≡ own_key o → p.key.copy ≡ false → next.next_length p.key (jobs_of past) ≡ Some (length p.list.items)
    → IsBegun o → IsPieceOf config unit past o p
piece-of-work config unit past o p write (Act.Start id background ranges rod) is start limits inside work piece key token counted begun =
    let mine : WriteJob = record { background = background; ranges = ranges; rod = rod; written = length (written o); state = state o } in
    let same : mine ≡ write = write-is mine write work in
    let of : next.IsPiece mine p = subst (λ (w : WriteJob). next.IsPiece w p) (sym same) piece in
    let W = length (written o) in
    let long : length (blocks_of ranges) ≡ length rod.items = length-blocks_of ranges ∙ start-total config unit id background ranges rod limits in
    let all : length (list_of o.made.entry.act) ≡ length rod.items = ap (λ a. length (list_of a)) is ∙ start-length config unit id background ranges rod limits in
    let items : p.list.items ≡ take piece_blocks (drop W rod.items) = ap (λ (l : HeldBlocks). l.items) of.list in
    let writes : paired (blocks_of p.ranges) p.list.items ≡ next_piece o =
    ap (λ bs. paired bs p.list.items) of.blocks ∙ ap (paired (take piece_blocks (drop W (blocks_of ranges)))) items
    ∙ paired-take piece_blocks (drop W (blocks_of ranges)) (drop W rod.items) ∙ ap (take piece_blocks) (paired-drop W (blocks_of ranges) rod.items long)
    ∙ sym (ap (λ a. take piece_blocks (drop W (list_of a))) is) in
    let blocks : length (blocks_of p.ranges) ≡ length p.list.items = length-blocks_of p.ranges ∙ of.total in
    record {
      key = key;
      token = token;
      before = of.written;
      writes = writes;
      long = sym (length-paired (blocks_of p.ranges) p.list.items blocks) ∙ ap length writes;
      last = of.last ∙ ap (λ n. W + length p.list.items == n) (sym all);
      counted = counted;
      few =
          let done = few-written o begun in
          let next = length-next o in
          let same : length p.list.items ≡ length (next_piece o) = sym (length-paired (blocks_of p.ranges) p.list.items blocks) ∙ ap length writes in
          let most = start-few config unit id background ranges rod limits in
          omega (arith, of.written, done, next, same, most, all);
      put = record {
        within = of.within (unit_of config unit).blocks inside;
        apart = of.apart;
        total = of.total;
        alike = ap (λ (l : HeldBlocks). l.block_length) of.list ∙ start-alike config unit id background ranges rod limits;
      };
    }
piece-of-work config unit past o p write (Act.Open id) is start limits inside work piece key token counted begun = cc
piece-of-work config unit past o p write _ is start limits inside work piece key token counted begun = cc

pub piece-of : (config : Configuration) (unit : ℕ) (past : List Deed) (o : Operation) (k : Option Key) (p : NextPiece) → IsKnown config unit past → In o (kept past)
    → (n : next.IsNextPiece k (jobs_of past) p) → job_of o ≡ n.job → (is_foreground o.made.entry.act || is_background o.made.entry.act) ≡ true → IsPieceOf config unit past o p
piece-of config unit past o k p known there n same start =
    let own = Each-in (IsOwn config unit) (kept past) o (own-of config unit past known) there in
    piece-of-work config unit past o p n.write o.made.entry.act refl start own.asked.limits own.within
    (ap (λ (j : Job). j.work) same ∙ n.work) n.next (n.named ∙ ap (λ (j : Job). j.key) (sym same)) n.token n.counted
    (Each-in IsBegun (operations past) o (begun config unit past known.is) (kept_in config unit past o known.is there))

-- a job that is next writes blocks
next-starts : (k : Option Key) (o : Operation) → next.is_next k (job_of o) ≡ true → (is_foreground o.made.entry.act || is_background o.made.entry.act) ≡ true
next-starts (Some key) o e =
    or_left (is_foreground o.made.entry.act) (is_background o.made.entry.act)
    (sym (work-foreground o o.made.entry.act) ∙ and_second (jobs.runs_as key (job_of o)) (next.is_foreground (work_of o o.made.entry.act)) e)
next-starts None o e =
    or_right (is_foreground o.made.entry.act) (is_background o.made.entry.act)
    (sym (work-background o o.made.entry.act) ∙ and_second (jobs.is_running (job_of o)) (next.is_background (work_of o o.made.entry.act)) e)

-- the operation of a piece that is next
pub record IsPieceFound (config : Configuration) (unit : ℕ) (past : List Deed) (p : NextPiece) : Type 0 where
  pub operation : Operation
  pub piece : IsPieceOf config unit past operation p

pub piece-found : (config : Configuration) (unit : ℕ) (past : List Deed) (k : Option Key) (p : NextPiece) → IsKnown config unit past → next.IsNextPiece k (jobs_of past) p → IsPieceFound config unit past p
piece-found config unit past k p known n =
    let f = found-of (find (λ o. next.is_next k (job_of o)) (kept past)) n.job (sym (find-map job_of (next.is_next k) (kept past)) ∙ n.found) in
    let there = find-in (λ o. next.is_next k (job_of o)) (kept past) f.operation f.found in
    let start = next-starts k f.operation (find-passes (λ o. next.is_next k (job_of o)) (kept past) f.operation f.found) in
    record { operation = f.operation; piece = piece-of config unit past f.operation k p known there n f.same start }

-- the job that is next is that of the operation that the act would serve
pub next-is : (config : Configuration) (unit : ℕ) (past : List Deed) (actor : Actor) (act : Act) (key : Option Key) (otherwise : Answer) → IsKnown config unit past → WritesPiece unit actor act key otherwise
    → find (next.is_next key) (jobs_of past) ≡ option_map job_of (would_serve past actor act)
next-is config unit past actor act key otherwise known (asked, inl adv) =
    let mine = asker unit actor (Act.Advance adv.id) (sym (ap (may_ask unit actor) adv.act) ∙ asked) refl in
    ap (λ k. find (next.is_next k) (jobs_of past)) adv.key_is
    ∙ found-job config unit past actor (Act.Advance adv.id) (next.is_next (Some (key_of actor OfToken adv.id))) known.is
    (λ o i. is-next-key actor adv.id o mine (own-nexus config unit o (Each-in (IsOwn config unit) (kept past) o (own-of config unit past known) i)))
    ∙ ap (λ a. option_map job_of (would_serve past actor a)) (sym adv.act)
next-is config unit past actor act key otherwise known (asked, inr pump) =
    ap (λ k. find (next.is_next k) (jobs_of past)) pump.key_is
    ∙ found-job config unit past actor Act.Pump (next.is_next None) known.is (λ o i. is-next-pump actor o)
    ∙ ap (λ a. option_map job_of (would_serve past actor a)) (sym pump.act)

-- the act is answered as its piece
pub for-piece : (config : Configuration) (unit : ℕ) (past : List Deed) (actor : Actor) (at : ℕ) (act : Act) (key : Option Key) (otherwise : Answer) (o : Operation) → WritesPiece unit actor act key otherwise
    → would_serve past actor act ≡ Some o → IsForPiece config unit past actor at act o
for-piece config unit past actor at act key otherwise o (asked, inl adv) found =
    rw adv.act (go adv.id (sym (ap (would_serve past actor) adv.act) ∙ found))
  where
    go : (id : ℕ) → would_serve past actor (Act.Advance id) ≡ Some o → IsForPiece config unit past actor at (Act.Advance id) o
    go id e = record {
      found = e;
      answer = ap (progress (unit_of config unit) past (Answer.Refused invalid_field_in_cdb)) e;
      writes = ap piece_of e;
      start = or_left (is_foreground o.made.entry.act) (is_background o.made.entry.act) (and_second (has_key actor OfToken id o) (is_foreground o.made.entry.act) (find-passes (fits actor (Act.Advance id)) (running past) o e));
      on = refl;
      ends = refl;
    }
for-piece config unit past actor at act key otherwise o (asked, inr pump) found =
    rw pump.act (go (sym (ap (would_serve past actor) pump.act) ∙ found))
  where
    go : would_serve past actor Act.Pump ≡ Some o → IsForPiece config unit past actor at Act.Pump o
    go e = record {
      found = e;
      answer = ap (progress (unit_of config unit) past Answer.Idle) e;
      writes = ap piece_of e;
      start = or_right (is_foreground o.made.entry.act) (is_background o.made.entry.act) (find-passes (fits actor Act.Pump) (running past) o e);
      on = refl;
      ends = refl;
    }

-- no piece is to be written
pub no-piece : (config : Configuration) (unit : ℕ) (past : List Deed) (actor : Actor) (at : ℕ) (act : Act) (key : Option Key) (otherwise : Answer) → WritesPiece unit actor act key otherwise
    → would_serve past actor act ≡ None → IsPlan config unit past actor at act (quiet otherwise)
no-piece config unit past actor at act key otherwise (asked, inl adv) none =
    rw (adv.act, adv.none) (go adv.id (sym (ap (would_serve past actor) adv.act) ∙ none))
  where
    go : (id : ℕ) → would_serve past actor (Act.Advance id) ≡ None → IsPlan config unit past actor at (Act.Advance id) (quiet (Answer.Refused invalid_field_in_cdb))
    go id e = refused-plan config unit past actor at (Act.Advance id) invalid_field_in_cdb (sym (ap (progress (unit_of config unit) past (Answer.Refused invalid_field_in_cdb)) e)) (λ s. refl) e refl
no-piece config unit past actor at act key otherwise (asked, inr pump) none =
    rw (pump.act, pump.none) (go (sym (ap (would_serve past actor) pump.act) ∙ none))
  where
    go : would_serve past actor Act.Pump ≡ None → IsPlan config unit past actor at Act.Pump (quiet Answer.Idle)
    go e =
        plain-plan config unit past actor at Act.Pump Answer.Idle BlockChange.Nothing None (sym (ap (progress (unit_of config unit) past Answer.Idle) e)) (sym (ap piece_of e)) tt
        (record { making = refl; deletes = λ s. refl; redeems = λ s. refl }) e refl

-- ---- operations that are ended

pub none-some : {X : Type 0} (w : Option X) → is_some w ≡ false → w ≡ None
none-some None e = refl
none-some (Some x) e = cc

-- what is there
pub record IsThere {X : Type 0} (w : Option X) : Type 0 where
  pub item : X
  pub is : w ≡ Some item

pub some-there : {X : Type 0} (w : Option X) → is_some w ≡ true → IsThere w
some-there None e = cc
some-there (Some x) e = record { item = x; is = refl }

pub end-none : (config : Configuration) (unit : ℕ) (past : List Deed) (actor : Actor) (at id : ℕ) → would_serve past actor (Act.End id) ≡ None
    → IsPlan config unit past actor at (Act.End id) (quiet (Answer.Refused invalid_field_in_cdb))
end-none config unit past actor at id e = refused-plan config unit past actor at (Act.End id) invalid_field_in_cdb (sym (ap answer_end e)) (λ s. refl) e refl

pub abort-none : (config : Configuration) (unit : ℕ) (past : List Deed) (actor : Actor) (at id : ℕ) → would_serve past actor (Act.Abort id) ≡ None
    → IsPlan config unit past actor at (Act.Abort id) (quiet (Answer.Refused invalid_field_in_cdb))
abort-none config unit past actor at id e = refused-plan config unit past actor at (Act.Abort id) invalid_field_in_cdb (sym (ap done_if e)) (λ s. refl) e refl

pub close-none : (config : Configuration) (unit : ℕ) (past : List Deed) (actor : Actor) (at id : ℕ) (result : CopyEnd) → would_serve past actor (Act.Close id result) ≡ None
    → IsPlan config unit past actor at (Act.Close id result) (quiet (Answer.Refused invalid_field_in_cdb))
close-none config unit past actor at id result e = refused-plan config unit past actor at (Act.Close id result) invalid_field_in_cdb (sym (ap done_if e)) (λ s. refl) e refl

-- the report of an operation that an End would serve tells its count
pub end-count : (config : Configuration) (unit : ℕ) (past : List Deed) (actor : Actor) (id : ℕ) (o : Operation) (report : OpReport) → IsKnown config unit past → IsNexus actor
    → would_serve past actor (Act.End id) ≡ Some o → Some report ≡ option_map (λ (j : Job). reports.report_of j.work) (find (jobs.has_key (key_of actor OfToken id)) (jobs_of past))
    → report.count ≡ count o
end-count config unit past actor id o report known mine found told =
    let has : has_key actor OfToken id o ≡ true = and_first (has_key actor OfToken id o) (is_foreground o.made.entry.act) (find-passes (fits actor (Act.End id)) (running past) o found) in
    let there = served-there config unit past actor (Act.End id) o known.is found in
    let own = Each-in (IsOwn config unit) (kept past) o (own-of config unit past known) there in
    let kept-is : find (jobs.has_key (key_of actor OfToken id)) (jobs_of past) ≡ Some (job_of o) =
    found-key config unit past actor OfToken id known mine ∙ ap (option_map job_of) (record-found config unit past actor OfToken id o known.is there has) in
    let same : Some report ≡ Some (report_of o) = told ∙ ap (option_map (λ (j : Job). reports.report_of j.work)) kept-is ∙ ap Some (job-report config unit o own (form-is actor OfToken id o has)) in
    ap (λ (r : OpReport). r.count) (report-same report (report_of o) same)
  where
    report-same : (a b : OpReport) → Some a ≡ Some b → a ≡ b
    report-same a b e = cc

-- and there is one
pub end-kept : (config : Configuration) (unit : ℕ) (past : List Deed) (actor : Actor) (id : ℕ) (o : Operation) → IsKnown config unit past → IsNexus actor
    → would_serve past actor (Act.End id) ≡ Some o → None ≡ option_map (λ (j : Job). reports.report_of j.work) (find (jobs.has_key (key_of actor OfToken id)) (jobs_of past)) → ⊥
end-kept config unit past actor id o known mine found told =
    let has : has_key actor OfToken id o ≡ true = and_first (has_key actor OfToken id o) (is_foreground o.made.entry.act) (find-passes (fits actor (Act.End id)) (running past) o found) in
    let there = served-there config unit past actor (Act.End id) o known.is found in
    let kept-is : find (jobs.has_key (key_of actor OfToken id)) (jobs_of past) ≡ Some (job_of o) =
    found-key config unit past actor OfToken id known mine ∙ ap (option_map job_of) (record-found config unit past actor OfToken id o known.is there has) in
    none-not (reports.report_of (job_of o).work) (told ∙ ap (option_map (λ (j : Job). reports.report_of j.work)) kept-is)
  where
    none-not : (r : OpReport) → None ≡ Some r → ⊥
    none-not r e = cc

-- ---- what is told of an operation

pub report-plan : (config : Configuration) (unit : ℕ) (past : List Deed) (actor : Actor) (at id : ℕ) (report : OpReport) → IsKnown config unit past → IsNexus actor
    → Some report ≡ option_map (λ (j : Job). reports.report_of j.work) (find (jobs.has_key (key_of actor OfToken id)) (jobs_of past))
    → IsPlan config unit past actor at (Act.Report id) (quiet (Answer.Report report))
report-plan config unit past actor at id report known mine told =
    plain-plan config unit past actor at (Act.Report id) (Answer.Report report) BlockChange.Nothing None (go (find (jobs.has_key (key_of actor OfToken id)) (jobs_of past)) (find (has_key actor OfToken id) (kept past)) told
    (report-is config unit past actor id known mine)) refl tt
    (record { making = refl; deletes = λ s. refl; redeems = λ s. refl }) (find-none (running past)) refl
  where
    go : (j : Option Job) (w : Option Operation) → Some report ≡ option_map (λ (j : Job). reports.report_of j.work) j
        → option_map (λ (j : Job). Answer.Report (reports.report_of j.work)) j ≡ option_map (λ (o : Operation). Answer.Report (report_of o)) w
        → Answer.Report report ≡ answer_report w
    go None w e same = cc
    go (Some j) None e same = cc
    go (Some j) (Some o) e same = cc

pub report-none : (config : Configuration) (unit : ℕ) (past : List Deed) (actor : Actor) (at id : ℕ) → IsKnown config unit past → IsNexus actor
    → None ≡ option_map (λ (j : Job). reports.report_of j.work) (find (jobs.has_key (key_of actor OfToken id)) (jobs_of past))
    → IsPlan config unit past actor at (Act.Report id) (quiet (Answer.Refused invalid_field_in_cdb))
report-none config unit past actor at id known mine told =
    refused-plan config unit past actor at (Act.Report id) invalid_field_in_cdb (go (find (jobs.has_key (key_of actor OfToken id)) (jobs_of past)) (find (has_key actor OfToken id) (kept past)) told
    (report-is config unit past actor id known mine)) (λ s. refl) (find-none (running past)) refl
  where
    go : (j : Option Job) (w : Option Operation) → None ≡ option_map (λ (j : Job). reports.report_of j.work) j
        → option_map (λ (j : Job). Answer.Report (reports.report_of j.work)) j ≡ option_map (λ (o : Operation). Answer.Report (report_of o)) w
        → Answer.Refused invalid_field_in_cdb ≡ answer_report w
    go None None e same = refl
    go None (Some o) e same = cc
    go (Some j) w e same = cc

pub recall-plan : (config : Configuration) (unit : ℕ) (past : List Deed) (actor : Actor) (at id : ℕ) (end : CopyEnd) → IsKnown config unit past → IsNexus actor
    → Some end ≡ option_map (λ (j : Job). reports.result_of j.work) (find (jobs.has_key (key_of actor OfCopy id)) (jobs_of past))
    → IsPlan config unit past actor at (Act.Recall id) (quiet (Answer.Copy end))
recall-plan config unit past actor at id end known mine told =
    plain-plan config unit past actor at (Act.Recall id) (Answer.Copy end) BlockChange.Nothing None (go (find (jobs.has_key (key_of actor OfCopy id)) (jobs_of past)) (find (has_key actor OfCopy id) (kept past)) told
    (recall-is config unit past actor id known mine)) refl tt
    (record { making = refl; deletes = λ s. refl; redeems = λ s. refl }) (find-none (running past)) refl
  where
    go : (j : Option Job) (w : Option Operation) → Some end ≡ option_map (λ (j : Job). reports.result_of j.work) j
        → option_map (λ (j : Job). Answer.Copy (reports.result_of j.work)) j ≡ option_map (λ (o : Operation). Answer.Copy (result_of o.servers)) w
        → Answer.Copy end ≡ answer_recall w
    go None w e same = cc
    go (Some j) None e same = cc
    go (Some j) (Some o) e same = cc

pub recall-none : (config : Configuration) (unit : ℕ) (past : List Deed) (actor : Actor) (at id : ℕ) → IsKnown config unit past → IsNexus actor
    → None ≡ option_map (λ (j : Job). reports.result_of j.work) (find (jobs.has_key (key_of actor OfCopy id)) (jobs_of past))
    → IsPlan config unit past actor at (Act.Recall id) (quiet (Answer.Refused invalid_field_in_cdb))
recall-none config unit past actor at id known mine told =
    refused-plan config unit past actor at (Act.Recall id) invalid_field_in_cdb (go (find (jobs.has_key (key_of actor OfCopy id)) (jobs_of past)) (find (has_key actor OfCopy id) (kept past)) told
    (recall-is config unit past actor id known mine)) (λ s. refl) (find-none (running past)) refl
  where
    go : (j : Option Job) (w : Option Operation) → None ≡ option_map (λ (j : Job). reports.result_of j.work) j
        → option_map (λ (j : Job). Answer.Copy (reports.result_of j.work)) j ≡ option_map (λ (o : Operation). Answer.Copy (result_of o.servers)) w
        → Answer.Refused invalid_field_in_cdb ≡ answer_recall w
    go None None e same = refl
    go None (Some o) e same = cc
    go (Some j) w e same = cc
