-- Plans of acts that serve an operation
use Rattle.std.proofs.Common.{◌≡◌, ℕ, ◌+◌, ◌≤◌, List, [], ◌∷◌, length, refl, ap, sym, ◌∙◌, subst, true, false, Bool}
use Rattle.std.specs.Prelude.{◌||◌, Some, None, ◌==◌, ◌&&◌, ◌||◌, not, nat_lt, if◌then◌else◌}
use Rattle.cm_base.specs.Configuration.{Configuration}
use Rattle.cm_base.specs.declared.config.UnitConfig.{UnitConfig}
use Rattle.cm_base.specs.Units.{unit_of}
use Rattle.lba_ranges.specs.Denoted.{blocks_of}
use Rattle.lba_ranges.specs.Writings.{Writing, paired}
use Rattle.cm_history.specs.declared.act.Act.{Act}
use Rattle.cm_history.specs.declared.act.Actor.{Actor}
use Rattle.cm_history.specs.declared.act.CopyEnd.{CopyEnd}
use Rattle.cm_history.specs.declared.answer.Answer.{Answer}
use Rattle.cm_history.specs.declared.answer.OpState.{OpState}
use Rattle.scsi_sense.specs.Codes.{space_allocation_failed}
use Rattle.cm_history.specs.Deeds.{Deed, is_refusal}
use Rattle.cm_history.specs.Blocks.{held, mapped_with}
use Rattle.cm_history.specs.Limits.{within_limits}
use Rattle.cm_history.specs.Operations.{Operation, Form, OfToken, OfCopy, form_of, has_key, is_making, would_serve, running, is_running, is_running_copy, is_foreground, is_background, is_failure, is_ending, fits, kept, written, list_of, next_piece, count, count_of}
use Rattle.cm_history.specs.Reserving.{reservations, reserved_by}
use Rattle.cm_history.specs.Answers.{answer_after, writings, wrote_of, progress_by}
use Rattle.cm_history.proofs.PublicLaws.{In, Each-in, find-none, making_serves, find-passes, any-found, Moves, Stops, Ends, Closes, and_first, and_second}
use Rattle.copy_jobs.specs.declared.key.Key.{Key}
use Rattle.copy_jobs.specs.declared.job.Job.{Job}
use Rattle.copy_jobs.specs.declared.job.Work.{Work}
use Rattle.copy_jobs.specs.Jobs as jobs
use Rattle.copy_jobs.specs.declared.piece.NextPiece.{NextPiece}
use Rattle.copy_jobs.specs.Pieces.{next_length}
use Rattle.copy_jobs.specs.Changes.{change, with_work, moved_by, stopped_by, terminated, closed_by}
use Rattle.unit_core.specs.declared.block_change.BlockChange.{BlockChange}
use Rattle.unit_core.specs.declared.job_change.JobChange.{JobChange}
use Rattle.rod_store.specs.declared.token_change.TokenChange.{TokenChange}
use Rattle.unit_core.specs.declared.plan.Plan.{Plan}
use Rattle.cm_history.specs.Ends.{ends_operation}
use Rattle.unit_core.specs.inner.BlockChanges.{writings_of, MayChange, MayPut}
use Rattle.unit_core.specs.inner.JobChanges.{jobs_after, MayJob, grows}
use Rattle.unit_core.specs.Keys.{key_of, is_copy}
use Rattle.unit_core.specs.inner.Tables.{job_of, jobs_of}
use Rattle.unit_core.specs.inner.Planning.{quiet, IsDeed, IsPlan, takes_none, piece_plan}
use Rattle.unit_core.proofs.Jobs.{IsOwn}
use Rattle.unit_core.proofs.Keeping.{own_key, served-there, served-runs, serving-jobs, found-own}
use Rattle.unit_core.proofs.JobDeeds.{moves-work, stops-work, ends-work, closes-work}
use Rattle.unit_core.proofs.Asking.{key-own}
use Rattle.unit_core.proofs.Planned.{IsKnown, own-of, deed-answer, deed-serves, deed-makes, idle-step, LeavesTokens, makes-none}
use Rattle.unit_core.proofs.Bools.{off}
use Rattle.std.proofs.lemmas.Bool.{or_left, or_right}

pub deed-wrote : (config : Configuration) (unit : ℕ) (past : List Deed) (actor : Actor) (at : ℕ) (act : Act) (d : Deed) → IsDeed config unit past actor at act d
    → d.wrote ≡ wrote_of (answer_after config unit past actor at act) (writings past actor act)
deed-wrote config unit past actor at act d is =
    ap (λ (x : Deed). x.wrote) is.made
    ∙ ap (λ a. wrote_of (answer_after config unit past a d.entry.moment d.entry.act) (writings past a d.entry.act)) is.actor
    ∙ ap (λ m. wrote_of (answer_after config unit past actor m d.entry.act) (writings past actor d.entry.act)) is.moment
    ∙ ap (λ a. wrote_of (answer_after config unit past actor at a) (writings past actor a)) is.act

unmade : (past : List Deed) (actor : Actor) (act : Act) (o : Operation) → would_serve past actor act ≡ Some o → (t : Bool) → is_making act ≡ t → t ≡ false
unmade past actor act o found false e = refl
unmade past actor act o found true e = let no = sym found ∙ making_serves past actor act e in cc

leaves-serving : (past : List Deed) (actor : Actor) (act : Act) (answer : Answer) (o : Operation) → would_serve past actor act ≡ Some o → LeavesTokens act answer
leaves-serving past actor (Act.Advance id) answer o e = record { making = refl; deletes = λ s. refl; redeems = λ s. refl }
leaves-serving past actor Act.Pump answer o e = record { making = refl; deletes = λ s. refl; redeems = λ s. refl }
leaves-serving past actor (Act.End id) answer o e = record { making = refl; deletes = λ s. refl; redeems = λ s. refl }
leaves-serving past actor (Act.Abort id) answer o e = record { making = refl; deletes = λ s. refl; redeems = λ s. refl }
leaves-serving past actor (Act.Close id result) answer o e = record { making = refl; deletes = λ s. refl; redeems = λ s. refl }
leaves-serving past actor _ answer o e = let no = sym (find-none (running past)) ∙ e in cc

-- and has to do with no reservation
serving-leaves : (past : List Deed) (actor : Actor) (act : Act) (o : Operation) → would_serve past actor act ≡ Some o → reservations past ≡ reserved_by (reservations past) actor act
serving-leaves past actor (Act.PrOut action scope kind key action_key) o e = let no = sym (find-none (running past)) ∙ e in cc
serving-leaves past actor _ o e = refl

-- an act that serves an operation, by what becomes of its job
pub served-plan : (config : Configuration) (unit : ℕ) (past : List Deed) (actor : Actor) (at : ℕ) (act : Act) (o : Operation) (answer : Answer) (blocks : BlockChange) (j : JobChange) (g : Job → Job)
    → IsKnown config unit past → would_serve past actor act ≡ Some o
    → answer ≡ answer_after config unit past actor at act → writings_of blocks ≡ wrote_of answer (writings past actor act)
    → MayChange (unit_of config unit).blocks (unit_of config unit).block_length blocks → MayJob j (jobs_of past)
    → jobs_after j (jobs_of past) ≡ change (jobs.runs_as (own_key o)) g (jobs_of past) → grows j ≡ false
    → ((d : Deed) → IsDeed config unit past actor at act d → job_of (record o { servers = d ∷ o.servers }) ≡ g (job_of o))
    → (ends_operation past actor act ≡ true → takes_none (record { answer = answer; blocks = blocks; jobs = j; tokens = TokenChange.Nothing; reservations = None }) ≡ true)
    → IsPlan config unit past actor at act (record { answer = answer; blocks = blocks; jobs = j; tokens = TokenChange.Nothing; reservations = None })
served-plan config unit past actor at act o answer blocks j g known found told wrote may_b may_j after grow becomes none = record {
  answer = told;
  wrote = wrote;
  jobs = λ d is.
      serving-jobs config unit past d o g known.is is.made (own-of config unit past known)
      (deed-makes config unit past actor at act d answer is told ∙ ap (λ t. t && not (is_refusal answer)) (unmade past actor act o found (is_making act) refl))
      (deed-serves config unit past actor at act d is ∙ found) (becomes d is)
      ∙ sym after;
  tokens = λ d is. idle-step config unit past actor at act answer told (leaves-serving past actor act answer o found) d is;
  reservations = serving-leaves past actor act o found;
  may_blocks = may_b;
  may_jobs = may_j;
  may_tokens = λ spare h. tt;
  may_pin = tt;
  makes = makes-none act answer (leaves-serving past actor act answer o found).making;
  apart = λ e. let no = sym e ∙ ap (λ t. t || false) grow in cc;
  ends = none;
}

-- ---- an operation is ended

busy-own : (config : Configuration) (unit : ℕ) (past : List Deed) (actor : Actor) (act : Act) (o : Operation) → IsKnown config unit past → would_serve past actor act ≡ Some o
    → jobs.is_busy (own_key o) (jobs_of past) ≡ true
busy-own config unit past actor act o known found =
    any-found (jobs.runs_as (own_key o)) (jobs_of past) (job_of o)
    (found-own config unit past o known.is (own-of config unit past known) (served-there config unit past actor act o known.is found) (served-runs config unit past actor act o known.is found))

ended-becomes : (config : Configuration) (unit : ℕ) (past : List Deed) (actor : Actor) (act : Act) (o : Operation) (d : Deed) → IsKnown config unit past → would_serve past actor act ≡ Some o
    → Ends o d.answer d.wrote d.entry.act → job_of (record o { servers = d ∷ o.servers }) ≡ with_work terminated (job_of o)
ended-becomes config unit past actor act o d known found ended =
    ap (λ (w : Work). let j : Job = record { key = own_key o; work = w } in j) (ends-work d o ended (served-runs config unit past actor act o known.is found) o.made.entry.act refl ended.start)

pub end-plan : (config : Configuration) (unit : ℕ) (past : List Deed) (actor : Actor) (at id : ℕ) (o : Operation) → IsKnown config unit past → would_serve past actor (Act.End id) ≡ Some o
    → IsPlan config unit past actor at (Act.End id) (record (quiet (Answer.Progress OpState.Terminated (count o))) { jobs = JobChange.End (key_of actor OfToken id) })
end-plan config unit past actor at id o known found =
    served-plan config unit past actor at (Act.End id) o (Answer.Progress OpState.Terminated (count o)) BlockChange.Nothing (JobChange.End (key_of actor OfToken id)) (with_work terminated)
    known found told refl tt (refl, subst (λ k. jobs.is_busy k (jobs_of past) ≡ true) key (busy-own config unit past actor (Act.End id) o known found))
    (ap (λ k. change (jobs.runs_as k) (with_work terminated) (jobs_of past)) (sym key)) refl becomes (λ e. refl)
  where
    fit : (has_key actor OfToken id o && is_foreground o.made.entry.act) ≡ true
    fit = find-passes (fits actor (Act.End id)) (running past) o found

    key : own_key o ≡ key_of actor OfToken id
    key = key-own actor OfToken id o (and_first (has_key actor OfToken id o) _ fit)

    told : Answer.Progress OpState.Terminated (count o) ≡ answer_after config unit past actor at (Act.End id)
    told = rw found refl

    becomes : (d : Deed) → IsDeed config unit past actor at (Act.End id) d → job_of (record o { servers = d ∷ o.servers }) ≡ with_work terminated (job_of o)
    becomes d is = ended-becomes config unit past actor (Act.End id) o d known found (record {
      on = ap is_ending is.act;
      answer = ap is_failure (deed-answer config unit past actor at (Act.End id) d is ∙ sym told);
      wrote = deed-wrote config unit past actor at (Act.End id) d is ∙ ap (λ a. wrote_of a []) (sym told);
      start = or_left (is_foreground o.made.entry.act) _ (and_second (has_key actor OfToken id o) _ fit);
    })

pub abort-plan : (config : Configuration) (unit : ℕ) (past : List Deed) (actor : Actor) (at id : ℕ) (o : Operation) → IsKnown config unit past → would_serve past actor (Act.Abort id) ≡ Some o
    → IsPlan config unit past actor at (Act.Abort id) (record (quiet Answer.Done) { jobs = JobChange.End (key_of actor OfToken id) })
abort-plan config unit past actor at id o known found =
    served-plan config unit past actor at (Act.Abort id) o Answer.Done BlockChange.Nothing (JobChange.End (key_of actor OfToken id)) (with_work terminated)
    known found told refl tt (refl, subst (λ k. jobs.is_busy k (jobs_of past) ≡ true) key (busy-own config unit past actor (Act.Abort id) o known found))
    (ap (λ k. change (jobs.runs_as k) (with_work terminated) (jobs_of past)) (sym key)) refl becomes (λ e. refl)
  where
    fit : (has_key actor OfToken id o && is_background o.made.entry.act) ≡ true
    fit = find-passes (fits actor (Act.Abort id)) (running past) o found

    key : own_key o ≡ key_of actor OfToken id
    key = key-own actor OfToken id o (and_first (has_key actor OfToken id o) _ fit)

    told : Answer.Done ≡ answer_after config unit past actor at (Act.Abort id)
    told = rw found refl

    becomes : (d : Deed) → IsDeed config unit past actor at (Act.Abort id) d → job_of (record o { servers = d ∷ o.servers }) ≡ with_work terminated (job_of o)
    becomes d is = ended-becomes config unit past actor (Act.Abort id) o d known found (record {
      on = ap is_ending is.act;
      answer = ap is_failure (deed-answer config unit past actor at (Act.Abort id) d is ∙ sym told);
      wrote = deed-wrote config unit past actor at (Act.Abort id) d is ∙ ap (λ a. wrote_of a []) (sym told);
      start = or_right (is_foreground o.made.entry.act) _ (and_second (has_key actor OfToken id o) _ fit);
    })

copy-form : (f : Form) → is_copy f ≡ true → f ≡ OfCopy
copy-form OfCopy e = refl
copy-form OfToken e = cc

pub close-plan : (config : Configuration) (unit : ℕ) (past : List Deed) (actor : Actor) (at id : ℕ) (result : CopyEnd) (o : Operation) → IsKnown config unit past
    → within_limits config unit (Act.Close id result) ≡ true → would_serve past actor (Act.Close id result) ≡ Some o
    → IsPlan config unit past actor at (Act.Close id result) (record (quiet Answer.Done) { jobs = JobChange.Close (key_of actor OfCopy id) result })
close-plan config unit past actor at id result o known limits found =
    served-plan config unit past actor at (Act.Close id result) o Answer.Done BlockChange.Nothing (JobChange.Close (key_of actor OfCopy id) result) (with_work (closed_by result))
    known found told refl tt
    (refl, subst (λ k. jobs.is_busy k (jobs_of past) ≡ true) key (busy-own config unit past actor (Act.Close id result) o known found), off (is_running_copy result.state) limits)
    (ap (λ k. change (jobs.runs_as k) (with_work (closed_by result)) (jobs_of past)) (sym key)) refl becomes (λ e. refl)
  where
    fit : has_key actor OfCopy id o ≡ true
    fit = find-passes (fits actor (Act.Close id result)) (running past) o found

    key : own_key o ≡ key_of actor OfCopy id
    key = key-own actor OfCopy id o fit

    told : Answer.Done ≡ answer_after config unit past actor at (Act.Close id result)
    told = rw found refl

    becomes : (d : Deed) → IsDeed config unit past actor at (Act.Close id result) d → job_of (record o { servers = d ∷ o.servers }) ≡ with_work (closed_by result) (job_of o)
    becomes d is =
        let copy : form_of o.made.entry.act ≡ OfCopy = form-is key in
        let closes : Closes o d.answer d.wrote d.entry.act = record {
          id = id;
          result = result;
          act = is.act;
          answer = ap is_failure (deed-answer config unit past actor at (Act.Close id result) d is ∙ sym told);
          wrote = deed-wrote config unit past actor at (Act.Close id result) d is ∙ ap (λ a. wrote_of a []) (sym told);
          copy = copy;
        } in
        ap (λ (w : Work). let j : Job = record { key = own_key o; work = w } in j) (closes-work d o closes o.made.entry.act copy)
      where
        form-is : own_key o ≡ key_of actor OfCopy id → form_of o.made.entry.act ≡ OfCopy
        form-is e = copy-form (form_of o.made.entry.act) (ap (λ (k : Key). k.copy) e)

-- ---- a piece is written, or stopped

start-count : (o : Operation) (act : Act) → (is_foreground act || is_background act) ≡ true → count_of (written o) act ≡ length (written o)
start-count o (Act.Start id background ranges rod) e = refl
start-count o (Act.Open id) e = cc
start-count o (Act.Populate id timeout ranges) e = cc
start-count o _ e = refl

-- the next piece of an operation, as it is planned
pub record IsPieceOf (config : Configuration) (unit : ℕ) (past : List Deed) (o : Operation) (p : NextPiece) : Type 0 where
  pub key : p.key ≡ own_key o
  pub token : p.key.copy ≡ false
  pub before : p.written ≡ length (written o)
  pub writes : paired (blocks_of p.ranges) p.list.items ≡ next_piece o
  pub long : length p.list.items ≡ length (next_piece o)
  pub last : p.is_last ≡ (length (written o) + length p.list.items == length (list_of o.made.entry.act))
  pub counted : next_length p.key (jobs_of past) ≡ Some (length p.list.items)
  pub few : p.written + length p.list.items ≤ 1_048_576
  pub put : MayPut (unit_of config unit).blocks (unit_of config unit).block_length p.ranges p.list

-- an act whose answer is that of the next piece
pub record IsForPiece (config : Configuration) (unit : ℕ) (past : List Deed) (actor : Actor) (at : ℕ) (asked : Act) (o : Operation) : Type 0 where
  pub found : would_serve past actor asked ≡ Some o
  pub answer : answer_after config unit past actor at asked
      ≡ (if nat_lt (unit_of config unit).quota (mapped_with (unit_of config unit) (held past) (next_piece o))
      then Answer.Progress (OpState.Failed space_allocation_failed) (count o) else progress_by o (length (next_piece o)))
  pub writes : writings past actor asked ≡ next_piece o
  pub start : (is_foreground o.made.entry.act || is_background o.made.entry.act) ≡ true
  pub on : is_ending asked ≡ false
  pub ends : ends_operation past actor asked ≡ false

goes : (state : Bool) (n : ℕ) (ws : List Writing) → wrote_of (Answer.Progress (if state then OpState.Done else OpState.Running) n) ws ≡ ws
goes true n ws = refl
goes false n ws = refl

pub piece-plan : (config : Configuration) (unit : ℕ) (past : List Deed) (actor : Actor) (at : ℕ) (act : Act) (o : Operation) (p : NextPiece)
    → IsKnown config unit past → IsForPiece config unit past actor at act o → IsPieceOf config unit past o p
    → IsPlan config unit past actor at act (piece_plan (unit_of config unit) (held past) p)
piece-plan config unit past actor at act o p known is of = go (nat_lt u.quota (mapped_with u (held past) (next_piece o))) refl
  where
    u : UnitConfig
    u = unit_of config unit

    runs : is_running o ≡ true
    runs = served-runs config unit past actor act o known.is is.found

    there : In o (kept past)
    there = served-there config unit past actor act o known.is is.found

    own : IsOwn config unit o
    own = Each-in (IsOwn config unit) (kept past) o (own-of config unit past known) there

    count-is : count o ≡ p.written
    count-is = start-count o o.made.entry.act is.start ∙ sym of.before

    test : nat_lt u.quota (mapped_with u (held past) (paired (blocks_of p.ranges) p.list.items)) ≡ nat_lt u.quota (mapped_with u (held past) (next_piece o))
    test = ap (λ ws. nat_lt u.quota (mapped_with u (held past) ws)) of.writes

    busy : jobs.is_busy p.key (jobs_of past) ≡ true
    busy = subst (λ k. jobs.is_busy k (jobs_of past) ≡ true) (sym of.key) (busy-own config unit past actor act o known is.found)

    stop : Plan
    stop = record { answer = Answer.Progress (OpState.Failed space_allocation_failed) p.written; blocks = BlockChange.Nothing; jobs = JobChange.Stop p.key; tokens = TokenChange.Nothing; reservations = None }

    move : Plan
    move = record {
      answer = Answer.Progress (if p.is_last then OpState.Done else OpState.Running) (p.written + length p.list.items);
      blocks = BlockChange.PutPiece p.ranges p.list;
      jobs = JobChange.Move p.key (length p.list.items);
      tokens = TokenChange.Nothing;
      reservations = None;
    }

    none : (plan : Plan) → ends_operation past actor act ≡ true → takes_none plan ≡ true
    none plan e = let no = sym e ∙ is.ends in cc

    stopped : nat_lt u.quota (mapped_with u (held past) (next_piece o)) ≡ true → IsPlan config unit past actor at act stop
    stopped over =
        let says : answer_after config unit past actor at act ≡ Answer.Progress (OpState.Failed space_allocation_failed) (count o) = is.answer ∙ ap (λ t. if t then Answer.Progress (OpState.Failed space_allocation_failed) (count o) else progress_by o (length (next_piece o))) over in
        let told : Answer.Progress (OpState.Failed space_allocation_failed) p.written ≡ answer_after config unit past actor at act = ap (Answer.Progress (OpState.Failed space_allocation_failed)) (sym count-is) ∙ sym says in
        served-plan config unit past actor at act o (Answer.Progress (OpState.Failed space_allocation_failed) p.written) BlockChange.Nothing (JobChange.Stop p.key) (with_work (stopped_by space_allocation_failed))
        known is.found told refl tt (of.token, busy) (ap (λ k. change (jobs.runs_as k) (with_work (stopped_by space_allocation_failed)) (jobs_of past)) of.key) refl
        (λ d deeds. let stops : Stops u past o d.answer d.wrote d.entry.act = record {
          over = over;
          answer = deed-answer config unit past actor at act d deeds ∙ says;
          wrote = deed-wrote config unit past actor at act d deeds ∙ ap (λ a. wrote_of a (writings past actor act)) says;
          start = is.start;
        } in
        ap (λ (w : Work). let j : Job = record { key = own_key o; work = w } in j) (stops-work u past d o stops o.made.entry.act refl is.start))
        (none stop)

    moved : nat_lt u.quota (mapped_with u (held past) (next_piece o)) ≡ false → IsPlan config unit past actor at act move
    moved within =
        let says : answer_after config unit past actor at act ≡ progress_by o (length (next_piece o)) = is.answer ∙ ap (λ t. if t then Answer.Progress (OpState.Failed space_allocation_failed) (count o) else progress_by o (length (next_piece o))) within in
        let told : Answer.Progress (if p.is_last then OpState.Done else OpState.Running) (p.written + length p.list.items) ≡ progress_by o (length (next_piece o)) =
        ap (λ t. Answer.Progress (if t then OpState.Done else OpState.Running) (p.written + length p.list.items)) of.last
        ∙ ap (λ n. Answer.Progress (if n + length p.list.items == length (list_of o.made.entry.act) then OpState.Done else OpState.Running) (p.written + length p.list.items)) (sym of.before ∙ sym count-is)
        ∙ ap (λ n. Answer.Progress (if count o + length p.list.items == length (list_of o.made.entry.act) then OpState.Done else OpState.Running) (n + length p.list.items)) (sym count-is)
        ∙ ap (λ n. Answer.Progress (if count o + n == length (list_of o.made.entry.act) then OpState.Done else OpState.Running) (count o + n)) of.long in
        let wrote : wrote_of (progress_by o (length (next_piece o))) (writings past actor act) ≡ next_piece o = goes (count o + length (next_piece o) == length (list_of o.made.entry.act)) (count o + length (next_piece o)) (writings past actor act) ∙ is.writes in
        served-plan config unit past actor at act o (Answer.Progress (if p.is_last then OpState.Done else OpState.Running) (p.written + length p.list.items)) (BlockChange.PutPiece p.ranges p.list)
        (JobChange.Move p.key (length p.list.items)) (with_work (moved_by (length p.list.items)))
        known is.found (told ∙ sym says) (of.writes ∙ sym wrote ∙ ap (λ a. wrote_of a (writings past actor act)) (sym told)) of.put (of.token, of.counted)
        (ap (λ k. change (jobs.runs_as k) (with_work (moved_by (length p.list.items))) (jobs_of past)) of.key) refl
        (λ d deeds. let moves : Moves u past o d.answer d.wrote d.entry.act = record {
          within = within;
          answer = deed-answer config unit past actor at act d deeds ∙ says;
          wrote = deed-wrote config unit past actor at act d deeds ∙ ap (λ a. wrote_of a (writings past actor act)) says ∙ wrote;
          on = ap is_ending deeds.act ∙ is.on;
          start = is.start;
        } in
        ap (λ (w : Work). let j : Job = record { key = own_key o; work = w } in j)
        (moves-work config unit u past d o moves runs o.made.entry.act refl own.asked.limits is.start
        ∙ ap (λ n. moved_by n (job_of o).work) (sym of.long)))
        (none move)

    go : (t : Bool) → nat_lt u.quota (mapped_with u (held past) (next_piece o)) ≡ t → IsPlan config unit past actor at act (piece_plan u (held past) p)
    go true e = subst (λ (t : Bool). IsPlan config unit past actor at act (if t then stop else move)) (sym (test ∙ e)) (stopped e)
    go false e = subst (λ (t : Bool). IsPlan config unit past actor at act (if t then stop else move)) (sym (test ∙ e)) (moved e)
