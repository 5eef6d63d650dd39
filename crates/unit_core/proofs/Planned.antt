-- Plans that bring the tables to what the past then says
use Rattle.std.proofs.Common.{◌≡◌, ℕ, ◌<◌, ◌^◌, List, [], ◌∷◌, length, refl, ap, sym, ◌∙◌, subst, arith, true, false, Bool}
use Rattle.std.specs.Option.{option_map}
use Rattle.std.specs.Prelude.{Option, Some, None, unwrap_or, ◌&&◌, not, max, is_some, IsSome, if◌then◌else◌}
use Rattle.std.proofs.lemmas.List.{length-map}
use Rattle.cm_base.specs.Configuration.{Configuration}
use Rattle.cm_base.specs.declared.config.UnitConfig.{UnitConfig}
use Rattle.cm_base.specs.Units.{unit_of}
use Rattle.scsi_sense.specs.SenseCode.{SenseCode}
use Rattle.lba_ranges.specs.declared.ranges.Range.{Range}
use Rattle.lba_ranges.specs.Denoted.{blocks_of, total, is_within, is_overlapping}
use Rattle.lba_ranges.specs.HeldBlocks.{HeldBlocks}
use Rattle.rod_token.specs.TokenText.{serial_of}
use Rattle.cm_history.specs.declared.act.Act.{Act}
use Rattle.cm_history.specs.declared.act.Actor.{Actor}
use Rattle.cm_history.specs.declared.answer.Answer.{Answer}
use Rattle.cm_history.specs.declared.answer.OpState.{OpState}
use Rattle.cm_history.specs.Limits.{within_limits}
use Rattle.cm_history.specs.Deeds.{Deed, moment, is_refusal, is_answered}
use Rattle.cm_history.specs.Blocks.{held, cut}
use Rattle.cm_history.specs.Tokens.{tokens, is_populate, is_delete_of, is_redeem_of}
use Rattle.cm_history.specs.Operations.{Operation, OfToken, OfCopy, is_making, makes_operation, made_operation, would_serve, running, kept}
use Rattle.pr_keys.specs.Reservations.{Reservations}
use Rattle.cm_history.specs.Reserving.{reservations, reserved_by, bars_act, done_out, done_or_same, answer_out, answer_keys, answer_holder}
use Rattle.cm_history.specs.Answers.{answer_after, answer_unbarred, writings, wrote_of}
use Rattle.cm_history.proofs.PublicLaws.{Each, find-none, IsPast}
use Rattle.copy_jobs.specs.declared.job.Job.{Job}
use Rattle.copy_jobs.specs.Jobs as jobs
use Rattle.copy_jobs.specs.Jobs.{started, opened, made}
use Rattle.copy_jobs.specs.Keeping.{keep}
use Rattle.rod_store.specs.Kept.{value_at, expired, populated, used, deleted}
use Rattle.unit_core.specs.declared.block_change.BlockChange.{BlockChange}
use Rattle.unit_core.specs.declared.job_change.JobChange.{JobChange}
use Rattle.rod_store.specs.declared.token_change.TokenChange.{TokenChange}
use Rattle.cm_history.specs.Ends.{ends_operation}
use Rattle.cm_history.specs.Asked.{AllAsked}
use Rattle.unit_core.specs.inner.BlockChanges.{writings_of, MayChange}
use Rattle.unit_core.specs.inner.JobChanges.{MayJob}
use Rattle.unit_core.specs.inner.Seen.{ranges_made}
use Rattle.unit_core.specs.Keys.{key_of}
use Rattle.unit_core.specs.inner.Tables.{kept_of, tokens_of, job_of, jobs_of}
use Rattle.unit_core.specs.inner.Planning.{quiet, IsDeed, IsPlan}
use Rattle.unit_core.proofs.Jobs.{IsNexus, IsOwn, all-own}
use Rattle.unit_core.proofs.Keeping.{same-jobs, made-jobs}
use Rattle.unit_core.proofs.Quotas.{wrote_none}
use Rattle.unit_core.proofs.JobDeeds.{start-job, open-job, populate-job}
use Rattle.unit_core.proofs.Tokens.{idle-tokens, deleted-tokens, used-tokens, made-tokens}

-- what is known of the past of a unit
pub record IsKnown (config : Configuration) (unit : ℕ) (past : List Deed) : Type 0 where
  pub is : IsPast config unit past
  pub asked : AllAsked config unit past

pub own-of : (config : Configuration) (unit : ℕ) (past : List Deed) → IsKnown config unit past → Each (IsOwn config unit) (kept past)
own-of config unit past known = all-own config unit past known.is known.asked

-- ---- the deed of an act

pub deed-answer : (config : Configuration) (unit : ℕ) (past : List Deed) (actor : Actor) (at : ℕ) (act : Act) (d : Deed) → IsDeed config unit past actor at act d
    → d.answer ≡ answer_after config unit past actor at act
deed-answer config unit past actor at act d is =
    ap (λ (x : Deed). x.answer) is.made
    ∙ ap (λ a. answer_after config unit past a d.entry.moment d.entry.act) is.actor
    ∙ ap (λ m. answer_after config unit past actor m d.entry.act) is.moment
    ∙ ap (answer_after config unit past actor at) is.act

pub deed-moment : (config : Configuration) (unit : ℕ) (past : List Deed) (actor : Actor) (at : ℕ) (act : Act) (d : Deed) → IsDeed config unit past actor at act d
    → d.moment ≡ max at (moment past)
deed-moment config unit past actor at act d is = ap (λ (x : Deed). x.moment) is.made ∙ ap (λ m. max m (moment past)) is.moment

pub deed-serves : (config : Configuration) (unit : ℕ) (past : List Deed) (actor : Actor) (at : ℕ) (act : Act) (d : Deed) → IsDeed config unit past actor at act d
    → would_serve past d.entry.actor d.entry.act ≡ would_serve past actor act
deed-serves config unit past actor at act d is = ap (λ a. would_serve past a d.entry.act) is.actor ∙ ap (would_serve past actor) is.act

pub deed-served : (config : Configuration) (unit : ℕ) (past : List Deed) (actor : Actor) (at : ℕ) (act : Act) (d : Deed) → IsDeed config unit past actor at act d
    → would_serve past actor act ≡ None → d.served ≡ None
deed-served config unit past actor at act d is none =
    ap (λ (x : Deed). x.served) is.made ∙ ap (option_map (λ (x : Operation). x.made.place)) (deed-serves config unit past actor at act d is ∙ none)

pub deed-makes : (config : Configuration) (unit : ℕ) (past : List Deed) (actor : Actor) (at : ℕ) (act : Act) (d : Deed) (answer : Answer) → IsDeed config unit past actor at act d
    → answer ≡ answer_after config unit past actor at act → makes_operation d ≡ (is_making act && not (is_refusal answer))
deed-makes config unit past actor at act d answer is told =
    ap (λ a. is_making a && is_answered d) is.act
    ∙ ap (λ (x : Answer). is_making act && not (is_refusal x)) (deed-answer config unit past actor at act d is ∙ sym told)

-- ---- plans that leave tokens and operations

populate-makes : (act : Act) (t : Bool) → (is_making act && t) ≡ false → (is_populate act && t) ≡ false
populate-makes (Act.Populate id timeout ranges) t e = e
populate-makes _ t e = refl

-- an act that makes nothing makes no token
pub makes-none : (act : Act) (answer : Answer) → (is_making act && not (is_refusal answer)) ≡ false → None ≡ ranges_made answer act
makes-none (Act.Populate id timeout ranges) answer e = go (is_refusal answer) e
  where
    go : (t : Bool) → not t ≡ false → None ≡ (if t then None else Some ranges)
    go true e = refl
    go false e = cc
makes-none _ answer e = refl

pub ends-serves : (past : List Deed) (actor : Actor) (act : Act) → ends_operation past actor act ≡ true → is_some (would_serve past actor act) ≡ true
ends-serves past actor (Act.End id) e = e
ends-serves past actor (Act.Abort id) e = e
ends-serves past actor (Act.Close id result) e = e
ends-serves past actor _ e = cc

-- an act that has to do with no token
pub record LeavesTokens (act : Act) (answer : Answer) : Type 0 where
  pub making : (is_making act && not (is_refusal answer)) ≡ false
  pub deletes : (serial : ℕ) → is_delete_of serial act ≡ false
  pub redeems : (serial : ℕ) → (is_redeem_of serial act && not (is_refusal answer)) ≡ false

pub idle-step : (config : Configuration) (unit : ℕ) (past : List Deed) (actor : Actor) (at : ℕ) (act : Act) (answer : Answer) → answer ≡ answer_after config unit past actor at act
    → LeavesTokens act answer → (d : Deed) → IsDeed config unit past actor at act d
    → tokens_of (unit_of config unit) (d ∷ past) ≡ expired (max at (moment past)) (tokens_of (unit_of config unit) past)
idle-step config unit past actor at act answer told leaves d is =
    let says : is_answered d ≡ not (is_refusal answer) = ap (λ (x : Answer). not (is_refusal x)) (deed-answer config unit past actor at act d is ∙ sym told) in
    let none : (is_populate d.entry.act && is_answered d) ≡ false =
    ap (λ a. is_populate a && is_answered d) is.act ∙ ap (λ t. is_populate act && t) says ∙ populate-makes act (not (is_refusal answer)) leaves.making in
    idle-tokens (unit_of config unit) d past none
    (λ s. ap (is_delete_of s) is.act ∙ leaves.deletes s)
    (λ s. ap (λ a. is_redeem_of s a && is_answered d) is.act ∙ ap (λ t. is_redeem_of s act && t) says ∙ leaves.redeems s)
    ∙ ap (λ m. expired m (tokens_of (unit_of config unit) past)) (deed-moment config unit past actor at act d is)

same-step : (config : Configuration) (unit : ℕ) (past : List Deed) (actor : Actor) (at : ℕ) (act : Act) (answer : Answer) → answer ≡ answer_after config unit past actor at act
    → (is_making act && not (is_refusal answer)) ≡ false → would_serve past actor act ≡ None → (d : Deed) → IsDeed config unit past actor at act d
    → jobs_of (d ∷ past) ≡ jobs_of past
same-step config unit past actor at act answer told making none d is =
    same-jobs past d (deed-makes config unit past actor at act d answer is told ∙ making) (deed-served config unit past actor at act d is none)

pub plain-plan : (config : Configuration) (unit : ℕ) (past : List Deed) (actor : Actor) (at : ℕ) (act : Act) (answer : Answer) (blocks : BlockChange) (after : Option Reservations)
    → answer ≡ answer_after config unit past actor at act → writings_of blocks ≡ wrote_of answer (writings past actor act)
    → MayChange (unit_of config unit).blocks (unit_of config unit).block_length blocks → LeavesTokens act answer → would_serve past actor act ≡ None
    → unwrap_or after (reservations past) ≡ reserved_by (reservations past) actor act
    → IsPlan config unit past actor at act (record { answer = answer; blocks = blocks; jobs = JobChange.Nothing; tokens = TokenChange.Nothing; reservations = after })
plain-plan config unit past actor at act answer blocks after told wrote may leaves none left = record {
  answer = told;
  wrote = wrote;
  jobs = λ d is. same-step config unit past actor at act answer told leaves.making none d is;
  tokens = λ d is. idle-step config unit past actor at act answer told leaves d is;
  reservations = left;
  may_blocks = may;
  may_jobs = tt;
  may_tokens = λ spare h. tt;
  may_pin = tt;
  makes = makes-none act answer leaves.making;
  apart = λ e. cc;
  ends = λ e. let no : is_some (would_serve past actor act) ≡ false = ap is_some none in let yes = ends-serves past actor act e in let never = sym yes ∙ no in cc;
}

and-false : (t : Bool) → (t && false) ≡ false
and-false true = refl
and-false false = refl

pub leaves-refused : (act : Act) (sense : SenseCode) → ((serial : ℕ) → is_delete_of serial act ≡ false) → LeavesTokens act (Answer.Refused sense)
leaves-refused act sense deletes = record {
  making = and-false (is_making act);
  deletes = deletes;
  redeems = λ s. and-false (is_redeem_of s act);
}

-- an act that is refused
pub refused-plan : (config : Configuration) (unit : ℕ) (past : List Deed) (actor : Actor) (at : ℕ) (act : Act) (sense : SenseCode)
    → Answer.Refused sense ≡ answer_after config unit past actor at act → ((serial : ℕ) → is_delete_of serial act ≡ false) → would_serve past actor act ≡ None
    → reservations past ≡ reserved_by (reservations past) actor act
    → IsPlan config unit past actor at act (quiet (Answer.Refused sense))
refused-plan config unit past actor at act sense told deletes none left =
    plain-plan config unit past actor at act (Answer.Refused sense) BlockChange.Nothing None told refl tt (leaves-refused act sense deletes) none left

-- ---- plans of reservations

-- an act that no reservation bars is answered as if there were none
pub unbarred-told : (config : Configuration) (unit : ℕ) (past : List Deed) (actor : Actor) (at : ℕ) (act : Act) (answer : Answer) → bars_act (reservations past) actor act ≡ false
    → answer ≡ answer_unbarred config unit past actor at act → answer ≡ answer_after config unit past actor at act
unbarred-told config unit past actor at act answer free told = told ∙ sym (ap (λ t. if t then Answer.Conflict else answer_unbarred config unit past actor at act) free)

-- an act that reads or writes blocks deletes no token, serves no operation and changes no reservation
record IsBarred (past : List Deed) (actor : Actor) (act : Act) : Type 0 where
  pub deletes : (serial : ℕ) → is_delete_of serial act ≡ false
  pub serves : would_serve past actor act ≡ None
  pub leaves : reservations past ≡ reserved_by (reservations past) actor act

barred-act : (past : List Deed) (actor : Actor) (act : Act) → bars_act (reservations past) actor act ≡ true → IsBarred past actor act
barred-act past actor (Act.Delete serial) e = cc
barred-act past actor (Act.Advance id) e = cc
barred-act past actor Act.Pump e = cc
barred-act past actor (Act.End id) e = cc
barred-act past actor (Act.Abort id) e = cc
barred-act past actor (Act.Close id result) e = cc
barred-act past actor (Act.PrOut action scope kind key action_key) e = cc
barred-act past actor _ e = record { deletes = λ s. refl; serves = find-none (running past); leaves = refl }

-- an act that a reservation bars
pub conflict-plan : (config : Configuration) (unit : ℕ) (past : List Deed) (actor : Actor) (at : ℕ) (act : Act) → bars_act (reservations past) actor act ≡ true
    → IsPlan config unit past actor at act (quiet Answer.Conflict)
conflict-plan config unit past actor at act barred =
    let is = barred-act past actor act barred in
    let told : Answer.Conflict ≡ answer_after config unit past actor at act = sym (ap (λ t. if t then Answer.Conflict else answer_unbarred config unit past actor at act) barred) in
    let leaves : LeavesTokens act Answer.Conflict = record { making = and-false (is_making act); deletes = is.deletes; redeems = λ s. and-false (is_redeem_of s act) } in
    plain-plan config unit past actor at act Answer.Conflict BlockChange.Nothing None told refl tt leaves is.serves is.leaves

pub out-plan : (config : Configuration) (unit : ℕ) (past : List Deed) (actor : Actor) (at action scope kind key action_key : ℕ)
    → IsPlan config unit past actor at (Act.PrOut action scope kind key action_key)
    (record (quiet (answer_out (done_out (reservations past) actor action scope kind key action_key))) {
      reservations = Some (done_or_same (reservations past) (done_out (reservations past) actor action scope kind key action_key));
    })
out-plan config unit past actor at action scope kind key action_key =
    let r = done_out (reservations past) actor action scope kind key action_key in
    plain-plan config unit past actor at (Act.PrOut action scope kind key action_key) (answer_out r) BlockChange.Nothing (Some (done_or_same (reservations past) r))
    refl (sym (wrote_none (answer_out r))) tt (record { making = refl; deletes = λ s. refl; redeems = λ s. refl }) (find-none (running past)) refl

pub keys-plan : (config : Configuration) (unit : ℕ) (past : List Deed) (actor : Actor) (at : ℕ) → IsPlan config unit past actor at Act.PrKeys (quiet (answer_keys (reservations past)))
keys-plan config unit past actor at =
    plain-plan config unit past actor at Act.PrKeys (answer_keys (reservations past)) BlockChange.Nothing None refl refl tt
    (record { making = refl; deletes = λ s. refl; redeems = λ s. refl }) (find-none (running past)) refl

pub holder-plan : (config : Configuration) (unit : ℕ) (past : List Deed) (actor : Actor) (at : ℕ) → IsPlan config unit past actor at Act.PrHolder (quiet (answer_holder (reservations past)))
holder-plan config unit past actor at =
    plain-plan config unit past actor at Act.PrHolder (answer_holder (reservations past)) BlockChange.Nothing None refl refl tt
    (record { making = refl; deletes = λ s. refl; redeems = λ s. refl }) (find-none (running past)) refl

-- ---- plans on tokens

pub delete-plan : (config : Configuration) (unit : ℕ) (past : List Deed) (actor : Actor) (at serial : ℕ)
    → IsPlan config unit past actor at (Act.Delete serial) (record (quiet Answer.Done) { tokens = TokenChange.Delete serial })
delete-plan config unit past actor at serial = record {
  answer = refl;
  wrote = refl;
  jobs = λ d is. same-step config unit past actor at (Act.Delete serial) Answer.Done refl refl (find-none (running past)) d is;
  tokens = λ d is. deleted-tokens (unit_of config unit) d past serial is.act ∙ ap (λ m. deleted serial (expired m (tokens_of (unit_of config unit) past))) (deed-moment config unit past actor at (Act.Delete serial) d is);
  reservations = refl;
  may_blocks = tt;
  may_jobs = tt;
  may_tokens = λ spare h. tt;
  may_pin = tt;
  makes = refl;
  apart = λ e. cc;
  ends = λ e. cc;
}

pub redeem-plan : (config : Configuration) (unit : ℕ) (past : List Deed) (actor : Actor) (at : ℕ) (text : List ℕ) (target : ℕ) (list : HeldBlocks)
    → Answer.Rod list ≡ answer_after config unit past actor at (Act.Redeem text target)
    → IsSome (value_at (serial_of text) (expired (max at (moment past)) (tokens_of (unit_of config unit) past)))
    → IsPlan config unit past actor at (Act.Redeem text target) (record (quiet (Answer.Rod list)) { tokens = TokenChange.Use (serial_of text) })
redeem-plan config unit past actor at text target list told lives = record {
  answer = told;
  wrote = refl;
  jobs = λ d is. same-step config unit past actor at (Act.Redeem text target) (Answer.Rod list) told refl (find-none (running past)) d is;
  tokens = λ d is.
      let says : is_answered d ≡ true = ap (λ (x : Answer). not (is_refusal x)) (deed-answer config unit past actor at (Act.Redeem text target) d is ∙ sym told) in
      used-tokens (unit_of config unit) d past text target is.act says
      ∙ ap (λ m. used (serial_of text) m (expired m (tokens_of (unit_of config unit) past))) (deed-moment config unit past actor at (Act.Redeem text target) d is);
  reservations = refl;
  may_blocks = tt;
  may_jobs = tt;
  may_tokens = λ spare h. lives;
  may_pin = tt;
  makes = refl;
  apart = λ e. cc;
  ends = λ e. cc;
}

-- ---- plans of new operations

new-step : (config : Configuration) (unit : ℕ) (past : List Deed) (actor : Actor) (at : ℕ) (act : Act) (answer : Answer) (job : Job) → IsKnown config unit past → IsNexus actor
    → answer ≡ answer_after config unit past actor at act → (is_making act && not (is_refusal answer)) ≡ true
    → (d : Deed) → IsDeed config unit past actor at act d → job_of (made_operation d) ≡ job → jobs_of (d ∷ past) ≡ keep (jobs_of past) job
new-step config unit past actor at act answer job known nexus told making d is same =
    made-jobs config unit past d (own-of config unit past known) (subst IsNexus (sym is.actor) nexus) (deed-makes config unit past actor at act d answer is told ∙ making)
    ∙ ap (keep (jobs_of past)) same

pub populate-plan : (config : Configuration) (unit : ℕ) (past : List Deed) (actor : Actor) (at id timeout : ℕ) (ranges : List Range) → IsKnown config unit past → IsNexus actor
    → Answer.Made (length (tokens past)) ≡ answer_after config unit past actor at (Act.Populate id timeout ranges) → length (tokens past) < 2 ^ 48
    → jobs.is_busy (key_of actor OfToken id) (jobs_of past) ≡ false → is_within (unit_of config unit).blocks ranges ≡ true → is_overlapping ranges ≡ false
    → IsPlan config unit past actor at (Act.Populate id timeout ranges) (record {
      answer = Answer.Made (length (tokens past));
      blocks = BlockChange.Nothing;
      jobs = JobChange.Make (key_of actor OfToken id) (length (tokens past)) (total ranges);
      tokens = TokenChange.Make timeout (total ranges) ranges;
      reservations = None;
    })
populate-plan config unit past actor at id timeout ranges known nexus told few idle inside alone = record {
  answer = told;
  wrote = refl;
  jobs = λ d is.
      new-step config unit past actor at act (Answer.Made count) (made (key_of actor OfToken id) count (total ranges)) known nexus told refl d is
      (populate-job d id timeout ranges count is.act (deed-answer config unit past actor at act d is ∙ sym told)
      ∙ ap (λ a. made (key_of a OfToken id) count (total ranges)) is.actor);
  tokens = λ d is.
      let says : is_answered d ≡ true = ap (λ (x : Answer). not (is_refusal x)) (deed-answer config unit past actor at act d is ∙ sym told) in
      made-tokens u d past id timeout ranges is.act says
      ∙ ap (λ m. populated (expired m (tokens_of u past)) m timeout (total ranges) (cut u (held past) (blocks_of ranges))) (deed-moment config unit past actor at act d is);
  reservations = refl;
  may_blocks = tt;
  may_jobs = (refl, idle);
  may_tokens = λ spare h. (h refl, (let e = length-map (tokens past) (kept_of u) in omega (arith, few, e)));
  may_pin = (inside, alone);
  makes = refl;
  apart = λ e. refl;
  ends = λ e. cc;
}
  where
    u : UnitConfig
    u = unit_of config unit

    act : Act
    act = Act.Populate id timeout ranges

    count : ℕ
    count = length (tokens past)

pub start-plan : (config : Configuration) (unit : ℕ) (past : List Deed) (actor : Actor) (at id : ℕ) (background : Bool) (ranges : List Range) (rod : HeldBlocks) (state : OpState)
    → IsKnown config unit past → IsNexus actor → within_limits config unit (Act.Start id background ranges rod) ≡ true
    → Answer.Progress state 0 ≡ answer_after config unit past actor at (Act.Start id background ranges rod) → MayJob (JobChange.Start (key_of actor OfToken id) background ranges rod) (jobs_of past)
    → wrote_of (Answer.Progress state 0) [] ≡ []
    → IsPlan config unit past actor at (Act.Start id background ranges rod) (record (quiet (Answer.Progress state 0)) { jobs = JobChange.Start (key_of actor OfToken id) background ranges rod })
start-plan config unit past actor at id background ranges rod state known nexus limits told may none = record {
  answer = told;
  wrote = sym none;
  jobs = λ d is.
      new-step config unit past actor at (Act.Start id background ranges rod) (Answer.Progress state 0) (started (key_of actor OfToken id) background ranges rod) known nexus told refl d is
      (start-job config unit d id background ranges rod is.act (ap (within_limits config unit) is.act ∙ limits)
      ∙ ap (λ a. started (key_of a OfToken id) background ranges rod) is.actor);
  tokens = λ d is. idle-made config unit past actor at id background ranges rod state told d is;
  reservations = refl;
  may_blocks = tt;
  may_jobs = may;
  may_tokens = λ spare h. tt;
  may_pin = tt;
  makes = refl;
  apart = λ e. refl;
  ends = λ e. cc;
}
  where
    idle-made : (config : Configuration) (unit : ℕ) (past : List Deed) (actor : Actor) (at id : ℕ) (background : Bool) (ranges : List Range) (rod : HeldBlocks) (state : OpState)
        → Answer.Progress state 0 ≡ answer_after config unit past actor at (Act.Start id background ranges rod)
        → (d : Deed) → IsDeed config unit past actor at (Act.Start id background ranges rod) d → tokens_of (unit_of config unit) (d ∷ past) ≡ expired (max at (moment past)) (tokens_of (unit_of config unit) past)
    idle-made config unit past actor at id background ranges rod state told d is =
        idle-tokens (unit_of config unit) d past
        (ap (λ a. is_populate a && is_answered d) is.act)
        (λ s. ap (is_delete_of s) is.act)
        (λ s. ap (λ a. is_redeem_of s a && is_answered d) is.act)
        ∙ ap (λ m. expired m (tokens_of (unit_of config unit) past)) (deed-moment config unit past actor at (Act.Start id background ranges rod) d is)

pub open-plan : (config : Configuration) (unit : ℕ) (past : List Deed) (actor : Actor) (at id : ℕ) → IsKnown config unit past → IsNexus actor → id < 2 ^ 8
    → Answer.Done ≡ answer_after config unit past actor at (Act.Open id)
    → jobs.is_busy (key_of actor OfCopy id) (jobs_of past) ≡ false → jobs.is_crowded (jobs_of past) ≡ false
    → IsPlan config unit past actor at (Act.Open id) (record (quiet Answer.Done) { jobs = JobChange.Open (key_of actor OfCopy id) })
open-plan config unit past actor at id known nexus byte told idle few = record {
  answer = told;
  wrote = refl;
  jobs = λ d is.
      new-step config unit past actor at (Act.Open id) Answer.Done (opened (key_of actor OfCopy id)) known nexus told refl d is
      (open-job d id is.act ∙ ap (λ a. opened (key_of a OfCopy id)) is.actor);
  tokens = λ d is.
      idle-tokens (unit_of config unit) d past
      (ap (λ a. is_populate a && is_answered d) is.act)
      (λ s. ap (is_delete_of s) is.act)
      (λ s. ap (λ a. is_redeem_of s a && is_answered d) is.act)
      ∙ ap (λ m. expired m (tokens_of (unit_of config unit) past)) (deed-moment config unit past actor at (Act.Open id) d is);
  reservations = refl;
  may_blocks = tt;
  may_jobs = (refl, byte, idle, few);
  may_tokens = λ spare h. tt;
  may_pin = tt;
  makes = refl;
  apart = λ e. refl;
  ends = λ e. cc;
}
