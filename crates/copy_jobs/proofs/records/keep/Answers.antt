use Rattle.std.proofs.Common.{◌≡◌, ◌≤◌, OnOk, Ok, Err, Result, List, length, take, ap, sym, ◌∙◌, arith, subst}
use Rattle.std.specs.Prelude.{false}
use Rattle.cm_base.specs.declared.out_of_memory.OutOfMemory.{OutOfMemory}
use Rattle.cm_history.specs.Bounds.{kept_operations}
use Rattle.copy_jobs.specs.declared.key.Key.{Key}
use Rattle.copy_jobs.specs.declared.job.Work.{Work}
use Rattle.copy_jobs.specs.contracts.key.KeyPartialEq.TheImpl.{eq-value}
use Rattle.copy_jobs.specs.Keeping.{keep}
use Rattle.copy_jobs.specs.inner.Entries.{jobs_of, first_runs}
use Rattle.copy_jobs.proofs.Entries.{length-jobs, take-whole}
use Rattle.copy_jobs.proofs.KeyEq.{key-own}
use Rattle.copy_jobs.proofs.Keeps.{kept-few}
use Rattle.copy_jobs.proofs.Puts.{put-over}
use Rattle.copy_jobs.proofs.records.keep.Goals.{then-len-lt-KEPT_RECORDS-via-then-len-lt-KEPT_RECORDS, then-len-lt-KEPT_RECORDS-via-else-len-lt-KEPT_RECORDS+then-not-first_runs}
use Rattle.copy_jobs.proofs.records.keep.Goals as goal

pub returns-then-len-lt-KEPT_RECORDS-clause-kept : goal.returns-then-len-lt-KEPT_RECORDS-clause-kept
returns-then-len-lt-KEPT_RECORDS-clause-kept c =
    let ended : length c.args.works.now.entries ≡ kept_operations → first_runs (jobs_of c.args.works.now.entries) ≡ false = elim c.then-len-lt-KEPT_RECORDS.branch [
      | then-len-lt-KEPT_RECORDS-via-then-len-lt-KEPT_RECORDS w ↦ λ full. absurd (omega (arith, c.len.ensures.len, w.if-len-lt-KEPT_RECORDS))
      | then-len-lt-KEPT_RECORDS-via-else-len-lt-KEPT_RECORDS+then-not-first_runs w ↦ λ _. sym w.first_runs.ensures ∙ w.if-not-first_runs.true
    ] in
    ap (λ w. jobs_of w.entries) c.in_ok-put.ensures.entries
    ∙ put-over eq-value.it c.args.works.now c.args.job (key-own c.args.job.key) c.requires.apart c.requires.idle c.requires.cap c.len.ensures.valid.1 ended

pub keep_in_room-kept-requires-clause-few : goal.keep_in_room-kept-requires-clause-few
keep_in_room-kept-requires-clause-few c =
    let same : c.resize.new.self.entries ≡ c.args.works.now.entries =
    ap (λ w. w.entries) c.resize.ensures ∙ ap (λ n. take n c.args.works.now.entries) c.room.ensures ∙ take-whole c.args.works.now.entries 257 (omega (arith, c.len.ensures.valid.1, c.requires.cap)) in
    subst (λ l. length (jobs_of l) ≤ kept_operations) (sym same) (omega (arith, length-jobs c.args.works.now.entries, c.len.ensures.valid.1, c.requires.cap))

pub returns-clause-kept : goal.returns-clause-kept
returns-clause-kept c = of c.keep_in_room-kept.result c.keep_in_room-kept.ensures.kept
  where
    same : c.resize.new.self.entries ≡ c.args.works.now.entries
    same = ap (λ w. w.entries) c.resize.ensures ∙ ap (λ n. take n c.args.works.now.entries) c.room.ensures ∙ take-whole c.args.works.now.entries 257 (omega (arith, c.len.ensures.valid.1, c.requires.cap))

    few : length (jobs_of c.args.works.now.entries) ≤ kept_operations
    few = omega (arith, length-jobs c.args.works.now.entries, c.len.ensures.valid.1, c.requires.cap)

    fits : (left : List (Key × Work)) → jobs_of left ≡ keep (jobs_of c.args.works.now.entries) c.args.job → take 256 left ≡ left
    fits left e =
        let long : length (jobs_of left) ≡ length (keep (jobs_of c.args.works.now.entries) c.args.job) = ap length e in
        take-whole left 256 (omega (arith, long, length-jobs left, kept-few (jobs_of c.args.works.now.entries) c.args.job few c.requires.few_running))

    left : c.resize-2.new.self.entries ≡ take 256 c.keep_in_room-kept.new.works.entries
    left = ap (λ w. w.entries) c.resize-2.ensures ∙ ap (λ n. take n c.keep_in_room-kept.new.works.entries) c.room-2.ensures

    of : (r : Result (Unit {0}) OutOfMemory) → OnOk r (jobs_of c.keep_in_room-kept.new.works.entries ≡ keep (jobs_of c.resize.new.self.entries) c.args.job)
        → OnOk r (jobs_of c.resize-2.new.self.entries ≡ keep (jobs_of c.args.works.now.entries) c.args.job)
    of (Ok u) kept =
        let is : jobs_of c.keep_in_room-kept.new.works.entries ≡ keep (jobs_of c.args.works.now.entries) c.args.job = kept ∙ ap (λ l. keep (jobs_of l) c.args.job) same in
        ap jobs_of (left ∙ fits c.keep_in_room-kept.new.works.entries is) ∙ is
    of (Err e) kept = tt
