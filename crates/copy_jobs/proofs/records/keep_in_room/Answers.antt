use Rattle.std.proofs.Common.{◌≡◌, ◌++◌, ◌-◌, ◌≤◌, ◌<◌, List, [], ◌∷◌, length, ap, sym, ◌∙◌, subst, arith}
use Rattle.std.specs.Prelude.{filter}
use Rattle.cm_history.specs.Bounds.{kept_operations}
use Rattle.copy_jobs.specs.declared.job.Job.{Job}
use Rattle.copy_jobs.specs.contracts.key.KeyPartialEq.TheImpl.{eq-value}
use Rattle.copy_jobs.specs.Jobs.{has_ended}
use Rattle.copy_jobs.specs.Keeping.{is_other, without_first}
use Rattle.copy_jobs.specs.Tables.{KeysApart}
use Rattle.copy_jobs.specs.inner.Entries.{jobs_of}
use Rattle.copy_jobs.proofs.Entries.{put, length-jobs}
use Rattle.copy_jobs.proofs.KeyEq.{key-own}
use Rattle.copy_jobs.proofs.Keeps.{fresh-key, push-apart, kept-less, kept-full}
use Rattle.copy_jobs.proofs.Trims.{trims-filter, trims-apart}
use Rattle.copy_jobs.proofs.records.keep_in_room.Goals as goal

pub drop_oldest-requires : goal.drop_oldest-requires
drop_oldest-requires c =
    let jobs : List Job = jobs_of c.args.works.now.entries in
    let low : length c.args.works.now.entries ≤ c.args.works.now.cap - 1 = omega (arith, length-jobs c.args.works.now.entries, c.requires.few, c.requires.cap) in
    let is : jobs_of c.put.new.self.entries ≡ filter (is_other c.args.job.key) jobs ++ c.args.job ∷ [] =
    ap (λ w. jobs_of w.entries) c.in_ok-put.ensures.entries ∙ put eq-value.it c.args.works.now c.args.job (key-own c.args.job.key) c.requires.apart c.requires.idle low in
    let others : KeysApart (filter (is_other c.args.job.key) jobs) = trims-apart jobs (filter (is_other c.args.job.key) jobs) (trims-filter c.args.job.key jobs) c.requires.apart in
    subst KeysApart (sym is) (push-apart (filter (is_other c.args.job.key) jobs) c.args.job others (fresh-key c.args.job.key jobs c.requires.idle))

pub returns-then-len-gt-KEPT_RECORDS-clause-kept : goal.returns-then-len-gt-KEPT_RECORDS-clause-kept
returns-then-len-gt-KEPT_RECORDS-clause-kept c =
    let jobs : List Job = jobs_of c.args.works.now.entries in
    let low : length c.args.works.now.entries ≤ c.args.works.now.cap - 1 = omega (arith, length-jobs c.args.works.now.entries, c.requires.few, c.requires.cap) in
    let is : jobs_of c.put.new.self.entries ≡ filter (is_other c.args.job.key) jobs ++ c.args.job ∷ [] =
    ap (λ w. jobs_of w.entries) c.in_ok-put.ensures.entries ∙ put eq-value.it c.args.works.now c.args.job (key-own c.args.job.key) c.requires.apart c.requires.idle low in
    let long : length (filter (is_other c.args.job.key) jobs ++ c.args.job ∷ []) ≡ length c.put.new.self.entries = ap length (sym is) ∙ length-jobs c.put.new.self.entries in
    let full : kept_operations < length (filter (is_other c.args.job.key) jobs ++ c.args.job ∷ []) = omega (arith, long, c.len.ensures.len, c.if-len-gt-KEPT_RECORDS.true) in
    c.drop_oldest.ensures.room ∙ ap (without_first has_ended) is ∙ kept-full jobs c.args.job c.requires.few c.requires.few_running full

pub returns-else-len-gt-KEPT_RECORDS-clause-kept : goal.returns-else-len-gt-KEPT_RECORDS-clause-kept
returns-else-len-gt-KEPT_RECORDS-clause-kept c =
    let jobs : List Job = jobs_of c.args.works.now.entries in
    let low : length c.args.works.now.entries ≤ c.args.works.now.cap - 1 = omega (arith, length-jobs c.args.works.now.entries, c.requires.few, c.requires.cap) in
    let is : jobs_of c.put.new.self.entries ≡ filter (is_other c.args.job.key) jobs ++ c.args.job ∷ [] =
    ap (λ w. jobs_of w.entries) c.in_ok-put.ensures.entries ∙ put eq-value.it c.args.works.now c.args.job (key-own c.args.job.key) c.requires.apart c.requires.idle low in
    let long : length (filter (is_other c.args.job.key) jobs ++ c.args.job ∷ []) ≡ length c.put.new.self.entries = ap length (sym is) ∙ length-jobs c.put.new.self.entries in
    is ∙ kept-less jobs c.args.job (omega (arith, long, c.len.ensures.len, c.if-len-gt-KEPT_RECORDS.false))
