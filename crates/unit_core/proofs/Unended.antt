-- Which operation its initiator has still to end is told by the image of a past, and by the jobs that are kept
use Rattle.std.proofs.Common.{◌≡◌, ℕ, List, refl, ap, sym, ◌∙◌, Bool}
use Rattle.std.specs.Prelude.{Option, Some, None, map, find, ◌&&◌, not}
use Rattle.std.specs.Option.{option_map}
use Rattle.cm_base.specs.Configuration.{Configuration}
use Rattle.cm_history.specs.Deeds.{Deed}
use Rattle.cm_history.specs.Image.{OperationImage, operation_image}
use Rattle.cm_history.specs.Operations.{Operation, Form, OfToken, OfCopy, form_of, is_running, is_running_as, is_running_copy, is_running_state, kept}
use Rattle.cm_history.proofs.PublicLaws.{IsPast, running_kept, find-filter, find-map, find-same}
use Rattle.copy_jobs.specs.declared.key.Key.{Key}
use Rattle.copy_jobs.specs.declared.job.Job.{Job}
use Rattle.copy_jobs.specs.Pieces as next
use Rattle.copy_jobs.specs.Unended as jobs
use Rattle.unit_core.specs.Keys.{key_of, key_made}
use Rattle.unit_core.specs.Unended.{is_by_initiator, unended}
use Rattle.unit_core.specs.inner.Tables.{job_of, jobs_of}
use Rattle.unit_core.proofs.Jobs.{job-runs, work-background}

abbrev runs_as : OperationImage → Form → Bool
runs_as i OfToken = is_running_state i.report.state
runs_as i OfCopy = is_running_copy i.result.state

abbrev is_unended_by : OperationImage → Bool
is_unended_by i = runs_as i i.form && not i.report.background

abbrev key_shown : OperationImage → Key
key_shown i = key_of i.actor i.form i.id

runs-shown : (o : Operation) (form : Form) → runs_as (operation_image o) form ≡ is_running_as o form
runs-shown o OfToken = refl
runs-shown o OfCopy = refl

both-maps : {X Y Z : Type 0} (f : X → Y) (g : Y → Z) (x : Option X) → option_map g (option_map f x) ≡ option_map (λ a. g (f a)) x
both-maps f g None = refl
both-maps f g (Some x) = refl

among-kept : (config : Configuration) (unit : ℕ) (past : List Deed) → IsPast config unit past → unended past ≡ find (λ (o : Operation). is_running o && is_by_initiator o) (kept past)
among-kept config unit past is = ap (find is_by_initiator) (running_kept config unit past is) ∙ find-filter is_running is_by_initiator (kept past)

of-images : (config : Configuration) (unit : ℕ) (past : List Deed) → IsPast config unit past
    → option_map key_shown (find is_unended_by (map operation_image (kept past))) ≡ option_map key_made (unended past)
of-images config unit past is =
    ap (option_map key_shown) (find-map operation_image is_unended_by (kept past)
    ∙ ap (option_map operation_image) (find-same (λ o. is_unended_by (operation_image o)) (λ (o : Operation). is_running o && is_by_initiator o) (kept past)
    (λ o i. ap (λ t. t && is_by_initiator o) (runs-shown o (form_of o.made.entry.act)))
    ∙ sym (among-kept config unit past is)))
    ∙ both-maps operation_image key_shown (unended past)

of-jobs : (config : Configuration) (unit : ℕ) (past : List Deed) → IsPast config unit past → jobs.unended (jobs_of past) ≡ option_map key_made (unended past)
of-jobs config unit past is =
    ap (option_map (λ (job : Job). job.key)) (find-map job_of jobs.is_unended (kept past)
    ∙ ap (option_map job_of) (find-same (λ o. jobs.is_unended (job_of o)) (λ (o : Operation). is_running o && is_by_initiator o) (kept past)
    (λ o i. ap (λ t. t && not (next.is_background (job_of o).work)) (job-runs o) ∙ ap (λ t. is_running o && not t) (work-background o o.made.entry.act))
    ∙ sym (among-kept config unit past is)))
    ∙ both-maps job_of (λ (job : Job). job.key) (unended past)

-- the jobs of one past tell it of each past whose operations show the same
pub unended-alike : (config : Configuration) (unit : ℕ) (past other : List Deed) → IsPast config unit past → IsPast config unit other
    → map operation_image (kept past) ≡ map operation_image (kept other) → jobs.unended (jobs_of past) ≡ option_map key_made (unended other)
unended-alike config unit past other is too same =
    of-jobs config unit past is ∙ sym (of-images config unit past is)
    ∙ ap (λ l. option_map key_shown (find is_unended_by l)) same ∙ of-images config unit other too
