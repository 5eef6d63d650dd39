-- The job at the front of what was pulled
use Rattle.std.proofs.Common.{◌≡◌, ℕ, ◌+◌, ◌*◌, ◌<◌, ◌≤◌, List, ◌++◌, length, refl, subst, arith, true, false, Bool, inl, inr}
use Rattle.std.specs.Prelude.{Option, Some, None, Result, Err, cond, drop, nat_lt, ◌==◌}
use Rattle.std.specs.Io.KnownBytes.{Consumes}
use Rattle.cm_base.specs.Fields.{field}
use Rattle.cm_base.specs.declared.parsed.Parsed.{Parsed}
use Rattle.cm_base.specs.declared.parsed.Parsed.TheVariants.{Whole, Short, Bad}
use Rattle.copy_plan.specs.Jobs.{CopyJob, extents_limit, job_fault}
use Rattle.copy_plan.specs.Reading.{read_job, judged_job, job_in, sources_told, targets_told, job_length}
use Rattle.copy_plan.specs.declared.fault.JobFault.{JobFault}
use Rattle.odx_host.specs.declared.stream_port.StreamFault.{StreamFault}
use Rattle.odx_host.specs.declared.fault.Copied.{Copied}
use Rattle.odx_host.specs.Linked.{LinkState}
use Rattle.odx_host.specs.CopiedOver.{HasTalked, IsNoJob, IsReadCounted, CopiedOver}
use Rattle.odx_host.specs.inner.FrontJob.{IsFront}
use Rattle.odx_host.proofs.Linking.{HasPulled, is-below, is-not-below}
use Rattle.odx_host.proofs.Pushing.{talked-pushed}

-- ---- a job that is not whole yet is no longer than a job can be

never-short : (bytes : List ℕ) (fault : Option JobFault) → judged_job bytes fault ≡ Short → ⊥
never-short bytes (Some fault) e = cc
never-short bytes None e = cc

few-by : (a b c d e : Bool) (last : Parsed CopyJob) (p q r size s t : ℕ) → (a ≡ true → size < 16) → (c ≡ false → s ≤ 65_536) → (d ≡ false → t ≤ 65_536)
    → (e ≡ true → size < 16 + 12 * (s + t)) → (last ≡ Short → ⊥) → cond a Short (cond b (Bad p) (cond c (Bad q) (cond d (Bad r) (cond e Short last)))) ≡ Short → size < 1_572_881
few-by true b c d e last p q r size s t front sources targets all never is = let few = front refl in omega (arith, few)
few-by false true c d e last p q r size s t front sources targets all never is = cc
few-by false false true d e last p q r size s t front sources targets all never is = cc
few-by false false false true e last p q r size s t front sources targets all never is = cc
few-by false false false false true last p q r size s t front sources targets all never is =
    let few = all refl in
    let one = sources refl in
    let two = targets refl in
    omega (arith, few, one, two)
few-by false false false false false last p q r size s t front sources targets all never is = absurd (never is)

pub short-few : (bytes : List ℕ) → read_job bytes ≡ Short → length bytes < 1_572_881
short-few bytes e = few-by (nat_lt (length bytes) 16) (field bytes 4 7 == 0) (nat_lt extents_limit (sources_told bytes)) (nat_lt extents_limit (targets_told bytes))
    (nat_lt (length bytes) (job_length bytes)) (judged_job bytes (job_fault (job_in bytes))) 4 8 12 (length bytes) (sources_told bytes) (targets_told bytes)
    (is-below (length bytes) 16) (is-not-below extents_limit (sources_told bytes)) (is-not-below extents_limit (targets_told bytes))
    (is-below (length bytes) (job_length bytes)) (never-short bytes (job_fault (job_in bytes))) e

-- ---- what was pulled so far is what is at hand

pub front-there : (answer : Result CopyJob StreamFault) (left now : Option (List ℕ)) (before input rest : List ℕ) → HasPulled left now before input → IsFront answer now input rest
    → (pulled : List ℕ) × Consumes left now pulled × IsFront answer now (before ++ pulled) rest
front-there answer left now before input rest p is = (p.0, p.1, subst (λ b. IsFront answer now b rest) p.2 is)

-- ---- a copy over streams

-- there was no job
pub unread-by : (before last : LinkState) (front : List ℕ) (fault : StreamFault) → Consumes before.left last.left front → IsNoJob fault front last.left
    → IsReadCounted fault before.read_faults last.read_faults → last.taken ≡ before.taken → last.write_faults ≡ before.write_faults → CopiedOver before last (Err fault)
unread-by before last front fault pulled none reads taken writes = record {
  front = front;
  behind = last.left;
  pulled = pulled;
  ended = inl (record {
    fault = fault;
    is = refl;
    none = none;
    quiet = record { left = refl; taken = taken; writes = writes };
    reads = reads;
  });
}

-- there was one, and it was copied
pub copied-by : (before last : LinkState) (behind : Option (List ℕ)) (front input : List ℕ) (job : CopyJob) (result : Result Copied StreamFault) (reads : ℕ)
    → Consumes before.left behind front → ((used : ℕ) × (read_job front ≡ Whole job used) × (input ≡ drop used front)) → reads ≡ before.read_faults
    → HasTalked job (record { left = behind; input = input; taken = before.taken; read_faults = reads; write_faults = before.write_faults }) last result
    → CopiedOver before last result
copied-by before last behind front input job result reads pulled there same talked =
    let here : HasTalked job (record { left = behind; input = drop there.0 front; taken = before.taken; read_faults = before.read_faults; write_faults = before.write_faults }) last result =
    subst (λ x. HasTalked job (record { left = behind; input = x; taken = before.taken; read_faults = before.read_faults; write_faults = before.write_faults }) last result) there.2
    (subst (λ r. HasTalked job (record { left = behind; input = input; taken = before.taken; read_faults = r; write_faults = before.write_faults }) last result) same talked) in
    let gave = talked-pushed job _ last result here in
    record {
      front = front;
      behind = behind;
      pulled = pulled;
      ended = inr (record {
        job = job;
        used = there.0;
        read = there.1;
        talked = here;
        pushed = gave.0;
        given = gave.1;
        frames = gave.2;
      });
    }
