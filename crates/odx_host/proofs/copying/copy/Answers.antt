use Rattle.std.proofs.Common.{◌∙◌, ℕ, ◌≤◌, ◌<◌, List, ◌++◌, length, ap, sym, subst, arith, inr}
use Rattle.std.specs.Prelude.{Ok, Err, IfOk}
use Rattle.std.proofs.lemmas.Result.{err_from_is_err_and}
use Rattle.lba_ranges.specs.Denoted.{total}
use Rattle.copy_plan.specs.Jobs.{CopyJob}
use Rattle.odx_host.specs.Talk.{Talked}
use Rattle.odx_host.specs.declared.fault.Copied.{Copied}
use Rattle.odx_host.specs.declared.copying.Host.{Host}
use Rattle.odx_host.specs.Parts.{HasPlanned, part_at, place_behind}
use Rattle.odx_host.specs.Rule.{copying, rule}
use Rattle.odx_host.specs.Ruled.{IsRuled}
use Rattle.odx_host.specs.inner.Steps.{CopiesOn, parts_to_come, steps_in}
use Rattle.odx_host.proofs.Steps.{talking-on}
use Rattle.odx_host.proofs.Coming.{parts-end}
use Rattle.odx_host.proofs.Identifiers.{steps-few}
use Rattle.odx_host.proofs.Planned.{has-planned}
use Rattle.odx_host.proofs.Whole.{copies-there}
use Rattle.odx_host.proofs.Writing.{copies-on, copies-stop, copied-is, steps-next, part-ends}
use Rattle.odx_host.proofs.copying.copy.Goals as goal

pub copy_part-requires-clause-steps : goal.copy_part-requires-clause-steps
copy_part-requires-clause-steps g c =
    let job = c.args.job.now in
    let host = c.parts.host in
    let is = c.parts.invariant.job in
    let some : c.parts.host.from.place < total c.args.job.now.from = omega (arith, c.place.ensures.place, c.parts-test.true, c.blocks-blocks.ensures.from) in
    let next = steps-next job host.from.place some in
    let few = steps-few job c.new-host.ensures.sources c.new-host.ensures.targets (omega (arith, c.blocks-blocks.ensures.few, c.blocks-blocks.ensures.from)) (sym c.blocks-blocks.ensures.to ∙ c.blocks-blocks.ensures.from) in
    let writes = ap (λ j. length (part_at j host.from.place).writes) is in
    omega (arith, next, few, writes, c.parts.invariant.steps)

pub parts-smaller : goal.parts-smaller
parts-smaller g c =
    let job = c.args.job.now in
    let host = c.parts.host in
    let some : c.parts.host.from.place < total c.args.job.now.from = omega (arith, c.place.ensures.place, c.parts-test.true, c.blocks-blocks.ensures.from) in
    let ends = part-ends job host.from.place some in
    let place = ap (λ (h : Host). h.from.place) c.in_ok-copy_part.ensures.after ∙ ap (λ j. place_behind j host.from.place) c.parts.invariant.job in
    omega (arith, some, ends, place)

pub parts-preserved : goal.parts-preserved
parts-preserved g c =
    let job = c.args.job.now in
    let host = c.parts.host in
    let is = c.parts.invariant.job in
    let after = c.in_ok-copy_part.ensures.after in
    let some : c.parts.host.from.place < total c.args.job.now.from = omega (arith, c.place.ensures.place, c.parts-test.true, c.blocks-blocks.ensures.from) in
    let place = ap (λ (h : Host). h.from.place) after ∙ ap (λ j. place_behind j host.from.place) is in
    let next = steps-next job host.from.place some in
    let writes = ap (λ j. length (part_at j host.from.place).writes) is in
    let left = ap (λ p. steps_in (parts_to_come job p)) place in
    record {
      talking = talking-on g.P.Port.Talks g.P.Port.IsIn g.met.P.Port.silent g.met.P.Port.goes_on _ _ _ _ _ _ c.parts.invariant.talking c.in_ok-copy_part.ensures.copied (λ xs ys here more.
          subst (λ p. CopiesOn job c.copy_part.new.self.copied p (xs ++ ys)) (sym place)
          (copies-on job host.copied c.copy_part.new.self.copied host.from.place xs ys here
          (copied-is _ job host.copied host.from.place c.copy_part.new.self.copied ys (Ok c.in_ok-copy_part.field-0) is more)));
      job = ap (λ (h : Host). h.job.now) after ∙ is;
      from = ap (λ (h : Host). h.from.extents) after ∙ c.parts.invariant.from;
      to = ap (λ (h : Host). h.to.extents) after ∙ c.parts.invariant.to;
      place = ap (λ (h : Host). h.to.place) after ∙ sym (ap (λ (h : Host). h.from.place) after);
      steps = omega (arith, c.in_ok-copy_part.ensures.steps, left, next, writes, c.parts.invariant.steps);
    }

pub returns-in_err-copy_part : goal.returns-in_err-copy_part
returns-in_err-copy_part g c =
    let p = err_from_is_err_and c.from_residual.result c.from_residual.ensures.1 in
    let job = c.args.job.now in
    let host = c.parts.host in
    let fault = c.in_err-copy_part.field-0.0 in
    let is = p.1 ∙ ap Err p.2 in
    let t = talking-on g.P.Port.Talks g.P.Port.IsIn g.met.P.Port.silent g.met.P.Port.goes_on _ _ _ _ _ (λ talk. IsRuled (rule job) talk (Err fault)) c.parts.invariant.talking c.in_err-copy_part.ensures.copied (λ xs ys here more.
    copies-stop job host.copied host.copied host.from.place xs ys fault here (copied-is _ job host.copied host.from.place host.copied ys (Err fault) c.parts.invariant.job more)) in
    let ruled = subst (λ r. IsRuled (rule job) t.talk r) (sym is) t.follows in
    record {
      ruled = (
        t.talk,
        ruled,
        t.talks,
        λ w was.
            let l = t.leads w was in
            let same = sym c.blocks-blocks.ensures.to ∙ c.blocks-blocks.ensures.from in (
              l.0,
              l.1,
              l.2,
              copies-there job w l.0 c.from_residual.result t.talk (g.met.P.Port.legal c.copy_part.new.port l.0 l.1) c.new-host.ensures.sources c.new-host.ensures.targets same
                  (omega (arith, c.blocks-blocks.ensures.few, c.blocks-blocks.ensures.from)) c.new-host.ensures.unit ruled l.2,
            ),
      );
      planned = subst (λ r. IfOk r (λ copied. HasPlanned job copied.populates)) (sym is) tt;
    }

-- the requests were those of the rule
ended : (job : CopyJob) (so_far : Copied) (place : ℕ) (talk : List Talked) → total job.from ≤ place → CopiesOn job so_far place talk → IsRuled (rule job) talk (Ok so_far)
ended job so_far place talk over here = record { asked = here.0; ended = inr (here.1 ∙ ap (λ ps. copying job so_far ps) (parts-end job place over)) }

pub returns-clause-ruled : goal.returns-clause-ruled
returns-clause-ruled g c =
    let job = c.args.job.now in
    let t = c.parts.invariant.talking in
    let so_far = c.parts.host.copied in
    let over : total job.from ≤ c.parts.host.from.place = omega (arith, c.place.ensures.place, c.parts-test.false, c.blocks-blocks.ensures.from) in
    let ruled = ended job so_far c.parts.host.from.place t.talk over t.follows in (
      t.talk,
      ruled,
      t.talks,
      λ w was.
          let l = t.leads w was in
          let same = sym c.blocks-blocks.ensures.to ∙ c.blocks-blocks.ensures.from in (
            l.0,
            l.1,
            l.2,
            copies-there job w l.0 (Ok so_far) t.talk (g.met.P.Port.legal c.parts.port l.0 l.1) c.new-host.ensures.sources c.new-host.ensures.targets same
                (omega (arith, c.blocks-blocks.ensures.few, c.blocks-blocks.ensures.from)) c.new-host.ensures.unit ruled l.2,
          ),
    )

pub returns-clause-planned : goal.returns-clause-planned
returns-clause-planned g c =
    let job = c.args.job.now in
    let t = c.parts.invariant.talking in
    let over : total job.from ≤ c.parts.host.from.place = omega (arith, c.place.ensures.place, c.parts-test.false, c.blocks-blocks.ensures.from) in
    has-planned job t.talk c.parts.host.copied (ended job c.parts.host.copied c.parts.host.from.place t.talk over t.follows)
