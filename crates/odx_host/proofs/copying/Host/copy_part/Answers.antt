use Rattle.std.proofs.Common.{◌≡◌, ◌∙◌, ◌+◌, ◌<◌, suc, ap, subst, arith, refl}
use Rattle.std.specs.Prelude.{Ok, Err}
use Rattle.std.proofs.lemmas.Result.{err_from_is_err_and}
use Rattle.lba_ranges.specs.Denoted.{total}
use Rattle.copy_plan.specs.Plans.{longest_run, part_limit}
use Rattle.odx_host.specs.Parts.{place_behind}
use Rattle.odx_host.specs.Rule.{one_token}
use Rattle.odx_host.proofs.Steps.{talking-also, talking-on}
use Rattle.odx_host.proofs.Ranges.{slice-apart, legal-ranges}
use Rattle.odx_host.proofs.Writing.{populated-is, written-is, part-untold, part-written}
use Rattle.odx_host.proofs.copying.Host.copy_part.Goals as goal

pub populate-requires-clause-list : goal.populate-requires-clause-list
populate-requires-clause-list g c =
    let blocks = c.in_ok-ranges.ensures.blocks in
    let run = c.in_ok-ranges.ensures.run in
    let within = run.within in
    legal-ranges c.in_ok-ranges.ranges (slice-apart c.args.self.now.from.extents c.in_ok-ranges.ranges _ _ c.requires.sources.apart blocks) (omega (arith, within))

pub returns-in_err-token-clause-copied : goal.returns-in_err-token-clause-copied
returns-in_err-token-clause-copied g c =
    let p = err_from_is_err_and c.from_residual-in_err-token.result c.from_residual-in_err-token.ensures.1 in
    let job = c.args.self.now.job.now in
    let done = c.args.self.now.copied in
    let place = c.args.self.now.from.place in
    let fault = c.in_err-token.field-0.0 in
    let some = subst (λ es. place < total es) c.requires.from c.requires.some in
    let ranges = c.in_ok-ranges.ensures.ranges ∙ ap (λ es. longest_run es place part_limit) c.requires.from in
    rw (p.1, p.2) (talking-also _ _ _ _ _ c.in_err-token.ensures (λ xs f.
    part-untold job done done place some xs fault
    (populated-is _ _ _ _ _ _ xs (Err fault) c.source.ensures c.next_step-step.ensures ranges f)))

pub returns-clause-copied : goal.returns-clause-copied
returns-clause-copied g c =
    let job = c.args.self.now.job.now in
    let done = c.args.self.now.copied in
    let place = c.args.self.now.from.place in
    let some = subst (λ es. place < total es) c.requires.from c.requires.some in
    let ranges = c.in_ok-ranges.ensures.ranges ∙ ap (λ es. longest_run es place part_limit) c.requires.from in
    let next : done.populates + 1 ≡ suc done.populates = omega arith in
    let last : c.place-last.result ≡ place_behind job place = c.place-last.ensures.place ∙ ap (λ s. s.place) c.in_ok-ranges.ensures.passed ∙ ap (λ rs. place + total rs) ranges in
    talking-on g.P.Port.Talks g.P.Port.IsIn g.met.P.Port.silent g.met.P.Port.goes_on _ _ _ _ _ _ c.in_ok-token.ensures c.write_all.ensures.written (λ xs ys f h.
    part-written job done c.write_all.new.self.copied place some xs ys c.in_ok-token.token c.write_all.result
    (populated-is _ _ _ _ _ _ xs (Ok c.in_ok-token.token) c.source.ensures c.next_step-step.ensures ranges f)
    (written-is _ job _ _ (one_token done) _ place _ (place_behind job place) _ ys c.write_all.result refl
    (ap (λ n. record done { populates = n }) next) c.place-first.ensures.place last h))
