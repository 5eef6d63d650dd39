use Rattle.std.proofs.Common.{◌∙◌, ◌≤◌, ◌<◌, ◌++◌, length, ap, sym, subst, arith}
use Rattle.std.specs.Prelude.{Ok, Err}
use Rattle.std.proofs.lemmas.Result.{err_from_is_err_and}
use Rattle.lba_ranges.specs.Denoted.{total}
use Rattle.odx_host.specs.declared.copying.Host.{Host}
use Rattle.odx_host.specs.Rule.{next_step, one_write}
use Rattle.odx_host.specs.inner.Steps.{WritesOn, HasWritten, behind_write, writes_to_come}
use Rattle.odx_host.proofs.Steps.{talking-on}
use Rattle.odx_host.proofs.Writing.{writes-on, writes-stop, behind-in, one-less, host-on}
use Rattle.odx_host.proofs.copying.Host.write_all.Goals as goal

pub writes-smaller : goal.writes-smaller
writes-smaller g c =
    let to = c.writes.self.to.extents in
    let place = c.writes.self.to.place in
    let after = ap (λ (h : Host). h.to.place) c.in_ok-write.ensures.after in
    let some : c.writes.self.to.place < c.args.last = omega (arith, c.place.ensures.place, c.writes-test.true) in
    let extents = ap (λ (h : Host). h.to.extents) c.writes.invariant.host in
    let within = subst (λ es. c.args.last ≤ total es) (sym extents) c.requires.within in
    let behind = behind-in c.writes.self.to.extents c.writes.self.to.place c.args.last some within in
    omega (arith, behind.0, behind.1, after, some)

pub writes-preserved : goal.writes-preserved
writes-preserved g c =
    let job = c.args.self.now.job.now in
    let s = c.writes.self in
    let after = c.in_ok-write.ensures.after in
    let host = c.writes.invariant.host in
    let some : c.writes.self.to.place < c.args.last = omega (arith, c.place.ensures.place, c.writes-test.true) in
    let extents = ap (λ (h : Host). h.to.extents) host in
    let within = subst (λ es. c.args.last ≤ total es) (sym extents) c.requires.within in
    let behind = behind-in s.to.extents s.to.place c.args.last some within in
    let place = ap (λ (h : Host). h.to.place) after in
    let copied = ap (λ (h : Host). h.copied) after in
    let less = one-less s.to.extents s.to.place c.args.last some within in
    let left = ap (λ (h : Host). length (writes_to_come h.to.extents h.to.place c.args.last)) after in
    let ends = ap (λ es. behind_write es s.to.place c.args.last) (extents ∙ c.requires.to) in
    record {
      talking = talking-on g.P.Port.Talks g.P.Port.IsIn g.met.P.Port.silent g.met.P.Port.goes_on _ _ _ _ _ _ c.writes.invariant.talking c.in_ok-write.ensures.written (λ xs ys runs written.
          subst (λ k. WritesOn job c.args.token.now c.args.self.now.copied c.args.first c.args.last k c.write.new.self.to.place (xs ++ ys)) (sym copied)
          (subst (λ p. WritesOn job c.args.token.now c.args.self.now.copied c.args.first c.args.last (one_write s.copied) p (xs ++ ys)) (sym (place ∙ ends))
          (writes-on job c.args.token.now c.args.self.now.copied s.copied c.args.first c.args.last s.to.place xs ys runs
          (subst (λ j. HasWritten j c.args.token.now s.copied c.args.first c.args.last s.to.place ys (Ok c.in_ok-write.field-0)) (ap (λ (h : Host). h.job.now) host) written))));
      host = host-on c.args.self.now s c.write.new.self (behind_write s.to.extents s.to.place c.args.last) (one_write s.copied) after host;
      low = omega (arith, c.writes.invariant.low, behind.0, place);
      high = omega (arith, behind.1, place);
      steps = omega (arith, ap next_step copied, left, less, c.writes.invariant.steps);
    }

pub returns-in_err-write-clause-written : goal.returns-in_err-write-clause-written
returns-in_err-write-clause-written g c =
    let p = err_from_is_err_and c.from_residual.result c.from_residual.ensures.1 in
    let job = c.args.self.now.job.now in
    let s = c.writes.self in
    let fault = c.in_err-write.field-0.0 in
    rw (p.1, p.2) (talking-on g.P.Port.Talks g.P.Port.IsIn g.met.P.Port.silent g.met.P.Port.goes_on _ _ _ _ _ _ c.writes.invariant.talking c.in_err-write.ensures.written (λ xs ys runs written.
    writes-stop job c.args.token.now c.args.self.now.copied s.copied c.write.new.self.copied c.args.first c.args.last s.to.place xs ys fault runs
    (subst (λ j. HasWritten j c.args.token.now s.copied c.args.first c.args.last s.to.place ys (Err fault)) (ap (λ (h : Host). h.job.now) c.writes.invariant.host) written)))
