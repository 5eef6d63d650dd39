use Rattle.std.proofs.Common.{◌≡◌, ◌-◌, ◌++◌, refl, ap, sym, ◌∙◌, subst, suc, arith, inr}
use Rattle.std.proofs.lemmas.Result.{err_from_is_err_and}
use Rattle.cm_frame.specs.Reading.{read_request}
use Rattle.session.specs.declared.end.SessionFault.{SessionFault}
use Rattle.cm_frame.specs.Framing.{frames_limit}
use Rattle.cm_frame.specs.Taking.{Takes}
use Rattle.session.specs.inner.Talking.{IsHeard, Hears}
use Rattle.session.proofs.Hearing.{heard-front, heard-one, heard-bad, heard-more, hears-filling, hears-ended, none-came}
use Rattle.session.proofs.talks.Talk.next.Goals as goal

pub returns-in_err-request-clause-heard : goal.returns-in_err-request-clause-heard
returns-in_err-request-clause-heard g c = λ left requests is.
    let p = err_from_is_err_and c.from_residual.result c.from_residual.ensures.1 in
    let h = c.pulls.invariant.0 left requests is in
    rw (p.1, p.2) (heard-front left _ requests SessionFault.OutOfMemory _ _ (inr refl) h)

pub returns-in-Request-clause-heard : goal.returns-in-Request-clause-heard
returns-in-Request-clause-heard g c = λ left requests is.
    let n = frames_limit - c.args.self.now.frames in
    let some : n ≡ suc (n - 1) = omega (arith, c.requires) in
    let h = subst (λ k. IsHeard left (g.K.Source.left c.pulls.link) requests k c.pulls.self.input) some (c.pulls.invariant.0 left requests is) in
    let t = subst (Takes c.pulls.self.input c.take.new.self) c.in-Request.is c.in_ok-request.ensures.taken in
    (n - 1, sym some, heard-one left c.stays_judged_law.ensures.requests _ requests (n - 1) t.0 _ _ c.in-Request.request h t.1 t.2 t.3)

pub returns-in-Bad-clause-heard : goal.returns-in-Bad-clause-heard
returns-in-Bad-clause-heard g c = λ left requests is.
    let n = frames_limit - c.args.self.now.frames in
    let some : n ≡ suc (n - 1) = omega (arith, c.requires) in
    let h = subst (λ k. IsHeard left (g.K.Source.left c.pulls.link) requests k c.pulls.self.input) some (c.pulls.invariant.0 left requests is) in
    let t = subst (Takes c.pulls.self.input c.take.new.self) c.in-Bad.is c.in_ok-request.ensures.taken in
    heard-bad left _ requests c.stays_judged_law.ensures.requests (n - 1) t.0 _ h t.1

pub returns-in_err-fill-clause-heard : goal.returns-in_err-fill-clause-heard
returns-in_err-fill-clause-heard g c = λ left requests is.
    let n = frames_limit - c.args.self.now.frames in
    let some : n ≡ suc (n - 1) = omega (arith, c.requires) in
    let h = subst (λ k. IsHeard left (g.K.Source.left c.pulls.link) requests k c.pulls.self.input) some (c.pulls.invariant.0 left requests is) in
    let t = subst (Takes c.pulls.self.input c.take.new.self) c.in-NotYet.is c.in_ok-request.ensures.taken in
    let p = err_from_is_err_and c.from_residual-in_err-fill.result c.from_residual-in_err-fill.ensures.1 in
    rw (p.1, p.2) (hears-filling left _ _ requests (n - 1) _ c.in_err-fill.field-0.0 h t.0 (λ e. (c.in_err-fill.ensures.read e).0) (λ e. ap g.K.Source.left (c.in_err-fill.ensures.memory e)))

pub returns-then-branch-eq0-clause-heard : goal.returns-then-branch-eq0-clause-heard
returns-then-branch-eq0-clause-heard g c = λ left requests is.
    let n = frames_limit - c.args.self.now.frames in
    let some : n ≡ suc (n - 1) = omega (arith, c.requires) in
    let h = subst (λ k. IsHeard left (g.K.Source.left c.pulls.link) requests k c.pulls.self.input) some (c.pulls.invariant.0 left requests is) in
    let t = subst (Takes c.pulls.self.input c.take.new.self) c.in-NotYet.is c.in_ok-request.ensures.taken in
    let m = c.in_ok-fill.ensures.ok in
    let grown = m.2 ∙ ap (λ l. l ++ m.0) t.1 in
    let same = none-came _ _ _ _ m.1 grown c.if-branch-eq0.true in
    let after = heard-more left _ _ requests (suc (n - 1)) _ m.0 c.fill.new.self h m.3 grown in
    subst (Hears left _ requests n c.fill.new.self) (sym c.at_end.ensures)
    (hears-ended left _ requests (n - 1) n c.fill.new.self c.fill.new.self after (ap read_request same ∙ t.0) (c.in_ok-fill.ensures.ended c.if-branch-eq0.true))

pub pulls-preserved : goal.pulls-preserved
pulls-preserved g c =
    let t = subst (Takes c.pulls.self.input c.take.new.self) c.in-NotYet.is c.in_ok-request.ensures.taken in
    let m = c.in_ok-fill.ensures.ok in
    let grown = m.2 ∙ ap (λ l. l ++ m.0) t.1 in (
      λ left requests is. heard-more left _ _ requests _ _ m.0 _ (c.pulls.invariant.0 left requests is) m.3 grown,
      c.in_ok-fill.ensures.sound ∙ c.pulls.invariant.1,
      c.in_ok-fill.ensures.apart ∙ c.pulls.invariant.2,
      c.pulls.invariant.3,
    )
