use Rattle.std.proofs.Common.{◌∙◌, ◌≤◌, ap, subst}
use Rattle.std.specs.Prelude.{Ok, Err}
use Rattle.std.proofs.lemmas.Result.{err_from_is_err_and}
use Rattle.lba_ranges.specs.Denoted.{total}
use Rattle.odx_host.specs.declared.copying.Host.{Host}
use Rattle.odx_host.specs.inner.Steps.{HasAsked}
use Rattle.odx_host.proofs.Steps.{talking-also, talking-on}
use Rattle.odx_host.proofs.Asking.{asked-is, polled-is}
use Rattle.odx_host.proofs.Writing.{its_request, write-refused, write-polled, request-is, blocks-are}
use Rattle.odx_host.proofs.copying.Host.write.Goals as goal

pub returns-in_err-ask_good-clause-written : goal.returns-in_err-ask_good-clause-written
returns-in_err-ask_good-clause-written g c =
    let p = err_from_is_err_and c.from_residual-in_err-ask_good.result c.from_residual-in_err-ask_good.ensures.1 in
    let job = c.args.self.now.job.now in
    let place = c.args.self.now.to.place in
    let fault = c.in_err-ask_good.field-0.0 in
    let unit = c.target-unit.ensures ∙ ap (λ (h : Host). h.job.now.target) c.in_ok-list.ensures.passed in
    let is = request-is job c.args.token.now c.args.self.now.copied c.args.first c.args.last place _ _ _ _ _
    c.in_ok-request.ensures.request unit c.next_step-step.ensures c.in_ok-list.ensures.list c.requires.to in
    let within = subst (λ es. c.args.last ≤ total es) c.requires.to c.requires.within in
    rw (p.1, p.2) (talking-also _ _ _ _ _ c.in_err-ask_good.ensures (λ xs f.
    write-refused job c.args.token.now c.args.self.now.copied c.args.first c.args.last place c.requires.begun c.requires.some within xs fault
    (subst (λ s. HasAsked (its_request job c.args.token.now c.args.self.now.copied c.args.first c.args.last place) s xs (Err fault)) c.next_step-step.ensures (asked-is _ _ _ xs (Err fault) is f))))

pub returns-in_err-wait-clause-written : goal.returns-in_err-wait-clause-written
returns-in_err-wait-clause-written g c =
    let p = err_from_is_err_and c.from_residual-in_err-wait.result c.from_residual-in_err-wait.ensures.1 in
    let job = c.args.self.now.job.now in
    let place = c.args.self.now.to.place in
    let fault = c.in_err-wait.field-0.0 in
    let unit = c.target-unit.ensures ∙ ap (λ (h : Host). h.job.now.target) c.in_ok-list.ensures.passed in
    let is = request-is job c.args.token.now c.args.self.now.copied c.args.first c.args.last place _ _ _ _ _
    c.in_ok-request.ensures.request unit c.next_step-step.ensures c.in_ok-list.ensures.list c.requires.to in
    let blocks = blocks-are job c.args.token.now c.args.first c.args.last place _ _ _ c.total.ensures.total c.in_ok-list.ensures.list c.requires.to in
    let polls = c.polls.ensures.polls ∙ ap (λ (h : Host). h.job.now.polls) c.in_ok-list.ensures.passed in
    let within = subst (λ es. c.args.last ≤ total es) c.requires.to c.requires.within in
    rw (p.1, p.2) (talking-on g.P.Port.Talks g.P.Port.IsIn g.met.P.Port.silent g.met.P.Port.goes_on _ _ _ _ _ _ c.in_ok-ask_good.ensures c.in_err-wait.ensures (λ xs ys f h.
    write-polled job c.args.token.now c.args.self.now.copied c.args.first c.args.last place c.requires.begun c.requires.some within xs ys c.in_ok-ask_good.field-0 (Err fault)
    (subst (λ s. HasAsked (its_request job c.args.token.now c.args.self.now.copied c.args.first c.args.last place) s xs (Ok c.in_ok-ask_good.field-0)) c.next_step-step.ensures (asked-is _ _ _ xs (Ok c.in_ok-ask_good.field-0) is f))
    (polled-is _ _ _ _ _ _ _ _ ys (Err fault) unit c.next_step-step.ensures blocks polls h)))

pub returns-clause-written : goal.returns-clause-written
returns-clause-written g c =
    let job = c.args.self.now.job.now in
    let place = c.args.self.now.to.place in
    let unit = c.target-unit.ensures ∙ ap (λ (h : Host). h.job.now.target) c.in_ok-list.ensures.passed in
    let is = request-is job c.args.token.now c.args.self.now.copied c.args.first c.args.last place _ _ _ _ _
    c.in_ok-request.ensures.request unit c.next_step-step.ensures c.in_ok-list.ensures.list c.requires.to in
    let blocks = blocks-are job c.args.token.now c.args.first c.args.last place _ _ _ c.total.ensures.total c.in_ok-list.ensures.list c.requires.to in
    let polls = c.polls.ensures.polls ∙ ap (λ (h : Host). h.job.now.polls) c.in_ok-list.ensures.passed in
    let within = subst (λ es. c.args.last ≤ total es) c.requires.to c.requires.within in
    talking-on g.P.Port.Talks g.P.Port.IsIn g.met.P.Port.silent g.met.P.Port.goes_on _ _ _ _ _ _ c.in_ok-ask_good.ensures c.in_ok-wait.ensures (λ xs ys f h.
    write-polled job c.args.token.now c.args.self.now.copied c.args.first c.args.last place c.requires.begun c.requires.some within xs ys c.in_ok-ask_good.field-0 (Ok c.in_ok-wait.field-0)
    (subst (λ s. HasAsked (its_request job c.args.token.now c.args.self.now.copied c.args.first c.args.last place) s xs (Ok c.in_ok-ask_good.field-0)) c.next_step-step.ensures (asked-is _ _ _ xs (Ok c.in_ok-ask_good.field-0) is f))
    (polled-is _ _ _ _ _ _ _ _ ys (Ok c.in_ok-wait.field-0) unit c.next_step-step.ensures blocks polls h))
