use Rattle.std.proofs.Common.{◌∙◌, ap}
use Rattle.std.specs.Prelude.{Ok, Err}
use Rattle.std.proofs.lemmas.Result.{err_from_is_err_and}
use Rattle.lba_ranges.specs.Denoted.{total}
use Rattle.odx_host.specs.StatusRead.{information_read}
use Rattle.odx_host.specs.Rule.{token_of}
use Rattle.odx_host.proofs.Steps.{talking-also, talking-on}
use Rattle.odx_host.proofs.Asking.{asked-is, populate-refused, populate-untold, populate-told}
use Rattle.odx_host.proofs.copying.populate.Goals as goal

pub returns-in_err-ask_good : goal.returns-in_err-ask_good
returns-in_err-ask_good g c =
    let p = err_from_is_err_and c.from_residual-in_err-ask_good.result c.from_residual-in_err-ask_good.ensures.1 in
    let fault = c.in_err-ask_good.field-0.0 in
    rw (p.1, p.2) (talking-also _ _ _ _ _ c.in_err-ask_good.ensures (λ xs f.
    populate-refused c.args.unit c.args.step c.args.ranges xs fault (asked-is _ _ c.args.step xs (Err fault) c.in_ok-request.ensures.request f)))

pub returns-in_err-told : goal.returns-in_err-told
returns-in_err-told g c =
    let p = err_from_is_err_and c.from_residual-in_err-told.result c.from_residual-in_err-told.ensures.1 in
    let fault = c.in_err-told.field-0.0 in
    rw (p.1, p.2) (talking-on g.P.Port.Talks g.P.Port.IsIn g.met.P.Port.silent g.met.P.Port.goes_on _ _ _ _ _ _ c.in_ok-ask_good.ensures c.in_err-told.ensures (λ xs ys f h.
    populate-untold c.args.unit c.args.step c.args.ranges xs ys c.in_ok-ask_good.field-0 fault
    (asked-is _ _ c.args.step xs (Ok c.in_ok-ask_good.field-0) c.in_ok-request.ensures.request f) h))

pub returns : goal.returns
returns g c = talking-on g.P.Port.Talks g.P.Port.IsIn g.met.P.Port.silent g.met.P.Port.goes_on _ _ _ _ _ _ c.in_ok-ask_good.ensures c.in_ok-told.ensures (λ xs ys f h.
    populate-told c.args.unit c.args.step c.args.ranges xs ys c.in_ok-ask_good.field-0 c.in_ok-told.told c.token_of.result
    (asked-is _ _ c.args.step xs (Ok c.in_ok-ask_good.field-0) c.in_ok-request.ensures.request f) h
    (c.token_of.ensures ∙ ap (λ n. token_of c.args.step n (information_read c.as_slice.result.now)) c.total-blocks.ensures.total
    ∙ ap (λ b. token_of c.args.step (total c.args.ranges) (information_read b)) c.as_slice.ensures))
