use Rattle.std.proofs.Common.{◌≡◌, ◌∙◌, ◌+◌, ◌-◌, ◌++◌, suc, [], ap, subst, arith}
use Rattle.std.specs.Prelude.{Ok}
use Rattle.std.proofs.lemmas.Result.{err_from_is_err_and}
use Rattle.odx_host.specs.StatusRead.{information_read}
use Rattle.odx_host.specs.Rule.{is_done}
use Rattle.odx_host.specs.inner.Steps.{StillRuns}
use Rattle.odx_host.proofs.Steps.{talking-none, talking-also, talking-on}
use Rattle.odx_host.proofs.Asking.{one-left, polls-first, polls-over, polls-untold, polls-faulted, polls-done, polls-on}
use Rattle.odx_host.proofs.copying.wait.Goals as goal

pub polls-init : goal.polls-init
polls-init g c =
    let all : c.args.polls ≡ c.args.polls - 0 = omega arith in
    talking-none g.P.Port.Talks g.P.Port.IsIn g.met.P.Port.silent g.met.P.Port.goes_on c.args.port.now _
    (subst (λ n. StillRuns c.args.unit c.args.step c.args.blocks c.args.polls n []) all (polls-first c.args.unit c.args.step c.args.blocks c.args.polls))

pub returns-in_err-told : goal.returns-in_err-told
returns-in_err-told g c =
    let p = err_from_is_err_and c.from_residual.result c.from_residual.ensures.1 in
    rw (p.1, p.2) (talking-on g.P.Port.Talks g.P.Port.IsIn g.met.P.Port.silent g.met.P.Port.goes_on _ _ _ _ _ _ c.polls.invariant c.in_err-told.ensures (λ xs ys runs asked.
    polls-untold c.args.unit c.args.step c.args.blocks c.args.polls (c.args.polls - suc c.polls.counter) xs ys
    (one-left c.args.unit c.args.step c.args.blocks c.args.polls c.polls.counter xs c.polls-test.true runs) c.in_err-told.field-0.0 asked))

pub returns-in_err-is_done : goal.returns-in_err-is_done
returns-in_err-is_done g c =
    let p = err_from_is_err_and c.from_residual-in_err-is_done.result c.from_residual-in_err-is_done.ensures.1 in
    let found = c.is_done.ensures ∙ ap (λ b. is_done c.args.step c.args.blocks (information_read b)) c.as_slice.ensures in
    rw (p.1, p.2) (talking-on g.P.Port.Talks g.P.Port.IsIn g.met.P.Port.silent g.met.P.Port.goes_on _ _ _ _ _ _ c.polls.invariant c.in_ok-told.ensures (λ xs ys runs asked.
    polls-faulted c.args.unit c.args.step c.args.blocks c.args.polls (c.args.polls - suc c.polls.counter) xs ys
    (one-left c.args.unit c.args.step c.args.blocks c.args.polls c.polls.counter xs c.polls-test.true runs) c.in_ok-told.told c.is_done.result c.in_err-is_done.field-0.0 asked found c.in_err-is_done.was))

pub returns-then-branch : goal.returns-then-branch
returns-then-branch g c =
    let found = c.is_done.ensures ∙ ap (λ b. is_done c.args.step c.args.blocks (information_read b)) c.as_slice.ensures in
    talking-on g.P.Port.Talks g.P.Port.IsIn g.met.P.Port.silent g.met.P.Port.goes_on _ _ _ _ _ _ c.polls.invariant c.in_ok-told.ensures (λ xs ys runs asked.
    polls-done c.args.unit c.args.step c.args.blocks c.args.polls (c.args.polls - suc c.polls.counter) xs ys
    (one-left c.args.unit c.args.step c.args.blocks c.args.polls c.polls.counter xs c.polls-test.true runs) c.in_ok-told.told c.is_done.result asked found (c.in_ok-is_done.was ∙ ap Ok c.if-branch.true))

pub polls-preserved : goal.polls-preserved
polls-preserved g c =
    let found = c.is_done.ensures ∙ ap (λ b. is_done c.args.step c.args.blocks (information_read b)) c.as_slice.ensures in
    let next : suc c.polls.counter ≡ c.polls.counter + 1 = omega arith in
    talking-on g.P.Port.Talks g.P.Port.IsIn g.met.P.Port.silent g.met.P.Port.goes_on _ _ _ _ _ _ c.polls.invariant c.in_ok-told.ensures (λ xs ys runs asked.
    subst (λ n. StillRuns c.args.unit c.args.step c.args.blocks c.args.polls (c.args.polls - n) (xs ++ ys)) next
    (polls-on c.args.unit c.args.step c.args.blocks c.args.polls (c.args.polls - suc c.polls.counter) xs ys
    (one-left c.args.unit c.args.step c.args.blocks c.args.polls c.polls.counter xs c.polls-test.true runs) c.in_ok-told.told c.is_done.result asked found (c.in_ok-is_done.was ∙ ap Ok c.if-branch.false)))

pub returns : goal.returns
returns g c =
    let none : c.args.polls - c.polls.counter ≡ 0 = omega arith in
    talking-also _ _ _ _ _ c.polls.invariant (λ xs runs.
    polls-over c.args.unit c.args.step c.args.blocks c.args.polls xs (subst (λ n. StillRuns c.args.unit c.args.step c.args.blocks c.args.polls n xs) none runs))
