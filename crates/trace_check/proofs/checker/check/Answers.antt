use Rattle.std.proofs.Common.{◌≡◌, ◌⊎◌, ◌∙◌, ap, sym, subst, List, ℕ}
use Rattle.std.specs.Prelude.{Option, Ok, Err}
use Rattle.std.specs.Io.KnownBytes.{Consumes}
use Rattle.std.proofs.KnownBytes.{Consumes-nil, Appends-nil}
use Rattle.std.proofs.lemmas.Result.{err_from_is_err_and}
use Rattle.cmd_program.specs.Judging.{step}
use Rattle.trace_replay.specs.declared.fault.ReplayFault.{ReplayFault}
use Rattle.trace_check.specs.declared.checker.CheckEnd.{CheckEnd}
use Rattle.trace_check.specs.Verdict.{verdict}
use Rattle.trace_check.proofs.Checking.{failed, not-judged, compared, not-told, counts-failed, counts-told, found}
use Rattle.trace_check.proofs.checker.check.Goals as goal

pub returns-in_err-pull_input-clause-checked : goal.returns-in_err-pull_input-clause-checked
returns-in_err-pull_input-clause-checked g c =
    let p = err_from_is_err_and c.from_residual.result c.from_residual.ensures.1 in
    let left = g.I.Source.left c.args.input.now in
    let first : Consumes left left c.new-waits.result = rw c.new-waits.ensures (Consumes-nil left) in
    rw (p.1, p.2) (failed left _ _ _ (c.in_err-pull_input.ensures.pulled left first))

pub returns-in_err-pull_input-clause-counted : goal.returns-in_err-pull_input-clause-counted
returns-in_err-pull_input-clause-counted g c =
    let p = err_from_is_err_and c.from_residual.result c.from_residual.ensures.1 in
    let left = g.I.Source.left c.args.input.now in
    let first : Consumes left left c.new-waits.result = rw c.new-waits.ensures (Consumes-nil left) in
    rw (p.1, p.2) (counts-failed (Unit {0}) _ _ _ left _ _ (c.in_err-pull_input.ensures.pulled left first) c.in_err-pull_input.ensures.counted)

pub returns-in_err-end-clause-checked : goal.returns-in_err-end-clause-checked
returns-in_err-end-clause-checked g c =
    let p = err_from_is_err_and c.from_residual-in_err-end.result c.from_residual-in_err-end.ensures.1 in
    let left = g.I.Source.left c.args.input.now in
    let first : Consumes left left c.new-waits.result = rw c.new-waits.ensures (Consumes-nil left) in
    rw (p.1, p.2) (not-judged left _ _ (c.in_ok-pull_input.ensures.pulled left first) c.in_ok-pull_input.ensures.ended _ _ (rw c.as_slice.ensures at c.in_err-end.ensures))

pub returns-in_err-tell-clause-checked : goal.returns-in_err-tell-clause-checked
returns-in_err-tell-clause-checked g c =
    let p = err_from_is_err_and c.from_residual-in_err-tell.result c.from_residual-in_err-tell.ensures.1 in
    let left = g.I.Source.left c.args.input.now in
    let first : Consumes left left c.new-waits.result = rw c.new-waits.ensures (Consumes-nil left) in
    rw (p.1, p.2) (not-told left _ _ (c.in_ok-pull_input.ensures.pulled left first) c.in_ok-pull_input.ensures.ended _ _ c.in_ok-end.end _
    (found c.pull_input.new.waits _ (rw c.as_slice.ensures at c.in_ok-end.ensures)) (c.in_err-tell.ensures.told _ (Appends-nil _)))

pub returns-in_err-tell-clause-counted : goal.returns-in_err-tell-clause-counted
returns-in_err-tell-clause-counted g c =
    let p = err_from_is_err_and c.from_residual-in_err-tell.result c.from_residual-in_err-tell.ensures.1 in
    rw (p.1, p.2) (counts-told (Unit {0}) _ _ _ _ _ _ c.in_ok-end.end _ (c.in_err-tell.ensures.told (g.O.Sink.taken c.args.output.now) (Appends-nil _)) c.in_ok-pull_input.ensures.counted c.in_err-tell.ensures.counted)

pub returns-clause-checked : goal.returns-clause-checked
returns-clause-checked g c =
    let left = g.I.Source.left c.args.input.now in
    let first : Consumes left left c.new-waits.result = rw c.new-waits.ensures (Consumes-nil left) in
    compared left _ _ (c.in_ok-pull_input.ensures.pulled left first) c.in_ok-pull_input.ensures.ended _ _ c.in_ok-end.end
    (found c.pull_input.new.waits _ (rw c.as_slice.ensures at c.in_ok-end.ensures)) (c.in_ok-tell.ensures.told _ (Appends-nil _))
