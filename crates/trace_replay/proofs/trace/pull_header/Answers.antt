use Rattle.std.proofs.Common.{refl, ap, sym, ◌∙◌}
use Rattle.std.proofs.KnownBytes.{Consumes-nil, Consumes-trans}
use Rattle.std.proofs.lemmas.Result.{err_from_is_err_and}
use Rattle.cm_frame.specs.Reading.{read_header}
use Rattle.trace_replay.specs.Faults.{fault_of}
use Rattle.trace_replay.proofs.Sizes.{header-short}
use Rattle.trace_replay.proofs.Playing.{header-memory, header-fault, header-filling, header-ended, counts-filling, counts-later, grown, smaller}
use Rattle.trace_replay.proofs.trace.pull_header.Goals as goal

pub loop-config-init : goal.loop-config-init
loop-config-init g c = rw c.requires (Consumes-nil _, refl)

pub returns-in_err-config-clause-pulled : goal.returns-in_err-config-clause-pulled
returns-in_err-config-clause-pulled g c =
    let p = err_from_is_err_and c.from_residual.result c.from_residual.ensures.1 in
    rw (p.1, p.2) (λ taken. header-memory _ _ taken _ c.loop-config.invariant.0)

pub returns-in_err-config-clause-counted : goal.returns-in_err-config-clause-counted
returns-in_err-config-clause-counted g c = λ writes.
    let p = err_from_is_err_and c.from_residual.result c.from_residual.ensures.1 in
    rw (p.1, p.2) (c.loop-config.invariant.1, refl)

pub returns-in-Whole-clause-pulled : goal.returns-in-Whole-clause-pulled
returns-in-Whole-clause-pulled g c =
    (c.loop-config.invariant.0, ap read_header (sym c.as_slice.ensures) ∙ sym c.in_ok-config.ensures.value ∙ c.in-Whole.is)

pub returns-in-Whole-clause-counted : goal.returns-in-Whole-clause-counted
returns-in-Whole-clause-counted g c = λ writes. (c.loop-config.invariant.1, refl)

pub returns-in-Bad-clause-pulled : goal.returns-in-Bad-clause-pulled
returns-in-Bad-clause-pulled g c = λ taken.
    header-fault _ _ taken _ c.in-Bad.place c.loop-config.invariant.0 (ap read_header (sym c.as_slice.ensures) ∙ sym c.in_ok-config.ensures.value ∙ c.in-Bad.is)

pub returns-in-Bad-clause-counted : goal.returns-in-Bad-clause-counted
returns-in-Bad-clause-counted g c = λ writes. (c.loop-config.invariant.1, refl)

pub returns-in_err-fill-in-Short-clause-pulled : goal.returns-in_err-fill-in-Short-clause-pulled
returns-in_err-fill-in-Short-clause-pulled g c =
    let p = err_from_is_err_and c.from_residual-in_err-fill-in-Short.result c.from_residual-in_err-fill-in-Short.ensures.1 in
    let short = ap read_header (sym c.as_slice.ensures) ∙ sym c.in_ok-config.ensures.value ∙ c.in-Short.is in
    rw (p.1, p.2) (λ taken. header-filling _ _ taken _ _ c.in_err-fill-in-Short.field-0.0 c.loop-config.invariant.0 short
    (λ e. (c.in_err-fill-in-Short.ensures.read e).0) (λ e. ap g.I.Source.left (c.in_err-fill-in-Short.ensures.memory e)))

pub returns-in_err-fill-in-Short-clause-counted : goal.returns-in_err-fill-in-Short-clause-counted
returns-in_err-fill-in-Short-clause-counted g c = λ writes.
    let p = err_from_is_err_and c.from_residual-in_err-fill-in-Short.result c.from_residual-in_err-fill-in-Short.ensures.1 in
    rw (p.1, p.2) (counts-later _ _ _ writes writes writes (fault_of c.in_err-fill-in-Short.field-0.0) c.loop-config.invariant.1 refl
    (counts-filling _ _ writes writes c.in_err-fill-in-Short.field-0.0 refl
    (λ e. (c.in_err-fill-in-Short.ensures.read e).1) (λ e. ap g.I.Source.read_faults (c.in_err-fill-in-Short.ensures.memory e))))

pub returns-then-branch-eq0-clause-pulled : goal.returns-then-branch-eq0-clause-pulled
returns-then-branch-eq0-clause-pulled g c = λ taken.
    let short = ap read_header (sym c.as_slice.ensures) ∙ sym c.in_ok-config.ensures.value ∙ c.in-Short.is in
    let m = c.in_ok-fill-in-Short.ensures.ok in
    header-ended _ _ _ taken _ m.0 _ c.loop-config.invariant.0 m.3 m.1 c.if-branch-eq0.true (c.in_ok-fill-in-Short.ensures.ended c.if-branch-eq0.true) short

pub returns-then-branch-eq0-clause-counted : goal.returns-then-branch-eq0-clause-counted
returns-then-branch-eq0-clause-counted g c = λ writes. (c.in_ok-fill-in-Short.ensures.sound ∙ c.loop-config.invariant.1, refl)

pub loop-config-smaller : goal.loop-config-smaller
loop-config-smaller g c =
    let short = ap read_header (sym c.as_slice.ensures) ∙ sym c.in_ok-config.ensures.value ∙ c.in-Short.is in
    let m = c.in_ok-fill-in-Short.ensures.ok in
    smaller 554 _ _ (header-short _ short) (grown _ _ m.0 _ m.1 m.2 c.if-branch-eq0.false)

pub loop-config-preserved : goal.loop-config-preserved
loop-config-preserved g c =
    let m = c.in_ok-fill-in-Short.ensures.ok in
    (rw m.2 (Consumes-trans _ _ _ _ m.0 c.loop-config.invariant.0 m.3), c.in_ok-fill-in-Short.ensures.sound ∙ c.loop-config.invariant.1)
