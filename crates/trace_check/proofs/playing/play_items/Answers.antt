use Rattle.std.proofs.Common.{◌≡◌, ◌≤◌, ◌<◌, ◌+◌, ◌-◌, ℕ, suc, List, length, take, drop, subst, sym, ap, arith}
use Rattle.std.proofs.Math.Seq.{take-length}
use Rattle.std.proofs.lemmas.List.{drop-drop, length-drop}
use Rattle.std.proofs.lemmas.Result.{err_from_is_err_and}
use Rattle.cmd_program.specs.Judging.{step}
use Rattle.trace_check.specs.CheckedTrace.{checked_trace}
use Rattle.trace_check.specs.declared.machine.Machine.{Machine}
use Rattle.trace_check.specs.inner.Loops.{IsAt}
use Rattle.trace_check.proofs.Plays.{at-records}
use Rattle.trace_check.proofs.playing.play_items.Goals as goal
use Rattle.trace_check.proofs.playing.play_items.Goals.{then-loop-left-test+else-at-trace, else-loop-left-test}

-- what is behind a place is the rest
whole-rest : (at : ℕ) (l : List ℕ) → take (length l - at) (drop at l) ≡ drop at l
whole-rest at l = subst (λ n. take n (drop at l) ≡ drop at l) (length-drop at l) (take-length (drop at l))

-- one more item is allowed
allowed : (trace : List ℕ) (left at : ℕ) (m : Machine) → 0 < left → IsAt (checked_trace step trace) left at (drop at trace) m
    → IsAt (checked_trace step trace) (suc (left - 1)) at (take (length trace - at) (drop at trace)) m
allowed trace left at m some is =
    let more : left ≡ suc (left - 1) = omega (arith, some) in
    subst (λ bytes. IsAt (checked_trace step trace) (suc (left - 1)) at bytes m) (sym (whole-rest at trace))
    (subst (λ n. IsAt (checked_trace step trace) n at (drop at trace) m) more is)

pub returns-in_err-at : goal.returns-in_err-at
returns-in_err-at c =
    let l = c.loop-left in
    let trace = c.args.trace.now in
    let at = allowed trace l.left l.at l.machine (omega (arith, c.loop-left-test.true)) l.invariant.1 in
    let p = err_from_is_err_and c.from_residual.result c.from_residual.ensures.1 in
    rw (p.1, p.2) (c.in_err-at.ensures.played (checked_trace step trace) (l.left - 1) at)

pub loop-left-preserved : goal.loop-left-preserved
loop-left-preserved c =
    let l = c.loop-left in
    let trace = c.args.trace.now in
    let at = allowed trace l.left l.at l.machine (omega (arith, c.loop-left-test.true)) l.invariant.1 in
    let used = c.in_ok-at.field-0 in
    let next = c.in_ok-at.ensures.played (checked_trace step trace) (l.left - 1) at in (
      omega (arith, length-drop l.at trace, ap length (whole-rest l.at trace), c.in_ok-at.ensures.within, l.invariant.0),
      subst (λ bytes. IsAt (checked_trace step trace) (l.left - 1) (l.at + used) bytes c.play_item.new.machine) (drop-drop used l.at trace)
          (subst (λ bytes. IsAt (checked_trace step trace) (l.left - 1) (l.at + used) (drop used bytes) c.play_item.new.machine) (whole-rest l.at trace) next),
    )

pub returns-then-at-trace-2 : goal.returns-then-at-trace-2
returns-then-at-trace-2 c =
    let l = c.loop-left in
    let trace = c.args.trace.now in
    let some : 0 < length (drop l.at trace) = omega (arith, length-drop l.at trace, c.if-at-trace-2.true) in
    let last : l.left ≡ 0 = elim c.loop-left-test.branch [
      | then-loop-left-test+else-at-trace w ↦ absurd (omega (arith, w.if-at-trace.false, c.if-at-trace-2.true))
      | else-loop-left-test w ↦ omega (arith, w.loop-left-test.false)
    ] in
    at-records (checked_trace step trace) l.left l.at (drop l.at trace) l.machine l.invariant.1 last some
