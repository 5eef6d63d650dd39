use Rattle.std.proofs.Common.{◌-◌, ◌++◌, ◌∙◌, length, ap, sym, arith, append-nil, inl, inr}
use Rattle.lba_ranges.specs.inner.Status.{IsRun}
use Rattle.lba_ranges.proofs.MapRuns.{runs-step, runs-done}
use Rattle.lba_ranges.proofs.mapping.map_runs.Goals as goal
use Rattle.lba_ranges.proofs.mapping.map_runs.Goals.{then-loop-block-test+else-len-lt-TOLD_RUNS, else-loop-block-test}

pub loop-block-preserved : goal.loop-block-preserved
loop-block-preserved g c =
    let held = g.B.Blocks.holds c.args.unit.now in
    let is : IsRun held c.loop-block.block (c.args.blocks - c.loop-block.block) c.run_at-run.result = rw (← c.requires.count) c.run_at-run.ensures in
    rw (c.in_ok-push.ensures.ok, c.from-block.ensures)
    (runs-step held c.loop-block.list _ c.loop-block.block c.args.blocks c.run_at-run.result (omega arith) c.loop-block-test.true is c.loop-block.invariant.0)

pub returns : goal.returns
returns g c =
    let held = g.B.Blocks.holds c.args.unit.now in
    let done = runs-done held (64 - length c.loop-block.list) c.loop-block.block (c.args.blocks - c.loop-block.block)
    (elim c.loop-block-test.branch [ then-loop-block-test+else-len-lt-TOLD_RUNS w ↦ inl (omega arith) | else-loop-block-test w ↦ inr (omega arith) ]) in
    sym (append-nil c.loop-block.list) ∙ ap (λ l. c.loop-block.list ++ l) (sym done) ∙ c.loop-block.invariant.0
