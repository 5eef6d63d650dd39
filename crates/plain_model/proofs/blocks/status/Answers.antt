use Rattle.std.proofs.Common.{◌≡◌, ◌-◌, ◌++◌, ◌∙◌, length, ap, sym, arith, append-nil, inl, inr}
use Rattle.std.specs.Prelude.{nat_lt, true}
use Rattle.std.proofs.lemmas.Bool.{lt-ltb}
use Rattle.cm_history.specs.declared.answer.Answer.{Answer}
use Rattle.cm_history.specs.Blocks.{held}
use Rattle.lba_ranges.proofs.PublicLaws.{runs-step, runs-done}
use Rattle.plain_model.proofs.blocks.status.Goals as goal
use Rattle.plain_model.proofs.blocks.status.Goals.{then-loop-block-test+else-len-lt-TOLD_RUNS, else-loop-block-test}

pub loop-block-preserved : goal.loop-block-preserved
loop-block-preserved c =
    rw (c.in_ok-push.ensures.ok, c.from-block.ensures)
    (runs-step (held c.args.past.now) c.loop-block.runs _ c.loop-block.block c.args.unit.blocks c.run_at-run.result (omega arith) c.loop-block-test.true c.run_at-run.ensures c.loop-block.invariant.0)

pub returns : goal.returns
returns c =
    let now = held c.args.past.now in
    let inside : nat_lt c.args.lba c.args.unit.blocks ≡ true = lt-ltb c.args.lba c.args.unit.blocks c.if-lba-unit.false in
    let done = runs-done now (64 - length c.loop-block.runs) c.loop-block.block (c.args.unit.blocks - c.loop-block.block)
    (elim c.loop-block-test.branch [ then-loop-block-test+else-len-lt-TOLD_RUNS w ↦ inl (omega arith) | else-loop-block-test w ↦ inr (omega arith) ]) in
    let same = sym (append-nil c.loop-block.runs) ∙ ap (λ l. c.loop-block.runs ++ l) (sym done) ∙ c.loop-block.invariant.0 in
    rw inside (ap Answer.Status same)
