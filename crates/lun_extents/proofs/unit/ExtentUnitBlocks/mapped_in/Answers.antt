use Rattle.std.proofs.Common.{◌≡◌, ◌+◌, ◌∙◌, sym, arith, true, false}
use Rattle.lun_extents.specs.Extents.{held_in}
use Rattle.lun_extents.proofs.Counting.{among-more}
use Rattle.lun_extents.proofs.unit.ExtentUnitBlocks.mapped_in.Goals as goal

pub loop-at-preserved-then-run : goal.loop-at-preserved-then-run
loop-at-preserved-then-run c =
    let some = c.run_at-run.ensures.some in
    let within = c.run_at-run.ensures.within in
    let size = c.self.inside.block_length in
    let more = among-more (held_in size c.self.inside.extents.entries) c.args.range.lba c.loop-at.at c.run_at-run.result.end c.loop-at.blocks true (omega arith) (omega arith) c.loop-at.invariant.3
    (λ b low high. c.run_at-run.ensures.alike size b low high ∙ c.if-run.true) in
    (omega arith, omega arith, omega arith, more)

pub loop-at-preserved : goal.loop-at-preserved
loop-at-preserved c =
    let some = c.run_at-run.ensures.some in
    let within = c.run_at-run.ensures.within in
    let size = c.self.inside.block_length in
    let none : c.loop-at.blocks + 0 ≡ c.loop-at.blocks = omega arith in
    let more = among-more (held_in size c.self.inside.extents.entries) c.args.range.lba c.loop-at.at c.run_at-run.result.end c.loop-at.blocks false (omega arith) (omega arith) c.loop-at.invariant.3
    (λ b low high. c.run_at-run.ensures.alike size b low high ∙ c.if-run.false) in
    (omega arith, omega arith, omega arith, sym none ∙ more)
