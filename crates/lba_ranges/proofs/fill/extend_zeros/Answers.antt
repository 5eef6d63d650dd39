use Rattle.std.proofs.Common.{◌≡◌, ◌+◌, ◌-◌, ◌++◌, take, arith, ap, append_assoc, ◌∙◌}
use Rattle.std.specs.Prelude.{replicate}
use Rattle.cm_base.specs.Fields.{zeros}
use Rattle.lba_ranges.proofs.Cells.{zeros-more}
use Rattle.lba_ranges.proofs.fill.extend_zeros.Goals as goal

pub loop-left-preserved : goal.loop-left-preserved
loop-left-preserved c =
    let h : c.extend.new.self ≡ c.loop-left.into ++ take c.min-some.result (replicate 4096 0) = c.in_ok-extend.ensures.ok in
    let more = zeros-more (c.args.count - c.loop-left.left) c.min-some.result 4096 (omega arith) in
    let next : c.args.count - c.loop-left.left + c.min-some.result ≡ c.args.count - (c.loop-left.left - c.min-some.result) = omega arith in (
      h ∙ ap (λ l. l ++ take c.min-some.result (replicate 4096 0)) c.loop-left.invariant.0 ∙ append_assoc c.args.into.now _ _ ∙ ap (λ l. c.args.into.now ++ l) (more ∙ ap zeros next),
      omega arith,
    )
