use Rattle.std.proofs.Common.{◌<◌, ◌≤◌, ◌∙◌, ◌++◌, ap, length, arith, append_assoc}
use Rattle.std.proofs.lemmas.List.{take_all}
use Rattle.lba_ranges.specs.HeldBlocks.{filled}
use Rattle.lba_ranges.proofs.Cells.{take-held, length-filled}
use Rattle.lba_ranges.proofs.fill.Piece.push_items.Goals as goal

pub loop-index-preserved : goal.loop-index-preserved
loop-index-preserved c =
    let all = filled c.args.size c.args.self.now.count c.args.self.now.fill in
    let long = length-filled c.args.size c.args.self.now.count c.args.self.now.fill in
    let low : c.loop-index.index < length all = omega (arith, long) in
    rw (c.in_ok-push.ensures.items, c.loop-index.invariant, c.in_ok-item.ensures, take-held all c.loop-index.index low) (append_assoc c.args.items.now.items _ _)

pub returns : goal.returns
returns c =
    let all = filled c.args.size c.args.self.now.count c.args.self.now.fill in
    let long = length-filled c.args.size c.args.self.now.count c.args.self.now.fill in
    let high : length all ≤ c.loop-index.index = omega (arith, long) in
    c.loop-index.invariant ∙ ap (λ l. c.args.items.now.items ++ l) (take_all c.loop-index.index all high)
