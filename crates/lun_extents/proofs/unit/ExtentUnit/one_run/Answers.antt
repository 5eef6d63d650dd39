use Rattle.std.proofs.Common.{◌≡◌, ◌∙◌, ◌+◌, ◌-◌, length, ap, sym, arith}
use Rattle.std.specs.Prelude.{slice_range}
use Rattle.std.proofs.lemmas.List.{take_all}
use Rattle.lba_ranges.specs.HeldBlocks.{filled}
use Rattle.lun_extents.proofs.unit.ExtentUnit.one_run.Goals as goal

pub returns-clause-items : goal.returns-clause-items
returns-clause-items c =
    let xs = c.args.list.now.items in
    let size = c.args.list.now.block_length in
    let piece = c.in_ok-piece.piece in
    let whole : piece.count ≡ c.args.range.count = omega (arith, c.in_ok-piece.ensures.most) in
    let n : 0 + piece.count - 0 ≡ piece.count = omega arith in
    let part : filled size piece.count piece.fill ≡ slice_range xs 0 (0 + piece.count) = c.in_ok-piece.ensures.items in
    let all : slice_range xs 0 (0 + piece.count) ≡ xs = take_all (0 + piece.count - 0) xs (omega arith) in
    sym all ∙ sym part ∙ ap (λ m. filled size m piece.fill) whole
