use Rattle.std.proofs.Common.{◌≡◌, ◌∙◌, ◌+◌, ℕ, ◌-◌, ap, arith, cond}
use Rattle.std.specs.Prelude.{Some, ◌==◌}
use Rattle.lba_ranges.specs.HeldBlocks.{filled}
use Rattle.lba_ranges.proofs.PublicLaws.{length-filled}
use Rattle.lun_extents.specs.Extents.{stored}
use Rattle.lun_extents.proofs.Places.{held_at-over}
use Rattle.lun_extents.proofs.Splits.{IsCut, cut-held, cut-ended}
use Rattle.lun_extents.proofs.map.end_before.Goals as goal

is_cut : (c : goal.After-replace) → IsCut c.args.size (stored c.args.map.now.entries) (stored c.replace.new.map.entries) c.args.block c.in-Some.place c.in-Some.piece.now c.in-Ok.part
is_cut c =
    let place : c.args.block - 1 - c.from.result ≡ c.args.block - 1 - c.in-Some.place = ap (λ n. c.args.block - 1 - n) c.from.ensures in record {
      some = omega arith;
      low = c.in-Some.ensures.low;
      count = c.in-Ok.ensures.count;
      part = c.in-Ok.ensures.blocks;
      was = c.in-Some.ensures.stored;
      inside = c.in-Some.ensures.above;
      next = c.requires.next;
      now = λ j. c.replace.ensures j ∙ ap (λ (n : ℕ). cond (n == j) (Some c.in-Ok.part) (stored c.args.map.now.entries j)) place;
    }

pub returns-clause-ended : goal.returns-clause-ended
returns-clause-ended c = λ yes some. cut-ended c.args.size (stored c.args.map.now.entries) (stored c.replace.new.map.entries) c.args.block c.in-Some.place c.in-Some.piece.now c.in-Ok.part (is_cut c)

pub returns-clause-held : goal.returns-clause-held
returns-clause-held c = cut-held c.args.size (stored c.args.map.now.entries) (stored c.replace.new.map.entries) c.args.block c.in-Some.place c.in-Some.piece.now c.in-Ok.part (is_cut c)

pub returns-then-piece-place-clause-ended : goal.returns-then-piece-place-clause-ended
returns-then-piece-place-clause-ended c =
    λ yes some i.
    let p = c.in-Some.piece.now in
    let long = length-filled c.args.size p.count p.fill in
    c.in-Some.ensures.held c.args.size (1 + i) ∙ held_at-over (filled c.args.size p.count p.fill) (c.in-Some.place + (1 + i)) (omega arith)
