use Rattle.std.proofs.Common.{◌≡◌, ◌∙◌, ◌+◌, ◌-◌, ◌≤◌, arith}
use Rattle.std.proofs.lemmas.Bool.Decides.{nat_tests}
use Rattle.lba_ranges.specs.HeldBlocks.{filled}
use Rattle.lba_ranges.proofs.PublicLaws.{length-filled}
use Rattle.lun_extents.specs.Extents.{stored}
use Rattle.lun_extents.proofs.Nearest.{from-nearest, from-none}
use Rattle.lun_extents.proofs.Places.{held_at-over}
use Rattle.lun_extents.proofs.map.occupied.Goals as goal

pub returns-in_default-clause-clear : goal.returns-in_default-clause-clear
returns-in_default-clause-clear c =
    λ yes.
    let some = c.requires.some in
    let n = c.from.ensures in
    let none = c.in_default.ensures.none in
    record {
      none = λ b from to. none b (omega arith);
      past = λ size b i from to. from-none size (stored c.args.map.now.entries) b i (λ j low. none j (omega arith));
    }

pub returns-then-from-lba-clause-clear : goal.returns-then-from-lba-clause-clear
returns-then-from-lba-clause-clear c =
    λ yes.
    let some = c.requires.some in
    let n = c.from.ensures in
    let low = c.if-first-lba.true in
    let small : c.from-then-first-lba.result ≤ c.args.lba - c.in-Some.first = grind (arith, nat_tests) in
    let counted = c.from-then-first-lba.ensures in
    let p = c.in-Some.piece.now in
    record {
      none = λ b from to. c.in-Some.ensures.above b (omega arith) (omega arith);
      past = λ size b i from to.
          let long = length-filled size p.count p.fill in
          from-nearest size (stored c.args.map.now.entries) b c.in-Some.first p i (omega arith) c.in-Some.ensures.found.1
          (λ j above below. c.in-Some.ensures.above j above (omega arith))
          ∙ held_at-over (filled size p.count p.fill) (b - c.in-Some.first + i) (omega arith);
    }

pub returns-then-from-last-clause-alone : goal.returns-then-from-last-clause-alone
returns-then-from-last-clause-alone c =
    λ yes.
    let some = c.requires.some in
    let n = c.from.ensures in
    let low = c.if-first-lba-2.true in
    let small = c.if-from-last.true in
    let counted = c.from-then-first-lba-2.ensures in
    let p = c.in-Some.piece.now in
    record {
      inside = λ b above below. c.in-Some.ensures.above b (omega arith) (omega arith);
      ended = λ size i.
          let long = length-filled size p.count p.fill in
          from-nearest size (stored c.args.map.now.entries) (c.args.lba + c.args.count - 1) c.in-Some.first p (1 + i) (omega arith) c.in-Some.ensures.found.1
          (λ j above below. c.in-Some.ensures.above j above (omega arith))
          ∙ held_at-over (filled size p.count p.fill) (c.args.lba + c.args.count - 1 - c.in-Some.first + (1 + i)) (omega arith);
    }
