use Rattle.std.proofs.Common.{◌≡◌, ◌∙◌, ◌+◌, ◌-◌, ap, sym, arith}
use Rattle.std.specs.Prelude.{Some}
use Rattle.lba_ranges.specs.HeldBlocks.{filled, held_at}
use Rattle.lba_ranges.proofs.PublicLaws.{length-filled}
use Rattle.lun_extents.specs.Extents.{stored}
use Rattle.lun_extents.proofs.Nearest.{from-nearest, from-none, in-gap}
use Rattle.lun_extents.proofs.Places.{held_at-over}
use Rattle.lun_extents.proofs.walk.reach_at.Goals as goal

pub returns-in-Some-place_in-clause-gap : goal.returns-in-Some-place_in-clause-gap
returns-in-Some-place_in-clause-gap c =
    λ size b low high.
    in-gap size (stored c.args.extents.now.entries) c.args.block b low (λ j above below. c.in-Some.ensures.above j (omega arith) (omega arith))

pub returns-in-Some-place_in-clause-held : goal.returns-in-Some-place_in-clause-held
returns-in-Some-place_in-clause-held c =
    λ size i.
    let p = c.in-Some.piece.now in
    let is : stored c.args.extents.now.entries c.in-Some.first ≡ Some p = c.in-Some.ensures.found.1 in
    let place = c.in-Some-place_in.ensures.inside.0 in
    from-nearest size (stored c.args.extents.now.entries) c.args.block c.in-Some.first p i (omega arith) is (λ j above below. c.in-Some.ensures.above j above (omega arith))
    ∙ ap (λ n. held_at (filled size p.count p.fill) (n + i)) (sym place)

pub returns-in-None-place_in-clause-gap : goal.returns-in-None-place_in-clause-gap
returns-in-None-place_in-clause-gap c =
    λ size b low high.
    in-gap size (stored c.args.extents.now.entries) c.args.block b low (λ j above below. c.in-Some.ensures.above j (omega arith) (omega arith))

pub returns-in-None-place_in-clause-none : goal.returns-in-None-place_in-clause-none
returns-in-None-place_in-clause-none c =
    λ size i.
    let p = c.in-Some.piece.now in
    let is : stored c.args.extents.now.entries c.in-Some.first ≡ Some p = c.in-Some.ensures.found.1 in
    let over = c.in-None-place_in.ensures.outside in
    let long = length-filled size p.count p.fill in
    from-nearest size (stored c.args.extents.now.entries) c.args.block c.in-Some.first p i (omega arith) is (λ j above below. c.in-Some.ensures.above j above (omega arith))
    ∙ held_at-over (filled size p.count p.fill) (c.args.block - c.in-Some.first + i) (omega arith)

pub returns-in-None-clause-gap : goal.returns-in-None-clause-gap
returns-in-None-clause-gap c =
    λ size b low high.
    in-gap size (stored c.args.extents.now.entries) c.args.block b low (λ j above below. c.in-None.ensures.none j (omega arith))

pub returns-in-None-clause-none : goal.returns-in-None-clause-none
returns-in-None-clause-none c = λ size i. from-none size (stored c.args.extents.now.entries) c.args.block i (λ j low. c.in-None.ensures.none j (omega arith))
