use Rattle.std.proofs.Common.{◌≡◌, ◌∙◌, ◌+◌, ◌-◌, ap, sym, arith, rules}
use Rattle.std.specs.Prelude.{slice_range}
use Rattle.lba_ranges.specs.HeldBlocks.{filled, held_at}
use Rattle.lba_ranges.proofs.PublicLaws.{length-filled}
use Rattle.lun_extents.proofs.Places.{held_at-rest}
use Rattle.lun_extents.proofs.map.rest_at.Goals as goal

pub returns-in_ok-rest-in-Some-clause-held : goal.returns-in_ok-rest-in-Some-clause-held
returns-in_ok-rest-in-Some-clause-held c =
    λ i.
    let p = c.in-Some.piece.now in
    let place = c.in-Some.ensures.place in
    let part : filled c.args.size c.in_ok-rest-in-Some.rest.count c.in_ok-rest-in-Some.rest.fill ≡ slice_range (filled c.args.size p.count p.fill) c.in-Some.place (c.in-Some.place + (p.count - c.in-Some.place)) = search rules in
    let all : c.in-Some.place + (p.count - c.in-Some.place) ≡ p.count = omega arith in
    ap (λ l. held_at l i) part
    ∙ held_at-rest (filled c.args.size p.count p.fill) p.count c.in-Some.place (p.count - c.in-Some.place) i (length-filled c.args.size p.count p.fill) all
    ∙ sym (c.in-Some.ensures.held c.args.size i)
