use Rattle.std.proofs.Common.{arith}
use Rattle.lun_extents.specs.Extents.{stored}
use Rattle.lun_extents.proofs.Written.{IsHollow, empty_extents-held}
use Rattle.lun_extents.proofs.map.unmap.Goals as goal

pub returns-clause-held : goal.returns-clause-held
returns-clause-held c =
    λ size b.
    let f = stored c.args.map.now.entries in
    let g = stored c.empty_extents.new.map.entries in
    let is : IsHollow f g c.args.lba c.args.count = record {
      inside = λ j low high. c.empty_extents.ensures.inside j low (omega arith);
      below = λ j low. c.empty_extents.ensures.below j low;
      above = λ j high. c.empty_extents.ensures.above j (omega arith);
      start = c.requires.start;
      end = c.requires.end;
    } in
    empty_extents-held size f g c.args.lba c.args.count is b
