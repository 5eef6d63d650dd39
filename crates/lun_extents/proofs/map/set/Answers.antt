use Rattle.std.proofs.Common.{◌∙◌, arith}
use Rattle.lun_extents.specs.Extents.{stored}
use Rattle.lun_extents.proofs.Nearest.{IsRun}
use Rattle.lun_extents.proofs.Splits.{chosen, other}
use Rattle.lun_extents.proofs.Written.{set-held}
use Rattle.lun_extents.proofs.map.set.Goals as goal

pub returns-clause-held : goal.returns-clause-held
returns-clause-held c =
    λ size b.
    let f = stored c.args.map.now.entries in
    let g = stored c.replace.new.map.entries in
    let lba = c.args.lba in
    let n = c.args.piece.count in
    let is : IsRun f g lba n c.args.piece = record {
      some = c.requires.some;
      start = c.replace.ensures lba ∙ chosen lba _ _;
      inside = λ j low high. c.replace.ensures j ∙ other lba j _ _ (omega arith) ∙ c.take_out.ensures.inside j (omega arith) (omega arith);
      below = λ j low. c.replace.ensures j ∙ other lba j _ _ (omega arith) ∙ c.take_out.ensures.below j (omega arith);
      above = λ j high. c.replace.ensures j ∙ other lba j _ _ (omega arith) ∙ c.take_out.ensures.above j (omega arith);
      end = c.requires.end;
    } in
    set-held size f g lba c.args.piece is b
