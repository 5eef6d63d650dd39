use Rattle.lun_extents.specs.Extents.{stored}
use Rattle.lun_extents.proofs.Splits.{not_at}
use Rattle.lun_extents.proofs.Alone.{IsPut, put-held}
use Rattle.lun_extents.proofs.map.set_alone.Goals as goal

pub returns-clause-held : goal.returns-clause-held
returns-clause-held c =
    λ size b.
    let updates = c.in_ok-insert.ensures.updates in
    let f = stored c.args.map.now.entries in
    let g = stored c.insert.new.self.entries in
    let is : IsPut size f g c.args.lba c.args.piece = record {
      some = c.requires.some;
      start = updates.1;
      others = λ j other. updates.2 j (not_at c.args.lba j other);
      inside = c.requires.alone.inside;
      ended = c.requires.alone.ended size;
    } in
    put-held size f g c.args.lba c.args.piece is b
