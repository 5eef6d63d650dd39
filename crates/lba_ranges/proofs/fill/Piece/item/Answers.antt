use Rattle.std.proofs.Common.{◌≡◌, ◌+◌, ◌*◌, ◌-◌, refl, arith}
use Rattle.lba_ranges.proofs.Cells.{held_at-cut}
use Rattle.lba_ranges.proofs.fill.Piece.item.Goals as goal

pub returns-in_ok-slice-in-Bytes : goal.returns-in_ok-slice-in-Bytes
returns-in_ok-slice-in-Bytes c =
    let e : c.args.index * c.args.size + c.args.size - c.args.index * c.args.size ≡ c.args.size = omega arith in
    rw (c.in-Bytes.is, c.in_ok-slice-in-Bytes.ensures.ok, held_at-cut _ _ _ _ c.requires.within, e) refl
