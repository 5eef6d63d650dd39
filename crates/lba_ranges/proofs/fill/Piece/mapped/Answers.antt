use Rattle.std.proofs.Common.{sym}
use Rattle.lba_ranges.proofs.Cells.{count-holes, count-cut}
use Rattle.lba_ranges.proofs.fill.Piece.mapped.Goals as goal

pub returns-in-Hole : goal.returns-in-Hole
returns-in-Hole c size = rw c.in-Hole.is (sym (count-holes c.args.self.now.count))

pub returns-in-Bytes : goal.returns-in-Bytes
returns-in-Bytes c size = rw c.in-Bytes.is (sym (count-cut size c.args.self.now.count c.in-Bytes.field-0))
