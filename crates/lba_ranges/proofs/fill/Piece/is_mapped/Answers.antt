use Rattle.std.proofs.Common.{sym}
use Rattle.lba_ranges.proofs.Cells.{mapped-cut}
use Rattle.lba_ranges.proofs.fill.Piece.is_mapped.Goals as goal

pub returns-in-Bytes : goal.returns-in-Bytes
returns-in-Bytes c = rw c.in-Bytes.is (sym (mapped-cut c.args.size c.args.self.now.count c.in-Bytes.field-0))
