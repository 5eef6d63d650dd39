use Rattle.std.proofs.Common.{◌≡◌, ◌++◌, ◌∙◌, ap, sym}
use Rattle.std.specs.Prelude.{OnOk}
use Rattle.std.proofs.lemmas.Result.{IfOk-equal}
use Rattle.lba_ranges.proofs.Cells.{bytes_of-holes, bytes_of-cut}
use Rattle.lba_ranges.proofs.fill.Piece.read_into.Goals as goal

pub returns-in-Hole-clause-ok : goal.returns-in-Hole-clause-ok
returns-in-Hole-clause-ok c =
    rw c.in-Hole.is (IfOk-equal c.extend_zeros.result _ _ _ c.extend_zeros.ensures.ok
    (ap (λ l. c.args.into.now ++ l) (sym (bytes_of-holes c.args.size c.args.self.now.count))))

pub returns-in-Bytes-clause-ok : goal.returns-in-Bytes-clause-ok
returns-in-Bytes-clause-ok c =
    let all = bytes_of-cut c.args.size c.args.self.now.count c.in-Bytes.bytes (rw c.in-Bytes.is at c.requires) in
    let added : OnOk c.extend.result (c.extend.new.self ≡ c.args.into.now ++ c.as_slice.result.now) = c.extend.ensures.ok in
    rw c.in-Bytes.is (IfOk-equal c.extend.result _ _ _ added (ap (λ l. c.args.into.now ++ l) (c.as_slice.ensures ∙ sym all)))
