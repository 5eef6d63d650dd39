use Rattle.std.proofs.Common.{◌≡◌, ◌∙◌, ap, sym, subst, arith}
use Rattle.std.specs.Prelude.{Some, IfSome}
use Rattle.lba_ranges.specs.declared.ranges.Range.{Range}
use Rattle.lba_ranges.specs.Denoted.{row}
use Rattle.lba_ranges.specs.Writings.{mapped_among}
use Rattle.lun_extents.specs.declared.runs.Filling.{Filling}
use Rattle.lun_extents.specs.Extents.{held_in}
use Rattle.lun_extents.proofs.Clear.{clear-unmapped}
use Rattle.lun_extents.proofs.unit.ExtentUnit.put_in_clear.Goals as goal

pub set_alone-requires-clause-before : goal.set_alone-requires-clause-before
set_alone-requires-clause-before c =
    let r = c.in-Some.run' in
    let is : r.range ≡ c.args.range = subst (λ found. IfSome found (λ (run : Filling). run.range ≡ c.args.range)) c.in-Some.is c.in_ok-run.ensures.range in
    clear-unmapped c.args.self.now.entries c.args.self.now.block_length c.args.range.lba c.args.range.count c.args.range.count c.requires.clear (omega arith)
    ∙ ap (λ (x : Range). mapped_among (held_in c.args.self.now.block_length c.args.self.now.entries) (row x.lba x.count)) (sym is)
