use Rattle.lun_plain.proofs.PlainLemmas.{count_mapped}
use Rattle.lun_plain.proofs.unit.PlainUnitBlocks.mapped.Goals as goal

pub returns-clause-mapped : goal.returns-clause-mapped
returns-clause-mapped c =
    rw (c.len.ensures.len, ← c.self.view_is)
    (count_mapped c.self.inside.blocks c.self.inside.block_length c.self.inside.held.entries c.len.ensures.ordered c.self.invariant)
