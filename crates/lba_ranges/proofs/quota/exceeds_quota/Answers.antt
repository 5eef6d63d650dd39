use Rattle.std.proofs.Common.{◌≤◌, ◌∙◌, arith}
use Rattle.std.proofs.lemmas.Bool.Decides.{nat_tests}
use Rattle.lba_ranges.specs.Denoted.{blocks_of}
use Rattle.lba_ranges.specs.Writings.{paired, mapped_below, held_with}
use Rattle.lba_ranges.proofs.Rows.{length-blocks_of, blocks_of-below}
use Rattle.lba_ranges.proofs.WritingLemmas.{mapped-put}
use Rattle.lba_ranges.proofs.quota.exceeds_quota.Goals as goal

pub returns-then-mapped-quota-2 : goal.returns-then-mapped-quota-2
returns-then-mapped-quota-2 g c =
    let n = g.B.Blocks.blocks c.args.unit.now in
    let held = g.B.Blocks.holds c.args.unit.now in
    let rs = c.args.ranges.now in
    let items = c.args.list.now.items in
    let put = mapped-put n held (blocks_of rs) items (length-blocks_of rs ∙ c.requires.total) c.requires.apart (blocks_of-below n rs c.requires.within) in
    let few : mapped_below n (held_with held (paired (blocks_of rs) items)) ≤ c.args.quota =
    omega (arith, put, c.mapped-mapped.ensures.mapped, c.mapped.ensures, c.if-mapped-quota.true, c.if-mapped-quota-2.true) in
    grind (arith, nat_tests, few)
