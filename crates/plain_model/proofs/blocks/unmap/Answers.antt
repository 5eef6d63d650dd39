use Rattle.std.proofs.Common.{◌≡◌, ◌∙◌, ◌^◌, sym, arith, rules, true}
use Rattle.lba_ranges.specs.Denoted.{is_within}
use Rattle.lba_ranges.proofs.PublicLaws.{within-more}
use Rattle.plain_model.proofs.blocks.unmap.Goals as goal

pub unmapped-requires : goal.unmapped-requires
unmapped-requires c =
    let near : is_within c.args.unit.blocks c.args.ranges.now ≡ true = sym c.within.ensures ∙ c.if-not-within.false in
    let far : is_within (2 ^ 64) c.args.ranges.now ≡ true = within-more c.args.unit.blocks (2 ^ 64) c.args.ranges.now (omega arith) near in
    search rules
