use Rattle.std.proofs.Common.{◌∙◌, ap, sym, length, arith}
use Rattle.cm_history.specs.declared.act.Act.{Act}
use Rattle.cm_history.specs.Operations.{list_of}
use Rattle.lba_ranges.specs.HeldBlocks.{HeldBlocks}
use Rattle.lba_ranges.specs.Denoted.{blocks_of}
use Rattle.lba_ranges.proofs.PublicLaws.{length-blocks_of}
use Rattle.plain_model.proofs.OneByOne.{length-paired, list-few}
use Rattle.plain_model.proofs.operations.PlainOperation.blocks.Goals as goal

pub returns-in-Start-clause-blocks : goal.returns-in-Start-clause-blocks
returns-in-Start-clause-blocks c =
    let paired = length-paired (blocks_of c.in-Start.ranges) c.in-Start.rod.items in
    let all = length-blocks_of c.in-Start.ranges in
    let total = c.total.ensures.total in
    let same = ap (λ (list : HeldBlocks). length list.items) c.list.ensures in
    let count = c.blocks-in-Start.ensures.count in
    let least = c.min.ensures in
    let act = ap (λ (a : Act). length (list_of a)) (sym c.act.ensures.act ∙ c.in-Start.is) in
    omega (arith, paired, all, total, count, same, least, act)

pub returns-in-Start-clause-few : goal.returns-in-Start-clause-few
returns-in-Start-clause-few c =
    let few = list-few c.act.result.now c.act.ensures.sound in
    let paired = length-paired (blocks_of c.in-Start.ranges) c.in-Start.rod.items in
    let all = length-blocks_of c.in-Start.ranges in
    let total = c.total.ensures.total in
    let same = ap (λ (list : HeldBlocks). length list.items) c.list.ensures in
    let count = c.blocks-in-Start.ensures.count in
    let least = c.min.ensures in
    let act = ap (λ (a : Act). length (list_of a)) c.in-Start.is in
    omega (arith, paired, all, total, count, same, least, act, few)
