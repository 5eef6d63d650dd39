use Rattle.std.proofs.Common.{◌≡◌, length, take, ap, ◌∙◌, arith, refl}
use Rattle.std.specs.Prelude.{true}
use Rattle.std.proofs.lemmas.List.{length-map, map-append}
use Rattle.lba_ranges.specs.Denoted.{blocks_of, is_within}
use Rattle.lba_ranges.proofs.PublicLaws.{within-at, blocks_of-get, length-blocks_of, total-get}
use Rattle.lun_extents.specs.Extents.{Extents, held_in}
use Rattle.lun_extents.proofs.unit.ExtentUnitBlocks.cut.Goals as goal

pub cut_range-requires-clause-numbers : goal.cut_range-requires-clause-numbers
cut_range-requires-clause-numbers c =
    let within : is_within c.self.inside.blocks c.args.ranges.now ≡ true = ap (λ (v : Extents). is_within v.blocks c.args.ranges.now) c.self.view_is ∙ c.requires in
    let fits = within-at c.self.inside.blocks c.args.ranges.now c.loop-index.index c.at.result within c.at.ensures in
    omega arith

pub cut_range-requires-clause-room : goal.cut_range-requires-clause-room
cut_range-requires-clause-room c =
    let f = held_in c.args.self.now.block_length c.args.self.now.entries in
    let done = blocks_of (take c.loop-index.index c.args.ranges.now) in
    let long : length c.loop-index.list.items ≡ length done = ap length c.loop-index.invariant.1 ∙ length-map done f in
    let few = length-blocks_of (take c.loop-index.index c.args.ranges.now) in
    let all = total-get c.args.ranges.now c.loop-index.index c.at.result c.at.ensures in
    omega (arith, c.total-total.ensures.few, c.total-total.ensures.total)

pub loop-index-preserved : goal.loop-index-preserved
loop-index-preserved c =
    let f = held_in c.args.self.now.block_length c.args.self.now.entries in
    let rs = c.args.ranges.now in
    let i = c.loop-index.index in
    rw (c.in_ok-cut_range.ensures.items, c.cut_range.ensures.size, c.loop-index.invariant.0, c.loop-index.invariant.1, blocks_of-get rs i c.at.result c.at.ensures, map-append f (blocks_of (take i rs))) (refl, refl)
