use Rattle.std.proofs.Common.{◌≡◌, ◌^◌, length, ap, sym, ◌∙◌, arith}
use Rattle.std.specs.Prelude.{true}
use Rattle.lba_ranges.specs.Denoted.{blocks_of, is_within}
use Rattle.lba_ranges.proofs.PublicLaws.{within-more, length-blocks_of, blocks_of-below}
use Rattle.lun_plain.specs.Plain.{Plain}
use Rattle.lun_plain.proofs.PlainLemmas.{undone, put_over, plain-put}
use Rattle.lun_plain.proofs.unit.PlainUnitBlocks.put.Goals as goal

pub blocks-requires : goal.blocks-requires
blocks-requires c =
    let within : is_within c.self.inside.blocks c.args.ranges.now ≡ true = ap (λ (v : Plain). is_within v.blocks c.args.ranges.now) c.self.view_is ∙ c.requires.within in
    within-more c.self.inside.blocks (2 ^ 64) c.args.ranges.now (omega arith) within

pub returns-in-Err-clause-err : goal.returns-in-Err-clause-err
returns-in-Err-clause-err c =
    let same : c.deref-in-Err.result.now ≡ c.deref.result.now = c.deref-in-Err.ensures.value ∙ sym c.deref.ensures.value in
    let others = rw (← same) at c.in-Err.ensures.others in
    rw (← c.self.view_is)
    (undone _ _ c.self.inside.held.entries c.make_rooms.new.map.entries c.drop_rooms.new.map.entries c.deref-in-Err.result.now c.self.invariant
    c.in-Err.ensures.same others c.drop_rooms.ensures)

pub set_all-requires-clause-room : goal.set_all-requires-clause-room
set_all-requires-clause-room c =
    let same : c.deref-2.result.now ≡ c.deref.result.now = c.deref-2.ensures.value ∙ sym c.deref.ensures.value in
    rw same c.in_default.ensures.room

pub set_all-requires-clause-total : goal.set_all-requires-clause-total
set_all-requires-clause-total c =
    ap length (c.deref-2.ensures.value ∙ c.in_ok-blocks.ensures) ∙ length-blocks_of c.args.ranges.now ∙ c.requires.total ∙ sym (ap length c.in_ok-items.ensures.items)

pub invariant_of-self-2 : goal.invariant_of-self-2
invariant_of-self-2 c =
    let within : is_within c.self.inside.blocks c.args.ranges.now ≡ true = ap (λ (v : Plain). is_within v.blocks c.args.ranges.now) c.self.view_is ∙ c.requires.within in
    let bs : c.deref-2.result.now ≡ blocks_of c.args.ranges.now = c.deref-2.ensures.value ∙ c.in_ok-blocks.ensures in
    let same : c.deref.result.now ≡ c.deref-2.result.now = c.deref.ensures.value ∙ sym c.deref-2.ensures.value in
    let others = rw same at c.in_default.ensures.others in
    let size : c.args.list.now.block_length ≡ c.self.inside.block_length = c.requires.size ∙ sym (ap (λ (v : Plain). v.block_length) c.self.view_is) in
    let total : length c.deref-2.result.now ≡ length c.in_ok-items.items.items =
    ap length bs ∙ length-blocks_of c.args.ranges.now ∙ c.requires.total ∙ sym (ap length c.in_ok-items.ensures.items) in
    plain-put c.self.inside.blocks c.self.inside.block_length c.deref-2.result.now c.in_ok-items.items.items c.self.inside.held.entries c.set_all.new.map.entries
    (rw bs (blocks_of-below c.self.inside.blocks c.args.ranges.now within)) (rw (← size) c.in_ok-items.ensures.sized) c.self.invariant
    (put_over c.deref-2.result.now c.in_ok-items.items.items c.self.inside.held.entries c.make_rooms.new.map.entries c.set_all.new.map.entries total others c.set_all.ensures)

pub returns-clause-put : goal.returns-clause-put
returns-clause-put c =
    let bs : c.deref-2.result.now ≡ blocks_of c.args.ranges.now = c.deref-2.ensures.value ∙ c.in_ok-blocks.ensures in
    let same : c.deref.result.now ≡ c.deref-2.result.now = c.deref.ensures.value ∙ sym c.deref-2.ensures.value in
    let others = rw same at c.in_default.ensures.others in
    let total : length c.deref-2.result.now ≡ length c.in_ok-items.items.items =
    ap length bs ∙ length-blocks_of c.args.ranges.now ∙ c.requires.total ∙ sym (ap length c.in_ok-items.ensures.items) in
    rw (← c.self.view_is, ← bs, ← c.in_ok-items.ensures.items)
    (put_over c.deref-2.result.now c.in_ok-items.items.items c.self.inside.held.entries c.make_rooms.new.map.entries c.set_all.new.map.entries total others c.set_all.ensures)
