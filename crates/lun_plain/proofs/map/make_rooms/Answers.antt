use Rattle.lun_plain.proofs.Rooms.{rooms-kept, rooms-more}
use Rattle.lun_plain.proofs.map.make_rooms.Goals as goal

pub returns-in_err-make_room-clause-others : goal.returns-in_err-make_room-clause-others
returns-in_err-make_room-clause-others c =
    (rooms-kept _ _ c.make_room.new.map.entries c.args.blocks.now c.loop-block.block-index c.loop-block-test.true c.loop-block.invariant
    (record { same = c.in_err-make_room.ensures.same; others = c.in_err-make_room.ensures.others; kept = c.in_err-make_room.ensures.kept })).others

pub loop-block-preserved : goal.loop-block-preserved
loop-block-preserved c =
    rooms-more _ _ c.make_room.new.map.entries c.args.blocks.now c.loop-block.block-index c.loop-block-test.true c.loop-block.invariant
    (record { same = c.in_ok-make_room.ensures.same; others = c.in_ok-make_room.ensures.others; kept = c.in_ok-make_room.ensures.kept })
    c.in_ok-make_room.ensures.room
