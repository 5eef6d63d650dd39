use Rattle.lun_plain.proofs.Rooms.{HasRooms}
use Rattle.lun_plain.proofs.map.make_rooms.Given as goal

abbrev pub invariant-loop-block : goal.invariant-loop-block
invariant-loop-block l = HasRooms l.initial.map.entries l.map.entries l.blocks l.block-index
