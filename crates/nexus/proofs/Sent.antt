-- A pass may be sent to another thread, and a world may be shared among threads, where the recorders may be sent
use denote.RattleType.{RattleType}
use denote.Param.Send.{IsSend, IsSync, sendable, view_send, view_sync, recorded_send, recorded_sync, struct_send, struct_sync}
use denote.Struct.Declared as Declared
use Rattle.std.proofs.Crossing as Crossing
use Rattle.cm_history.proofs.act.Actor.TheSendSync as actor
use Rattle.merged_history.proofs.register.PassSeat.TheSendSync as slip
use Rattle.merged_history.proofs.register.Register.TheSendSync as register
use Rattle.recorder.specs.declared.Recorder.{Ghosts}
use Rattle.turn_gate.proofs.gate.Gate.TheSendSync as gate
use Rattle.turn_gate.proofs.gate.GateSeat.TheSendSync as seat
use Rattle.cm_history.specs.contracts.act.Entry as Entry
use Rattle.turn_gate.specs.contracts.gate.GateSeat as GateSeat
use Rattle.unit_gate.specs.contracts.kin.UnitKin as UnitKin
use Rattle.unit_gate.specs.contracts.recorded_unit.RecordedUnit as RecordedUnit
use Rattle.unit_gate.specs.contracts.recorded_unit.RecordedUnitGated.TheImpl as RecordedUnitGated
use Rattle.unit_gate.proofs.PublicLaws.{recorded-sent}
use Rattle.nexus.specs.contracts.pass.Pass as Pass
use Rattle.nexus.specs.contracts.pass.Pass.TheInside as PassInside
use Rattle.nexus.specs.contracts.world.World as World
use Rattle.nexus.specs.contracts.world.World.TheInside as WorldInside

-- a seat at the gate of a unit
seat-sent : (R : RattleType) (g : Ghosts R.Denot) → IsSend R
    → IsSend (GateSeat.the_row (RecordedUnit.the_row R g) Entry.the_row UnitKin.the_row (RecordedUnitGated.ghosts R g RecordedUnitGated.no_dict RecordedUnitGated.no_dict))
seat-sent R g sent = let recorded = recorded-sent R g sent in search (recorded, seat.the_send, sendable) depth 60 fits 20000

pass-inside : (R : RattleType) (g : Ghosts R.Denot) → IsSend R → IsSend (PassInside.the_row R g)
pass-inside R g sent =
    let seats = seat-sent R g sent in
    recorded_send (PassInside.the_field R g).row _ _ (PassInside.the_type R g).to_one
    (struct_send (Declared.shape (PassInside.the_type R g)) (search (slip.the_send, sendable) depth 60 fits 20000, (search (actor.the_send, actor.the_field_send, sendable) depth 60 fits 20000, (search sendable, (search sendable, (search (seats, Crossing.crosses, sendable) depth 60 fits 20000, tt))))))

pub pass-sent : (R : RattleType) (g : Ghosts R.Denot) → IsSend R → IsSend (Pass.the_row R g)
pass-sent R g sent = let inside = pass-inside R g sent in search (inside, view_send)

world-inside : (R : RattleType) (g : Ghosts R.Denot) → IsSend R → IsSync (WorldInside.the_row R g)
world-inside R g sent =
    let recorded = recorded-sent R g sent in
    recorded_sync (WorldInside.the_field R g).row _ _ (WorldInside.the_type R g).to_one
    (struct_sync (Declared.shape (WorldInside.the_type R g)) (search (recorded, gate.the_sync, Crossing.crosses, sendable) depth 60 fits 20000, (search (register.the_sync, sendable) depth 60 fits 20000, tt)))

pub world-shared : (R : RattleType) (g : Ghosts R.Denot) → IsSend R → IsSync (World.the_row R g)
world-shared R g sent = let inside = world-inside R g sent in search (inside, view_sync)
