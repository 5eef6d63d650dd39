-- A unit with its recorder may be sent to another thread, where the recorder may
use denote.RattleType.{RattleType}
use denote.Param.Send.{IsSend, sendable, view_send, recorded_send, struct_send}
use denote.Struct.Declared as Declared
use Rattle.std.proofs.Crossing as Crossing
use Rattle.lun_versions.proofs.unit.Pin.TheSendSync as pin
use Rattle.lun_versions.proofs.unit.VersionUnit.TheSendSync as versions
use Rattle.recorder.specs.declared.Recorder.{Ghosts}
use Rattle.unit_core.proofs.unit.UnitOver.TheSendSync as unit
use Rattle.unit_gate.specs.contracts.recorded_unit.RecordedUnit.{the_row}
use Rattle.unit_gate.specs.contracts.recorded_unit.RecordedUnit.TheInside as TheInside

inside-sent : (R : RattleType) (g : Ghosts R.Denot) → IsSend R → IsSend (TheInside.the_row R g)
inside-sent R g sent =
    recorded_send (TheInside.the_field R g).row _ _ (TheInside.the_type R g).to_one
    (struct_send (Declared.shape (TheInside.the_type R g)) (search (unit.the_send, versions.the_send, pin.the_send, sendable) depth 60 fits 20000, (sent, (search (Crossing.crosses, sendable) depth 60 fits 20000, (search sendable depth 60 fits 20000, (search sendable depth 60 fits 20000, tt))))))

pub recorded-sent : (R : RattleType) (g : Ghosts R.Denot) → IsSend R → IsSend (the_row R g)
recorded-sent R g sent = let inside = inside-sent R g sent in search (inside, view_send)
