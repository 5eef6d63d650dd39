-- The service actions of PERSISTENT RESERVE OUT (SPC-4)
use Rattle.std.specs.Prelude.{ℕ, Option, Some, None, ◌==◌, if◌then◌else◌}
use Rattle.cm_base.specs.declared.reservations.ReservationAction.{ReservationAction}
use Rattle.cm_base.specs.declared.reservations.ReservationAction.TheVariants.{Register, Reserve, Release, Clear, Preempt, RegisterAndIgnoreExistingKey}

-- the action of a code
abbrev pub action_of : ℕ → Option ReservationAction
action_of code =
    if code == 0x00 then Some Register else
    if code == 0x01 then Some Reserve else
    if code == 0x02 then Some Release else
    if code == 0x03 then Some Clear else
    if code == 0x04 then Some Preempt else
    if code == 0x06 then Some RegisterAndIgnoreExistingKey else
    None

-- the code of an action
abbrev pub action_code : ReservationAction → ℕ
action_code Register = 0x00
action_code Reserve = 0x01
action_code Release = 0x02
action_code Clear = 0x03
action_code Preempt = 0x04
action_code RegisterAndIgnoreExistingKey = 0x06
