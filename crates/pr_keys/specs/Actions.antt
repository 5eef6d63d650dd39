-- What each service action of PERSISTENT RESERVE OUT does (own profile, after SPC-4): the first refusal that holds, or its effect
use Rattle.std.specs.Prelude.{◌≡◌, ℕ, ◌+◌, ◌%◌, ◌^◌, ◌<◌, List, [], ◌∷◌, ◌++◌, map, filter, length, Option, Some, None, unwrap_or, Result, Ok, Err, IsOkAnd, Bool, true, false, not, ◌==◌, ◌&&◌, ◌||◌, nat_le, if◌then◌else◌}
use Rattle.std.specs.Option.{option_map_or}
use Rattle.std.specs.List.{list_any}
use Rattle.scsi_sense.specs.Codes.{invalid_field_in_cdb, invalid_field_in_parameter_list, insufficient_resources}
use Rattle.cm_base.specs.declared.reservations.ReservationAction.{ReservationAction}
use Rattle.cm_base.specs.declared.reservations.ReservationAction.TheVariants.{Register, Reserve, Release, Clear, Preempt, RegisterAndIgnoreExistingKey}
use Rattle.pr_keys.specs.declared.kind.ReservationType.{ReservationType}
use Rattle.pr_keys.specs.declared.refused.PrRefused.{PrRefused}
use Rattle.pr_keys.specs.declared.refused.Refusal.{Refusal}
use Rattle.pr_keys.specs.declared.refused.Refusal.TheVariants.{Conflict, Refused}
use Rattle.pr_keys.specs.declared.registrants.Registrant.{Registrant}
use Rattle.pr_keys.specs.declared.state.Reservation.{Reservation}
use Rattle.cm_base.specs.ReservationActions.{action_of}
use Rattle.pr_keys.specs.Types.{type_of, type_code}
use Rattle.pr_keys.specs.Reservations.{Reservations, key_of, is_registered, is_held_by}

-- so many nexuses are registered at most
abbrev pub most_registrants : ℕ
most_registrants = 64

-- ---- what an action asks of the nexus

-- the nexus is registered with this key
abbrev pub is_known : Reservations → ℕ → ℕ → Bool
is_known s nexus key = option_map_or (λ own. own == key) (key_of nexus s.registrants) false

-- the type that is asked for; the one scope is the logical unit, 0
abbrev pub asked_type : ℕ → ℕ → Option ReservationType
asked_type scope kind = if scope == 0 then type_of kind else None

-- ---- the effects

-- the generation after one more action
abbrev pub next_generation : ℕ → ℕ
next_generation generation = (generation + 1) % 2 ^ 32

-- the registrant is not the nexus
abbrev pub is_other : ℕ → Registrant → Bool
is_other nexus r = not (r.nexus == nexus)

-- the nexus is registered no more, and its reservation ends
abbrev pub without_registrant : Reservations → ℕ → Reservations
without_registrant s nexus = record {
  registrants = filter (is_other nexus) s.registrants;
  reservation = if is_held_by nexus s.reservation then None else s.reservation;
  generation = next_generation s.generation;
}

-- the registrant, which has another key where it is the nexus
abbrev pub rekey : ℕ → ℕ → Registrant → Registrant
rekey nexus key r = if r.nexus == nexus then record r { key = key } else r

-- the nexus has another key
abbrev pub rekeyed : Reservations → ℕ → ℕ → Reservations
rekeyed s nexus key = record s {
  registrants = map (rekey nexus key) s.registrants;
  generation = next_generation s.generation;
}

-- one more nexus is registered
abbrev pub with_registrant : Reservations → ℕ → ℕ → Reservations
with_registrant s nexus key = record s { registrants = s.registrants ++ record { nexus = nexus; key = key } ∷ []; generation = next_generation s.generation }

-- ---- the actions

-- REGISTER AND IGNORE EXISTING KEY: key 0 ends the registration
abbrev pub registered : Reservations → ℕ → ℕ → Result Reservations Refusal
registered s nexus action_key =
    if action_key == 0 then Ok (without_registrant s nexus) else
    if is_registered s nexus then Ok (rekeyed s nexus action_key) else
    if nat_le most_registrants (length s.registrants) then Err (Refused insufficient_resources) else
    Ok (with_registrant s nexus action_key)

-- REGISTER: a nexus that is not registered has key 0
abbrev pub registered_by_key : Reservations → ℕ → ℕ → ℕ → Result Reservations Refusal
registered_by_key s nexus key action_key =
    if not (unwrap_or (key_of nexus s.registrants) 0 == key) then Err Conflict else registered s nexus action_key

-- there is no other reservation than this
abbrev pub is_free_for : Reservation → Option Reservation → Bool
is_free_for mine None = true
is_free_for mine (Some r) = (r.nexus == mine.nexus) && (type_code r.kind == type_code mine.kind)

-- RESERVE
abbrev pub with_reservation : Reservations → ℕ → ℕ → Option ReservationType → Result Reservations Refusal
with_reservation s nexus key None = Err (Refused invalid_field_in_cdb)
with_reservation s nexus key (Some kind) =
    if not (is_known s nexus key) then Err Conflict else
    if not (is_free_for (record { kind = kind; nexus = nexus }) s.reservation) then Err Conflict else
    Ok (record s { reservation = Some (record { kind = kind; nexus = nexus }) })

-- the nexus gives up the reservation of this type, if it holds one
abbrev pub released_from : Reservations → ℕ → ReservationType → Option Reservation → Result Reservations Refusal
released_from s nexus kind None = Ok s
released_from s nexus kind (Some r) =
    if not (r.nexus == nexus) then Ok s else
    if not (type_code r.kind == type_code kind) then Err (Refused invalid_field_in_cdb) else
    Ok (record s { reservation = None })

-- RELEASE
abbrev pub released : Reservations → ℕ → ℕ → Option ReservationType → Result Reservations Refusal
released s nexus key None = Err (Refused invalid_field_in_cdb)
released s nexus key (Some kind) = if not (is_known s nexus key) then Err Conflict else released_from s nexus kind s.reservation

-- CLEAR
abbrev pub cleared : Reservations → ℕ → ℕ → Result Reservations Refusal
cleared s nexus key =
    if not (is_known s nexus key) then Err Conflict else
    Ok (record { registrants = []; reservation = None; generation = next_generation s.generation })

-- the key of the reservation holder
abbrev pub held_by_key : List Registrant → Option Reservation → ℕ → Bool
held_by_key registrants None key = false
held_by_key registrants (Some r) key = option_map_or (λ own. own == key) (key_of r.nexus registrants) false

-- the registrant is the nexus, or has another key
abbrev pub stays : ℕ → ℕ → Registrant → Bool
stays nexus key r = (r.nexus == nexus) || not (r.key == key)

-- the registrations of others with this key end, and the reservation of such a key goes to the nexus
abbrev pub preempted_by : Reservations → ℕ → ReservationType → ℕ → Reservations
preempted_by s nexus kind action_key = record {
  registrants = filter (stays nexus action_key) s.registrants;
  reservation = if held_by_key s.registrants s.reservation action_key then Some (record { kind = kind; nexus = nexus }) else s.reservation;
  generation = next_generation s.generation;
}

-- PREEMPT
abbrev pub preempted : Reservations → ℕ → ℕ → ℕ → Option ReservationType → Result Reservations Refusal
preempted s nexus key action_key None = Err (Refused invalid_field_in_cdb)
preempted s nexus key action_key (Some kind) =
    if not (is_known s nexus key) then Err Conflict else
    if action_key == 0 then Err (Refused invalid_field_in_parameter_list) else
    if not (list_any (λ (r : Registrant). r.key == action_key) s.registrants) then Err Conflict else
    Ok (preempted_by s nexus kind action_key)

-- the action of this code
abbrev pub done_as : Reservations → ℕ → Option ReservationAction → Option ReservationType → ℕ → ℕ → Result Reservations Refusal
done_as s nexus None kind key action_key = Err (Refused invalid_field_in_cdb)
done_as s nexus (Some Register) kind key action_key = registered_by_key s nexus key action_key
done_as s nexus (Some RegisterAndIgnoreExistingKey) kind key action_key = registered s nexus action_key
done_as s nexus (Some Reserve) kind key action_key = with_reservation s nexus key kind
done_as s nexus (Some Release) kind key action_key = released s nexus key kind
done_as s nexus (Some Clear) kind key action_key = cleared s nexus key
done_as s nexus (Some Preempt) kind key action_key = preempted s nexus key action_key kind

-- what a PERSISTENT RESERVE OUT leaves, or why it is refused
abbrev pub applied : Reservations → ℕ → ℕ → ℕ → ℕ → ℕ → ℕ → Result Reservations Refusal
applied s nexus action scope kind key action_key = done_as s nexus (action_of action) (asked_type scope kind) key action_key

-- the call tells the refusal; it wants memory only to register one more nexus
abbrev pub Tells : PrRefused → Reservations → Result Reservations Refusal → Type 0
Tells PrRefused.Conflict s outcome = outcome ≡ Err Conflict
Tells (PrRefused.Refused sense) s outcome = outcome ≡ Err (Refused sense)
Tells PrRefused.OutOfMemory s outcome = IsOkAnd outcome (λ after. length s.registrants < length after.registrants)
