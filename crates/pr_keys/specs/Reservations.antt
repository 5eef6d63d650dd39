-- The persistent reservations of a unit (own profile, after SPC-4), and what they bar
use Rattle.std.specs.Prelude.{ℕ, List, [], map, find, Option, Some, None, is_some, Bool, true, false, ◌==◌, ◌&&◌, not}
use Rattle.std.specs.Option.{option_map}
use Rattle.cm_base.specs.declared.reservations.Holder.{Holder}
use Rattle.pr_keys.specs.declared.registrants.Registrant.{Registrant}
use Rattle.pr_keys.specs.declared.state.Reservation.{Reservation}
use Rattle.pr_keys.specs.declared.kind.ReservationType.{ReservationType}
use Rattle.pr_keys.specs.declared.kind.ReservationType.TheVariants.{WriteExclusive, ExclusiveAccess, WriteExclusiveRegistrantsOnly, ExclusiveAccessRegistrantsOnly}
use Rattle.pr_keys.specs.Types.{type_code}

-- the registrations of a unit, its persistent reservation, and how often they changed (SPC-4)
pub record Reservations : Type 0 where
  -- in the order of registering
  pub registrants : List Registrant
  pub reservation : Option Reservation
  -- PRGENERATION
  pub generation : ℕ

-- nobody is registered
abbrev pub unreserved : Reservations
unreserved = record { registrants = []; reservation = None; generation = 0 }

-- the key under which the nexus is registered
abbrev pub key_of : ℕ → List Registrant → Option ℕ
key_of nexus registrants = option_map (λ (r : Registrant). r.key) (find (λ (r : Registrant). r.nexus == nexus) registrants)

-- the nexus is registered
abbrev pub is_registered : Reservations → ℕ → Bool
is_registered s nexus = is_some (key_of nexus s.registrants)

-- the nexus holds the reservation
abbrev pub is_held_by : ℕ → Option Reservation → Bool
is_held_by nexus None = false
is_held_by nexus (Some r) = r.nexus == nexus

-- ---- what is told

-- READ KEYS
abbrev pub keys_of : Reservations → List ℕ
keys_of s = map (λ (r : Registrant). r.key) s.registrants

-- READ RESERVATION: the key that the holder has now
abbrev pub holder_in : List Registrant → Option Reservation → Option Holder
holder_in registrants None = None
holder_in registrants (Some r) = option_map (λ key. record { key = key; kind = type_code r.kind }) (key_of r.nexus registrants)

-- the reservation holder, as READ RESERVATION tells it
abbrev pub holder_of : Reservations → Option Holder
holder_of s = holder_in s.registrants s.reservation

-- ---- what is barred

-- a reservation of this type bars a nexus that does not hold it
abbrev pub bars : ReservationType → Bool → Bool → Bool
bars WriteExclusive writes is_registered = writes
bars ExclusiveAccess writes is_registered = true
bars WriteExclusiveRegistrantsOnly writes is_registered = writes && not is_registered
bars ExclusiveAccessRegistrantsOnly writes is_registered = not is_registered

-- the reservation bars a nexus that reads or writes, registered or not
abbrev pub is_barred_by : Option Reservation → ℕ → Bool → Bool → Bool
is_barred_by None nexus writes is_registered = false
is_barred_by (Some r) nexus writes is_registered = not (r.nexus == nexus) && bars r.kind writes is_registered

-- the nexus may not read the unit, or not write it
abbrev pub is_barred : Reservations → ℕ → Bool → Bool
is_barred s nexus writes = is_barred_by s.reservation nexus writes (is_registered s nexus)
