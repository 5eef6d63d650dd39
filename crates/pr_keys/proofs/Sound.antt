-- Each action leaves the reservations of a unit sound
use Rattle.std.proofs.Common.{◌≡◌, ℕ, ◌<◌, List, [], ◌∷◌, length, refl, ap, sym, ◌∙◌, arith, true, false, Bool}
use Rattle.std.specs.Prelude.{Option, Some, None, Ok, Err, IfOk, IfSome, is_some, unwrap_or, ◌==◌, ◌||◌, not, filter, nat_le, if◌then◌else◌}
use Rattle.std.specs.Option.{option_map, option_map_or}
use Rattle.std.specs.List.{list_any}
use Rattle.std.proofs.lemmas.Bool.Decides.{nat_tests}
use Rattle.std.proofs.lemmas.List.{length-map, length-append}
use Rattle.scsi_sense.specs.Codes.{insufficient_resources, invalid_field_in_cdb, invalid_field_in_parameter_list}
use Rattle.cm_base.specs.declared.reservations.ReservationAction.{ReservationAction}
use Rattle.cm_base.specs.declared.reservations.ReservationAction.TheVariants.{Register, Reserve, Release, Clear, Preempt, RegisterAndIgnoreExistingKey}
use Rattle.cm_base.specs.ReservationActions.{action_of}
use Rattle.pr_keys.specs.declared.kind.ReservationType.{ReservationType}
use Rattle.pr_keys.specs.declared.registrants.Registrant.{Registrant}
use Rattle.pr_keys.specs.declared.state.Reservation.{Reservation}
use Rattle.pr_keys.specs.Types.{type_code}
use Rattle.pr_keys.specs.Reservations.{Reservations, unreserved, key_of, is_registered, is_held_by}
use Rattle.pr_keys.specs.declared.refused.Refusal.TheVariants.{Conflict, Refused}
use Rattle.pr_keys.specs.Actions.{most_registrants, is_known, asked_type, next_generation, rekey, is_other, stays, without_registrant, rekeyed, with_registrant, registered, is_free_for, with_reservation, released_from, released, cleared, held_by_key, preempted_by, preempted, done_as}
use Rattle.pr_keys.specs.Sound.{AreSound, SoundLaw}
use Rattle.pr_keys.proofs.Registered.{few-filter, all-filter, apart-filter, still-filter, found-nexus, some-rekey, apart-rekey, keyed-rekey, some-push, apart-push, keyed-push}

pub unreserved-sound : AreSound unreserved
unreserved-sound = record { few = omega arith; apart = tt; keyed = refl; held = tt }

abbrev Holds : List Registrant → Option Reservation → Type 0
Holds rs o = IfSome o (λ r. is_some (key_of r.nexus rs) ≡ true)

-- ---- registrations

without-sound : (s : Reservations) (nexus : ℕ) → AreSound s → AreSound (without_registrant s nexus)
without-sound s nexus is = record {
  few = let less = few-filter (is_other nexus) s.registrants in omega (arith, is.few);
  apart = apart-filter (is_other nexus) s.registrants is.apart;
  keyed = all-filter (is_other nexus) _ s.registrants is.keyed;
  held = held s.reservation is.held;
}
  where
    kept : (r : Reservation) → (t : Bool) → (r.nexus == nexus) ≡ t → is_some (key_of r.nexus s.registrants) ≡ true
        → Holds (filter (is_other nexus) s.registrants) (if t then None else Some r)
    kept r true e there = tt
    kept r false e there =
        still-filter (is_other nexus) r.nexus s.registrants there (λ x found. rw (found-nexus r.nexus s.registrants x found, e) refl)

    held : (o : Option Reservation) → Holds s.registrants o → Holds (filter (is_other nexus) s.registrants) (if is_held_by nexus o then None else o)
    held None h = tt
    held (Some r) h = kept r (r.nexus == nexus) refl h

rekeyed-sound : (s : Reservations) (nexus key : ℕ) → (key == 0) ≡ false → AreSound s → AreSound (rekeyed s nexus key)
rekeyed-sound s nexus key new is = record {
  few = omega (arith, is.few, length-map s.registrants (rekey nexus key));
  apart = apart-rekey nexus key s.registrants is.apart;
  keyed = keyed-rekey nexus key s.registrants new is.keyed;
  held = held s.reservation is.held;
}
  where
    held : (o : Option Reservation) → Holds s.registrants o → Holds (rekeyed s nexus key).registrants o
    held None h = tt
    held (Some r) h = some-rekey nexus key r.nexus s.registrants ∙ h

with-sound : (s : Reservations) (nexus key : ℕ) → (key == 0) ≡ false → is_registered s nexus ≡ false → length s.registrants < most_registrants → AreSound s → AreSound (with_registrant s nexus key)
with-sound s nexus key new none few is = record {
  few = omega (arith, few, length-append s.registrants (record { nexus = nexus; key = key } ∷ []));
  apart = apart-push s.registrants (record { nexus = nexus; key = key }) is.apart (none-is (key_of nexus s.registrants) none);
  keyed = keyed-push s.registrants (record { nexus = nexus; key = key }) is.keyed new;
  held = held s.reservation is.held;
}
  where
    none-is : (o : Option ℕ) → is_some o ≡ false → o ≡ None
    none-is None e = refl
    none-is (Some k) e = cc

    held : (o : Option Reservation) → Holds s.registrants o → Holds (with_registrant s nexus key).registrants o
    held None h = tt
    held (Some r) h = some-push r.nexus s.registrants (record { nexus = nexus; key = key }) h

registered-sound : (s : Reservations) (nexus action_key : ℕ) → AreSound s → IfOk (registered s nexus action_key) AreSound
registered-sound s nexus action_key is = go (action_key == 0) refl (is_registered s nexus) refl (nat_le most_registrants (length s.registrants)) refl
  where
    go : (a : Bool) → (action_key == 0) ≡ a → (b : Bool) → is_registered s nexus ≡ b → (c : Bool) → nat_le most_registrants (length s.registrants) ≡ c
        → IfOk (if a then Ok (without_registrant s nexus) else if b then Ok (rekeyed s nexus action_key) else if c then Err (Refused insufficient_resources) else Ok (with_registrant s nexus action_key)) AreSound
    go true k b l c m = without-sound s nexus is
    go false k true l c m = rekeyed-sound s nexus action_key k is
    go false k false l true m = tt
    go false k false l false m = with-sound s nexus action_key k l (grind (arith, nat_tests)) is

-- ---- reservations

known-registered : (s : Reservations) (nexus key : ℕ) → is_known s nexus key ≡ true → is_registered s nexus ≡ true
known-registered s nexus key e = go (key_of nexus s.registrants) e
  where
    go : (o : Option ℕ) → option_map_or (λ own. own == key) o false ≡ true → is_some o ≡ true
    go None f = cc
    go (Some k) f = refl

with-reservation : (s : Reservations) (o : Option Reservation) → AreSound s → Holds s.registrants o → AreSound (record s { reservation = o })
with-reservation s o is held = record { few = is.few; apart = is.apart; keyed = is.keyed; held = held }

reserved-sound : (s : Reservations) (nexus key : ℕ) (o : Option ReservationType) → AreSound s → IfOk (with_reservation s nexus key o) AreSound
reserved-sound s nexus key None is = tt
reserved-sound s nexus key (Some kind) is = go (is_known s nexus key) refl (is_free_for (record { kind = kind; nexus = nexus }) s.reservation)
  where
    go : (a : Bool) → is_known s nexus key ≡ a → (b : Bool)
        → IfOk (if not a then Err Conflict else if not b then Err Conflict else Ok (record s { reservation = Some (record { kind = kind; nexus = nexus }) })) AreSound
    go false k b = tt
    go true k false = tt
    go true k true = with-reservation s (Some (record { kind = kind; nexus = nexus })) is (known-registered s nexus key k)

released-sound : (s : Reservations) (nexus key : ℕ) (o : Option ReservationType) → AreSound s → IfOk (released s nexus key o) AreSound
released-sound s nexus key None is = tt
released-sound s nexus key (Some kind) is = go (is_known s nexus key)
  where
    from : (o : Option Reservation) → IfOk (released_from s nexus kind o) AreSound
    from None = is
    from (Some r) = step (r.nexus == nexus) (type_code r.kind == type_code kind)
      where
        step : (a b : Bool) → IfOk (if not a then Ok s else if not b then Err (Refused invalid_field_in_cdb) else Ok (record s { reservation = None })) AreSound
        step false b = is
        step true false = tt
        step true true = with-reservation s None is tt

    go : (t : Bool) → IfOk (if not t then Err Conflict else released_from s nexus kind s.reservation) AreSound
    go false = tt
    go true = from s.reservation

cleared-sound : (s : Reservations) (nexus key : ℕ) → IfOk (cleared s nexus key) AreSound
cleared-sound s nexus key = go (is_known s nexus key)
  where
    go : (t : Bool) → IfOk (if not t then Err Conflict else Ok (record { registrants = []; reservation = None; generation = next_generation s.generation })) AreSound
    go false = tt
    go true = record { few = omega arith; apart = tt; keyed = refl; held = tt }

-- ---- a holder that is preempted

preempted_by-sound : (s : Reservations) (nexus : ℕ) (kind : ReservationType) (action_key : ℕ) → is_registered s nexus ≡ true → AreSound s → AreSound (preempted_by s nexus kind action_key)
preempted_by-sound s nexus kind action_key mine is = record {
  few = let less = few-filter (stays nexus action_key) s.registrants in omega (arith, is.few);
  apart = apart-filter (stays nexus action_key) s.registrants is.apart;
  keyed = all-filter (stays nexus action_key) _ s.registrants is.keyed;
  held = held s.reservation is.held;
}
  where
    rest : List Registrant
    rest = filter (stays nexus action_key) s.registrants

    own : is_some (key_of nexus (filter (stays nexus action_key) s.registrants)) ≡ true
    own = still-filter (stays nexus action_key) nexus s.registrants mine (λ x found. let same = found-nexus nexus s.registrants x found in let is_mine : (x.nexus == nexus) ≡ true = grind (arith, nat_tests) in rw is_mine refl)

    kept : (r : Reservation) → (t : Bool) → option_map_or (λ k. k == action_key) (key_of r.nexus s.registrants) false ≡ t → is_some (key_of r.nexus s.registrants) ≡ true
        → Holds (filter (stays nexus action_key) s.registrants) (if t then Some (record { kind = kind; nexus = nexus }) else Some r)
    kept r true e there = own
    kept r false e there =
        still-filter (stays nexus action_key) r.nexus s.registrants there (λ x found. or-other (x.nexus == nexus) (x.key == action_key)
        (sym (ap (λ o. option_map_or (λ k. k == action_key) (option_map (λ (y : Registrant). y.key) o) false) found) ∙ e))
      where
        or-other : (a b : Bool) → b ≡ false → (a || not b) ≡ true
        or-other true b f = refl
        or-other false true f = cc
        or-other false false f = refl

    held : (o : Option Reservation) → Holds s.registrants o
        → Holds (filter (stays nexus action_key) s.registrants) (if held_by_key s.registrants o action_key then Some (record { kind = kind; nexus = nexus }) else o)
    held None h = tt
    held (Some r) h = kept r (option_map_or (λ k. k == action_key) (key_of r.nexus s.registrants) false) refl h

preempted-sound : (s : Reservations) (nexus key action_key : ℕ) (o : Option ReservationType) → AreSound s → IfOk (preempted s nexus key action_key o) AreSound
preempted-sound s nexus key action_key None is = tt
preempted-sound s nexus key action_key (Some kind) is = go (is_known s nexus key) refl (action_key == 0) (list_any (λ (r : Registrant). r.key == action_key) s.registrants)
  where
    go : (a : Bool) → is_known s nexus key ≡ a → (b c : Bool)
        → IfOk (if not a then Err Conflict else if b then Err (Refused invalid_field_in_parameter_list) else if not c then Err Conflict else Ok (preempted_by s nexus kind action_key)) AreSound
    go false k b c = tt
    go true k true c = tt
    go true k false false = tt
    go true k false true = preempted_by-sound s nexus kind action_key (known-registered s nexus key k) is

-- ---- each action

as-sound : (s : Reservations) (nexus : ℕ) (a : Option ReservationAction) (kind : Option ReservationType) (key action_key : ℕ) → AreSound s → IfOk (done_as s nexus a kind key action_key) AreSound
as-sound s nexus None kind key action_key is = tt
as-sound s nexus (Some Register) kind key action_key is = go (unwrap_or (key_of nexus s.registrants) 0 == key)
  where
    go : (t : Bool) → IfOk (if not t then Err Conflict else registered s nexus action_key) AreSound
    go false = tt
    go true = registered-sound s nexus action_key is
as-sound s nexus (Some RegisterAndIgnoreExistingKey) kind key action_key is = registered-sound s nexus action_key is
as-sound s nexus (Some Reserve) kind key action_key is = reserved-sound s nexus key kind is
as-sound s nexus (Some Release) kind key action_key is = released-sound s nexus key kind is
as-sound s nexus (Some Clear) kind key action_key is = cleared-sound s nexus key
as-sound s nexus (Some Preempt) kind key action_key is = preempted-sound s nexus key action_key kind is

pub applied-sound : SoundLaw
applied-sound s nexus action scope kind key action_key is = as-sound s nexus (action_of action) (asked_type scope kind) key action_key is
