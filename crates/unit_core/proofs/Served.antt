-- Where each deed of a unit had room, the record keeps what its running operations need
use Rattle.std.proofs.Common.{◌≡◌, ℕ, ◌+◌, ◌-◌, ◌^◌, ◌≤◌, List, [], ◌∷◌, length, refl, ap, sym, ◌∙◌, arith, true, false, Bool}
use Rattle.std.specs.Prelude.{◌||◌, ◌&&◌, ◌==◌, nat_le, nat_lt, max, if◌then◌else◌}
use Rattle.std.proofs.lemmas.Bool.{or_parts, ltb-false}
use Rattle.std.proofs.lemmas.Bool.Decides.{nat_tests}
use Rattle.cm_base.specs.Configuration.{Configuration}
use Rattle.cm_base.specs.declared.config.UnitConfig.{UnitConfig}
use Rattle.cm_base.specs.Units.{unit_of}
use Rattle.cm_history.specs.Answers.{deed}
use Rattle.cm_history.specs.Asked.{AllAsked, IsAsked}
use Rattle.cm_history.specs.Deeds.{Deed, last_stamp}
use Rattle.cm_history.specs.History.{past_of}
use Rattle.cm_history.specs.Room.{bytes_in, is_write, need, payload, kept_free}
use Rattle.cm_history.proofs.PublicLaws.{IsPast, past-is}
use Rattle.unit_core.specs.Serving.{HadRoom, AllHadRoom, ServingLaw}
use Rattle.unit_core.proofs.Planned.{IsKnown}
use Rattle.unit_core.proofs.Rooms.{full-serving, no_bytes, reserved-step}

-- the more deeds are written out, the fewer bytes are in the record
fewer-bytes : (before now : ℕ) (past : List Deed) → before ≤ now → payload now past ≤ payload before past
fewer-bytes before now [] low = omega arith
fewer-bytes before now (d ∷ past) low = go (nat_le now d.place) (nat_le before d.place) refl refl (fewer-bytes before now past low)
  where
    go : (a b : Bool) → nat_le now d.place ≡ a → nat_le before d.place ≡ b → payload now past ≤ payload before past
        → payload now past + (if a then bytes_in d.entry.act else 0) ≤ payload before past + (if b then bytes_in d.entry.act else 0)
    go true true e f less = omega (arith, less)
    go true false e f less = absurd (grind (arith, nat_tests))
    go false b e f less = omega (arith, less)

-- the entries in the record, with those that are kept free, and the bytes are no more than the unit may keep
pub record KeepsFree (config : Configuration) (unit folded : ℕ) (past : List Deed) : Type 0 where
  pub entries : length past - folded + kept_free past ≤ (unit_of config unit).entries
  pub bytes : payload folded past ≤ (unit_of config unit).payload

-- one more deed, which had room
keeps-more : (config : Configuration) (unit folded : ℕ) (past : List Deed) (d : Deed) → IsKnown config unit past → IsAsked config unit d → d ≡ deed config unit past d.entry
    → HadRoom config unit folded past d → KeepsFree config unit folded past → KeepsFree config unit folded (d ∷ past)
keeps-more config unit folded past d known asked made had k = record {
  entries = (let fits = ltb-false u.entries needed first.1 in omega (arith, fits, takes, had.no_more));
  bytes = bytes (is_write d.entry.act) refl (nat_le folded d.place);
}
  where
    u : UnitConfig
    u = unit_of config unit

    needed : ℕ
    needed = length past - had.out + kept_free past + need past d.entry.actor d.entry.act

    parts : (((max had.stamp (last_stamp past) == 2 ^ 64 - 1) || nat_lt u.entries needed) ≡ false)
        × ((is_write d.entry.act && nat_lt u.payload (payload had.out past + bytes_in d.entry.act)) ≡ false)
    parts = or_parts ((max had.stamp (last_stamp past) == 2 ^ 64 - 1) || nat_lt u.entries needed) (is_write d.entry.act && nat_lt u.payload (payload had.out past + bytes_in d.entry.act)) had.room

    first : ((max had.stamp (last_stamp past) == 2 ^ 64 - 1) ≡ false) × (nat_lt u.entries needed ≡ false)
    first = or_parts (max had.stamp (last_stamp past) == 2 ^ 64 - 1) (nat_lt u.entries needed) parts.0

    takes : kept_free (d ∷ past) + 1 ≤ kept_free past + need past d.entry.actor d.entry.act
    takes = reserved-step config unit past d known asked made

    less : payload folded past ≤ payload had.out past
    less = fewer-bytes had.out folded past had.no_more

    bytes : (t : Bool) → is_write d.entry.act ≡ t → (kept : Bool) → payload folded past + (if kept then bytes_in d.entry.act else 0) ≤ u.payload
    bytes true e kept = go kept
      where
        last : nat_lt u.payload (payload had.out past + bytes_in d.entry.act) ≡ false
        last = sym (ap (λ t. t && nat_lt u.payload (payload had.out past + bytes_in d.entry.act)) e) ∙ parts.1

        fits : payload had.out past + bytes_in d.entry.act ≤ u.payload
        fits = ltb-false u.payload (payload had.out past + bytes_in d.entry.act) last

        go : (kept : Bool) → payload folded past + (if kept then bytes_in d.entry.act else 0) ≤ u.payload
        go true = omega (arith, fits, less)
        go false = omega (arith, k.bytes)
    bytes false e kept = go kept
      where
        none : bytes_in d.entry.act ≡ 0
        none = no_bytes d.entry.act e

        go : (kept : Bool) → payload folded past + (if kept then bytes_in d.entry.act else 0) ≤ u.payload
        go true = omega (arith, none, k.bytes)
        go false = omega (arith, k.bytes)

pub keeps-free : (config : Configuration) (unit folded : ℕ) (past : List Deed) → IsPast config unit past → AllAsked config unit past → AllHadRoom config unit folded past
    → KeepsFree config unit folded past
keeps-free config unit folded [] is asked had = record { entries = omega arith; bytes = omega arith }
keeps-free config unit folded (d ∷ past) is asked had =
    keeps-more config unit folded past d (record { is = is.1; asked = asked.1 }) asked.0 is.0 had.0 (keeps-free config unit folded past is.1 asked.1 had.1)

pub serving : (config : Configuration) (unit : ℕ) → ServingLaw config unit
serving config unit = λ entries folded actor stamp act asked had serves full.
    let past = past_of config unit entries in
    let k = keeps-free config unit folded past (past-is config unit entries) asked had in
    full-serving (unit_of config unit) folded past actor stamp act k.bytes k.entries serves full
