-- No act maps more blocks than the quota
use Rattle.std.proofs.Common.{◌≡◌, ℕ, ◌+◌, ◌≤◌, List, [], ◌∷◌, length, refl, ap, sym, ◌∙◌, subst, arith, true, false, Bool, inl, inr}
use Rattle.std.proofs.lemmas.Bool.{ltb-false}
use Rattle.std.specs.Prelude.{Option, Some, None, nat_lt, if◌then◌else◌}
use Rattle.lba_ranges.specs.declared.ranges.Range.{Range}
use Rattle.lba_ranges.specs.Denoted.{blocks_of, is_within}
use Rattle.lba_ranges.specs.Writings.{Held, Writing, after, mapped_below, unmapped}
use Rattle.lba_ranges.proofs.PublicLaws.{mapped-fewer, mapped-left}
use Rattle.cm_base.specs.Configuration.{Configuration}
use Rattle.cm_base.specs.declared.config.UnitConfig.{UnitConfig}
use Rattle.cm_base.specs.Units.{unit_of}
use Rattle.cm_history.specs.declared.act.Act.{Act}
use Rattle.cm_history.specs.declared.act.Actor.{Actor}
use Rattle.cm_history.specs.declared.act.Entry.{Entry}
use Rattle.cm_history.specs.declared.answer.Answer.{Answer}
use Rattle.scsi_sense.specs.Codes.{lba_out_of_range, space_allocation_failed}
use Rattle.cm_history.specs.Deeds.{Deed, is_refusal}
use Rattle.cm_history.specs.Operations.{Operation, is_failure, would_serve, next_piece}
use Rattle.cm_history.specs.Blocks.{held, mapped, mapped_with}
use Rattle.cm_history.specs.Reserving.{reservations, bars_act}
use Rattle.cm_history.specs.Answers.{answer_after, answer_write, answer_unmap, put_at, wrote_of, writings, piece_of, deed}
use Rattle.cm_history.proofs.PublicLaws.{Serves, how-serves}

-- what would be mapped after the writings is within the quota
abbrev Within : UnitConfig → (ℕ → Held) → List Writing → Type 0
Within unit now ws = mapped_below unit.blocks (λ b. after ws b (now b)) ≤ unit.quota

write_within : (unit : UnitConfig) (now : ℕ → Held) (lba : ℕ) (items : List Held) → mapped_below unit.blocks now ≤ unit.quota
    → Within unit now (wrote_of (answer_write unit now lba items) (put_at lba items))
write_within unit now lba items low = go (nat_lt unit.blocks (lba + length items)) (nat_lt unit.quota (mapped_with unit now (put_at lba items))) refl
  where
    go : (t u : Bool) → nat_lt unit.quota (mapped_with unit now (put_at lba items)) ≡ u
        → Within unit now (wrote_of (if t then Answer.Refused lba_out_of_range else if u then Answer.Refused space_allocation_failed else Answer.Done) (put_at lba items))
    go true u e = low
    go false true e = low
    go false false e = ltb-false unit.quota (mapped_with unit now (put_at lba items)) e

unmap_within : (unit : UnitConfig) (now : ℕ → Held) (ranges : List Range) → mapped_below unit.blocks now ≤ unit.quota
    → Within unit now (wrote_of (answer_unmap unit ranges) (unmapped (blocks_of ranges)))
unmap_within unit now ranges low = go (is_within unit.blocks ranges)
  where
    fewer : mapped_below unit.blocks (λ b. after (unmapped (blocks_of ranges)) b (now b)) ≤ mapped_below unit.blocks now
    fewer = mapped-fewer unit.blocks now (λ b. after (unmapped (blocks_of ranges)) b (now b)) (λ b e. mapped-left (blocks_of ranges) b (now b) e)

    go : (t : Bool) → Within unit now (wrote_of (if t then Answer.Done else Answer.Refused lba_out_of_range) (unmapped (blocks_of ranges)))
    go true = let f = fewer in omega arith
    go false = low

pub wrote_none : (answer : Answer) → wrote_of answer [] ≡ []
wrote_none answer = go (is_refusal answer) (is_failure answer)
  where
    none : List Writing
    none = []

    go : (t u : Bool) → (if t then none else if u then none else none) ≡ none
    go true u = refl
    go false true = refl
    go false false = refl

none_within : (unit : UnitConfig) (now : ℕ → Held) (answer : Answer) (ws : List Writing) → ws ≡ [] → mapped_below unit.blocks now ≤ unit.quota → Within unit now (wrote_of answer ws)
none_within unit now answer ws e low = subst (Within unit now) (sym (ap (wrote_of answer) e ∙ wrote_none answer)) low

-- an act that a reservation bars writes nothing
unless_barred : (unit : UnitConfig) (now : ℕ → Held) (t : Bool) (answer : Answer) (ws : List Writing) → Within unit now (wrote_of answer ws) → mapped_below unit.blocks now ≤ unit.quota
    → Within unit now (wrote_of (if t then Answer.Conflict else answer) ws)
unless_barred unit now true answer ws within low = low
unless_barred unit now false answer ws within low = within

unserved_within : (config : Configuration) (unit : ℕ) (past : List Deed) (actor : Actor) (moment : ℕ) (act : Act) → would_serve past actor act ≡ None
    → mapped (unit_of config unit) past ≤ (unit_of config unit).quota
    → Within (unit_of config unit) (held past) (wrote_of (answer_after config unit past actor moment act) (writings past actor act))
unserved_within config unit past actor moment (Act.Write lba list) none low =
    unless_barred (unit_of config unit) (held past) (bars_act (reservations past) actor (Act.Write lba list)) _ _ (write_within (unit_of config unit) (held past) lba list.items low) low
unserved_within config unit past actor moment (Act.Put lba list) none low =
    unless_barred (unit_of config unit) (held past) (bars_act (reservations past) actor (Act.Put lba list)) _ _ (write_within (unit_of config unit) (held past) lba list.items low) low
unserved_within config unit past actor moment (Act.Unmap ranges) none low =
    unless_barred (unit_of config unit) (held past) (bars_act (reservations past) actor (Act.Unmap ranges)) _ _ (unmap_within (unit_of config unit) (held past) ranges low) low
unserved_within config unit past actor moment (Act.Advance id) none low =
    none_within (unit_of config unit) (held past) (answer_after config unit past actor moment (Act.Advance id)) (writings past actor (Act.Advance id)) (ap piece_of none) low
unserved_within config unit past actor moment Act.Pump none low =
    none_within (unit_of config unit) (held past) (answer_after config unit past actor moment Act.Pump) (writings past actor Act.Pump) (ap piece_of none) low
unserved_within config unit past actor moment act none low = none_within (unit_of config unit) (held past) (answer_after config unit past actor moment act) (writings past actor act) refl low

-- a piece that is written stays within the quota
served_within : (unit : UnitConfig) (past : List Deed) (o : Operation) (answer : Answer) (ws : List Writing) (act : Act) → Serves unit past o answer ws act
    → mapped unit past ≤ unit.quota → Within unit (held past) ws
served_within unit past o answer ws act (inl moves) low = subst (Within unit (held past)) (sym moves.wrote) (ltb-false unit.quota (mapped_with unit (held past) (next_piece o)) moves.within)
served_within unit past o answer ws act (inr (inl stops)) low = subst (Within unit (held past)) (sym stops.wrote) low
served_within unit past o answer ws act (inr (inr (inl ends))) low = subst (Within unit (held past)) (sym ends.wrote) low
served_within unit past o answer ws act (inr (inr (inr closes))) low = subst (Within unit (held past)) (sym closes.wrote) low

-- no act maps more blocks than the quota
pub quota-step : (config : Configuration) (unit : ℕ) (past : List Deed) (e : Entry) → mapped (unit_of config unit) past ≤ (unit_of config unit).quota
    → mapped (unit_of config unit) (deed config unit past e ∷ past) ≤ (unit_of config unit).quota
quota-step config unit past e low = go (would_serve past e.actor e.act) refl
  where
    go : (w : Option Operation) → would_serve past e.actor e.act ≡ w → mapped (unit_of config unit) (deed config unit past e ∷ past) ≤ (unit_of config unit).quota
    go None none = unserved_within config unit past e.actor e.moment e.act none low
    go (Some o) found = served_within (unit_of config unit) past o _ _ e.act (how-serves config unit past e.actor e.moment e.act o found) low
