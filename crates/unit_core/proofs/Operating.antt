-- What holds of each operation of a unit
use Rattle.std.proofs.Common.{◌≡◌, ℕ, List, [], ◌∷◌, length, refl, ap, sym, ◌∙◌, subst, true, false, Bool}
use Rattle.std.specs.Prelude.{◌==◌, not, map, is_some, nat_le, ◌^◌, if◌then◌else◌}
use Rattle.cm_base.specs.Configuration.{Configuration}
use Rattle.cm_base.specs.Units.{unit_of}
use Rattle.cm_history.specs.declared.act.Act.{Act}
use Rattle.cm_history.specs.declared.act.Actor.{Actor}
use Rattle.cm_history.specs.declared.answer.Answer.{Answer}
use Rattle.cm_history.specs.declared.answer.OpState.{OpState}
use Rattle.cm_history.specs.Deeds.{Deed, is_refusal, is_answered}
use Rattle.cm_history.specs.Asked.{IsAsked, AllAsked}
use Rattle.lba_ranges.specs.Denoted.{is_within}
use Rattle.scsi_sense.specs.Codes.{operation_in_progress, lba_out_of_range, insufficient_resources}
use Rattle.cm_history.specs.Tokens.{is_populate, tokens}
use Rattle.cm_history.specs.Operations.{Operation, OfToken, OfCopy, operations, operation_after, made_operation, makes_operation, is_making}
use Rattle.cm_history.specs.Reserving.{reservations, bars_act}
use Rattle.cm_history.specs.Answers.{answer_after, answer_unbarred, serial_made, is_busy, is_crowded}
use Rattle.cm_history.proofs.PublicLaws.{Each, Each-in, Each-by, Each-map, Each-append, IsPast, made-after, and_first, and_second, free-answer, free-answered}

-- the blocks that a Start writes lie in the unit
abbrev pub starts_within : ℕ → Act → Bool
starts_within blocks (Act.Start id background ranges rod) = is_within blocks ranges
starts_within blocks _ = true

-- an operation that such a deed made
pub record IsMadeBy (config : Configuration) (unit : ℕ) (d : Deed) : Type 0 where
  pub asked : IsAsked config unit d
  pub makes : is_making d.entry.act ≡ true
  pub serial : is_some (serial_made d.answer) ≡ is_populate d.entry.act
  pub within : starts_within (unit_of config unit).blocks d.entry.act ≡ true

unbarred-made : (config : Configuration) (unit : ℕ) (past : List Deed) (actor : Actor) (now : ℕ) (act : Act) → is_making act ≡ true
    → not (is_refusal (answer_unbarred config unit past actor now act)) ≡ true → is_some (serial_made (answer_unbarred config unit past actor now act)) ≡ is_populate act
unbarred-made config unit past actor now (Act.Populate id timeout ranges) e answered =
    go (is_busy past actor OfToken id) (not (is_within (unit_of config unit).blocks ranges)) (nat_le (2 ^ 48) (length (tokens past))) answered
  where
    go : (a b c : Bool)
        → not (is_refusal (if a then Answer.Refused operation_in_progress else if b then Answer.Refused lba_out_of_range else if c then Answer.Refused insufficient_resources else Answer.Made (length (tokens past)))) ≡ true
        → is_some (serial_made (if a then Answer.Refused operation_in_progress else if b then Answer.Refused lba_out_of_range else if c then Answer.Refused insufficient_resources else Answer.Made (length (tokens past)))) ≡ true
    go true b c h = cc
    go false true c h = cc
    go false false true h = cc
    go false false false h = refl
unbarred-made config unit past actor now (Act.Start id background ranges rod) e answered =
    go (is_busy past actor OfToken id) (not (is_within (unit_of config unit).blocks ranges)) (is_crowded past) (length rod.items == 0)
  where
    go : (a b c d : Bool)
        → is_some (serial_made (if a then Answer.Refused operation_in_progress else if b then Answer.Refused lba_out_of_range else if c then Answer.Refused insufficient_resources else Answer.Progress (if d then OpState.Done else OpState.Running) 0)) ≡ false
    go true b c d = refl
    go false true c d = refl
    go false false true d = refl
    go false false false d = refl
unbarred-made config unit past actor now (Act.Open id) e answered = go (is_busy past actor OfCopy id) (is_crowded past)
  where
    go : (a b : Bool) → is_some (serial_made (if a then Answer.Refused operation_in_progress else if b then Answer.Refused insufficient_resources else Answer.Done)) ≡ false
    go true b = refl
    go false true = refl
    go false false = refl
unbarred-made config unit past actor now _ e answered = cc

-- a token is made by a Populate alone
serial-made : (config : Configuration) (unit : ℕ) (past : List Deed) (actor : Actor) (now : ℕ) (act : Act) → is_making act ≡ true
    → not (is_refusal (answer_after config unit past actor now act)) ≡ true → is_some (serial_made (answer_after config unit past actor now act)) ≡ is_populate act
serial-made config unit past actor now act e answered =
    ap (λ a. is_some (serial_made a)) (free-answer (bars_act (reservations past) actor act) _ answered)
    ∙ unbarred-made config unit past actor now act e (free-answered (bars_act (reservations past) actor act) _ answered)

start-within : (config : Configuration) (unit : ℕ) (past : List Deed) (actor : Actor) (now : ℕ) (act : Act)
    → not (is_refusal (answer_after config unit past actor now act)) ≡ true → starts_within (unit_of config unit).blocks act ≡ true
start-within config unit past actor now (Act.Start id background ranges rod) answered =
    go (is_busy past actor OfToken id) (is_within (unit_of config unit).blocks ranges)
    (free-answered (bars_act (reservations past) actor (Act.Start id background ranges rod)) _ answered)
  where
    last : Answer
    last = if is_crowded past then Answer.Refused insufficient_resources else Answer.Progress (if length rod.items == 0 then OpState.Done else OpState.Running) 0

    go : (a b : Bool) → not (is_refusal (if a then Answer.Refused operation_in_progress else if not b then Answer.Refused lba_out_of_range else last)) ≡ true → b ≡ true
    go true b h = cc
    go false true h = refl
    go false false h = cc
start-within config unit past actor now _ answered = refl

-- each operation was made by such a deed
pub all-made_by : (config : Configuration) (unit : ℕ) (past : List Deed) → IsPast config unit past → AllAsked config unit past
    → Each (λ (o : Operation). IsMadeBy config unit o.made) (operations past)
all-made_by config unit [] is asked = tt
all-made_by config unit (d ∷ past) is asked =
    Each-append _ (map (operation_after d) (operations past)) _
    (Each-map _ (operation_after d) (operations past)
    (Each-by _ (operations past) (λ o i. subst (IsMadeBy config unit) (sym (made-after d o)) (Each-in _ (operations past) o (all-made_by config unit past is.1 asked.1) i))))
    (new (makes_operation d) refl)
  where
    answer : is_answered d ≡ true → not (is_refusal (answer_after config unit past d.entry.actor d.entry.moment d.entry.act)) ≡ true
    answer e = sym (ap is_answered is.0) ∙ e

    new : (t : Bool) → makes_operation d ≡ t → Each (λ (o : Operation). IsMadeBy config unit o.made) (if t then made_operation d ∷ [] else [])
    new true e = (
      record {
        asked = asked.0;
        makes = and_first (is_making d.entry.act) (is_answered d) e;
        serial = ap (λ (x : Deed). is_some (serial_made x.answer)) is.0 ∙ serial-made config unit past d.entry.actor d.entry.moment d.entry.act (and_first (is_making d.entry.act) (is_answered d) e) (answer (and_second (is_making d.entry.act) (is_answered d) e));
        within = start-within config unit past d.entry.actor d.entry.moment d.entry.act (answer (and_second (is_making d.entry.act) (is_answered d) e));
      },
      tt,
    )
    new false e = tt
