-- The form that the answer to an act has, whatever the record is
use Rattle.std.proofs.Common.{◌≡◌, ℕ, zero, suc, ◌+◌, ◌-◌, ◌<◌, ◌≤◌, ◌^◌, List, [], ◌∷◌, length, refl, ap, sym, ◌∙◌, subst, arith, true, false, Bool, inl, inr}
use Rattle.std.specs.Prelude.{Option, Some, None, IfSome, ◌==◌, not, map, min, find, is_some, nat_le, nat_lt, if◌then◌else◌}
use Rattle.std.specs.Str.{bytes_eq}
use Rattle.std.proofs.lemmas.Bool.Decides.{nat_tests}
use Rattle.std.proofs.lemmas.List.{length-map}
use Rattle.cm_base.specs.Configuration.{Configuration}
use Rattle.cm_base.specs.Units.{unit_of}
use Rattle.lba_ranges.specs.Denoted.{row, blocks_of, total, is_within}
use Rattle.lba_ranges.specs.Writings.{Held}
use Rattle.lba_ranges.proofs.PublicLaws.{length-row, length-blocks_of}
use Rattle.rod_token.specs.TokenText.{token_text, serial_of}
use Rattle.cm_history.specs.declared.act.Act.{Act}
use Rattle.cm_history.specs.declared.act.Actor.{Actor}
use Rattle.cm_history.specs.declared.act.Entry.{Entry}
use Rattle.cm_history.specs.declared.answer.Answer.{Answer}
use Rattle.cm_history.specs.declared.answer.OpState.{OpState}
use Rattle.lba_ranges.specs.Status.{told_runs, run_blocks, map_runs, run_length}
use Rattle.scsi_sense.specs.Codes.{lba_out_of_range, operation_in_progress, insufficient_resources, remote_token_usage_not_supported, token_corrupt}
use Rattle.cm_history.specs.Deeds.{Deed}
use Rattle.cm_history.specs.Blocks.{held, cut}
use Rattle.cm_history.specs.Limits.{within_limits}
use Rattle.cm_history.specs.Tokens.{Token, Fate, Live, Expired, Evicted, Deleted, tokens, is_populate}
use Rattle.cm_history.specs.Redeeming.{are_alike, redeemed, answer_by_fate, fate_at, named_token}
use Rattle.cm_history.specs.Operations.{Operation, OfToken, OfCopy, form_of, has_key, is_making, makes_operation, made_operation, operation_after, operations, kept, written, count, count_of, list_of, state_of}
use Rattle.pr_keys.specs.declared.registrants.Registrant.{Registrant}
use Rattle.pr_keys.specs.Reservations.{keys_of}
use Rattle.pr_keys.specs.Actions.{most_registrants}
use Rattle.cm_history.specs.Reserving.{reservations, bars_act}
use Rattle.cm_history.specs.Answers.{answer_after, answer_unbarred, answer_report, is_busy, is_crowded, serial_made}
use Rattle.cm_history.specs.History.{past_of, answer}
use Rattle.cm_history.specs.Forms.{HasForm, MayConflict}
use Rattle.cm_history.proofs.PublicLaws.{unbarred-kind, barred-kind, reservations-sound, In, Each, Each-in, Each-by, Each-map, Each-append, find-in, get-in, IsPast, IsBegun, begun, made-after, kept_in, Has, IsMade, all-made, and_first, and_second, find-passes, few-written, start-few, start-length, populate-few}
use Rattle.cm_history.specs.Asked.{IsAsked, AllAsked}
use Rattle.unit_core.specs.inner.Agreeing.{IsRecord}
use Rattle.unit_core.proofs.Operating.{IsMadeBy, all-made_by}
use Rattle.unit_core.proofs.Planned.{IsKnown}
use Rattle.unit_core.proofs.Steps.{known-of}
use Rattle.unit_core.proofs.TableAnswers.{form-is}

-- ---- blocks, and runs of them

read-formed : (config : Configuration) (unit : ℕ) (now : ℕ → Held) (lba count : ℕ) (t : Bool)
    → HasForm config unit (Act.Read lba count) (if t then Answer.Blocks (cut (unit_of config unit) now (row lba count)) else Answer.Refused lba_out_of_range)
read-formed config unit now lba count true = record { size = refl; whole = length-map (row lba count) now ∙ length-row lba count }
read-formed config unit now lba count false = tt

capture-formed : (config : Configuration) (unit : ℕ) (now : ℕ → Held) (lba count : ℕ) (t : Bool)
    → HasForm config unit (Act.Capture lba count) (if t then Answer.Blocks (cut (unit_of config unit) now (row lba count)) else Answer.Refused lba_out_of_range)
capture-formed config unit now lba count true = record { size = refl; whole = length-map (row lba count) now ∙ length-row lba count }
capture-formed config unit now lba count false = tt

runs-few : (now : ℕ → Held) (n block left : ℕ) → length (map_runs now n block left) ≤ n
runs-few now zero block left = omega arith
runs-few now (suc n) block zero = omega arith
runs-few now (suc n) block (suc left) =
    let count = run_length now (is_some (now block)) block (min (suc left) run_blocks) in
    let rest = runs-few now n (block + count) (suc left - count) in
    omega arith

status-formed : (config : Configuration) (unit : ℕ) (now : ℕ → Held) (lba left : ℕ) (t : Bool)
    → HasForm config unit (Act.MapStatus lba) (if t then Answer.Status (map_runs now told_runs lba left) else Answer.Refused lba_out_of_range)
status-formed config unit now lba left true = runs-few now told_runs lba left
status-formed config unit now lba left false = tt

-- ---- what a token shows

-- each deed of the past was one that may be asked
asked-has : (config : Configuration) (unit : ℕ) (past : List Deed) (d : Deed) (before : List Deed) → Has d before past → AllAsked config unit past → IsAsked config unit d
asked-has config unit [] d before has asked = absurd has
asked-has config unit (x ∷ past) d before (inl same) asked = subst (IsAsked config unit) same.0 asked.0
asked-has config unit (x ∷ past) d before (inr earlier) asked = asked-has config unit past d before earlier asked.1

token-few : (config : Configuration) (unit : ℕ) (past : List Deed) (t : Token) → AllAsked config unit past → In t (tokens past) → total t.ranges ≤ 1_048_576
token-few config unit past t asked there =
    let made = Each-in (IsMade past) (tokens past) t (all-made past) there in
    let may = asked-has config unit past made.made t.before made.there asked in
    populate-few config unit made.id t.timeout t.ranges (sym (ap (within_limits config unit) made.populates) ∙ may.limits)

redeem-formed : (config : Configuration) (unit : ℕ) (past : List Deed) (now : ℕ) (text : List ℕ) (target : ℕ) → AllAsked config unit past
    → HasForm config unit (Act.Redeem text target) (redeemed config unit now text target (named_token past text))
redeem-formed config unit past now text target asked = go (named_token past text) refl
  where
    size : (t : Token) → are_alike (unit_of config unit) (unit_of config target) ≡ true → (unit_of config unit).block_length ≡ (unit_of config target).block_length
    size t e =
        let same = and_second ((unit_of config unit).group == (unit_of config target).group) ((unit_of config unit).block_length == (unit_of config target).block_length) e in
        grind (arith, nat_tests)

    shown : (t : Token) → In t (tokens past) → length (map (held t.before) (blocks_of t.ranges)) ≤ 1_048_576
    shown t there =
        let few = token-few config unit past t asked there in
        let all : length (map (held t.before) (blocks_of t.ranges)) ≡ total t.ranges = length-map (blocks_of t.ranges) (held t.before) ∙ length-blocks_of t.ranges in
        omega (arith, few, all)

    by_fate : (t : Token) → In t (tokens past) → (a b : Bool) → are_alike (unit_of config unit) (unit_of config target) ≡ a → (f : Fate)
        → HasForm config unit (Act.Redeem text target) (if not a then Answer.Refused remote_token_usage_not_supported else if not b then Answer.Refused token_corrupt else answer_by_fate (unit_of config unit) t f)
    by_fate t there false b e f = tt
    by_fate t there true false e f = tt
    by_fate t there true true e Live = record { own = refl; size = size t e; count = shown t there }
    by_fate t there true true e Expired = tt
    by_fate t there true true e Evicted = tt
    by_fate t there true true e Deleted = tt

    go : (w : Option Token) → named_token past text ≡ w → HasForm config unit (Act.Redeem text target) (redeemed config unit now text target w)
    go None e = tt
    go (Some t) e =
        by_fate t (get-in (tokens past) (serial_of text) t e)
        (are_alike (unit_of config unit) (unit_of config target)) (bytes_eq text (token_text config unit t.serial (total t.ranges))) refl (fate_at now t t.fate)

-- ---- reports

-- the serial that an answer gives is below 2^48
abbrev pub HasSerial : Answer → Type 0
HasSerial answer = IfSome (serial_made answer) (λ serial. serial < 2 ^ 48)

unbarred-low : (config : Configuration) (unit : ℕ) (past : List Deed) (actor : Actor) (now : ℕ) (act : Act) → is_making act ≡ true → HasSerial (answer_unbarred config unit past actor now act)
unbarred-low config unit past actor now (Act.Populate id timeout ranges) e =
    go (is_busy past actor OfToken id) (not (is_within (unit_of config unit).blocks ranges)) (nat_le (2 ^ 48) (length (tokens past))) refl
  where
    go : (a b c : Bool) → nat_le (2 ^ 48) (length (tokens past)) ≡ c
        → HasSerial (if a then Answer.Refused operation_in_progress else if b then Answer.Refused lba_out_of_range else if c then Answer.Refused insufficient_resources else Answer.Made (length (tokens past)))
    go true b c e = tt
    go false true c e = tt
    go false false true e = tt
    go false false false e = grind (arith, nat_tests)
unbarred-low config unit past actor now (Act.Start id background ranges rod) e =
    go (is_busy past actor OfToken id) (not (is_within (unit_of config unit).blocks ranges)) (is_crowded past) (length rod.items == 0)
  where
    go : (a b c d : Bool)
        → HasSerial (if a then Answer.Refused operation_in_progress else if b then Answer.Refused lba_out_of_range else if c then Answer.Refused insufficient_resources else Answer.Progress (if d then OpState.Done else OpState.Running) 0)
    go true b c d = tt
    go false true c d = tt
    go false false true d = tt
    go false false false d = tt
unbarred-low config unit past actor now (Act.Open id) e = go (is_busy past actor OfCopy id) (is_crowded past)
  where
    go : (a b : Bool) → HasSerial (if a then Answer.Refused operation_in_progress else if b then Answer.Refused insufficient_resources else Answer.Done)
    go true b = tt
    go false true = tt
    go false false = tt
unbarred-low config unit past actor now _ e = cc

serial-low : (config : Configuration) (unit : ℕ) (past : List Deed) (actor : Actor) (now : ℕ) (act : Act) → is_making act ≡ true → HasSerial (answer_after config unit past actor now act)
serial-low config unit past actor now act e = go (bars_act (reservations past) actor act)
  where
    go : (t : Bool) → HasSerial (if t then Answer.Conflict else answer_unbarred config unit past actor now act)
    go true = tt
    go false = unbarred-low config unit past actor now act e

all-low : (config : Configuration) (unit : ℕ) (past : List Deed) → IsPast config unit past → Each (λ (o : Operation). HasSerial o.made.answer) (operations past)
all-low config unit [] is = tt
all-low config unit (d ∷ past) is =
    Each-append _ (map (operation_after d) (operations past)) _
    (Each-map _ (operation_after d) (operations past)
    (Each-by _ (operations past) (λ o i. subst (λ (x : Deed). HasSerial x.answer) (sym (made-after d o)) (Each-in _ (operations past) o (all-low config unit past is.1) i))))
    (new (makes_operation d) refl)
  where
    new : (t : Bool) → makes_operation d ≡ t → Each (λ (o : Operation). HasSerial o.made.answer) (if t then made_operation d ∷ [] else [])
    new true e = (
      subst (λ (x : Deed). HasSerial x.answer) (sym is.0) (serial-low config unit past d.entry.actor d.entry.moment d.entry.act (and_first (is_making d.entry.act) _ e)),
      tt,
    )
    new false e = tt

-- an operation has written no more blocks than it was asked to, and a token has no more
count-few : (config : Configuration) (unit : ℕ) (o : Operation) (act : Act) → o.made.entry.act ≡ act → within_limits config unit act ≡ true → is_making act ≡ true → form_of act ≡ OfToken → IsBegun o
    → count_of (written o) act ≤ 1_048_576
count-few config unit o (Act.Populate id timeout ranges) is within makes form begun = populate-few config unit id timeout ranges within
count-few config unit o (Act.Start id background ranges rod) is within makes form begun =
    let some = few-written o begun in
    let all : length (list_of o.made.entry.act) ≡ length rod.items = ap (λ a. length (list_of a)) is ∙ start-length config unit id background ranges rod within in
    let few = start-few config unit id background ranges rod within in
    omega (arith, some, all, few)
count-few config unit o (Act.Open id) is within makes form begun = cc
count-few config unit o _ is within makes form begun = cc

populate-done : (o : Operation) (act : Act) → is_populate act ≡ true → state_of o act ≡ OpState.Done
populate-done o (Act.Populate id timeout ranges) e = refl
populate-done o _ e = cc

report-formed : (config : Configuration) (unit : ℕ) (past : List Deed) (actor : Actor) (id : ℕ) → IsKnown config unit past
    → HasForm config unit (Act.Report id) (answer_report (find (has_key actor OfToken id) (kept past)))
report-formed config unit past actor id known = go (find (has_key actor OfToken id) (kept past)) refl
  where
    go : (w : Option Operation) → find (has_key actor OfToken id) (kept past) ≡ w → HasForm config unit (Act.Report id) (answer_report w)
    go None e = tt
    go (Some o) e =
        let there : In o (operations past) = kept_in config unit past o known.is (find-in (has_key actor OfToken id) (kept past) o e) in
        let by = Each-in (λ (o : Operation). IsMadeBy config unit o.made) (operations past) o (all-made_by config unit past known.is known.asked) there in
        let form = form-is actor OfToken id o (find-passes (has_key actor OfToken id) (kept past) o e) in
        record {
          count = count-few config unit o o.made.entry.act refl by.asked.limits by.makes form (Each-in IsBegun (operations past) o (begun config unit past known.is) there);
          ended = populate-done o o.made.entry.act;
          token = by.serial;
          serial = Each-in (λ (o : Operation). HasSerial o.made.answer) (operations past) o (all-low config unit past known.is) there;
        }

-- ---- each answer

keys-few : (past : List Deed) → length (keys_of (reservations past)) ≤ most_registrants
keys-few past =
    let sound = reservations-sound past in
    omega (arith, sound.few, length-map (reservations past).registrants (λ (r : Registrant). r.key))

unbarred-formed : (config : Configuration) (unit : ℕ) (past : List Deed) (actor : Actor) (at : ℕ) (act : Act) → IsKnown config unit past
    → HasForm config unit act (answer_unbarred config unit past actor at act)
unbarred-formed config unit past actor at (Act.Read lba count) known = read-formed config unit (held past) lba count (nat_le (lba + count) (unit_of config unit).blocks)
unbarred-formed config unit past actor at (Act.Capture lba count) known = capture-formed config unit (held past) lba count (nat_le (lba + count) (unit_of config unit).blocks)
unbarred-formed config unit past actor at (Act.MapStatus lba) known =
    status-formed config unit (held past) lba ((unit_of config unit).blocks - lba) (nat_lt lba (unit_of config unit).blocks)
unbarred-formed config unit past actor at (Act.Redeem text target) known = redeem-formed config unit past _ text target known.asked
unbarred-formed config unit past actor at (Act.Report id) known = report-formed config unit past actor id known
unbarred-formed config unit past actor at (Act.Write lba list) known = unbarred-kind config unit past actor at (Act.Write lba list)
unbarred-formed config unit past actor at (Act.Put lba list) known = unbarred-kind config unit past actor at (Act.Put lba list)
unbarred-formed config unit past actor at (Act.Unmap ranges) known = unbarred-kind config unit past actor at (Act.Unmap ranges)
unbarred-formed config unit past actor at (Act.Populate id timeout ranges) known = unbarred-kind config unit past actor at (Act.Populate id timeout ranges)
unbarred-formed config unit past actor at (Act.Delete serial) known = unbarred-kind config unit past actor at (Act.Delete serial)
unbarred-formed config unit past actor at (Act.Start id background ranges rod) known = unbarred-kind config unit past actor at (Act.Start id background ranges rod)
unbarred-formed config unit past actor at (Act.Advance id) known = unbarred-kind config unit past actor at (Act.Advance id)
unbarred-formed config unit past actor at Act.Pump known = unbarred-kind config unit past actor at Act.Pump
unbarred-formed config unit past actor at (Act.End id) known = unbarred-kind config unit past actor at (Act.End id)
unbarred-formed config unit past actor at (Act.Abort id) known = unbarred-kind config unit past actor at (Act.Abort id)
unbarred-formed config unit past actor at (Act.Open id) known = unbarred-kind config unit past actor at (Act.Open id)
unbarred-formed config unit past actor at (Act.Close id result) known = unbarred-kind config unit past actor at (Act.Close id result)
unbarred-formed config unit past actor at (Act.Recall id) known = unbarred-kind config unit past actor at (Act.Recall id)
unbarred-formed config unit past actor at (Act.PrOut action scope kind key action_key) known = unbarred-kind config unit past actor at (Act.PrOut action scope kind key action_key)
unbarred-formed config unit past actor at Act.PrKeys known = keys-few past
unbarred-formed config unit past actor at Act.PrHolder known = unbarred-kind config unit past actor at Act.PrHolder

conflict-formed : (config : Configuration) (unit : ℕ) (act : Act) → MayConflict act → HasForm config unit act Answer.Conflict
conflict-formed config unit (Act.Read lba count) may = may
conflict-formed config unit act may = may

after-formed : (config : Configuration) (unit : ℕ) (past : List Deed) (actor : Actor) (at : ℕ) (act : Act) → IsKnown config unit past
    → HasForm config unit act (answer_after config unit past actor at act)
after-formed config unit past actor at act known = go (bars_act (reservations past) actor act) refl
  where
    go : (t : Bool) → bars_act (reservations past) actor act ≡ t → HasForm config unit act (if t then Answer.Conflict else answer_unbarred config unit past actor at act)
    go true e = conflict-formed config unit act (barred-kind (reservations past) actor act e)
    go false e = unbarred-formed config unit past actor at act known

pub answer-formed : (config : Configuration) (entries : List Entry) (unit : ℕ) (actor : Actor) (at : ℕ) (act : Act) → IsRecord config unit entries
    → HasForm config unit act (answer config entries unit actor at act)
answer-formed config entries unit actor at act is = after-formed config unit (past_of config unit entries) actor at act (known-of config unit entries is)
