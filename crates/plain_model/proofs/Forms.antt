-- An answer has the form of its act
use Rattle.std.proofs.Common.{◌≡◌, ℕ, zero, suc, ◌+◌, ◌-◌, ◌<◌, ◌≤◌, ◌^◌, List, [], ◌∷◌, length, refl, ap, sym, ◌∙◌, subst, arith, true, false, Bool, inl, inr}
use Rattle.std.specs.Prelude.{Option, Some, None, IfSome, ◌==◌, ◌&&◌, not, map, min, find, is_some, nat_le, nat_lt, if◌then◌else◌}
use Rattle.std.specs.Str.{bytes_eq}
use Rattle.std.proofs.lemmas.Bool.Decides.{nat_tests}
use Rattle.std.proofs.lemmas.List.{length-map}
use Rattle.cm_base.specs.Configuration.{Configuration}
use Rattle.cm_base.specs.Units.{unit_of}
use Rattle.lba_ranges.specs.Denoted.{row, blocks_of, total, is_within}
use Rattle.lba_ranges.specs.Writings.{Held}
use Rattle.lba_ranges.proofs.PublicLaws.{length-row, length-blocks_of}
use Rattle.rod_token.specs.TokenText.{token_text, serial_of}
use Rattle.cm_history.specs.declared.act.Act.{Act}
use Rattle.cm_history.specs.declared.act.Actor.{Actor}
use Rattle.cm_history.specs.declared.answer.Answer.{Answer}
use Rattle.cm_history.specs.declared.answer.OpState.{OpState}
use Rattle.lba_ranges.specs.Status.{told_runs, run_blocks, map_runs, run_length}
use Rattle.scsi_sense.specs.Codes.{lba_out_of_range, operation_in_progress, insufficient_resources, remote_token_usage_not_supported, token_corrupt}
use Rattle.cm_history.specs.Deeds.{Deed, is_answered, is_refusal, same_actor}
use Rattle.cm_history.specs.Blocks.{held, cut}
use Rattle.cm_history.specs.Limits.{within_limits}
use Rattle.cm_history.specs.Tokens.{Token, Fate, Live, Expired, Evicted, Deleted, tokens, is_populate}
use Rattle.cm_history.specs.Redeeming.{are_alike, redeemed, answer_by_fate, fate_at, named_token}
use Rattle.cm_history.specs.Operations.{Operation, Form, OfToken, OfCopy, form_of, same_form, id_of, has_key, is_making, makes_operation, made_operation, operation_after, operations, kept, written, count_of, list_of, state_of}
use Rattle.cm_history.specs.Answers.{answer_after, answer_unbarred, answer_report, is_busy, is_crowded, serial_made}
use Rattle.pr_keys.specs.declared.registrants.Registrant.{Registrant}
use Rattle.pr_keys.specs.Reservations.{keys_of}
use Rattle.pr_keys.specs.Actions.{most_registrants}
use Rattle.cm_history.specs.Reserving.{reservations, bars_act}
use Rattle.cm_history.specs.Forms.{HasForm, MayConflict}
use Rattle.cm_history.proofs.PublicLaws.{unbarred-kind, barred-kind, free-answer, free-answered, reservations-sound, In, Each, Each-in, Each-by, Each-map, Each-append, find-in, get-in, IsPast, IsBegun, begun, made-after, kept_in, Has, IsMade, all-made, and_first, and_second, find-passes, few-written, start-few, start-length, populate-few, same_form-is}
use Rattle.plain_model.specs.inner.Fitting.{Fits, AllFit}

-- ---- blocks, and runs of them

read-formed : (config : Configuration) (unit : ℕ) (now : ℕ → Held) (lba count : ℕ) (t : Bool)
    → HasForm config unit (Act.Read lba count) (if t then Answer.Blocks (cut (unit_of config unit) now (row lba count)) else Answer.Refused lba_out_of_range)
read-formed config unit now lba count true = record { size = refl; whole = length-map (row lba count) now ∙ length-row lba count }
read-formed config unit now lba count false = tt

capture-formed : (config : Configuration) (unit : ℕ) (now : ℕ → Held) (lba count : ℕ) (t : Bool)
    → HasForm config unit (Act.Capture lba count) (if t then Answer.Blocks (cut (unit_of config unit) now (row lba count)) else Answer.Refused lba_out_of_range)
capture-formed config unit now lba count true = record { size = refl; whole = length-map (row lba count) now ∙ length-row lba count }
capture-formed config unit now lba count false = tt

runs-few : (now : ℕ → Held) (n block left : ℕ) → length (map_runs now n block left) ≤ n
runs-few now zero block left = omega arith
runs-few now (suc n) block zero = omega arith
runs-few now (suc n) block (suc left) =
    let count = run_length now (is_some (now block)) block (min (suc left) run_blocks) in
    let rest = runs-few now n (block + count) (suc left - count) in
    omega arith

status-formed : (config : Configuration) (unit : ℕ) (now : ℕ → Held) (lba left : ℕ) (t : Bool)
    → HasForm config unit (Act.MapStatus lba) (if t then Answer.Status (map_runs now told_runs lba left) else Answer.Refused lba_out_of_range)
status-formed config unit now lba left true = runs-few now told_runs lba left
status-formed config unit now lba left false = tt

-- ---- what a token shows

-- each deed of the past was within its limits
fit-has : (config : Configuration) (unit : ℕ) (past : List Deed) (d : Deed) (before : List Deed) → Has d before past → AllFit config unit past → Fits config unit d.entry.act
fit-has config unit [] d before has all = absurd has
fit-has config unit (x ∷ past) d before (inl same) all = subst (λ (y : Deed). Fits config unit y.entry.act) same.0 all.0
fit-has config unit (x ∷ past) d before (inr earlier) all = fit-has config unit past d before earlier all.1

token-few : (config : Configuration) (unit : ℕ) (past : List Deed) (t : Token) → AllFit config unit past → In t (tokens past) → total t.ranges ≤ 1_048_576
token-few config unit past t asked there =
    let made = Each-in (IsMade past) (tokens past) t (all-made past) there in
    let may = fit-has config unit past made.made t.before made.there asked in
    populate-few config unit made.id t.timeout t.ranges (sym (ap (within_limits config unit) made.populates) ∙ may.limits)

redeem-formed : (config : Configuration) (unit : ℕ) (past : List Deed) (now : ℕ) (text : List ℕ) (target : ℕ) → AllFit config unit past
    → HasForm config unit (Act.Redeem text target) (redeemed config unit now text target (named_token past text))
redeem-formed config unit past now text target asked = go (named_token past text) refl
  where
    size : (t : Token) → are_alike (unit_of config unit) (unit_of config target) ≡ true → (unit_of config unit).block_length ≡ (unit_of config target).block_length
    size t e =
        let same = and_second ((unit_of config unit).group == (unit_of config target).group) ((unit_of config unit).block_length == (unit_of config target).block_length) e in
        grind (arith, nat_tests)

    shown : (t : Token) → In t (tokens past) → length (map (held t.before) (blocks_of t.ranges)) ≤ 1_048_576
    shown t there =
        let few = token-few config unit past t asked there in
        let all : length (map (held t.before) (blocks_of t.ranges)) ≡ total t.ranges = length-map (blocks_of t.ranges) (held t.before) ∙ length-blocks_of t.ranges in
        omega (arith, few, all)

    by_fate : (t : Token) → In t (tokens past) → (a b : Bool) → are_alike (unit_of config unit) (unit_of config target) ≡ a → (f : Fate)
        → HasForm config unit (Act.Redeem text target) (if not a then Answer.Refused remote_token_usage_not_supported else if not b then Answer.Refused token_corrupt else answer_by_fate (unit_of config unit) t f)
    by_fate t there false b e f = tt
    by_fate t there true false e f = tt
    by_fate t there true true e Live = record { own = refl; size = size t e; count = shown t there }
    by_fate t there true true e Expired = tt
    by_fate t there true true e Evicted = tt
    by_fate t there true true e Deleted = tt

    go : (w : Option Token) → named_token past text ≡ w → HasForm config unit (Act.Redeem text target) (redeemed config unit now text target w)
    go None e = tt
    go (Some t) e =
        by_fate t (get-in (tokens past) (serial_of text) t e)
        (are_alike (unit_of config unit) (unit_of config target)) (bytes_eq text (token_text config unit t.serial (total t.ranges))) refl (fate_at now t t.fate)

-- ---- reports

-- the serial that an answer gives is below 2^48
abbrev pub HasSerial : Answer → Type 0
HasSerial answer = IfSome (serial_made answer) (λ serial. serial < 2 ^ 48)

unbarred-low : (config : Configuration) (unit : ℕ) (past : List Deed) (actor : Actor) (now : ℕ) (act : Act) → is_making act ≡ true → HasSerial (answer_unbarred config unit past actor now act)
unbarred-low config unit past actor now (Act.Populate id timeout ranges) e =
    go (is_busy past actor OfToken id) (not (is_within (unit_of config unit).blocks ranges)) (nat_le (2 ^ 48) (length (tokens past))) refl
  where
    go : (a b c : Bool) → nat_le (2 ^ 48) (length (tokens past)) ≡ c
        → HasSerial (if a then Answer.Refused operation_in_progress else if b then Answer.Refused lba_out_of_range else if c then Answer.Refused insufficient_resources else Answer.Made (length (tokens past)))
    go true b c e = tt
    go false true c e = tt
    go false false true e = tt
    go false false false e = grind (arith, nat_tests)
unbarred-low config unit past actor now (Act.Start id background ranges rod) e =
    go (is_busy past actor OfToken id) (not (is_within (unit_of config unit).blocks ranges)) (is_crowded past) (length rod.items == 0)
  where
    go : (a b c d : Bool)
        → HasSerial (if a then Answer.Refused operation_in_progress else if b then Answer.Refused lba_out_of_range else if c then Answer.Refused insufficient_resources else Answer.Progress (if d then OpState.Done else OpState.Running) 0)
    go true b c d = tt
    go false true c d = tt
    go false false true d = tt
    go false false false d = tt
unbarred-low config unit past actor now (Act.Open id) e = go (is_busy past actor OfCopy id) (is_crowded past)
  where
    go : (a b : Bool) → HasSerial (if a then Answer.Refused operation_in_progress else if b then Answer.Refused insufficient_resources else Answer.Done)
    go true b = tt
    go false true = tt
    go false false = tt
unbarred-low config unit past actor now _ e = cc

serial-low : (config : Configuration) (unit : ℕ) (past : List Deed) (actor : Actor) (now : ℕ) (act : Act) → is_making act ≡ true → HasSerial (answer_after config unit past actor now act)
serial-low config unit past actor now act e = go (bars_act (reservations past) actor act)
  where
    go : (t : Bool) → HasSerial (if t then Answer.Conflict else answer_unbarred config unit past actor now act)
    go true = tt
    go false = unbarred-low config unit past actor now act e

all-low : (config : Configuration) (unit : ℕ) (past : List Deed) → IsPast config unit past → Each (λ (o : Operation). HasSerial o.made.answer) (operations past)
all-low config unit [] is = tt
all-low config unit (d ∷ past) is =
    Each-append _ (map (operation_after d) (operations past)) _
    (Each-map _ (operation_after d) (operations past)
    (Each-by _ (operations past) (λ o i. subst (λ (x : Deed). HasSerial x.answer) (sym (made-after d o)) (Each-in _ (operations past) o (all-low config unit past is.1) i))))
    (new (makes_operation d) refl)
  where
    new : (t : Bool) → makes_operation d ≡ t → Each (λ (o : Operation). HasSerial o.made.answer) (if t then made_operation d ∷ [] else [])
    new true e = (
      subst (λ (x : Deed). HasSerial x.answer) (sym is.0) (serial-low config unit past d.entry.actor d.entry.moment d.entry.act (and_first (is_making d.entry.act) _ e)),
      tt,
    )
    new false e = tt

-- an operation has written no more blocks than it was asked to, and a token has no more
count-few : (config : Configuration) (unit : ℕ) (o : Operation) (act : Act) → o.made.entry.act ≡ act → within_limits config unit act ≡ true → is_making act ≡ true → form_of act ≡ OfToken → IsBegun o
    → count_of (written o) act ≤ 1_048_576
count-few config unit o (Act.Populate id timeout ranges) is within makes form begun = populate-few config unit id timeout ranges within
count-few config unit o (Act.Start id background ranges rod) is within makes form begun =
    let some = few-written o begun in
    let all : length (list_of o.made.entry.act) ≡ length rod.items = ap (λ a. length (list_of a)) is ∙ start-length config unit id background ranges rod within in
    let few = start-few config unit id background ranges rod within in
    omega (arith, some, all, few)
count-few config unit o (Act.Open id) is within makes form begun = cc
count-few config unit o _ is within makes form begun = cc

populate-done : (o : Operation) (act : Act) → is_populate act ≡ true → state_of o act ≡ OpState.Done
populate-done o (Act.Populate id timeout ranges) e = refl
populate-done o _ e = cc

-- an operation that a deed within its limits made
record IsMadeBy (config : Configuration) (unit : ℕ) (d : Deed) : Type 0 where
  pub fits : Fits config unit d.entry.act
  pub makes : is_making d.entry.act ≡ true
  pub serial : is_some (serial_made d.answer) ≡ is_populate d.entry.act

unbarred-made : (config : Configuration) (unit : ℕ) (past : List Deed) (actor : Actor) (now : ℕ) (act : Act) → is_making act ≡ true
    → not (is_refusal (answer_unbarred config unit past actor now act)) ≡ true → is_some (serial_made (answer_unbarred config unit past actor now act)) ≡ is_populate act
unbarred-made config unit past actor now (Act.Populate id timeout ranges) e answered =
    go (is_busy past actor OfToken id) (not (is_within (unit_of config unit).blocks ranges)) (nat_le (2 ^ 48) (length (tokens past))) answered
  where
    go : (a b c : Bool)
        → not (is_refusal (if a then Answer.Refused operation_in_progress else if b then Answer.Refused lba_out_of_range else if c then Answer.Refused insufficient_resources else Answer.Made (length (tokens past)))) ≡ true
        → is_some (serial_made (if a then Answer.Refused operation_in_progress else if b then Answer.Refused lba_out_of_range else if c then Answer.Refused insufficient_resources else Answer.Made (length (tokens past)))) ≡ true
    go true b c h = cc
    go false true c h = cc
    go false false true h = cc
    go false false false h = refl
unbarred-made config unit past actor now (Act.Start id background ranges rod) e answered =
    go (is_busy past actor OfToken id) (not (is_within (unit_of config unit).blocks ranges)) (is_crowded past) (length rod.items == 0)
  where
    go : (a b c d : Bool)
        → is_some (serial_made (if a then Answer.Refused operation_in_progress else if b then Answer.Refused lba_out_of_range else if c then Answer.Refused insufficient_resources else Answer.Progress (if d then OpState.Done else OpState.Running) 0)) ≡ false
    go true b c d = refl
    go false true c d = refl
    go false false true d = refl
    go false false false d = refl
unbarred-made config unit past actor now (Act.Open id) e answered = go (is_busy past actor OfCopy id) (is_crowded past)
  where
    go : (a b : Bool) → is_some (serial_made (if a then Answer.Refused operation_in_progress else if b then Answer.Refused insufficient_resources else Answer.Done)) ≡ false
    go true b = refl
    go false true = refl
    go false false = refl
unbarred-made config unit past actor now _ e answered = cc

-- a token is made by a Populate alone
serial-made : (config : Configuration) (unit : ℕ) (past : List Deed) (actor : Actor) (now : ℕ) (act : Act) → is_making act ≡ true
    → not (is_refusal (answer_after config unit past actor now act)) ≡ true → is_some (serial_made (answer_after config unit past actor now act)) ≡ is_populate act
serial-made config unit past actor now act e answered =
    ap (λ a. is_some (serial_made a)) (free-answer (bars_act (reservations past) actor act) _ answered)
    ∙ unbarred-made config unit past actor now act e (free-answered (bars_act (reservations past) actor act) _ answered)

-- each operation was made by such a deed
all-made_by : (config : Configuration) (unit : ℕ) (past : List Deed) → IsPast config unit past → AllFit config unit past
    → Each (λ (o : Operation). IsMadeBy config unit o.made) (operations past)
all-made_by config unit [] is all = tt
all-made_by config unit (d ∷ past) is all =
    Each-append _ (map (operation_after d) (operations past)) _
    (Each-map _ (operation_after d) (operations past)
    (Each-by _ (operations past) (λ o i. subst (IsMadeBy config unit) (sym (made-after d o)) (Each-in _ (operations past) o (all-made_by config unit past is.1 all.1) i))))
    (new (makes_operation d) refl)
  where
    answered : is_answered d ≡ true → not (is_refusal (answer_after config unit past d.entry.actor d.entry.moment d.entry.act)) ≡ true
    answered e = sym (ap is_answered is.0) ∙ e

    new : (t : Bool) → makes_operation d ≡ t → Each (λ (o : Operation). IsMadeBy config unit o.made) (if t then made_operation d ∷ [] else [])
    new true e = (
      record {
        fits = all.0;
        makes = and_first (is_making d.entry.act) (is_answered d) e;
        serial = ap (λ (x : Deed). is_some (serial_made x.answer)) is.0 ∙ serial-made config unit past d.entry.actor d.entry.moment d.entry.act (and_first (is_making d.entry.act) (is_answered d) e) (answered (and_second (is_making d.entry.act) (is_answered d) e));
      },
      tt,
    )
    new false e = tt

form-is : (actor : Actor) (form : Form) (id : ℕ) (o : Operation) → has_key actor form id o ≡ true → form_of o.made.entry.act ≡ form
form-is actor form id o e =
    let keys : (same_actor o.made.entry.actor actor && same_form (form_of o.made.entry.act) form) ≡ true = and_first (same_actor o.made.entry.actor actor && same_form (form_of o.made.entry.act) form) (id_of o.made.entry.act == id) e in
    same_form-is (form_of o.made.entry.act) form (and_second (same_actor o.made.entry.actor actor) (same_form (form_of o.made.entry.act) form) keys)

report-formed : (config : Configuration) (unit : ℕ) (past : List Deed) (actor : Actor) (id : ℕ) → IsPast config unit past → AllFit config unit past
    → HasForm config unit (Act.Report id) (answer_report (find (has_key actor OfToken id) (kept past)))
report-formed config unit past actor id is all = go (find (has_key actor OfToken id) (kept past)) refl
  where
    go : (w : Option Operation) → find (has_key actor OfToken id) (kept past) ≡ w → HasForm config unit (Act.Report id) (answer_report w)
    go None e = tt
    go (Some o) e =
        let there : In o (operations past) = kept_in config unit past o is (find-in (has_key actor OfToken id) (kept past) o e) in
        let by = Each-in (λ (o : Operation). IsMadeBy config unit o.made) (operations past) o (all-made_by config unit past is all) there in
        let form = form-is actor OfToken id o (find-passes (has_key actor OfToken id) (kept past) o e) in
        record {
          count = count-few config unit o o.made.entry.act refl by.fits.limits by.makes form (Each-in IsBegun (operations past) o (begun config unit past is) there);
          ended = populate-done o o.made.entry.act;
          token = by.serial;
          serial = Each-in (λ (o : Operation). HasSerial o.made.answer) (operations past) o (all-low config unit past is) there;
        }

-- ---- each answer

keys-few : (past : List Deed) → length (keys_of (reservations past)) ≤ most_registrants
keys-few past =
    let sound = reservations-sound past in
    omega (arith, sound.few, length-map (reservations past).registrants (λ (r : Registrant). r.key))

unbarred-formed : (config : Configuration) (unit : ℕ) (past : List Deed) (actor : Actor) (at : ℕ) (act : Act) → IsPast config unit past → AllFit config unit past
    → HasForm config unit act (answer_unbarred config unit past actor at act)
unbarred-formed config unit past actor at (Act.Read lba count) is all = read-formed config unit (held past) lba count (nat_le (lba + count) (unit_of config unit).blocks)
unbarred-formed config unit past actor at (Act.Capture lba count) is all = capture-formed config unit (held past) lba count (nat_le (lba + count) (unit_of config unit).blocks)
unbarred-formed config unit past actor at (Act.MapStatus lba) is all =
    status-formed config unit (held past) lba ((unit_of config unit).blocks - lba) (nat_lt lba (unit_of config unit).blocks)
unbarred-formed config unit past actor at (Act.Redeem text target) is all = redeem-formed config unit past _ text target all
unbarred-formed config unit past actor at (Act.Report id) is all = report-formed config unit past actor id is all
unbarred-formed config unit past actor at (Act.Write lba list) is all = unbarred-kind config unit past actor at (Act.Write lba list)
unbarred-formed config unit past actor at (Act.Put lba list) is all = unbarred-kind config unit past actor at (Act.Put lba list)
unbarred-formed config unit past actor at (Act.Unmap ranges) is all = unbarred-kind config unit past actor at (Act.Unmap ranges)
unbarred-formed config unit past actor at (Act.Populate id timeout ranges) is all = unbarred-kind config unit past actor at (Act.Populate id timeout ranges)
unbarred-formed config unit past actor at (Act.Delete serial) is all = unbarred-kind config unit past actor at (Act.Delete serial)
unbarred-formed config unit past actor at (Act.Start id background ranges rod) is all = unbarred-kind config unit past actor at (Act.Start id background ranges rod)
unbarred-formed config unit past actor at (Act.Advance id) is all = unbarred-kind config unit past actor at (Act.Advance id)
unbarred-formed config unit past actor at Act.Pump is all = unbarred-kind config unit past actor at Act.Pump
unbarred-formed config unit past actor at (Act.End id) is all = unbarred-kind config unit past actor at (Act.End id)
unbarred-formed config unit past actor at (Act.Abort id) is all = unbarred-kind config unit past actor at (Act.Abort id)
unbarred-formed config unit past actor at (Act.Open id) is all = unbarred-kind config unit past actor at (Act.Open id)
unbarred-formed config unit past actor at (Act.Close id result) is all = unbarred-kind config unit past actor at (Act.Close id result)
unbarred-formed config unit past actor at (Act.Recall id) is all = unbarred-kind config unit past actor at (Act.Recall id)
unbarred-formed config unit past actor at (Act.PrOut action scope kind key action_key) is all = unbarred-kind config unit past actor at (Act.PrOut action scope kind key action_key)
unbarred-formed config unit past actor at Act.PrKeys is all = keys-few past
unbarred-formed config unit past actor at Act.PrHolder is all = unbarred-kind config unit past actor at Act.PrHolder

conflict-formed : (config : Configuration) (unit : ℕ) (act : Act) → MayConflict act → HasForm config unit act Answer.Conflict
conflict-formed config unit (Act.Read lba count) may = may
conflict-formed config unit act may = may

pub after-formed : (config : Configuration) (unit : ℕ) (past : List Deed) (actor : Actor) (at : ℕ) (act : Act) → IsPast config unit past → AllFit config unit past
    → HasForm config unit act (answer_after config unit past actor at act)
after-formed config unit past actor at act is all = go (bars_act (reservations past) actor act) refl
  where
    go : (t : Bool) → bars_act (reservations past) actor act ≡ t → HasForm config unit act (if t then Answer.Conflict else answer_unbarred config unit past actor at act)
    go true e = conflict-formed config unit act (barred-kind (reservations past) actor act e)
    go false e = unbarred-formed config unit past actor at act is all
