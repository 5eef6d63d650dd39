-- Room in a unit's record
use Rattle.std.proofs.Common.{◌≡◌, ℕ, ◌+◌, ◌-◌, ◌^◌, ◌<◌, ◌≤◌, List, ◌∷◌, length, refl, ap, sym, ◌∙◌, subst, arith, true, false, Bool, inl, inr}
use Rattle.std.specs.Prelude.{Option, Some, None, ◌⊎◌, ◌||◌, ◌&&◌, ◌==◌, nat_lt, max, is_some, if◌then◌else◌}
use Rattle.std.proofs.lemmas.Bool.{cases_eq, or_parts, or_left, or_right, ltb-false, lt-ltb, le-ltb, eq-eqb, ne_eqb}
use Rattle.std.proofs.lemmas.Bool.Decides.{nat_tests}
use Rattle.cm_base.specs.Configuration.{Configuration}
use Rattle.cm_base.specs.declared.config.UnitConfig.{UnitConfig}
use Rattle.cm_base.specs.Units.{unit_of}
use Rattle.lba_ranges.specs.declared.ranges.Range.{Range}
use Rattle.lba_ranges.specs.HeldBlocks.{HeldBlocks}
use Rattle.cm_history.specs.declared.act.Act.{Act}
use Rattle.cm_history.specs.declared.act.Actor.{Actor}
use Rattle.cm_history.specs.Deeds.{Deed, last_stamp, is_answered}
use Rattle.cm_history.specs.Operations.{Operation, is_making, is_running_state, makes_operation, made_operation, would_serve, running, kept, state, written, operations, is_running_copy, result_of}
use Rattle.cm_history.specs.Answers.{deed}
use Rattle.cm_history.specs.Room.{is_full, is_write, bytes_in, need, pieces, kept_free, payload}
use Rattle.cm_history.proofs.PublicLaws.{Each, Each-in, find-none, IsBegun, begun, kept_in, making_serves, and_first, IsPaced, all-paced, serving}
use Rattle.copy_jobs.specs.Jobs as jobs
use Rattle.cm_history.specs.Asked.{IsAsked}
use Rattle.unit_core.specs.inner.Tables.{job_of, jobs_of, work_of}
use Rattle.unit_core.proofs.Jobs.{IsOwn, maker-nexus}
use Rattle.unit_core.proofs.Keeping.{made-jobs, same-jobs, serving-jobs, found-own, served-there, served-runs, own_key, serves-none}
use Rattle.unit_core.proofs.Reserving.{reserved-is, keep-reserves, change-reserves, serving-reserves}
use Rattle.unit_core.proofs.Planned.{IsKnown, own-of}

pub no_bytes : (act : Act) → is_write act ≡ false → bytes_in act ≡ 0
no_bytes (Act.Write lba list) e = cc
no_bytes _ e = refl

-- an act has no room for one of three causes
pub full-is : (unit : UnitConfig) (folded : ℕ) (past : List Deed) (actor : Actor) (stamp : ℕ) (act : Act) → payload folded past ≤ unit.payload
    → is_full unit folded past actor stamp act
    ≡ (((max stamp (last_stamp past) == 2 ^ 64 - 1) || nat_lt unit.entries (length past - folded + kept_free past + need past actor act)) || nat_lt unit.payload (payload folded past + bytes_in act))
full-is unit folded past actor stamp act within =
    ap (λ t. ((max stamp (last_stamp past) == 2 ^ 64 - 1) || nat_lt unit.entries (length past - folded + kept_free past + need past actor act)) || t) (go (is_write act) refl)
  where
    go : (t : Bool) → is_write act ≡ t → (t && nat_lt unit.payload (payload folded past + bytes_in act)) ≡ nat_lt unit.payload (payload folded past + bytes_in act)
    go true e = refl
    go false e = let none = no_bytes act e in grind (arith, nat_tests)

-- a record that is not full has the entries and the bytes left
pub record HasRoom (unit : UnitConfig) (folded : ℕ) (past : List Deed) (actor : Actor) (stamp : ℕ) (act : Act) : Type 0 where
  pub stamps : max stamp (last_stamp past) == 2 ^ 64 - 1 ≡ false
  pub entries : length past - folded + kept_free past + need past actor act ≤ unit.entries
  pub bytes : payload folded past + bytes_in act ≤ unit.payload

pub room-of : (unit : UnitConfig) (folded : ℕ) (past : List Deed) (actor : Actor) (stamp : ℕ) (act : Act) → payload folded past ≤ unit.payload
    → is_full unit folded past actor stamp act ≡ false → HasRoom unit folded past actor stamp act
room-of unit folded past actor stamp act within e =
    let n = length past - folded + kept_free past + need past actor act in
    let parts = or_parts ((max stamp (last_stamp past) == 2 ^ 64 - 1) || nat_lt unit.entries n) (nat_lt unit.payload (payload folded past + bytes_in act))
    (sym (full-is unit folded past actor stamp act within) ∙ e) in
    let first = or_parts (max stamp (last_stamp past) == 2 ^ 64 - 1) (nat_lt unit.entries n) parts.0 in
    record { stamps = first.0; entries = ltb-false unit.entries n first.1; bytes = ltb-false unit.payload (payload folded past + bytes_in act) parts.1 }

-- the three causes, each where those before it do not hold
pub full-stamps : (unit : UnitConfig) (folded : ℕ) (past : List Deed) (actor : Actor) (stamp : ℕ) (act : Act) → payload folded past ≤ unit.payload
    → max stamp (last_stamp past) ≡ 2 ^ 64 - 1 → is_full unit folded past actor stamp act ≡ true
full-stamps unit folded past actor stamp act within last =
    full-is unit folded past actor stamp act within
    ∙ (let on : (max stamp (last_stamp past) == 2 ^ 64 - 1) ≡ true = eq-eqb (max stamp (last_stamp past)) (2 ^ 64 - 1) last in rw on refl)

pub full-entries : (unit : UnitConfig) (folded : ℕ) (past : List Deed) (actor : Actor) (stamp : ℕ) (act : Act) → payload folded past ≤ unit.payload
    → unit.entries < length past - folded + kept_free past + need past actor act → is_full unit folded past actor stamp act ≡ true
full-entries unit folded past actor stamp act within more =
    let n = length past - folded + kept_free past + need past actor act in
    full-is unit folded past actor stamp act within
    ∙ or_left ((max stamp (last_stamp past) == 2 ^ 64 - 1) || nat_lt unit.entries n) (nat_lt unit.payload (payload folded past + bytes_in act))
    (or_right (max stamp (last_stamp past) == 2 ^ 64 - 1) (nat_lt unit.entries n) (lt-ltb unit.entries n more))

pub full-bytes : (unit : UnitConfig) (folded : ℕ) (past : List Deed) (actor : Actor) (stamp : ℕ) (act : Act) → payload folded past ≤ unit.payload
    → (max stamp (last_stamp past) ≡ 2 ^ 64 - 1 → ⊥) → length past - folded + kept_free past + need past actor act ≤ unit.entries
    → is_full unit folded past actor stamp act ≡ nat_lt unit.payload (payload folded past + bytes_in act)
full-bytes unit folded past actor stamp act within more room =
    let n = length past - folded + kept_free past + need past actor act in
    let stamps : (max stamp (last_stamp past) == 2 ^ 64 - 1) ≡ false = ne_eqb (max stamp (last_stamp past)) (2 ^ 64 - 1) more in
    let entries : nat_lt unit.entries n ≡ false = le-ltb unit.entries n room in
    full-is unit folded past actor stamp act within ∙ rw (stamps, entries) refl

-- ---- what an act needs

pub need-served : (past : List Deed) (actor : Actor) (act : Act) (o : Operation) → would_serve past actor act ≡ Some o → need past actor act ≡ 0
need-served past actor (Act.Advance id) o e = ap (λ w. if is_some w then 0 else 1) e
need-served past actor Act.Pump o e = ap (λ w. if is_some w then 0 else 1) e
need-served past actor (Act.End id) o e = ap (λ w. if is_some w then 0 else 1) e
need-served past actor (Act.Abort id) o e = ap (λ w. if is_some w then 0 else 1) e
need-served past actor (Act.Close id result) o e = ap (λ w. if is_some w then 0 else 1) e
need-served past actor _ o e = let no = sym (find-none (running past)) ∙ e in cc

need-unserved : (past : List Deed) (actor : Actor) (act : Act) → would_serve past actor act ≡ None → 1 ≤ need past actor act
need-unserved past actor (Act.Start id background ranges rod) e = omega arith
need-unserved past actor (Act.Open id) e = omega arith
need-unserved past actor (Act.Advance id) e = let n : need past actor (Act.Advance id) ≡ 1 = ap (λ w. if is_some w then 0 else 1) e in omega (arith, n)
need-unserved past actor Act.Pump e = let n : need past actor Act.Pump ≡ 1 = ap (λ w. if is_some w then 0 else 1) e in omega (arith, n)
need-unserved past actor (Act.End id) e = let n : need past actor (Act.End id) ≡ 1 = ap (λ w. if is_some w then 0 else 1) e in omega (arith, n)
need-unserved past actor (Act.Abort id) e = let n : need past actor (Act.Abort id) ≡ 1 = ap (λ w. if is_some w then 0 else 1) e in omega (arith, n)
need-unserved past actor (Act.Close id result) e = let n : need past actor (Act.Close id result) ≡ 1 = ap (λ w. if is_some w then 0 else 1) e in omega (arith, n)
need-unserved past actor _ e = omega arith

serving-bytes : (past : List Deed) (actor : Actor) (act : Act) → is_some (would_serve past actor act) ≡ true → bytes_in act ≡ 0
serving-bytes past actor (Act.Write lba list) s = let no : is_some (would_serve past actor (Act.Write lba list)) ≡ false = ap is_some (find-none (running past)) in let never = sym s ∙ no in cc
serving-bytes past actor _ s = refl

-- of an act that makes no operation
pub need-by : (past : List Deed) (actor : Actor) (act : Act) → ((id : ℕ) (background : Bool) (ranges : List Range) (rod : HeldBlocks) → act ≡ Act.Start id background ranges rod → ⊥) → ((id : ℕ) → act ≡ Act.Open id → ⊥)
    → need past actor act ≡ (if is_some (would_serve past actor act) then 0 else 1)
need-by past actor (Act.Start id background ranges rod) s o = absurd (s id background ranges rod refl)
need-by past actor (Act.Open id) s o = absurd (o id refl)
need-by past actor (Act.Advance id) s o = refl
need-by past actor Act.Pump s o = refl
need-by past actor (Act.End id) s o = refl
need-by past actor (Act.Abort id) s o = refl
need-by past actor (Act.Close id result) s o = refl
need-by past actor _ s o = sym (ap (λ w. if is_some w then 0 else 1) (find-none (running past)))

-- a new operation needs one entry more than it keeps free
need-made : (past : List Deed) (actor : Actor) (o : Operation) (act : Act) → is_making act ≡ true → length (written o) ≡ 0
    → jobs.reserved_for (work_of o act) + 1 ≤ need past actor act
need-made past actor o (Act.Start id background ranges rod) e none = go (is_running_state (state o))
  where
    zero-pieces : pieces (length (written o)) ≡ 0
    zero-pieces = ap pieces none

    go : (t : Bool) → (if t then pieces (length rod.items) + 1 - pieces (length (written o)) else 0) + 1 ≤ 2 + pieces (length rod.items)
    go true = omega arith
    go false = omega arith
need-made past actor o (Act.Open id) e none = go (is_running_copy (result_of o.servers).state)
  where
    go : (t : Bool) → (if t then 1 else 0) + 1 ≤ 2
    go true = omega arith
    go false = omega arith
need-made past actor o (Act.Populate id timeout ranges) e none = omega arith
need-made past actor o _ e none = cc

-- an act with room takes one entry, and keeps free what is needed from then on
pub reserved-step : (config : Configuration) (unit : ℕ) (past : List Deed) (d : Deed) → IsKnown config unit past → IsAsked config unit d → d ≡ deed config unit past d.entry
    → kept_free (d ∷ past) + 1 ≤ kept_free past + need past d.entry.actor d.entry.act
reserved-step config unit past d known asked made = go (would_serve past d.entry.actor d.entry.act) refl (makes_operation d) refl
  where
    own : Each (IsOwn config unit) (kept past)
    own = own-of config unit past known

    before : jobs.reserved (jobs_of past) ≡ kept_free past
    before = reserved-is config unit past known.is

    after : jobs.reserved (jobs_of (d ∷ past)) ≡ kept_free (d ∷ past)
    after = reserved-is config unit (d ∷ past) (made, known.is)

    go : (w : Option Operation) → would_serve past d.entry.actor d.entry.act ≡ w → (m : Bool) → makes_operation d ≡ m
        → kept_free (d ∷ past) + 1 ≤ kept_free past + need past d.entry.actor d.entry.act
    go (Some o) e true m =
        let no = sym e ∙ making_serves past d.entry.actor d.entry.act (and_first (is_making d.entry.act) (is_answered d) m) in
        cc
    go (Some o) e false m =
        let there = served-there config unit past d.entry.actor d.entry.act o known.is e in
        let runs = served-runs config unit past d.entry.actor d.entry.act o known.is e in
        let less = serving-reserves config unit (unit_of config unit) past d o asked (serving config unit past d o made e) (Each-in (IsOwn config unit) (kept past) o own there) runs
        (Each-in IsBegun (operations past) o (begun config unit past known.is) (kept_in config unit past o known.is there))
        (Each-in IsPaced (operations past) o (all-paced config unit past known.is) (kept_in config unit past o known.is there)) in
        let o' : Operation = record o { servers = d ∷ o.servers } in
        let step = serving-jobs config unit past d o (λ j. job_of o') known.is made own m e refl in
        let falls = change-reserves (jobs.runs_as (own_key o)) (λ j. job_of o') (jobs_of past) (job_of o) (found-own config unit past o known.is own there runs) less in
        let now : jobs.reserved (jobs_of (d ∷ past)) + 1 ≤ jobs.reserved (jobs_of past) = subst (λ l. jobs.reserved l + 1 ≤ jobs.reserved (jobs_of past)) (sym step) falls in
        omega (arith, before, after, now)
    go None e true m =
        let making = and_first (is_making d.entry.act) (is_answered d) m in
        let step = made-jobs config unit past d own (maker-nexus unit d.entry.actor d.entry.act asked.asked making) m in
        let more = keep-reserves (jobs_of past) (job_of (made_operation d)) in
        let now : jobs.reserved (jobs_of (d ∷ past)) ≤ jobs.reserved (jobs_of past) + jobs.reserved_for (job_of (made_operation d)).work = subst (λ l. jobs.reserved l ≤ jobs.reserved (jobs_of past) + jobs.reserved_for (job_of (made_operation d)).work) (sym step) more in
        let takes = need-made past d.entry.actor (made_operation d) d.entry.act making refl in
        omega (arith, before, after, now, takes)
    go None e false m =
        let step = same-jobs past d m (serves-none config unit past d made e) in
        let now : jobs.reserved (jobs_of (d ∷ past)) ≡ jobs.reserved (jobs_of past) = ap jobs.reserved step in
        let one = need-unserved past d.entry.actor d.entry.act e in
        omega (arith, before, after, now, one)

-- an act that serves an operation finds room, but where stamps are at their end
pub full-serving : (unit : UnitConfig) (folded : ℕ) (past : List Deed) (actor : Actor) (stamp : ℕ) (act : Act) → payload folded past ≤ unit.payload → length past - folded + kept_free past ≤ unit.entries
    → is_some (would_serve past actor act) ≡ true → is_full unit folded past actor stamp act ≡ true → max stamp (last_stamp past) ≡ 2 ^ 64 - 1
full-serving unit folded past actor stamp act within room serves full = go (cases_eq (max stamp (last_stamp past)) (2 ^ 64 - 1))
  where
    none : need past actor act ≡ 0
    none = of (would_serve past actor act) refl serves
      where
        of : (w : Option Operation) → would_serve past actor act ≡ w → is_some w ≡ true → need past actor act ≡ 0
        of None e s = cc
        of (Some o) e s = need-served past actor act o e

    no-bytes : bytes_in act ≡ 0
    no-bytes = serving-bytes past actor act serves

    go : (max stamp (last_stamp past) ≡ 2 ^ 64 - 1) ⊎ (max stamp (last_stamp past) ≡ 2 ^ 64 - 1 → ⊥) → max stamp (last_stamp past) ≡ 2 ^ 64 - 1
    go (inl e) = e
    go (inr differs) =
        let last : is_full unit folded past actor stamp act ≡ nat_lt unit.payload (payload folded past + bytes_in act) = full-bytes unit folded past actor stamp act within differs (omega (arith, room, none)) in
        let fits : nat_lt unit.payload (payload folded past + bytes_in act) ≡ false = (let b = no-bytes in grind (arith, nat_tests)) in
        let never = sym full ∙ last ∙ fits in
        cc
