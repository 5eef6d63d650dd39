-- The tables and the record of a unit agree with a list of entries, also with one more entry, and when kept ones are dropped
use Rattle.std.proofs.Common.{◌≡◌, ℕ, zero, suc, ◌+◌, ◌-◌, ◌^◌, ◌<◌, ◌≤◌, List, [], ◌∷◌, ◌++◌, length, drop, refl, ap, sym, ◌∙◌, arith, false, true, length-append, inl, inr}
use Rattle.std.specs.Prelude.{◌==◌, max, None, fold, nat_le, if◌then◌else◌, ◌⊎◌, unwrap_or, map}
use Rattle.std.proofs.lemmas.Bool.{cases_lt}
use Rattle.std.proofs.lemmas.Bool.Decides.{nat_tests}
use Rattle.std.proofs.lemmas.List.{drop-append-le, drop-drop, drop_at, length-drop}
use Rattle.std.proofs.lemmas.List.Sums.{sum_by-append, sum_by-cons}
use Rattle.lba_ranges.specs.HeldBlocks.{HeldBlocks}
use Rattle.lba_ranges.specs.Writings.{Held, after}
use Rattle.lba_ranges.proofs.PublicLaws.{mapped-none}
use Rattle.cm_base.specs.Configuration.{Configuration, IsUnit}
use Rattle.cm_base.specs.Units.{unit_of}
use Rattle.cm_history.specs.declared.act.Entry.{Entry}
use Rattle.cm_history.specs.Deeds.{Deed, last_stamp, moment}
use Rattle.cm_history.specs.Answers.{deed, writings, wrote_of}
use Rattle.cm_history.specs.Room.{is_full, bytes_in, need, payload, kept_free}
use Rattle.cm_history.specs.History.{on, one_more, past_of}
use Rattle.cm_history.proofs.PublicLaws.{past-is}
use Rattle.copy_jobs.specs.declared.job.Job.{Job}
use Rattle.pr_keys.specs.Reservations.{Reservations, unreserved}
use Rattle.rod_store.specs.Store.{Store}
use Rattle.unit_core.specs.declared.plan.Plan.{Plan}
use Rattle.cm_history.specs.Asked.{IsAsked}
use Rattle.unit_core.specs.inner.Agreeing.{TokensAgree, IsRecord, TablesAgree, RecordAgrees, payload_in}
use Rattle.unit_core.specs.inner.BlockChanges.{writings_of}
use Rattle.unit_core.specs.inner.JobChanges.{jobs_after}
use Rattle.rod_store.specs.Pinning.{rod_now}
use Rattle.rod_store.specs.TokenChanges.{tokens_after, MayPin}
use Rattle.rod_store.specs.declared.token_change.TokenChange.{TokenChange}
use Rattle.rod_store.specs.declared.kept.Kept.{Kept}
use Rattle.rod_store.specs.Kept.{expired, populated}
use Rattle.lba_ranges.specs.Denoted.{blocks_of}
use Rattle.cm_base.specs.declared.config.UnitConfig.{UnitConfig}
use Rattle.cm_history.specs.Blocks.{held}
use Rattle.unit_core.proofs.SimplePlans.{map-within}
use Rattle.unit_core.specs.inner.Planning.{IsDeed, IsPlan}
use Rattle.unit_core.proofs.Pasts.{past_of-push, own-push, length-past}
use Rattle.unit_core.proofs.Blocks.{blocks-step}
use Rattle.unit_core.proofs.Rooms.{HasRoom, room-of, reserved-step}
use Rattle.unit_core.proofs.Quotas.{quota-step}
use Rattle.unit_core.proofs.Planned.{IsKnown}

-- ---- tables

-- a unit that nothing was asked of yet
pub tables-start : (config : Configuration) (unit : ℕ) (blocks size : ℕ) (holds : ℕ → Held) (tokens : Store HeldBlocks) (jobs : List Job) (reservations : Reservations)
    → unit < length config.units → IsUnit (unit_of config unit)
    → blocks ≡ (unit_of config unit).blocks → size ≡ (unit_of config unit).block_length → ((b : ℕ) → holds b ≡ None)
    → tokens.unit ≡ unit → tokens.tokens ≡ [] → jobs ≡ [] → reservations ≡ unreserved
    → TablesAgree config unit blocks size holds tokens jobs reservations 0 0 []
tables-start config unit blocks size holds tokens jobs reservations known limits count length none own empty nothing unreserved = record {
  record_is = record { configured = known; limits = limits; own = refl; asked = tt };
  blocks = record { count = count; size = length; same = λ b h. none b };
  tokens = record { unit = own; tokens = empty };
  jobs = nothing;
  reservations = unreserved;
  stamp = refl;
  moment = refl;
  quota = let zero' = mapped-none (unit_of config unit).blocks (λ b. None) (λ b. refl) in omega arith;
}

pub known-of : (config : Configuration) (unit : ℕ) (entries : List Entry) → IsRecord config unit entries → IsKnown config unit (past_of config unit entries)
known-of config unit entries is = record { is = past-is config unit entries; asked = is.asked }

-- where other tables stand as before
pub tables-same : (config : Configuration) (unit : ℕ) (entries : List Entry) (blocks size blocks' size' : ℕ) (holds holds' : ℕ → Held)
    → (tokens tokens' : Store HeldBlocks) (jobs jobs' : List Job) (reservations reservations' : Reservations) (own_stamp own_moment : ℕ)
    → TablesAgree config unit blocks size holds tokens jobs reservations own_stamp own_moment entries
    → blocks' ≡ blocks → size' ≡ size → ((b : ℕ) → holds' b ≡ holds b) → tokens'.unit ≡ tokens.unit → tokens'.tokens ≡ tokens.tokens → jobs' ≡ jobs → reservations' ≡ reservations
    → TablesAgree config unit blocks' size' holds' tokens' jobs' reservations' own_stamp own_moment entries
tables-same config unit entries blocks size blocks' size' holds holds' tokens tokens' jobs jobs' reservations reservations' own_stamp own_moment agrees count length same own kept jobs-same reserved = record {
  record_is = agrees.record_is;
  blocks = record { count = count ∙ agrees.blocks.count; size = length ∙ agrees.blocks.size; same = λ b h. same b ∙ agrees.blocks.same b h };
  tokens = record { unit = own ∙ agrees.tokens.unit; tokens = kept ∙ agrees.tokens.tokens };
  jobs = jobs-same ∙ agrees.jobs;
  reservations = reserved ∙ agrees.reservations;
  stamp = agrees.stamp;
  moment = agrees.moment;
  quota = agrees.quota;
}

-- a new token is made of the same blocks, where the blocks of the unit are the same
rods-alike : (u : UnitConfig) (at size : ℕ) (f g : ℕ → Held) → size ≡ u.block_length → ((b : ℕ) → b < u.blocks → f b ≡ g b) → (c : TokenChange) (tokens : List (Kept HeldBlocks)) → MayPin u.blocks c
    → tokens_after (rod_now size f) c at tokens ≡ tokens_after (rod_now u.block_length g) c at tokens
rods-alike u at size f g long same TokenChange.Nothing tokens may = refl
rods-alike u at size f g long same (TokenChange.Make timeout blocks ranges) tokens may =
    ap (populated (expired at tokens) at timeout blocks)
    (ap (λ n. let h : HeldBlocks = record { block_length = n; items = map f (blocks_of ranges) } in h) long
    ∙ ap (λ l. let h : HeldBlocks = record { block_length = u.block_length; items = l } in h) (map-within u.blocks ranges f g same may.0))
rods-alike u at size f g long same (TokenChange.Use serial) tokens may = refl
rods-alike u at size f g long same (TokenChange.Delete serial) tokens may = refl

-- what an entry needs of the act's plan, and of the tables after it
pub record Done (config : Configuration) (unit : ℕ) (entries : List Entry) (e : Entry) (plan : Plan) (blocks size blocks' size' : ℕ) (holds holds' : ℕ → Held)
    (tokens tokens' : Store HeldBlocks) (jobs jobs' : List Job) (reservations reservations' : Reservations) : Type 0 where
  pub planned : IsPlan config unit (past_of config unit entries) e.actor e.moment e.act plan
  pub count : blocks' ≡ blocks
  pub long : size' ≡ size
  pub put : (b : ℕ) → holds' b ≡ after (writings_of plan.blocks) b (holds b)
  pub own : tokens'.unit ≡ tokens.unit
  pub kept : tokens'.tokens ≡ tokens_after (rod_now size holds) plan.tokens (max e.moment (moment (past_of config unit entries))) tokens.tokens
  pub changed : jobs' ≡ jobs_after plan.jobs jobs
  pub reserved : reservations' ≡ unwrap_or plan.reservations reservations

-- where the tables were brought on by the plan, and the counters moved on
pub tables-step : (config : Configuration) (unit : ℕ) (entries : List Entry) (e : Entry) (plan : Plan)
    → (blocks size blocks' size' : ℕ) (holds holds' : ℕ → Held) (tokens tokens' : Store HeldBlocks) (jobs jobs' : List Job) (reservations reservations' : Reservations) (own_stamp own_moment moment' : ℕ)
    → TablesAgree config unit blocks size holds tokens jobs reservations own_stamp own_moment entries
    → e.unit ≡ unit → IsAsked config unit (deed config unit (past_of config unit entries) e)
    → Done config unit entries e plan blocks size blocks' size' holds holds' tokens tokens' jobs jobs' reservations reservations'
    → moment' ≡ max e.moment own_moment
    → TablesAgree config unit blocks' size' holds' tokens' jobs' reservations' e.stamp moment' (entries ++ e ∷ [])
tables-step config unit entries e plan blocks size blocks' size' holds holds' tokens tokens' jobs jobs' reservations reservations' own_stamp own_moment moment' agrees here asked done m =
    let past = past_of config unit entries in
    let d = deed config unit past e in
    let u = unit_of config unit in
    let next : past_of config unit (entries ++ e ∷ []) ≡ d ∷ past = past_of-push config unit entries e here in
    let is : IsDeed config unit past e.actor e.moment e.act d = record { made = refl; actor = refl; moment = refl; act = refl } in
    let wrote : writings_of plan.blocks ≡ d.wrote = done.planned.wrote ∙ ap (λ a. wrote_of a (writings past e.actor e.act)) done.planned.answer in
    let blocks_now = blocks-step u past d blocks size blocks' size' holds holds' (writings_of plan.blocks) agrees.blocks done.count done.long wrote done.put in
    let tokens_now : TokensAgree u unit (d ∷ past) tokens' = record {
      unit = done.own ∙ agrees.tokens.unit;
      tokens = done.kept
          ∙ rods-alike u (max e.moment (moment past)) size holds (held past) agrees.blocks.size agrees.blocks.same plan.tokens tokens.tokens done.planned.may_pin
          ∙ ap (tokens_after (rod_now u.block_length (held past)) plan.tokens (max e.moment (moment past))) agrees.tokens.tokens ∙ sym (done.planned.tokens d is);
    } in
    record {
      record_is = record {
        configured = agrees.record_is.configured;
        limits = agrees.record_is.limits;
        own = own-push unit entries e here agrees.record_is.own;
        asked = rw next (asked, agrees.record_is.asked);
      };
      blocks = rw next blocks_now;
      tokens = rw next tokens_now;
      jobs = rw next (done.changed ∙ ap (jobs_after plan.jobs) agrees.jobs ∙ sym (done.planned.jobs d is));
      reservations = rw next (done.reserved ∙ ap (unwrap_or plan.reservations) agrees.reservations ∙ done.planned.reservations);
      stamp = rw next refl;
      moment = rw next (m ∙ ap (max e.moment) agrees.moment);
      quota = rw next (quota-step config unit past e agrees.quota);
    }

-- ---- the record

drop-none : (n : ℕ) → drop {A = Entry} n [] ≡ []
drop-none zero = refl
drop-none (suc n) = refl

-- the bytes in a record without its first deeds
payload-from : (config : Configuration) (unit folded : ℕ) (past : List Deed) (entries : List Entry)
    → payload folded (fold (one_more config unit) past entries) ≡ payload folded past + payload_in (drop (folded - length past) entries)
payload-from config unit folded past [] = (let none : drop {A = Entry} (folded - length past) [] ≡ [] = drop-none (folded - length past) in rw none (omega arith))
payload-from config unit folded past (e ∷ entries) = go (cases_lt (length past) folded) (payload-from config unit folded (deed config unit past e ∷ past) entries)
  where
    d : Deed
    d = deed config unit past e

    go : (length past < folded) ⊎ (folded ≤ length past)
        → payload folded (fold (one_more config unit) (d ∷ past) entries) ≡ payload folded (d ∷ past) + payload_in (drop (folded - suc (length past)) entries)
        → payload folded (fold (one_more config unit) (d ∷ past) entries) ≡ payload folded past + payload_in (drop (folded - length past) (e ∷ entries))
    go (inl low) ih =
        let off : nat_le folded (length past) ≡ false = grind (arith, nat_tests) in
        let gone : payload folded (d ∷ past) ≡ payload folded past = (let step : payload folded past + (if nat_le folded (length past) then bytes_in e.act else 0) ≡ payload folded past = rw off (omega arith) in step) in
        let less : folded - length past ≡ suc (folded - suc (length past)) = omega (arith, low) in
        ih
        ∙ ap (λ n. n + payload_in (drop (folded - suc (length past)) entries)) gone
        ∙ ap (λ n. payload folded past + payload_in (drop n (e ∷ entries))) (sym less)
    go (inr high) ih =
        let on : nat_le folded (length past) ≡ true = grind (arith, nat_tests) in
        let more : payload folded (d ∷ past) ≡ payload folded past + bytes_in e.act = (let step : payload folded past + (if nat_le folded (length past) then bytes_in e.act else 0) ≡ payload folded past + bytes_in e.act = rw on refl in step) in
        let all : folded - length past ≡ 0 = omega (arith, high) in
        let rest : folded - suc (length past) ≡ 0 = omega (arith, high) in
        let first : payload_in (e ∷ entries) ≡ bytes_in e.act + payload_in entries = sum_by-cons (λ (x : Entry). bytes_in x.act) e entries in
        let ih' : payload folded (fold (one_more config unit) (d ∷ past) entries) ≡ payload folded past + bytes_in e.act + payload_in entries =
        ih ∙ ap (λ n. n + payload_in (drop (folded - suc (length past)) entries)) more ∙ ap (λ n. payload folded past + bytes_in e.act + payload_in (drop n entries)) rest in
        ih' ∙ (let sums : payload folded past + bytes_in e.act + payload_in entries ≡ payload folded past + payload_in (e ∷ entries) = omega (arith, first) in sums)
        ∙ ap (λ n. payload folded past + payload_in (drop n (e ∷ entries))) (sym all)

-- the payload of a record without its first entries is that of the entries that it keeps
pub payload-kept : (config : Configuration) (unit : ℕ) (kept : List Entry) (folded : ℕ) (entries : List Entry) → on unit entries ≡ entries → drop folded entries ≡ kept
    → payload folded (past_of config unit entries) ≡ payload_in kept
payload-kept config unit kept folded entries own keeps =
    let all : folded - 0 ≡ folded = omega arith in
    let sums : payload folded (past_of config unit entries) ≡ 0 + payload_in (drop (folded - 0) (on unit entries)) = payload-from config unit folded [] (on unit entries) in
    sums ∙ (let none : 0 + payload_in (drop (folded - 0) (on unit entries)) ≡ payload_in (drop (folded - 0) (on unit entries)) = omega arith in none)
    ∙ ap (λ n. payload_in (drop n (on unit entries))) all ∙ ap (λ l. payload_in (drop folded l)) own ∙ ap payload_in keeps

-- as many deeds are behind the first ones as entries are kept
pub length-kept : (config : Configuration) (unit : ℕ) (kept : List Entry) (folded : ℕ) (entries : List Entry) → on unit entries ≡ entries → drop folded entries ≡ kept
    → length (past_of config unit entries) - folded ≡ length kept
length-kept config unit kept folded entries own keeps =
    ap (λ n. n - folded) (length-past config unit entries own) ∙ sym (length-drop folded entries) ∙ ap length keeps

-- a stamp that is not the last has one behind it
pub stamp-next : (n : ℕ) → n < 2 ^ 64 → (n == 2 ^ 64 - 1) ≡ false → n + 1 < 2 ^ 64
stamp-next n low off = grind (arith, nat_tests)

pub record-start : (config : Configuration) (unit : ℕ) → RecordAgrees config unit [] 0 0 0 []
record-start config unit = record {
  keeps = refl;
  few = omega arith;
  stamps = omega arith;
  last = omega arith;
  free = omega arith;
  payload = refl;
  room = omega arith;
  bytes = omega arith;
}

-- with more room in memory
pub record-more : (config : Configuration) (unit : ℕ) (kept : List Entry) (folded spare spare' own_payload : ℕ) (entries : List Entry)
    → RecordAgrees config unit kept folded spare own_payload entries → spare ≤ spare' → RecordAgrees config unit kept folded spare' own_payload entries
record-more config unit kept folded spare spare' own_payload entries r more = record {
  keeps = r.keeps;
  few = r.few;
  stamps = r.stamps;
  last = r.last;
  free = omega (arith, r.free, more);
  payload = r.payload;
  room = r.room;
  bytes = r.bytes;
}

-- with one more entry, for which there is room
pub record-step : (config : Configuration) (unit : ℕ) (kept : List Entry) (folded spare spare' own_payload payload' : ℕ) (entries : List Entry) (e : Entry) (stamp : ℕ)
    → RecordAgrees config unit kept folded spare own_payload entries → IsRecord config unit entries
    → e.unit ≡ unit → IsAsked config unit (deed config unit (past_of config unit entries) e)
    → last_stamp (past_of config unit entries) + 1 ≤ e.stamp → e.stamp < 2 ^ 64
    → is_full (unit_of config unit) folded (past_of config unit entries) e.actor stamp e.act ≡ false
    → kept_free (past_of config unit entries) + need (past_of config unit entries) e.actor e.act ≤ spare' + 1
    → payload' ≡ own_payload + bytes_in e.act
    → RecordAgrees config unit (kept ++ e ∷ []) folded spare' payload' (entries ++ e ∷ [])
record-step config unit kept folded spare spare' own_payload payload' entries e stamp r is here asked later fits room free p =
    let past = past_of config unit entries in
    let u = unit_of config unit in
    let d = deed config unit past e in
    let next : past_of config unit (entries ++ e ∷ []) ≡ d ∷ past = past_of-push config unit entries e here in
    let known = known-of config unit entries is in
    let bytes : payload folded past ≡ payload_in kept = payload-kept config unit kept folded entries is.own r.keeps in
    let count : length past - folded ≡ length kept = length-kept config unit kept folded entries is.own r.keeps in
    let within : payload folded past ≤ u.payload = omega (arith, bytes, r.bytes) in
    let has : HasRoom u folded past e.actor stamp e.act = room-of u folded past e.actor stamp e.act within room in
    let takes : kept_free (d ∷ past) + 1 ≤ kept_free past + need past e.actor e.act = reserved-step config unit past d known asked refl in
    let longer : length (entries ++ e ∷ []) ≡ length entries + 1 = length-append entries (e ∷ []) in
    let more : length (kept ++ e ∷ []) ≡ length kept + 1 = length-append kept (e ∷ []) in
    let one : payload_in (e ∷ []) ≡ bytes_in e.act + 0 = sum_by-cons (λ (x : Entry). bytes_in x.act) e [] in
    let sums : payload_in (kept ++ e ∷ []) ≡ payload_in kept + payload_in (e ∷ []) = sum_by-append (λ (x : Entry). bytes_in x.act) kept (e ∷ []) in
    let free-now : kept_free (d ∷ past) ≤ spare' = omega (arith, takes, free) in
    let room-now : length (kept ++ e ∷ []) + kept_free (d ∷ past) ≤ u.entries = omega (arith, has.entries, takes, more, count) in
    record {
      keeps = drop-append-le folded entries (e ∷ []) r.few ∙ ap (λ l. l ++ e ∷ []) r.keeps;
      few = omega (arith, r.few, longer);
      stamps = rw next (omega (arith, r.stamps, later, longer));
      last = rw next fits;
      free = rw next free-now;
      payload = omega (arith, p, r.payload, sums, one);
      room = rw next room-now;
      bytes = omega (arith, has.bytes, bytes, sums, one);
    }

-- without the first of the kept entries
pub record-fold : (config : Configuration) (unit : ℕ) (kept kept' done : List Entry) (folded spare own_payload payload' : ℕ) (entries : List Entry) → done ++ kept' ≡ kept
    → RecordAgrees config unit kept folded spare own_payload entries → payload' ≡ payload_in kept' → RecordAgrees config unit kept' (folded + length done) spare payload' entries
record-fold config unit kept kept' done folded spare own_payload payload' entries parts r p =
    let long : length kept ≡ length done + length kept' = ap length (sym parts) ∙ length-append done kept' in
    let sums : payload_in kept ≡ payload_in done + payload_in kept' = ap payload_in (sym parts) ∙ sum_by-append (λ (x : Entry). bytes_in x.act) done kept' in
    let all : length kept ≡ length entries - folded = ap length (sym r.keeps) ∙ length-drop folded entries in
    record {
      keeps = sym (drop-drop (length done) folded entries) ∙ ap (drop (length done)) (r.keeps ∙ sym parts) ∙ drop_at done kept' (length done) refl;
      few = omega (arith, r.few, all, long);
      stamps = r.stamps;
      last = r.last;
      free = r.free;
      payload = p;
      room = omega (arith, r.room, long);
      bytes = omega (arith, r.bytes, sums);
    }
