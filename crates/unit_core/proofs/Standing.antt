-- A unit stands for the list of entries that makes it as it is
use Rattle.std.proofs.Common.{◌≡◌, ℕ, ◌+◌, ◌-◌, ◌<◌, ◌≤◌, zero, suc, List, [], ◌∷◌, length, drop, refl, ap, sym, ◌∙◌, arith, true, false, Bool}
use Rattle.std.specs.Prelude.{map, is_some, ◌==◌, if◌then◌else◌}
use Rattle.std.proofs.lemmas.List.{length-drop}
use Rattle.cm_base.specs.Configuration.{Configuration}
use Rattle.cm_base.specs.Units.{unit_of}
use Rattle.lba_ranges.specs.Denoted.{row}
use Rattle.lba_ranges.specs.HeldBlocks.{HeldBlocks}
use Rattle.lba_ranges.specs.Writings.{Held}
use Rattle.cm_history.specs.declared.act.Act.{Act}
use Rattle.cm_history.specs.declared.act.Actor.{Actor}
use Rattle.cm_history.specs.declared.act.Entry.{Entry}
use Rattle.cm_history.specs.Deeds.{Deed}
use Rattle.cm_history.specs.Blocks.{held}
use Rattle.cm_history.specs.Folding.{StandsFor}
use Rattle.cm_history.specs.History.{on, past_of}
use Rattle.cm_history.specs.Ends.{ends_operation}
use Rattle.cm_history.specs.Operations.{would_serve}
use Rattle.cm_history.proofs.PublicLaws.{map-same, past-is}
use Rattle.rod_store.specs.declared.kept.Kept.{Kept}
use Rattle.rod_store.specs.Store.{Store}
use Rattle.copy_jobs.specs.declared.job.Job.{Job}
use Rattle.pr_keys.specs.Reservations.{Reservations}
use Rattle.unit_core.specs.inner.Agreeing.{TablesAgree, RecordAgrees}
use Rattle.unit_core.specs.inner.Shown.{image_shown}
use Rattle.unit_core.proofs.Pasts.{length-past}
use Rattle.unit_core.proofs.Shown.{image-shown}

map-row : (n lba count : ℕ) (f g : ℕ → Held) → ((b : ℕ) → b < n → f b ≡ g b) → lba + count ≤ n → map f (row lba count) ≡ map g (row lba count)
map-row n lba zero f g same within = refl
map-row n lba (suc count) f g same within =
    ap (λ x. x ∷ map f (row (suc lba) count)) (same lba (omega (arith, within)))
    ∙ ap (λ l. g lba ∷ l) (map-row n (suc lba) count f g same (omega (arith, within)))

-- tables that hold the same show the same
pub shown-same : (now stamp entries blocks blocks' : ℕ) (holds holds' : ℕ → Held) (tokens tokens' : List (Kept HeldBlocks)) (jobs jobs' : List Job) (reservations reservations' : Reservations)
    → blocks' ≡ blocks → ((b : ℕ) → holds' b ≡ holds b) → tokens' ≡ tokens → jobs' ≡ jobs → reservations' ≡ reservations
    → image_shown now stamp entries blocks' holds' tokens' jobs' reservations' ≡ image_shown now stamp entries blocks holds tokens jobs reservations
shown-same now stamp entries blocks blocks' holds holds' tokens tokens' jobs jobs' reservations reservations' count same token job reserved =
    let put : map holds' (row 0 blocks) ≡ map holds (row 0 blocks) = map-same holds' holds (row 0 blocks) (λ b i. same b) in
    rw (count, token, job, reserved, put) refl

pub stands-own : (config : Configuration) (unit : ℕ) (kept : List Entry) (folded spare own_payload blocks size : ℕ) (holds : ℕ → Held) (tokens : Store HeldBlocks) (jobs : List Job) (reservations : Reservations) (stamp now : ℕ) (whole : List Entry)
    → TablesAgree config unit blocks size holds tokens jobs reservations stamp now whole → RecordAgrees config unit kept folded spare own_payload whole
    → StandsFor config unit (image_shown now stamp (folded + length kept) blocks holds tokens.tokens jobs reservations) kept folded whole
stands-own config unit kept folded spare own_payload blocks size holds tokens jobs reservations stamp now whole t r =
    let u = unit_of config unit in
    let past = past_of config unit whole in
    let long : length kept ≡ length whole - folded = ap length (sym r.keeps) ∙ length-drop folded whole in
    let all : length past ≡ length whole = length-past config unit whole t.record_is.own in
    let count : length past ≡ folded + length kept = omega (arith, long, all, r.few) in
    let put : map holds (row 0 blocks) ≡ map (held past) (row 0 u.blocks) =
    ap (λ n. map holds (row 0 n)) t.blocks.count ∙ map-row u.blocks 0 u.blocks holds (held past) t.blocks.same (omega arith) in
    record {
      own = t.record_is.own;
      asked = t.record_is.asked;
      image = image-shown config unit past (past-is config unit whole) t.record_is.asked ∙ rw (t.moment, t.stamp, ← count, put, t.tokens.tokens, t.jobs, t.reservations) refl;
      keeps = r.keeps;
      few = r.few;
    }

-- an act ends an operation after each list after which it serves one alike
pub ends-alike : (past past' : List Deed) (actor : Actor) (act : Act) → is_some (would_serve past actor act) ≡ is_some (would_serve past' actor act)
    → ends_operation past actor act ≡ ends_operation past' actor act
ends-alike past past' actor (Act.End id) same = same
ends-alike past past' actor (Act.Abort id) same = same
ends-alike past past' actor (Act.Close id result) same = same
ends-alike past past' actor _ same = refl

few-mine : (unit : ℕ) (entries : List Entry) → length (on unit entries) ≤ length entries
few-mine unit [] = omega arith
few-mine unit (e ∷ entries) = go (e.unit == unit) (few-mine unit entries)
  where
    go : (t : Bool) → length (on unit entries) ≤ length entries → length (if t then e ∷ on unit entries else on unit entries) ≤ suc (length entries)
    go true low = omega (arith, low)
    go false low = omega (arith, low)

own-rest : (unit : ℕ) (e : Entry) (entries : List Entry) → on unit (e ∷ entries) ≡ e ∷ entries → on unit entries ≡ entries
own-rest unit e entries own = go (e.unit == unit) own
  where
    go : (t : Bool) → (if t then e ∷ on unit entries else on unit entries) ≡ e ∷ entries → on unit entries ≡ entries
    go true own = cc
    go false own = let long : length (on unit entries) ≡ suc (length entries) = ap length own in let few = few-mine unit entries in absurd (omega (arith, long, few))

-- the later ones of a unit's own entries are its own
pub own-drop : (unit folded : ℕ) (entries kept : List Entry) → on unit entries ≡ entries → drop folded entries ≡ kept → on unit kept ≡ kept
own-drop unit zero entries kept own keeps = ap (on unit) (sym keeps) ∙ own ∙ keeps
own-drop unit (suc folded) [] kept own keeps = ap (on unit) (sym keeps) ∙ keeps
own-drop unit (suc folded) (e ∷ entries) kept own keeps = own-drop unit folded entries kept (own-rest unit e entries own) keeps
