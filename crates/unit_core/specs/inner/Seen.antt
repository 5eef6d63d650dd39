-- The puts that wrote what the tables of a unit keep of blocks, and what an act changes in them
use Rattle.std.specs.Prelude.{◌≡◌, ℕ, List, Option, Some, None, is_some, Bool, false, ◌==◌, if◌then◌else◌}
use Rattle.lba_ranges.specs.declared.ranges.Range.{Range}
use Rattle.lba_ranges.specs.Denoted.{denotes}
use Rattle.lba_ranges.specs.Versions.{Writers}
use Rattle.lba_ranges.specs.Writings.{Writing, after, is_written}
use Rattle.cm_history.specs.declared.act.Act.{Act}
use Rattle.cm_history.specs.declared.answer.Answer.{Answer}
use Rattle.cm_history.specs.Deeds.{is_refusal}
use Rattle.rod_store.specs.declared.kept.Kept.{Kept}
use Rattle.rod_store.specs.Kept.{value_at}
use Rattle.rod_store.specs.declared.pinned_rod.PinnedRod.{PinnedRod}
use Rattle.unit_core.specs.Versions.{Sight, Now, ByToken}

module _ {P : Type 0} (number : P → ℕ) (w : Writers) where
  abbrev pub put_shown : Option (PinnedRod P) → ℕ → Option ℕ
  put_shown None block = None
  put_shown (Some rod) block = if denotes rod.ranges block then w.shown (number rod.pin) block else None

  -- the put that wrote what is seen of a block
  abbrev pub put_seen : List (Kept (PinnedRod P)) → Sight → ℕ → Option ℕ
  put_seen tokens Now block = w.now block
  put_seen tokens (ByToken serial) block = put_shown (value_at serial tokens) block

-- the token of the serial is live
abbrev pub lives_in : {P : Type 0} → List (Kept (PinnedRod P)) → ℕ → Bool
lives_in tokens serial = is_some (value_at serial tokens)

-- ---- which of the versions are the same

abbrev pub if_both : (Option ℕ → Option ℕ → Bool) → Option (Option ℕ) → Option (Option ℕ) → Bool
if_both shares (Some one) (Some other) = shares one other
if_both shares _ _ = false

module _ {P : Type 0} (number : P → ℕ) where
  abbrev pub pin_shown : Option (PinnedRod P) → ℕ → Option (Option ℕ)
  pin_shown None block = None
  pin_shown (Some rod) block = if denotes rod.ranges block then Some (Some (number rod.pin)) else None

  -- what shows that of the block: it is current, or the pin of a number shows it, or it is nothing
  abbrev pub pin_seen : List (Kept (PinnedRod P)) → Sight → ℕ → Option (Option ℕ)
  pin_seen tokens Now block = Some None
  pin_seen tokens (ByToken serial) block = pin_shown (value_at serial tokens) block

  abbrev pub shares_shown : (Option ℕ → Option ℕ → ℕ → Bool) → List (Kept (PinnedRod P)) → Sight → Sight → ℕ → Bool
  shares_shown shares tokens one other block = if_both (λ p q. shares p q block) (pin_seen tokens one block) (pin_seen tokens other block)

-- ---- who wrote them

-- these puts may have written what is seen
pub record AreWriters {P : Type 0} (number : P → ℕ) (written_by : Writers → Type 0) (tokens : List (Kept (PinnedRod P))) (seen : Sight → ℕ → Option ℕ) : Type 0 where
  pub writers : Writers
  pub written : written_by writers
  pub same : (sight : Sight) (block : ℕ) → put_seen number writers tokens sight block ≡ seen sight block

-- ---- one more act

-- where what is seen after an act comes from: it is nothing, or was put by the act, or was seen before
pub data Origin : Type 0 where
  Nothing : Origin
  Put : Origin
  Before : Sight → Origin

abbrev pub origin_made : Option (List Range) → ℕ → Origin
origin_made None block = Nothing
origin_made (Some ranges) block = if denotes ranges block then Before Now else Nothing

-- by what the act writes, the ranges of the token of this serial that it makes, and which tokens are live then
abbrev pub origin : List Writing → Option (List Range) → ℕ → (ℕ → Bool) → Sight → ℕ → Origin
origin ws made serial lives Now block = if is_written ws block then (if is_some (after ws block None) then Put else Nothing) else Before Now
origin ws made serial lives (ByToken s) block = if lives s then (if s == serial then origin_made made block else Before (ByToken s)) else Nothing

abbrev pub put_from : ℕ → (Sight → ℕ → Option ℕ) → ℕ → Origin → Option ℕ
put_from put seen block Nothing = None
put_from put seen block Put = Some put
put_from put seen block (Before sight) = seen sight block

-- the puts that wrote what is seen after the act
abbrev pub seen_after : ℕ → List Writing → Option (List Range) → ℕ → (ℕ → Bool) → (Sight → ℕ → Option ℕ) → Sight → ℕ → Option ℕ
seen_after put ws made serial lives seen sight block = put_from put seen block (origin ws made serial lives sight block)

-- the ranges of the token that an act made, if it made one
abbrev pub ranges_made : Answer → Act → Option (List Range)
ranges_made answer (Act.Populate id timeout ranges) = if is_refusal answer then None else Some ranges
ranges_made answer _ = None
