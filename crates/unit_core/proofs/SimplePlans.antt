-- Plans of acts on blocks alone
use Rattle.std.proofs.Common.{◌≡◌, ℕ, ◌<◌, List, [], ◌∷◌, refl, ap, sym, ◌∙◌, subst, true, inl, inr, false}
use Rattle.std.specs.Prelude.{map, None}
use Rattle.std.specs.List.{AllByRecursion}
use Rattle.cm_base.specs.Configuration.{Configuration}
use Rattle.cm_base.specs.Units.{unit_of}
use Rattle.lba_ranges.specs.declared.ranges.Range.{Range}
use Rattle.lba_ranges.specs.Denoted.{blocks_of, is_within}
use Rattle.lba_ranges.proofs.PublicLaws.{blocks_of-below}
use Rattle.lba_ranges.specs.HeldBlocks.{HeldBlocks}
use Rattle.lba_ranges.specs.Writings.{Held, unmapped}
use Rattle.cm_history.specs.declared.act.Act.{Act}
use Rattle.cm_history.specs.declared.act.Actor.{Actor}
use Rattle.cm_history.specs.Deeds.{Deed}
use Rattle.cm_history.specs.Blocks.{held}
use Rattle.cm_history.specs.Operations.{running}
use Rattle.cm_history.specs.Reserving.{reservations, bars_act}
use Rattle.cm_history.specs.Answers.{answer_read, answer_write, answer_unmap, answer_status, put_at, wrote_of}
use Rattle.cm_history.proofs.PublicLaws.{find-none}
use Rattle.unit_core.specs.declared.block_change.BlockChange.{BlockChange}
use Rattle.unit_core.specs.declared.block_plans.BlockPlan.{BlockPlan}
use Rattle.unit_core.specs.inner.BlockChanges.{writings_of, MayChange}
use Rattle.unit_core.specs.inner.Planning.{of_blocks, IsPlan, Reads, Writes}
use Rattle.unit_core.proofs.Planned.{plain-plan, unbarred-told}
use Rattle.unit_core.proofs.Quotas.{wrote_none}

pub read-plan : (config : Configuration) (unit : ℕ) (past : List Deed) (actor : Actor) (at : ℕ) (act : Act) (lba count : ℕ) (p : BlockPlan) → Reads lba count act → bars_act (reservations past) actor act ≡ false
    → p.answer ≡ answer_read (unit_of config unit) (held past) lba count → p.change ≡ BlockChange.Nothing → IsPlan config unit past actor at act (of_blocks p)
read-plan config unit past actor at act lba count p reads free told none = go reads
  where
    nothing : writings_of p.change ≡ []
    nothing = ap writings_of none

    may : MayChange (unit_of config unit).blocks (unit_of config unit).block_length p.change
    may = subst (MayChange (unit_of config unit).blocks (unit_of config unit).block_length) (sym none) tt

    go : Reads lba count act → IsPlan config unit past actor at act (of_blocks p)
    go (inl e) = rw e (plain-plan config unit past actor at (Act.Read lba count) p.answer p.change None (unbarred-told config unit past actor at (Act.Read lba count) p.answer (ap (bars_act (reservations past) actor) (sym e) ∙ free) told) (nothing ∙ sym (wrote_none p.answer)) may (record { making = refl; deletes = λ s. refl; redeems = λ s. refl }) (find-none (running past)) refl)
    go (inr e) = rw e (plain-plan config unit past actor at (Act.Capture lba count) p.answer p.change None (unbarred-told config unit past actor at (Act.Capture lba count) p.answer (ap (bars_act (reservations past) actor) (sym e) ∙ free) told) (nothing ∙ sym (wrote_none p.answer)) may (record { making = refl; deletes = λ s. refl; redeems = λ s. refl }) (find-none (running past)) refl)

pub write-plan : (config : Configuration) (unit : ℕ) (past : List Deed) (actor : Actor) (at : ℕ) (act : Act) (lba : ℕ) (list : HeldBlocks) (p : BlockPlan) → Writes lba list act → bars_act (reservations past) actor act ≡ false
    → p.answer ≡ answer_write (unit_of config unit) (held past) lba list.items → writings_of p.change ≡ wrote_of p.answer (put_at lba list.items)
    → MayChange (unit_of config unit).blocks (unit_of config unit).block_length p.change → IsPlan config unit past actor at act (of_blocks p)
write-plan config unit past actor at act lba list p writes free told wrote may = go writes
  where
    go : Writes lba list act → IsPlan config unit past actor at act (of_blocks p)
    go (inl e) = rw e (plain-plan config unit past actor at (Act.Write lba list) p.answer p.change None (unbarred-told config unit past actor at (Act.Write lba list) p.answer (ap (bars_act (reservations past) actor) (sym e) ∙ free) told) wrote may (record { making = refl; deletes = λ s. refl; redeems = λ s. refl }) (find-none (running past)) refl)
    go (inr e) = rw e (plain-plan config unit past actor at (Act.Put lba list) p.answer p.change None (unbarred-told config unit past actor at (Act.Put lba list) p.answer (ap (bars_act (reservations past) actor) (sym e) ∙ free) told) wrote may (record { making = refl; deletes = λ s. refl; redeems = λ s. refl }) (find-none (running past)) refl)

pub unmap-plan : (config : Configuration) (unit : ℕ) (past : List Deed) (actor : Actor) (at : ℕ) (ranges : List Range) (p : BlockPlan) → bars_act (reservations past) actor (Act.Unmap ranges) ≡ false
    → p.answer ≡ answer_unmap (unit_of config unit) ranges → writings_of p.change ≡ wrote_of p.answer (unmapped (blocks_of ranges))
    → MayChange (unit_of config unit).blocks (unit_of config unit).block_length p.change → IsPlan config unit past actor at (Act.Unmap ranges) (of_blocks p)
unmap-plan config unit past actor at ranges p free told wrote may =
    plain-plan config unit past actor at (Act.Unmap ranges) p.answer p.change None (unbarred-told config unit past actor at (Act.Unmap ranges) p.answer free told) wrote may (record { making = refl; deletes = λ s. refl; redeems = λ s. refl }) (find-none (running past)) refl

pub status-plan : (config : Configuration) (unit : ℕ) (past : List Deed) (actor : Actor) (at lba : ℕ) (p : BlockPlan) → bars_act (reservations past) actor (Act.MapStatus lba) ≡ false
    → p.answer ≡ answer_status (unit_of config unit) (held past) lba → p.change ≡ BlockChange.Nothing → IsPlan config unit past actor at (Act.MapStatus lba) (of_blocks p)
status-plan config unit past actor at lba p free told none =
    plain-plan config unit past actor at (Act.MapStatus lba) p.answer p.change None (unbarred-told config unit past actor at (Act.MapStatus lba) p.answer free told) (ap writings_of none ∙ sym (wrote_none p.answer))
    (subst (MayChange (unit_of config unit).blocks (unit_of config unit).block_length) (sym none) tt)
    (record { making = refl; deletes = λ s. refl; redeems = λ s. refl }) (find-none (running past)) refl

map-below : (n : ℕ) (bs : List ℕ) (f g : ℕ → Held) → ((b : ℕ) → b < n → f b ≡ g b) → AllByRecursion (λ b. b < n) bs → map f bs ≡ map g bs
map-below n [] f g same below = refl
map-below n (b ∷ bs) f g same below = ap (λ h. h ∷ map f bs) (same b below.0) ∙ ap (λ l. g b ∷ l) (map-below n bs f g same below.1)

-- blocks within the unit that agree are listed alike
pub map-within : (n : ℕ) (ranges : List Range) (f g : ℕ → Held) → ((b : ℕ) → b < n → f b ≡ g b) → is_within n ranges ≡ true → map f (blocks_of ranges) ≡ map g (blocks_of ranges)
map-within n ranges f g same within = map-below n (blocks_of ranges) f g same (blocks_of-below n ranges within)
