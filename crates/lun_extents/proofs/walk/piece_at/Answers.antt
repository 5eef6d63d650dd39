use Rattle.std.proofs.Common.{◌≡◌, ℕ, ◌∙◌, ◌+◌, ◌-◌, ◌<◌, ◌≤◌, ap, sym, arith}
use Rattle.std.specs.Prelude.{None, slice_range}
use Rattle.std.proofs.lemmas.List.{length-replicate}
use Rattle.lba_ranges.specs.HeldBlocks.{filled, held_at}
use Rattle.lba_ranges.proofs.PublicLaws.{length-filled, held_at-hole}
use Rattle.lun_extents.specs.Extents.{stored, held_from, held_in}
use Rattle.lun_extents.proofs.Places.{by_places, held_at-part}
use Rattle.lun_extents.proofs.walk.piece_at.Goals as goal

pub returns-in_ok-part-in-Some-clause-held : goal.returns-in_ok-part-in-Some-clause-held
returns-in_ok-part-in-Some-clause-held c =
    let size = c.args.size in
    let block = c.args.block in
    let p = c.in-Some.piece.now in
    let q = c.in_ok-part-in-Some.part in
    let place = c.in-Some.place in
    let held : (size i : ℕ) → held_from size (stored c.args.extents.now.entries) c.args.block i ≡ held_at (filled size p.count p.fill) (place + i) = rw c.in-Some.is at c.reach_at-end.ensures.held in
    let n : q.count ≡ c.min.result = c.in_ok-part-in-Some.ensures.count in
    let part : filled size q.count q.fill ≡ slice_range (filled size p.count p.fill) place (place + c.min.result) = c.in_ok-part-in-Some.ensures.blocks in
    by_places (held_in size c.args.extents.now.entries) (filled size q.count q.fill) block q.count (length-filled size q.count q.fill)
    (λ i low.
    let same : block + i - block ≡ i = omega arith in
    let from : block ≤ block + i = omega arith in
    let to : block + i < c.reach_at-end.result.1 = omega arith in
    let less : i < c.min.result = omega arith in
    ap (λ l. held_at l i) part ∙ held_at-part (filled size p.count p.fill) place c.min.result i less
    ∙ sym (held size i)
    ∙ ap (λ m. held_from size (stored c.args.extents.now.entries) block m) (sym same)
    ∙ sym (c.reach_at-end.ensures.gap size (block + i) from to))

pub returns-in-None-clause-held : goal.returns-in-None-clause-held
returns-in-None-clause-held c =
    let size = c.args.size in
    let block = c.args.block in
    let n = c.reach_at-end.result.1 - block in
    let some = c.reach_at-end.ensures.some in
    let none : (size i : ℕ) → held_from size (stored c.args.extents.now.entries) c.args.block i ≡ None = rw c.in-None.is at c.reach_at-end.ensures.none in
    by_places (held_in size c.args.extents.now.entries) _ block n (length-replicate n _)
    (λ i low.
    let same : block + i - block ≡ i = omega arith in
    let from : block ≤ block + i = omega arith in
    let to : block + i < c.reach_at-end.result.1 = omega arith in
    held_at-hole n i
    ∙ sym (none size i)
    ∙ ap (λ m. held_from size (stored c.args.extents.now.entries) block m) (sym same)
    ∙ sym (c.reach_at-end.ensures.gap size (block + i) from to))
