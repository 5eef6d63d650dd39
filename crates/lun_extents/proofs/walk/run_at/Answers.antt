use Rattle.std.proofs.Common.{◌≡◌, ℕ, ◌∙◌, ◌+◌, ◌-◌, ◌<◌, ap, arith}
use Rattle.std.specs.Prelude.{is_some}
use Rattle.lba_ranges.specs.HeldBlocks.{filled, held_at}
use Rattle.lun_extents.specs.Extents.{stored, held_from}
use Rattle.lun_extents.proofs.Places.{bytes-some, hole-none}
use Rattle.lun_extents.proofs.walk.run_at.Goals as goal

pub returns-in-Bytes-clause-alike : goal.returns-in-Bytes-clause-alike
returns-in-Bytes-clause-alike c =
    λ size b low high.
    let p = c.in-Some.piece.now in
    let held : (size i : ℕ) → held_from size (stored c.args.extents.now.entries) c.args.block i ≡ held_at (filled size p.count p.fill) (c.in-Some.place + i) = rw c.in-Some.is at c.reach_at-end.ensures.held in
    let inside : c.in-Some.place + (b - c.args.block) < p.count = omega arith in
    ap is_some (c.reach_at-end.ensures.gap size b low (omega arith) ∙ held size (b - c.args.block))
    ∙ bytes-some size p.count (c.in-Some.place + (b - c.args.block)) p.fill _ c.in-Bytes.is inside

pub returns-in_default-clause-alike : goal.returns-in_default-clause-alike
returns-in_default-clause-alike c =
    λ size b low high.
    let p = c.in-Some.piece.now in
    let held : (size i : ℕ) → held_from size (stored c.args.extents.now.entries) c.args.block i ≡ held_at (filled size p.count p.fill) (c.in-Some.place + i) = rw c.in-Some.is at c.reach_at-end.ensures.held in
    ap is_some (c.reach_at-end.ensures.gap size b low (omega arith) ∙ held size (b - c.args.block))
    ∙ hole-none size p.count (c.in-Some.place + (b - c.args.block)) p.fill c.in_default.is
