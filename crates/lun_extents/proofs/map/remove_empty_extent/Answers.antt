use Rattle.std.proofs.Common.{◌∙◌, ◌≤◌, arith}
use Rattle.lun_extents.specs.Extents.{stored}
use Rattle.lun_extents.proofs.Nearest.{same-above}
use Rattle.lun_extents.proofs.Splits.{not_at, IsDropped, dropped-held}
use Rattle.lun_extents.proofs.map.remove_empty_extent.Goals as goal

pub returns-then-end_before-clause-held : goal.returns-then-end_before-clause-held
returns-then-end_before-clause-held c =
    λ b.
    let size = c.args.size in
    let block = c.args.block in
    let was = stored c.args.map.now.entries in
    let f = stored c.end_before.new.map.entries in
    let g = stored c.remove.new.self.entries in
    let low : block ≤ block = omega arith in
    let is : IsDropped size f g block = record {
      nothing = λ i. same-above size was f block block i low (c.is_hole.ensures.some c.if-not-is_hole.false) (λ j above below. c.end_before.ensures.above j above) ∙ c.is_hole.ensures.nothing c.if-not-is_hole.false size i;
      before = c.end_before.ensures.ended c.if-end_before.true;
      gone = c.remove.ensures.updates.1;
      others = λ j away. c.remove.ensures.updates.2 j (not_at block j away);
    } in
    dropped-held size f g block is b ∙ c.end_before.ensures.held b
