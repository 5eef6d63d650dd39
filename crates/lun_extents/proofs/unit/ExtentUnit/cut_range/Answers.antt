use Rattle.std.proofs.Common.{◌≡◌, ◌+◌, ◌++◌, length, ap, sym, ◌∙◌, arith, append_assoc, length-append}
use Rattle.std.specs.Prelude.{map}
use Rattle.std.proofs.lemmas.List.{length-map, map-append}
use Rattle.lba_ranges.specs.HeldBlocks.{HeldBlocks, filled}
use Rattle.lba_ranges.specs.Denoted.{row}
use Rattle.lba_ranges.proofs.PublicLaws.{length-row}
use Rattle.lun_extents.specs.Extents.{held_in}
use Rattle.lun_extents.proofs.Counting.{row-append}
use Rattle.lun_extents.proofs.unit.ExtentUnit.cut_range.Goals as goal

pub push-requires-clause-room : goal.push-requires-clause-room
push-requires-clause-room c =
    let f = held_in c.self.inside.block_length c.self.inside.extents.entries in
    let done = map f (row c.args.range.lba c.loop-done.done) in
    let long : length done ≡ c.loop-done.done = length-map (row c.args.range.lba c.loop-done.done) f ∙ length-row c.args.range.lba c.loop-done.done in
    let all : length c.loop-done.list.items ≡ length c.args.list.now.items + length done = ap length c.loop-done.invariant.2 ∙ length-append c.args.list.now.items done in
    omega (arith, c.in_ok-piece.ensures.within)

pub loop-done-preserved : goal.loop-done-preserved
loop-done-preserved c =
    let f = held_in c.self.inside.block_length c.self.inside.extents.entries in
    let size = c.self.inside.block_length in
    let lba = c.args.range.lba in
    let done = c.loop-done.done in
    let p = c.in_ok-piece.piece in
    let first = c.from.ensures in
    let now = c.in_ok-push.ensures.ok in
    let next : filled c.loop-done.list.block_length p.count p.fill ≡ map f (row (lba + done) p.count) =
    ap (λ n. filled n p.count p.fill) c.loop-done.invariant.1 ∙ c.in_ok-piece.ensures.held ∙ ap (λ n. map f (row (lba + n) p.count)) first in
    let both : map f (row lba (done + p.count)) ≡ map f (row lba done) ++ map f (row (lba + done) p.count) =
    ap (map f) (row-append lba done p.count) ∙ map-append f (row lba done) (row (lba + done) p.count) in (
      omega (arith, c.in_ok-piece.ensures.within),
      ap (λ (v : HeldBlocks). v.block_length) now ∙ c.loop-done.invariant.1,
      ap (λ (v : HeldBlocks). v.items) now ∙ ap (λ l. l ++ filled c.loop-done.list.block_length p.count p.fill) c.loop-done.invariant.2
          ∙ append_assoc c.args.list.now.items (map f (row lba done)) _
          ∙ ap (λ l. c.args.list.now.items ++ l) (ap (λ l. map f (row lba done) ++ l) next ∙ sym both),
    )
