use Rattle.std.proofs.Common.{◌≡◌, ◌+◌, ◌++◌, ◌∷◌, [], length, ap, sym, ◌∙◌, arith, refl, add-one, append_assoc, length-append}
use Rattle.std.specs.Prelude.{map}
use Rattle.std.proofs.lemmas.List.{length-map, map-append}
use Rattle.lba_ranges.specs.Denoted.{row}
use Rattle.lba_ranges.proofs.PublicLaws.{length-row, row-push}
use Rattle.lun_plain.specs.Plain.{stored}
use Rattle.lun_plain.proofs.unit.PlainUnit.cut_row.Goals as goal

pub push-requires-clause-full : goal.push-requires-clause-full
push-requires-clause-full c = rw (c.loop-index.invariant.0, c.in_ok-piece.ensures.count) c.in_ok-piece.ensures.full

pub push-requires-clause-room : goal.push-requires-clause-room
push-requires-clause-room c =
    let done = map (stored c.args.self.now.entries) (row c.args.range.lba c.loop-index.index) in
    let long : length done ≡ c.loop-index.index = length-map (row c.args.range.lba c.loop-index.index) (stored c.args.self.now.entries) ∙ length-row c.args.range.lba c.loop-index.index in
    let all : length c.loop-index.list.items ≡ length c.args.list.now.items + length done = ap length c.loop-index.invariant.1 ∙ length-append c.args.list.now.items done in
    omega (arith, c.in_ok-piece.ensures.count)

pub loop-index-preserved : goal.loop-index-preserved
loop-index-preserved c =
    let f = stored c.args.self.now.entries in
    let lba = c.args.range.lba in
    let n = c.loop-index.index in
    let next : map f (row lba (n + 1)) ≡ map f (row lba n) ++ f (lba + n) ∷ [] =
    ap (λ k. map f (row lba k)) (add-one n) ∙ ap (map f) (row-push lba n) ∙ map-append f (row lba n) ((lba + n) ∷ []) in (
      rw (c.in_ok-push.ensures.ok, c.loop-index.invariant.0) refl,
      rw (c.in_ok-push.ensures.ok, c.loop-index.invariant.0, c.loop-index.invariant.1, c.in_ok-piece.ensures.count, c.in_ok-piece.ensures.held, c.from.ensures)
          (append_assoc c.args.list.now.items _ _ ∙ ap (λ l. c.args.list.now.items ++ l) (sym next)),
    )
