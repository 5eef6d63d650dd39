use Rattle.std.proofs.Common.{◌≡◌, ◌<◌, ◌∷◌, [], suc, ap, sym, subst, length, arith, length-append, get_or, ◌∙◌}
use Rattle.std.specs.Prelude.{IsSome, Option, List, ℕ, cond, ◌==◌}
use Rattle.lba_ranges.proofs.PublicLaws.{after-before, after-more}
use Rattle.lun_plain.proofs.map.set_all.Goals as goal

pub set-requires : goal.set-requires
set-requires c =
    let left : length c.loop-item.item-iterator.rest.items ≡ suc (length c.next.new.self.rest.items) = ap length c.in-Some.ensures.steps.0 in
    let low : c.loop-item.place < length c.args.blocks.now = omega (arith, c.loop-item.invariant.2, c.loop-item.invariant.3, c.requires.total) in
    let as_before = c.loop-item.invariant.4 (get_or c.args.blocks.now c.loop-item.place 0) ∙ after-before c.args.blocks.now c.loop-item.yielded c.loop-item.place _ c.requires.apart low in
    subst (λ (x : Option (List ℕ)). IsSome x) (sym as_before) (c.requires.room c.loop-item.place low)

pub loop-item-preserved : goal.loop-item-preserved
loop-item-preserved c =
    let left : length c.loop-item.item-iterator.rest.items ≡ suc (length c.next.new.self.rest.items) = ap length c.in-Some.ensures.steps.0 in
    let low : c.loop-item.place < length c.args.blocks.now = omega (arith, c.loop-item.invariant.2, c.loop-item.invariant.3, c.requires.total) in (
      tt,
      tt,
      omega (arith, length-append c.loop-item.yielded (c.in-Some.item ∷ []), c.loop-item.invariant.2),
      omega (arith, length-append c.loop-item.yielded (c.in-Some.item ∷ []), c.loop-item.invariant.3),
      λ b. c.set.ensures b ∙ ap (λ x. cond (get_or c.args.blocks.now c.loop-item.place 0 == b) c.in-Some.item x) (c.loop-item.invariant.4 b)
          ∙ sym (after-more c.args.blocks.now c.loop-item.yielded c.loop-item.place c.in-Some.item b _ (sym c.loop-item.invariant.2) low),
    )
