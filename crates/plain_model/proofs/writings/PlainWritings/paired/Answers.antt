use Rattle.std.proofs.Common.{◌++◌, ◌∷◌, [], ◌∙◌, ap, sym, arith, List, get_or, refl}
use Rattle.lba_ranges.specs.Writings.{Writing}
use Rattle.plain_model.proofs.Loops.{paired-more, paired-no_more}
use Rattle.plain_model.proofs.writings.PlainWritings.paired.Goals as goal
use Rattle.plain_model.proofs.writings.PlainWritings.paired.Goals.{then-index-blocks+in_ok-held_in+in_ok-push, else-index-blocks}

pub loop-index-preserved : goal.loop-index-preserved
loop-index-preserved c =
    let bs = c.deref-block-items.result.now in
    let i = c.loop-index.index in
    let xs = c.args.list.now.items in
    elim c.if-index-blocks.branch [
      | then-index-blocks+in_ok-held_in+in_ok-push w ↦
          w.writings-is ∙ w.in_ok-push.ensures
          ∙ ap (λ (l : List Writing). l ++ (record { block = get_or bs i 0; held = w.in_ok-held_in.field-0 }) ∷ []) c.loop-index.invariant
          ∙ sym (paired-more bs i xs (get_or bs i 0) w.in_ok-held_in.field-0 c.loop-index-test.true refl (omega arith) w.in_ok-held_in.ensures)
      | else-index-blocks w ↦ w.writings-is ∙ c.loop-index.invariant ∙ sym (paired-no_more bs i xs c.loop-index-test.true (omega arith))
    ]
