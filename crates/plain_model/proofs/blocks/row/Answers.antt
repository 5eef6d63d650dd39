use Rattle.std.proofs.Common.{◌+◌, ◌++◌, ◌∷◌, [], ◌∙◌, ap, sym, List, ℕ}
use Rattle.lba_ranges.specs.Denoted.{row}
use Rattle.plain_model.proofs.Loops.{row-more}
use Rattle.plain_model.proofs.blocks.row.Goals as goal

pub loop-index-preserved : goal.loop-index-preserved
loop-index-preserved c =
    c.in_ok-push.ensures.items
    ∙ ap (λ (l : List ℕ). l ++ (c.args.lba + c.from.result) ∷ []) c.loop-index.invariant
    ∙ ap (λ n. row c.args.lba c.loop-index.index ++ (c.args.lba + n) ∷ []) c.from.ensures
    ∙ sym (row-more c.args.lba c.loop-index.index)
