use Rattle.std.proofs.Common.{◌+◌, ◌++◌, ◌∷◌, [], ◌∙◌, ap, arith, List}
use Rattle.lba_ranges.specs.Writings.{Writing}
use Rattle.plain_model.proofs.Loops.{write-more}
use Rattle.plain_model.proofs.writings.PlainWritings.put_at.Goals as goal

pub loop-index-preserved : goal.loop-index-preserved
loop-index-preserved c =
    c.in_ok-push.ensures
    ∙ ap (λ (l : List Writing). l ++ (record { block = c.args.lba + c.loop-index.index; held = c.in_ok-held_in.field-0 }) ∷ []) c.loop-index.invariant
    ∙ write-more c.args.lba c.loop-index.index c.args.list.now.items c.in_ok-held_in.field-0 (omega arith) c.in_ok-held_in.ensures
