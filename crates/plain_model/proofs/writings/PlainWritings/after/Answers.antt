use Rattle.std.proofs.Common.{◌≡◌, ◌∙◌, sym, ap, true, false}
use Rattle.std.specs.Prelude.{◌==◌}
use Rattle.std.specs.Option.{option_copied}
use Rattle.std.proofs.lemmas.Bool.{eq-eqb, ne_eqb}
use Rattle.plain_model.proofs.Loops.{held-more}
use Rattle.plain_model.proofs.writings.PlainWritings.after.Goals as goal
use Rattle.plain_model.proofs.writings.PlainWritings.after.Goals.{then-writing-block, else-writing-block}

pub loop-writing-preserved : goal.loop-writing-preserved
loop-writing-preserved c =
    let step = held-more c.deref-writing-items.result.now c.loop-writing.writing-index c.writing-item.result c.args.block (option_copied c.args.was) c.loop-writing-test.true c.writing-item.is in
    elim c.if-writing-block.branch [
      | then-writing-block w ↦ let test : (c.writing-item.result.block == c.args.block) ≡ true = eq-eqb _ _ w.if-writing-block.true in
          ap option_copied w.last-is ∙ w.as_ref-last.ensures.value ∙ sym (rw test at step)
      | else-writing-block w ↦ let test : (c.writing-item.result.block == c.args.block) ≡ false = ne_eqb _ _ w.if-writing-block.false in
          ap option_copied w.last-is ∙ c.loop-writing.invariant ∙ sym (rw test at step)
    ]
