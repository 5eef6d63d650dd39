use Rattle.std.proofs.Common.{◌++◌, ◌∷◌, [], ◌∙◌, sym, ap, length, arith, map, take, List, ℕ}
use Rattle.std.specs.Option.{option_copied}
use Rattle.std.proofs.lemmas.List.{length-map, length-take-le}
use Rattle.lba_ranges.specs.HeldBlocks.{HeldBlocks}
use Rattle.lba_ranges.specs.Writings.{Held}
use Rattle.cm_history.specs.Blocks.{held}
use Rattle.plain_model.proofs.Loops.{map-more}
use Rattle.plain_model.proofs.blocks.cut.Goals as goal

pub push_block-requires-clause-room : goal.push_block-requires-clause-room
push_block-requires-clause-room c =
    let long = ap length c.loop-block.invariant.1
    ∙ length-map (take c.loop-block.block-index c.args.blocks.now) (held c.args.past.now)
    ∙ length-take-le c.loop-block.block-index c.args.blocks.now (omega arith) in
    omega (arith, long)

pub loop-block-preserved : goal.loop-block-preserved
loop-block-preserved c =
    let now : ℕ → Held = held c.args.past.now in
    let i = c.loop-block.block-index in
    let bs = c.args.blocks.now in (
      ap (λ (l : HeldBlocks). l.block_length) c.in_ok-push_block.ensures ∙ c.loop-block.invariant.0,
      ap (λ (l : HeldBlocks). l.items) c.in_ok-push_block.ensures
          ∙ ap (λ (l : List Held). l ++ option_copied c.held.result ∷ []) c.loop-block.invariant.1
          ∙ ap (λ x. map now (take i bs) ++ x ∷ []) c.held.ensures
          ∙ sym (map-more now bs i c.loop-block-test.true),
    )
