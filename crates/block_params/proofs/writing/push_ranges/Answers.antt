use Rattle.std.proofs.Common.{◌≡◌, ◌+◌, [], ◌∷◌, ◌++◌, take, ap, subst, sym, ◌∙◌, append_assoc}
use Rattle.std.proofs.lemmas.List.Elements.{All-push}
use Rattle.lba_ranges.proofs.PublicLaws.{take-get}
use Rattle.block_params.specs.inner.Lists.{IsRange, AreRanges}
use Rattle.block_params.specs.ListsWritten.{descriptor, descriptors}
use Rattle.block_params.proofs.Written.{descriptors-push}
use Rattle.block_params.proofs.writing.push_ranges.Goals as goal

pub loop-index-preserved : goal.loop-index-preserved
loop-index-preserved c =
    let before = take c.loop-index.index c.args.ranges.now in
    let range = c.at.result in
    let more : take (c.loop-index.index + 1) c.args.ranges.now ≡ before ++ range ∷ [] =
    take-get c.args.ranges.now c.loop-index.index range c.at.ensures in
    record {
      written =
          c.in_ok-extend.ensures.ok ∙ ap (λ l. l ++ c.descriptor.result) c.loop-index.invariant.written
          ∙ ap (λ l. c.args.bytes.now ++ descriptors before ++ l) c.descriptor.ensures.written
          ∙ append_assoc c.args.bytes.now (descriptors before) (descriptor range)
          ∙ ap (λ l. c.args.bytes.now ++ l) (sym (descriptors-push before range))
          ∙ ap (λ l. c.args.bytes.now ++ descriptors l) (sym more);
      fits = subst AreRanges (sym more) (All-push IsRange before range c.loop-index.invariant.fits c.descriptor.ensures.fits);
    }
