use Rattle.std.proofs.Common.{[], ◌*◌, ◌+◌, ◌∷◌, ◌++◌, refl, ap, sym, ◌∙◌, add-one}
use Rattle.byteorder.specs.Endian.{big_from}
use Rattle.block_params.specs.RangesRead.{ranges_in}
use Rattle.block_params.proofs.RangeDescriptors.{ranges_in-push}
use Rattle.block_params.proofs.ranges.read_ranges.Goals as goal

pub loop-index-preserved : goal.loop-index-preserved
loop-index-preserved c =
    let n = c.loop-index.index in
    let bytes = c.args.bytes.now in
    c.in_ok-push.ensures.ok
    ∙ ap (λ l. l ++ record { lba = c.get_u64.result; count = c.get_u32.result } ∷ []) c.loop-index.invariant
    ∙ ap (λ x. ranges_in n bytes ++ record { lba = c.get_u64.result; count = x } ∷ []) c.get_u32.ensures
    ∙ ap (λ x. ranges_in n bytes ++ record { lba = x; count = big_from (16 * n + 8) 4 bytes } ∷ []) c.get_u64.ensures
    ∙ sym (ranges_in-push n (16 * n) bytes refl) ∙ ap (λ k. ranges_in k bytes) (sym (add-one n))
