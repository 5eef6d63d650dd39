use Rattle.std.proofs.Common.{◌≡◌, ◌<◌, ◌^◌, slice_index, arith}
use Rattle.std.proofs.lemmas.Nat.{and_le_r}
use Rattle.std.proofs.lemmas.Grind.{common_steps}
use Rattle.byteorder.specs.Endian.{big_from}
use Rattle.byteorder.specs.Numbers.{big_from-lt}
use Rattle.seg_parse.proofs.descriptors.read_cscd.Goals as goal

pub returns-clause-fits : goal.returns-clause-fits
returns-clause-fits c =
    let bytes = c.args.bytes.now in
    let is : c.read_u24.result ≡ big_from 29 3 bytes = grind (arith, common_steps) in
    let small : big_from 29 3 bytes < 256 ^ 3 = big_from-lt 29 3 bytes (λ k. omega (arith, c.type_inv.bytes k)) in
    record {
      device = omega (arith, and_le_r (slice_index bytes 1) 31);
      block_length = omega (arith, is, small);
    }
