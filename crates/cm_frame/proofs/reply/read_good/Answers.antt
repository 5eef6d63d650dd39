use Rattle.std.proofs.Common.{◌<◌, slice_index, arith, ℕ}
use Rattle.cm_frame.proofs.DataFits.{data-fits}
use Rattle.cm_frame.proofs.reply.read_good.Goals as goal

pub returns-clause-fits : goal.returns-clause-fits
returns-clause-fits c =
    let bytes = c.args.bytes.now in
    let small : (k : ℕ) → slice_index bytes k < 256 = λ k. omega (arith, c.type_inv.bytes k) in
    data-fits 6 c.get_u32.result bytes _ small (omega arith) (omega (arith, c.requires.limit)) c.in_ok-copy_from_slice.ensures
