use Rattle.std.proofs.Common.{◌<◌, slice_index, sym, subst, arith, ℕ}
use Rattle.cm_base.specs.Fields.{AreBytes}
use Rattle.cm_base.proofs.PublicLaws.{bytes-from_places, bytes-part}
use Rattle.cm_frame.proofs.DataFits.{data-fits}
use Rattle.cm_frame.proofs.request.read_request.Goals as goal

pub returns-clause-fits : goal.returns-clause-fits
returns-clause-fits c =
    let bytes = c.args.bytes.now in
    let small : (k : ℕ) → slice_index bytes k < 256 = λ k. omega (arith, c.type_inv.bytes k) in
    let cdb = bytes-part 6 16 bytes (bytes-from_places bytes small) in
    record {
      unit = omega (arith, c.get_u16.type_inv);
      cdb = (c.copy_from_slice-2.ensures.len, subst AreBytes (sym c.copy_from_slice-2.ensures.after) cdb);
      out = data-fits 22 c.get_u32-length.result bytes _ small (omega arith) (omega arith) c.in_ok-out.ensures;
    }
