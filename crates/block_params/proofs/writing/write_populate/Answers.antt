use Rattle.std.proofs.Common.{◌≡◌, ◌+◌, ◌∷◌, ◌++◌, ap, ◌∙◌, rules}
use Rattle.byteorder.specs.Endian.{big_bytes}
use Rattle.cm_base.specs.Fields.{zeros}
use Rattle.block_params.specs.ListsRead.{populate_read}
use Rattle.block_params.specs.ListsWritten.{descriptors, populate_written}
use Rattle.block_params.proofs.Written.{populate_is}
use Rattle.block_params.proofs.RoundTrip.{populate_back}
use Rattle.block_params.proofs.writing.write_populate.Goals as goal
use Rattle.block_params.proofs.writing.write_populate.Goals.{In_ok-push_ranges}

is_written : (c : In_ok-push_ranges) → c.push_ranges.new.bytes ≡ populate_written c.args.list.now
is_written c =
    let list = c.args.list.now in
    let n = c.length_of-length.result in
    let plain : c.push_ranges.new.bytes
    ≡ (big_bytes 2 (14 + n) ++ 2 ∷ 0 ∷ big_bytes 4 list.timeout ++ big_bytes 4 0x0080_0000 ++ zeros 2 ++ big_bytes 2 n) ++ descriptors list.ranges =
    search rules in
    plain ∙ populate_is list n c.length_of-length.ensures.length

pub returns-clause-written : goal.returns-clause-written
returns-clause-written c = is_written c

pub returns-clause-read_back : goal.returns-clause-read_back
returns-clause-read_back c =
    ap populate_read (is_written c)
    ∙ populate_back c.args.list.now c.requires c.in_ok-push_ranges.ensures.fits c.length_of-length.ensures.few
