use Rattle.std.proofs.Common.{◌≡◌, ◌+◌, ◌++◌, ap, ◌∙◌, rules}
use Rattle.byteorder.specs.Endian.{big_bytes}
use Rattle.cm_base.specs.Fields.{zeros}
use Rattle.block_params.specs.ListsRead.{unmap_read}
use Rattle.block_params.specs.ListsWritten.{descriptors, unmap_written}
use Rattle.block_params.proofs.Written.{unmap_is}
use Rattle.block_params.proofs.RoundTrip.{unmap_back}
use Rattle.block_params.proofs.writing.write_unmap.Goals as goal
use Rattle.block_params.proofs.writing.write_unmap.Goals.{In_ok-push_ranges}

is_written : (c : In_ok-push_ranges) → c.push_ranges.new.bytes ≡ unmap_written c.args.ranges.now
is_written c =
    let rs = c.args.ranges.now in
    let n = c.length_of-length.result in
    let plain : c.push_ranges.new.bytes ≡ (big_bytes 2 (6 + n) ++ big_bytes 2 n ++ zeros 4) ++ descriptors rs = search rules in
    plain ∙ unmap_is rs n c.length_of-length.ensures.length

pub returns-clause-written : goal.returns-clause-written
returns-clause-written c = is_written c

pub returns-clause-read_back : goal.returns-clause-read_back
returns-clause-read_back c =
    ap unmap_read (is_written c) ∙ unmap_back c.args.ranges.now c.in_ok-push_ranges.ensures.fits c.length_of-length.ensures.few
