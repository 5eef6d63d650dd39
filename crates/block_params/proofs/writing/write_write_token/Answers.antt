use Rattle.std.proofs.Common.{◌≡◌, ◌+◌, ◌*◌, ◌<◌, ◌^◌, ◌∷◌, ◌++◌, length, ap, ◌∙◌, rules}
use Rattle.byteorder.specs.Endian.{big_bytes}
use Rattle.cm_base.specs.Fields.{zeros, flag}
use Rattle.block_params.specs.ListsRead.{write_token_read}
use Rattle.block_params.specs.ListsWritten.{descriptors, write_token_written}
use Rattle.block_params.proofs.Written.{write_token_is}
use Rattle.block_params.proofs.RoundTrip.{write_token_back}
use Rattle.block_params.proofs.writing.write_write_token.Goals as goal
use Rattle.block_params.proofs.writing.write_write_token.Goals.{In_ok-push_ranges}

is_written : (c : In_ok-push_ranges) → c.push_ranges.new.bytes ≡ write_token_written c.args.list.now
is_written c =
    let list = c.args.list.now in
    let n = c.length_of-length.result in
    let whole : length list.token ≡ 512 = search rules in
    let plain : c.push_ranges.new.bytes
    ≡ ((big_bytes 2 (534 + n) ++ (flag list.immed + 2 * flag list.delete) ∷ zeros 5 ++ big_bytes 8 list.offset) ++ list.token
    ++ (zeros 6 ++ big_bytes 2 n)) ++ descriptors list.ranges =
    search rules in
    plain ∙ write_token_is list n c.length_of-length.ensures.length whole

pub returns-clause-written : goal.returns-clause-written
returns-clause-written c = is_written c

pub returns-clause-read_back : goal.returns-clause-read_back
returns-clause-read_back c =
    let list = c.args.list.now in
    let fits : list.offset < 2 ^ 64 = search rules in
    let whole : length list.token ≡ 512 = search rules in
    ap write_token_read (is_written c)
    ∙ write_token_back list c.requires c.in_ok-push_ranges.ensures.fits c.length_of-length.ensures.few fits whole
