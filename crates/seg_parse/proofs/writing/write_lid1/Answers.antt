use Rattle.std.proofs.Common.{◌≡◌, ap, ◌∙◌, rules}
use Rattle.seg_parse.specs.ListRead.{lid1_read}
use Rattle.seg_parse.specs.ListWritten.{lid1_written}
use Rattle.seg_parse.proofs.RoundTrip.{lid1_back}
use Rattle.seg_parse.proofs.writing.write_lid1.Goals as goal

pub returns-clause-read_back : goal.returns-clause-read_back
returns-clause-read_back c =
    let list = c.args.list.now in
    let written : c.push_segments.new.bytes ≡ lid1_written list = search rules in
    ap lid1_read written
    ∙ lid1_back list c.requires.legal c.requires.named c.in_ok-push_cscds.ensures.sized c.in_ok-push_segments.ensures.wide
