use Rattle.std.proofs.Common.{All, take, subst, sym}
use Rattle.std.proofs.lemmas.List.Elements.{All-push}
use Rattle.lba_ranges.proofs.PublicLaws.{take-get}
use Rattle.seg_parse.specs.inner.Sizes.{IsWide}
use Rattle.seg_parse.specs.ListWritten.{segment_bytes, all_segments}
use Rattle.seg_parse.proofs.Written.{all_segments-push, written-more}
use Rattle.seg_parse.proofs.writing.push_segments.Goals as goal

pub loop-index-preserved : goal.loop-index-preserved
loop-index-preserved c =
    let items = c.args.segments.now in
    let i = c.loop-index.index in
    let item = c.at.result.now in
    record {
      written = written-more all_segments segment_bytes all_segments-push items i item c.args.bytes.now c.loop-index.bytes c.extend.new.self c.segment_bytes.result
          c.at.ensures c.loop-index.invariant.written c.segment_bytes.ensures.written c.in_ok-extend.ensures.ok;
      wide = subst (All IsWide) (sym (take-get items i item c.at.ensures)) (All-push IsWide (take i items) item c.loop-index.invariant.wide c.segment_bytes.ensures.wide);
    }
