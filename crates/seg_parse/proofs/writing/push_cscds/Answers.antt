use Rattle.std.proofs.Common.{All, take, subst, sym}
use Rattle.std.proofs.lemmas.List.Elements.{All-push}
use Rattle.lba_ranges.proofs.PublicLaws.{take-get}
use Rattle.seg_parse.specs.inner.Sizes.{IsSized}
use Rattle.seg_parse.specs.ListWritten.{cscd_bytes, all_cscds}
use Rattle.seg_parse.proofs.Written.{all_cscds-push, written-more}
use Rattle.seg_parse.proofs.writing.push_cscds.Goals as goal

pub loop-index-preserved : goal.loop-index-preserved
loop-index-preserved c =
    let items = c.args.units.now in
    let i = c.loop-index.index in
    let item = c.at.result.now in
    record {
      written = written-more all_cscds cscd_bytes all_cscds-push items i item c.args.bytes.now c.loop-index.bytes c.extend.new.self c.cscd_bytes.result
          c.at.ensures c.loop-index.invariant.written c.cscd_bytes.ensures.written c.in_ok-extend.ensures.ok;
      sized = subst (All IsSized) (sym (take-get items i item c.at.ensures)) (All-push IsSized (take i items) item c.loop-index.invariant.sized c.cscd_bytes.ensures.sized);
    }
