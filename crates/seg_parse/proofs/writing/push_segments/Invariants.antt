use Rattle.std.proofs.Common.{◌≡◌, ◌++◌, take, All}
use Rattle.seg_parse.specs.inner.Sizes.{IsWide}
use Rattle.seg_parse.specs.ListWritten.{all_segments}
use Rattle.seg_parse.proofs.writing.push_segments.Given as goal

abbrev pub invariant-loop-index : goal.invariant-loop-index
invariant-loop-index l = record {
  written : l.bytes ≡ l.initial.bytes ++ all_segments (take l.index l.segments);
  wide : All IsWide (take l.index l.segments);
}
