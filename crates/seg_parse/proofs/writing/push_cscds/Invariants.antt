use Rattle.std.proofs.Common.{◌≡◌, ◌++◌, take, All}
use Rattle.seg_parse.specs.inner.Sizes.{IsSized}
use Rattle.seg_parse.specs.ListWritten.{all_cscds}
use Rattle.seg_parse.proofs.writing.push_cscds.Given as goal

abbrev pub invariant-loop-index : goal.invariant-loop-index
invariant-loop-index l = record {
  written : l.bytes ≡ l.initial.bytes ++ all_cscds (take l.index l.units);
  sized : All IsSized (take l.index l.units);
}
