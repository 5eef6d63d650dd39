use Rattle.std.proofs.Common.{◌≡◌, ◌-◌, ◌*◌, ◌≤◌, length, All}
use Rattle.seg_parse.specs.CopyLists.{IsSegment}
use Rattle.seg_parse.specs.Descriptors.{segments_read}
use Rattle.seg_parse.proofs.Preceded.{preceded}
use Rattle.seg_parse.proofs.reading.read_segments.Given as goal

abbrev pub invariant-loop-rest : goal.invariant-loop-rest
invariant-loop-rest l = record {
  read : segments_read l.cscds 64 l.bytes ≡ preceded l.segments (segments_read l.cscds (64 - length l.segments) l.rest);
  bound : length l.segments ≤ 64;
  within : All (IsSegment l.cscds) l.segments;
  few : length l.rest ≤ 28 * (64 - length l.segments);
}

abbrev pub decreases-loop-rest : goal.decreases-loop-rest
decreases-loop-rest l = length l.rest
