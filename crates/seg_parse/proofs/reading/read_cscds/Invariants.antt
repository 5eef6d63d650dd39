use Rattle.std.proofs.Common.{◌≡◌, ◌-◌, ◌*◌, ◌≤◌, length, All}
use Rattle.seg_parse.specs.CopyLists.{IsCscd}
use Rattle.seg_parse.specs.Descriptors.{cscds_read}
use Rattle.seg_parse.proofs.Preceded.{preceded}
use Rattle.seg_parse.proofs.reading.read_cscds.Given as goal

abbrev pub invariant-loop : goal.invariant-loop
invariant-loop l = record {
  read : cscds_read l.count l.bytes ≡ preceded l.units (cscds_read (l.count - l.counter) l.rest);
  count : length l.units ≡ l.counter;
  fit : All IsCscd l.units;
  whole : 32 * (l.count - l.counter) ≤ length l.rest;
}
