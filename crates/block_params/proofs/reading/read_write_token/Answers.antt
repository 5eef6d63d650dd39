use Rattle.std.proofs.Common.{◌≡◌, ℕ, List, drop, Ok, ap, ◌∙◌, sym, rules}
use Rattle.std.proofs.lemmas.Result.{err_from_is_err_and}
use Rattle.cm_base.specs.Fields.{field, bit}
use Rattle.std.specs.List.{slice_range}
use Rattle.lba_ranges.specs.declared.ranges.Range.{Range}
use Rattle.scsi_sense.specs.Faults.{Refuses}
use Rattle.block_params.specs.declared.lists.WriteList.{WriteList}
use Rattle.block_params.specs.RangesRead.{ranges_in, ranges_from, length_fault, range_fault}
use Rattle.block_params.specs.inner.RangesRead.{checked}
use Rattle.scsi_sense.proofs.PublicLaws.{unless-none_first, unless-made, Refuses-made}
use Rattle.block_params.proofs.reading.read_write_token.Goals as goal

-- the list of these ranges
abbrev write_list : List ℕ → List Range → WriteList
write_list bytes ranges = record {
  immed = bit bytes 2 0;
  delete = bit bytes 2 1;
  offset = field bytes 8 15;
  token = slice_range bytes 16 528;
  ranges = ranges;
}

pub returns-in_err-ranges-clause-refused : goal.returns-in_err-ranges-clause-refused
returns-in_err-ranges-clause-refused c =
    let bytes = c.args.list.now in
    let ranges = ranges_from 536 bytes in
    let told = c.in_err-ranges.field-0.0 in
    let refused : Refuses (checked ranges) told = rw (← c.in_ok-count.ensures.count) c.in_err-ranges.ensures.refused in
    let made = Refuses-made (write_list bytes) (range_fault ranges) ranges told refused in
    let p = err_from_is_err_and c.from_residual-in_err-ranges.result c.from_residual-in_err-ranges.ensures.1 in
    rw (p.1, p.2, c.in_ok-count.ensures.sound) made

pub returns-clause-read : goal.returns-clause-read
returns-clause-read c =
    let bytes = c.args.list.now in
    let ranges = ranges_from 536 bytes in
    let read : checked ranges ≡ Ok c.in_ok-ranges.ranges = ap (λ n. checked (ranges_in n (drop 536 bytes))) (sym c.in_ok-count.ensures.count) ∙ c.in_ok-ranges.ensures.read in
    unless-none_first (length_fault 536 bytes) (range_fault ranges) (Ok (write_list bytes ranges)) c.in_ok-count.ensures.sound
    ∙ unless-made (write_list bytes) (range_fault ranges) ranges c.in_ok-ranges.ranges read
    ∙ search rules
