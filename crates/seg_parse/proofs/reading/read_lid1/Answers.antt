use Rattle.std.proofs.Common.{◌≡◌, ℕ, ◌+◌, ◌/◌, List, drop, Result, Ok, ap, sym, ◌∙◌}
use Rattle.std.specs.List.{slice_range}
use Rattle.cm_base.specs.Fields.{byte}
use Rattle.std.proofs.lemmas.Result.{err_from_is_err_and}
use Rattle.scsi_sense.specs.SenseCode.{SenseCode}
use Rattle.seg_parse.specs.declared.list.Cscd.{Cscd}
use Rattle.seg_parse.specs.Descriptors.{cscds_read, segments_read}
use Rattle.seg_parse.specs.ListRead.{cscd_length, segment_length, cscds_of, segments_of}
use Rattle.seg_parse.proofs.Copies.{lid1_read-headed, Refuses-segments, copy_list-read}
use Rattle.seg_parse.proofs.reading.read_lid1.Goals as goal

-- the CSCDs, by the lengths that were read
units_of : (bytes descriptors : List ℕ) (n : ℕ) (r : Result (List Cscd) SenseCode) → n ≡ cscd_length bytes → descriptors ≡ drop 16 bytes → cscds_read (n / 32) descriptors ≡ r
    → cscds_of bytes ≡ r
units_of bytes descriptors n r is behind read =
    ap (λ k. cscds_read (k / 32) (drop 16 bytes)) (sym is) ∙ ap (cscds_read (n / 32)) (sym behind) ∙ read

-- the segments, by the lengths that were read
segments_by : (bytes : List ℕ) (n m : ℕ) → n ≡ cscd_length bytes → m ≡ segment_length bytes
    → segments_read (n / 32) 64 (slice_range bytes (16 + n) (16 + n + m)) ≡ segments_of bytes
segments_by bytes n m is are =
    ap (λ k. segments_read (k / 32) 64 (slice_range bytes (16 + k) (16 + k + m))) is
    ∙ ap (λ k. segments_read (cscd_length bytes / 32) 64 (slice_range bytes (16 + cscd_length bytes) (16 + cscd_length bytes + k))) are

pub returns-in_err-segments-clause-refused : goal.returns-in_err-segments-clause-refused
returns-in_err-segments-clause-refused c =
    let bytes = c.args.list.now in
    let lengths = c.in_ok-cscds.ensures.lengths in
    let units = units_of bytes c.split_at.result.1.now c.in_ok-cscds.cscds (Ok c.in_ok-units.units) lengths.0 c.split_at.ensures.back c.in_ok-units.ensures.read in
    let segments = segments_by bytes c.in_ok-cscds.cscds c.in_ok-cscds.segments lengths.0 lengths.1 in
    let told = c.in_err-segments.field-0.0 in
    let refused = Refuses-segments bytes (cscds_of bytes) c.in_ok-units.units (segments_of bytes) told units (rw segments at c.in_err-segments.ensures.refused) in
    let p = err_from_is_err_and c.from_residual-in_err-segments.result c.from_residual-in_err-segments.ensures.1 in
    rw (p.1, p.2, lid1_read-headed bytes c.in_ok-cscds.ensures.sound) refused

pub returns-clause-read : goal.returns-clause-read
returns-clause-read c =
    let bytes = c.args.list.now in
    let lengths = c.in_ok-cscds.ensures.lengths in
    let units = units_of bytes c.split_at.result.1.now c.in_ok-cscds.cscds (Ok c.in_ok-units.units) lengths.0 c.split_at.ensures.back c.in_ok-units.ensures.read in
    let segments = sym (segments_by bytes c.in_ok-cscds.cscds c.in_ok-cscds.segments lengths.0 lengths.1) ∙ c.in_ok-segments.ensures.read in
    lid1_read-headed bytes c.in_ok-cscds.ensures.sound
    ∙ copy_list-read bytes (cscds_of bytes) (segments_of bytes) c.in_ok-units.units c.in_ok-segments.segments units segments
    ∙ ap (λ u. Ok (record { id = byte bytes 0; usage = u; units = c.in_ok-units.units; segments = c.in_ok-segments.segments })) (sym c.usage_of.ensures)
