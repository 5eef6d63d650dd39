-- The lemmas of cm_base that other crates may cite
pub use Rattle.cm_base.proofs.FieldLaws.{below-bytes, byte-stays, bytes-from_places, bytes-part, field-fits, field-moved, field-spelled, field-stays, length-part, number-back, part-stays, parts-join}
