-- The lemmas of scsi_sense that other crates may cite
pub use Rattle.scsi_sense.proofs.FaultLaws.{Refuses-made, unless-made, unless-no_faults, unless-none_first}
