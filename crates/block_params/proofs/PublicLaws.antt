-- The lemmas of block_params that other crates may cite
pub use Rattle.block_params.proofs.RoundTrip.{populate_back, write_token_back}
pub use Rattle.block_params.proofs.Written.{length_behind, length-descriptors}
