use Rattle.std.proofs.Common.{◌≡◌, ◌+◌, ◌-◌, ◌*◌, ◌++◌}
use Rattle.cm_base.specs.Fields.{zeros}
use Rattle.rand_chacha.specs.ChaCha.{key_of}
use Rattle.rod_token.specs.TokenText.{words}
use Rattle.rod_token.proofs.token.nonce.Given as goal

abbrev pub invariant-loop-index : goal.invariant-loop-index
invariant-loop-index l = record {
  key : l.generator.key ≡ key_of l.config.secret;
  stream : l.generator.stream ≡ l.unit;
  place : l.generator.word_pos ≡ 8 * l.serial + l.index;
  written : l.bytes ≡ words (key_of l.config.secret) l.unit (8 * l.serial) l.index ++ zeros (32 - 4 * l.index);
}
