-- What parts of a reader answer
use Rattle.std.specs.Prelude.{Option, codes}
use Rattle.toml.specs.Data.{Members, get_member}
use Rattle.config_text.specs.Meaning.{Secret, these, those_in, secret_of}
use Rattle.config_text.specs.declared.refused.Refused.{Refused}
use Rattle.config_text.specs.declared.refused.Refused.TheVariants.{OutOfMemory, Fault}
use Rattle.config_text.specs.declared.secret.SecretText.{SecretText}
use Rattle.config_text.specs.declared.secret.SecretText.TheVariants.{These, In}

-- where memory was not what was wanted
abbrev pub IfFault : Refused → Type 0 → Type 0
IfFault OutOfMemory P = Unit {0}
IfFault (Fault f) P = P

abbrev pub secret_view : SecretText → Secret
secret_view (These bytes) = these bytes
secret_view (In path) = those_in path.now

-- the secret that the table of a text tells
abbrev pub secret_at : Members → Option Secret
secret_at text = secret_of (get_member (codes "secret") text) (get_member (codes "secret_file") text)
