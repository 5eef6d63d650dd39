-- What a redeem is answered: the value that the token stands for, or the first refusal that holds
use Rattle.std.specs.Prelude.{ℕ, List, Option, Some, None, slice_get, Result, Ok, Err, not, if◌then◌else◌}
use Rattle.std.specs.Str.{bytes_eq}
use Rattle.scsi_sense.specs.SenseCode.{SenseCode}
use Rattle.cm_base.specs.Configuration.{Configuration}
use Rattle.cm_base.specs.Units.{unit_of}
use Rattle.rod_token.specs.TokenText.{token_text, serial_of}
use Rattle.scsi_sense.specs.Codes.{token_unknown, remote_token_usage_not_supported, token_corrupt, token_deleted, token_cancelled, token_expired}
use Rattle.cm_history.specs.Redeeming.{are_alike}
use Rattle.rod_store.specs.declared.kept.Kept.{Kept}
use Rattle.rod_store.specs.declared.kept.TokenState.{TokenState}
use Rattle.rod_store.specs.declared.kept.TokenState.TheVariants.{Live, Expired, Evicted, Deleted}
use Rattle.rod_store.specs.Kept.{is_over}

module _ {T : Type 0} where
  -- what a token is answered by where it stands at this moment
  abbrev pub judged_state : ℕ → TokenState T → Result T SenseCode
  judged_state now Deleted = Err token_deleted
  judged_state now Evicted = Err token_cancelled
  judged_state now Expired = Err token_expired
  judged_state now (Live timeout last_use value) =
      if is_over now (Live timeout last_use value) then Err token_expired else Ok value

  abbrev pub judged_token : Configuration → ℕ → ℕ → List ℕ → ℕ → Option (Kept T) → Result T SenseCode
  judged_token config unit now text target None = Err token_unknown
  judged_token config unit now text target (Some t) =
      if not (are_alike (unit_of config unit) (unit_of config target)) then Err remote_token_usage_not_supported else
      if not (bytes_eq text (token_text config unit t.serial t.blocks)) then Err token_corrupt else
      judged_state now t.state

  -- the token of the unit that the text names, at the target
  abbrev pub judged : Configuration → ℕ → ℕ → List ℕ → ℕ → List (Kept T) → Result T SenseCode
  judged config unit now text target tokens = judged_token config unit now text target (slice_get tokens (serial_of text))
