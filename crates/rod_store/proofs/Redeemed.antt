-- A token that is redeemed at a moment lives on at it
use Rattle.std.proofs.Common.{◌≡◌, ℕ, ◌+◌, List, refl, subst, sym, true, false, Bool, slice_get, Some, None}
use Rattle.std.specs.Prelude.{Option, Ok, Err, Result, IsSome, not, nat_lt, option_map, if◌then◌else◌}
use Rattle.std.specs.Str.{bytes_eq}
use Rattle.std.proofs.lemmas.Option.{slice_get-map}
use Rattle.scsi_sense.specs.SenseCode.{SenseCode}
use Rattle.cm_base.specs.Configuration.{Configuration}
use Rattle.cm_base.specs.Units.{unit_of}
use Rattle.rod_token.specs.TokenText.{token_text, serial_of}
use Rattle.scsi_sense.specs.Codes as senses
use Rattle.cm_history.specs.Redeeming.{are_alike}
use Rattle.rod_store.specs.declared.kept.Kept.{Kept}
use Rattle.rod_store.specs.declared.kept.TokenState.{TokenState}
use Rattle.rod_store.specs.declared.kept.TokenState.TheVariants.{Live, Expired, Evicted, Deleted}
use Rattle.rod_store.specs.Kept.{value_in, value_of, value_at, expire_at, expired}
use Rattle.rod_store.specs.Judging.{judged_state, judged_token, judged}

module _ {T : Type 0} where
  -- one that stands for a value is not over
  stands : (now : ℕ) (value : T) (serial blocks : ℕ) (s : TokenState T) → judged_state now s ≡ Ok value
      → IsSome (value_of (expire_at now (record { serial = serial; blocks = blocks; state = s })).state)
  stands now value serial blocks Deleted e = cc
  stands now value serial blocks Evicted e = cc
  stands now value serial blocks Expired e = cc
  stands now value serial blocks (Live timeout last_use v) e = go (nat_lt (last_use + timeout) now) e
    where
      kept : Kept T
      kept = record { serial = serial; blocks = blocks; state = Live timeout last_use v }

      go : (o : Bool) → (if o then Err senses.token_expired else Ok v) ≡ Ok value → IsSome (value_of (if o then record kept { state = Expired } else kept).state)
      go true e = cc
      go false e = refl

  -- where the unit and the text are right, the answer is by where the token stands
  by-state : (a b : Bool) (r : Result T SenseCode) (value : T)
      → (if not a then Err senses.remote_token_usage_not_supported else if not b then Err senses.token_corrupt else r) ≡ Ok value → r ≡ Ok value
  by-state false b r value e = cc
  by-state true false r value e = cc
  by-state true true r value e = e

  pub lives-on : (config : Configuration) (unit now : ℕ) (text : List ℕ) (target : ℕ) (tokens : List (Kept T)) (value : T)
      → judged config unit now text target tokens ≡ Ok value → IsSome (value_at (serial_of text) (expired now tokens))
  lives-on config unit now text target tokens value told =
      subst (λ o. IsSome (value_in o)) (sym (slice_get-map (expire_at now) tokens (serial_of text))) (go (slice_get tokens (serial_of text)) told)
    where
      go : (o : Option (Kept T)) → judged_token config unit now text target o ≡ Ok value → IsSome (value_in (option_map (expire_at now) o))
      go None e = cc
      go (Some t) e =
          stands now value t.serial t.blocks t.state
          (by-state (are_alike (unit_of config unit) (unit_of config target)) (bytes_eq text (token_text config unit t.serial t.blocks)) (judged_state now t.state) value e)
