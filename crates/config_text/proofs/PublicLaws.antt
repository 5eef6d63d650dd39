-- The lemmas of config_text that other crates may cite
use Rattle.std.proofs.Common.{◌≡◌, ℕ, List, Bool, true, false, true≢false}
use Rattle.std.specs.Prelude.{MatchBool}
use Rattle.cm_base.specs.Configuration.{AreUnits}
use Rattle.config_text.specs.Files.{IsHeaderOf, IsTold, is_header}
use Rattle.config_text.specs.Meaning.{Means, units_told}
use Rattle.config_text.specs.declared.told.Told.{Told}
use Rattle.config_text.specs.declared.told.Told.TheVariants.{Whole, SecretIn}

abbrev pub is_whole : Told → Bool
is_whole (Whole config) = true
is_whole (SecretIn path units) = false

-- the units that are told beside the path of a secret keep their limits
pub told-limits : (bytes : List ℕ) (told : Told) → IsTold bytes told → is_whole told ≡ false → AreUnits (units_told told)
told-limits bytes told = go (is_header bytes) told
  where
    go : (header : Bool) (told : Told) → MatchBool header (IsHeaderOf bytes told) (Means bytes told) → is_whole told ≡ false → AreUnits (units_told told)
    go true (Whole config) held other = absurd (true≢false other)
    go true (SecretIn path units) held other = absurd held
    go false told held other = held.says.limits
