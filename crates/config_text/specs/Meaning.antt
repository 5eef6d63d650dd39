-- What a text says of a machine of units, by the table that it is in TOML
use Rattle.std.specs.Prelude.{◌≡◌, ℕ, List, [], ◌∷◌, codes, pos, Bool, true, ◌&&◌, ◌||◌, bytes_eq, Option, Some, None, Result, Ok, Err, IsUtf8, string_bytes}
use Rattle.cm_base.specs.declared.config.UnitConfig.{UnitConfig}
use Rattle.cm_base.specs.Configuration.{AreUnits}
use Rattle.hex.specs.Hex.{decode_sized}
use Rattle.hex.specs.declared.error.FromHexError.{FromHexError}
use Rattle.toml.specs.Data.{Data, string, integer, array, table, Items, no_items, item, Members, no_members, member, get_member}
use Rattle.toml.specs.Parse.{parse_document}
use Rattle.config_text.specs.declared.key.UnitKey.{UnitKey}
use Rattle.config_text.specs.declared.key.UnitKey.TheVariants.{Blocks, BlockLength, Entries, Quota, Payload, Group}
use Rattle.config_text.specs.declared.told.Told.{Told}
use Rattle.config_text.specs.declared.told.Told.TheVariants.{Whole, SecretIn}

-- ---- keys

-- how the key of a unit is spelled
abbrev pub name_of : UnitKey → List ℕ
name_of Blocks = codes "blocks"
name_of BlockLength = codes "block_length"
name_of Entries = codes "entries"
name_of Quota = codes "quota"
name_of Payload = codes "payload"
name_of Group = codes "group"

-- it is a key of a unit
abbrev pub is_unit_key : List ℕ → Bool
is_unit_key name =
    bytes_eq name (name_of Blocks) || bytes_eq name (name_of BlockLength) || bytes_eq name (name_of Entries)
    || bytes_eq name (name_of Quota) || bytes_eq name (name_of Payload) || bytes_eq name (name_of Group)

-- it is a key of the text itself
abbrev pub is_key : List ℕ → Bool
is_key name = bytes_eq name (codes "secret") || bytes_eq name (codes "secret_file") || bytes_eq name (codes "unit")

-- a table has keys of this kind alone
abbrev pub has_only : (List ℕ → Bool) → Members → Bool
has_only is_known no_members = true
has_only is_known (member name value rest) = is_known name && has_only is_known rest

-- ---- units

-- the number that stands there, or else the default, if there is one
abbrev pub number_or : Option ℕ → Option Data → Option ℕ
number_or default None = default
number_or default (Some (integer (pos n))) = Some n
number_or default (Some _) = None

-- the number at a key of a unit's table
abbrev pub number : UnitKey → Option ℕ → Members → Option ℕ
number key default unit = number_or default (get_member (name_of key) unit)

-- a unit's table says this of it: blocks are a must, and all else has a default
pub record SaysUnit (unit : Members) (u : UnitConfig) : Type 0 where
  pub keys : has_only is_unit_key unit ≡ true
  pub blocks : number Blocks None unit ≡ Some u.blocks
  pub block_length : number BlockLength (Some 512) unit ≡ Some u.block_length
  pub entries : number Entries (Some 1_048_576) unit ≡ Some u.entries
  pub quota : number Quota (Some u.blocks) unit ≡ Some u.quota
  pub payload : number Payload (Some 268_435_456) unit ≡ Some u.payload
  pub group : number Group (Some 0) unit ≡ Some u.group

-- a value is a table that says this of a unit
abbrev pub SaysOne : Data → UnitConfig → Type 0
SaysOne (table unit) u = SaysUnit unit u
SaysOne _ u = ⊥

-- each value says one of the units, in order
abbrev pub SayUnits : Items → List UnitConfig → Type 0
SayUnits no_items [] = Unit {0}
SayUnits (item value rest) (u ∷ us) = SaysOne value u × SayUnits rest us
SayUnits _ _ = ⊥

-- what stands at the key `unit` is a list of tables that say the units
abbrev pub SaysUnits : Option Data → List UnitConfig → Type 0
SaysUnits (Some (array tables)) units = SayUnits tables units
SaysUnits _ units = ⊥

-- ---- the secret

-- 32 bytes, or the path of a file that has them
pub data Secret : Type 0 where
  these : List ℕ → Secret
  those_in : List ℕ → Secret

-- the secret that 64 digits spell
abbrev pub spelled : Result (List ℕ) FromHexError → Option Secret
spelled (Ok bytes) = Some (these bytes)
spelled (Err e) = None

-- What stands at the keys `secret` and `secret_file` is the secret in digits, or the path of its file; one of them.
abbrev pub secret_of : Option Data → Option Data → Option Secret
secret_of (Some (string digits)) None = spelled (decode_sized digits 32)
secret_of None (Some (string path)) = Some (those_in path)
secret_of _ _ = None

-- ---- the whole

abbrev pub secret_told : Told → Secret
secret_told (Whole config) = these config.secret
secret_told (SecretIn path units) = those_in (string_bytes path)

abbrev pub units_told : Told → List UnitConfig
units_told (Whole config) = config.units
units_told (SecretIn path units) = units

-- the table of a text says this
pub record Says (text : Members) (told : Told) : Type 0 where
  pub keys : has_only is_key text ≡ true
  pub secret : secret_of (get_member (codes "secret") text) (get_member (codes "secret_file") text) ≡ Some (secret_told told)
  pub units : SaysUnits (get_member (codes "unit") text) (units_told told)
  pub limits : AreUnits (units_told told)

-- the bytes are a text in UTF-8 that says this
pub record Means (bytes : List ℕ) (told : Told) : Type 0 where
  pub text : Members
  pub letters : IsUtf8 bytes
  pub toml : parse_document bytes ≡ Some text
  pub says : Says text told
