-- The text of a token, and what a text says that it is
use Rattle.std.specs.Prelude.{ℕ, zero, suc, ◌*◌, ◌==◌, List, [], ◌++◌, Bool, false, not, if◌then◌else◌}
use Rattle.byteorder.specs.Endian.{big_bytes}
use Rattle.rand_chacha.specs.ChaCha.{word_at, key_of}
use Rattle.cm_base.specs.Configuration.{Configuration}
use Rattle.cm_base.specs.Fields.{field, zeros}
use Rattle.cm_base.specs.Units.{unit_of, unit_descriptor}
use Rattle.rod_token.specs.declared.kind.TokenKind.{TokenKind}

-- the words of a ChaCha20 stream from a place on, each in four bytes
abbrev pub words : List ℕ → ℕ → ℕ → ℕ → List ℕ
words key stream place zero = []
words key stream place (suc n) = big_bytes 4 (word_at 10 key stream place) ++ words key stream (suc place) n

-- eight words: the secret is the key, and each unit has a stream
abbrev pub nonce : Configuration → ℕ → ℕ → List ℕ
nonce config unit serial = words (key_of config.secret) unit (8 * serial) 8

-- the 512 bytes of the token that stands for so many blocks
abbrev pub token_text : Configuration → ℕ → ℕ → ℕ → List ℕ
token_text config unit serial blocks =
    big_bytes 4 0x0080_0000 ++ zeros 2 ++ big_bytes 2 0x01f8 ++ big_bytes 2 unit ++ big_bytes 6 serial
    ++ unit_descriptor config unit ++ big_bytes 16 (blocks * (unit_of config unit).block_length) ++ nonce config unit serial ++ zeros 416

-- the serial that a text names
abbrev pub serial_of : List ℕ → ℕ
serial_of text = field text 10 15

-- the first that holds
abbrev pub classify : List ℕ → TokenKind
classify text =
    if not (field text 6 7 == 0x01f8) then TokenKind.BadLength else
    if field text 0 3 == 0xffff_0001 then TokenKind.Zero else
    if not (field text 0 3 == 0x0080_0000) then TokenKind.BadType else
    TokenKind.Names (field text 8 9) (serial_of text)

-- whether it names this unit
abbrev pub names_unit : ℕ → TokenKind → Bool
names_unit unit (TokenKind.Names creator serial) = creator == unit
names_unit unit _ = false

-- the text has the form of a token that this unit made
abbrev pub is_named : ℕ → List ℕ → Bool
is_named unit text = names_unit unit (classify text)
