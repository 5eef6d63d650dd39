-- The one spelling of each header, item, request and reply
use Rattle.std.specs.Prelude.{◌≡◌, ℕ, ◌^◌, ◌<◌, ◌≤◌, List, [], ◌∷◌, ◌++◌, length, flat_map}
use Rattle.cm_base.specs.Configuration.{Configuration}
use Rattle.cm_base.specs.declared.config.UnitConfig.{UnitConfig}
use Rattle.scsi_sense.specs.SenseCode.{SenseCode}
use Rattle.cm_frame.specs.declared.frame.Request.{Request}
use Rattle.cm_frame.specs.declared.frame.Reply.{Reply}
use Rattle.cm_frame.specs.declared.item.TraceItem.{TraceItem}
use Rattle.byteorder.specs.Endian.{big_bytes}
use Rattle.cm_base.specs.Configuration.{AreUnits}
use Rattle.cm_base.specs.Fields.{AreBytes}
use Rattle.scsi_sense.specs.SenseBytes.{sense_bytes}

-- the bytes of data that one frame may have
abbrev pub data_limit : ℕ
data_limit = 8_388_608

-- ---- headers

-- the text CMTRACE1
abbrev pub header_text : List ℕ
header_text = 0x43 ∷ 0x4d ∷ 0x54 ∷ 0x52 ∷ 0x41 ∷ 0x43 ∷ 0x45 ∷ 0x31 ∷ []

-- what a header says of one unit, in 32 bytes
abbrev pub unit_bytes : UnitConfig → List ℕ
unit_bytes u =
    big_bytes 8 u.blocks ++ big_bytes 4 u.block_length ++ big_bytes 4 u.entries ++ big_bytes 8 u.quota
    ++ big_bytes 4 u.payload ++ u.group ∷ 0 ∷ 0 ∷ 0 ∷ []

-- the text, the secret, the number of units in two bytes, and each unit
abbrev pub header_bytes : Configuration → List ℕ
header_bytes config =
    header_text ++ config.secret ++ big_bytes 2 (length config.units) ++ flat_map unit_bytes config.units

-- a configuration that has a header
pub record IsConfig (config : Configuration) : Type 0 where
  pub secret : (length config.secret ≡ 32) × AreBytes config.secret
  pub units : AreUnits config.units

-- ---- requests and replies

-- length of the data-out, number of the unit, CDB, data-out
abbrev pub request_bytes : Request → List ℕ
request_bytes r = big_bytes 4 (length r.out) ++ big_bytes 2 r.unit ++ r.cdb ++ r.out

-- status, length of the sense, length of the data, sense, data
abbrev pub reply_bytes : Reply → List ℕ
reply_bytes (Reply.Good bytes) = 0x00 ∷ 0x00 ∷ big_bytes 4 (length bytes) ++ bytes
reply_bytes (Reply.Check sense) = 0x02 ∷ 0x12 ∷ big_bytes 4 0 ++ sense_bytes sense
reply_bytes Reply.Busy = 0x08 ∷ 0x00 ∷ big_bytes 4 0
reply_bytes Reply.Conflict = 0x18 ∷ 0x00 ∷ big_bytes 4 0
reply_bytes Reply.Full = 0x28 ∷ 0x00 ∷ big_bytes 4 0

-- what a reply has behind its status and its lengths: the data-in, or the sense
abbrev pub reply_body : Reply → List ℕ
reply_body (Reply.Good bytes) = bytes
reply_body (Reply.Check sense) = sense_bytes sense
reply_body _ = []

abbrev pub data_in : Reply → List ℕ
data_in (Reply.Good bytes) = bytes
data_in _ = []

-- data that one frame may have
abbrev pub IsData : List ℕ → Type 0
IsData bytes = (length bytes ≤ data_limit) × AreBytes bytes

pub record IsRequest (r : Request) : Type 0 where
  pub unit : r.unit < 2 ^ 16
  pub cdb : (length r.cdb ≡ 16) × AreBytes r.cdb
  pub out : IsData r.out

pub record IsSense (s : SenseCode) : Type 0 where
  pub key : s.key ≤ 15
  pub codes : (s.asc < 256) × (s.ascq < 256)

abbrev pub IsReply : Reply → Type 0
IsReply (Reply.Good bytes) = IsData bytes
IsReply (Reply.Check sense) = IsSense sense
IsReply _ = Unit {0}

-- ---- items

-- 01h, 02h or 03h by its kind, and then what it has, in order
abbrev pub item_bytes : TraceItem → List ℕ
item_bytes (TraceItem.Begin initiator moment request) = 0x01 ∷ big_bytes 4 initiator ++ big_bytes 8 moment ++ request_bytes request
item_bytes (TraceItem.Run initiator moment) = 0x02 ∷ big_bytes 4 initiator ++ big_bytes 8 moment
item_bytes (TraceItem.Pump unit moment) = 0x03 ∷ big_bytes 2 unit ++ big_bytes 8 moment

abbrev pub data_out : TraceItem → List ℕ
data_out (TraceItem.Begin initiator moment request) = request.out
data_out _ = []

abbrev pub IsItem : TraceItem → Type 0
IsItem (TraceItem.Begin initiator moment request) = (initiator < 2 ^ 32) × (moment < 2 ^ 64) × IsRequest request
IsItem (TraceItem.Run initiator moment) = (initiator < 2 ^ 32) × (moment < 2 ^ 64)
IsItem (TraceItem.Pump unit moment) = (unit < 2 ^ 16) × (moment < 2 ^ 64)
