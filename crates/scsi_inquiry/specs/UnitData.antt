-- The data of a unit that no command changes
use Rattle.std.specs.Prelude.{ℕ, zero, suc, ◌-◌, ◌*◌, ◌==◌, List, [], ◌∷◌, ◌++◌, length, codes, Option, Some, None, if◌then◌else◌}
use Rattle.std.specs.Option.{option_map}
use Rattle.byteorder.specs.Endian.{big_bytes}
use Rattle.cm_base.specs.Configuration.{Configuration}
use Rattle.cm_base.specs.Fields.{zeros, counted}
use Rattle.cm_base.specs.Units.{unit_of, unit_name}

-- standard INQUIRY data, 36 bytes: SPC-4, third party copies, and three texts
abbrev pub standard : List ℕ
standard =
    (0x00 ∷ 0 ∷ 0x06 ∷ 0x02 ∷ 0x1f ∷ 0x08 ∷ 0 ∷ 0 ∷ [])
    ++ codes "COPYMGR " ++ codes "ROD TOKEN UNIT  " ++ codes "0001"

-- the unit's name as a designator
abbrev pub identification : ℕ → List ℕ
identification unit = 0x01 ∷ 0x03 ∷ 0x00 ∷ 0x08 ∷ unit_name unit

-- 64 ranges, timeouts of at most 3600 and usually 300 seconds, and 1,048,576 blocks
abbrev pub copy_limits : List ℕ
copy_limits =
    big_bytes 2 0x0000 ++ big_bytes 2 0x0020 ++ zeros 6 ++ big_bytes 2 64 ++ big_bytes 4 3600 ++ big_bytes 4 300
    ++ big_bytes 8 1_048_576 ++ big_bytes 8 1_048_576

-- transfers of 2048 blocks, and unmaps of 64 descriptors
abbrev pub block_limits : List ℕ
block_limits = zeros 4 ++ big_bytes 4 2048 ++ zeros 8 ++ big_bytes 4 0xffff_ffff ++ big_bytes 4 64 ++ zeros 36

-- what stands on a page: 00h lists the pages, and by B2h unmapped blocks read as zeros, and the unit is thin
abbrev pub page_content : ℕ → ℕ → Option (List ℕ)
page_content unit page =
    if page == 0x00 then Some (0x00 ∷ 0x83 ∷ 0x8f ∷ 0xb0 ∷ 0xb2 ∷ []) else
    if page == 0x83 then Some (identification unit) else
    if page == 0x8f then Some copy_limits else
    if page == 0xb0 then Some block_limits else
    if page == 0xb2 then Some (0x00 ∷ 0x84 ∷ 0x02 ∷ 0x00 ∷ []) else
    None

-- a vital product data page, if there is one
abbrev pub vpd : ℕ → ℕ → Option (List ℕ)
vpd unit page = option_map (λ content. 0x00 ∷ page ∷ big_bytes 2 (length content) ++ content) (page_content unit page)

-- READ CAPACITY(10), 8 bytes
abbrev pub capacity10 : Configuration → ℕ → List ℕ
capacity10 config unit = big_bytes 4 ((unit_of config unit).blocks - 1) ++ big_bytes 4 (unit_of config unit).block_length

-- READ CAPACITY(16), 32 bytes, with LBPME and LBPRZ
abbrev pub capacity16 : Configuration → ℕ → List ℕ
capacity16 config unit =
    big_bytes 8 ((unit_of config unit).blocks - 1) ++ big_bytes 4 (unit_of config unit).block_length ++ zeros 2 ++ 0xc0 ∷ zeros 17

-- the `n` units from `unit` on
abbrev pub luns : ℕ → ℕ → List ℕ
luns unit zero = []
luns unit (suc n) = 0 ∷ unit ∷ zeros 6 ++ luns (suc unit) n

-- REPORT LUNS parameter data (SPC-4): all units, each eight bytes
abbrev pub report_luns : Configuration → List ℕ
report_luns config = big_bytes 4 (8 * length config.units) ++ zeros 4 ++ luns 0 (length config.units)

-- RECEIVE COPY OPERATING PARAMETERS, 46 bytes
abbrev pub copy_parameters : List ℕ
copy_parameters =
    counted (0x01 ∷ zeros 3 ++ big_bytes 2 16 ++ big_bytes 2 64 ++ big_bytes 4 2304 ++ big_bytes 4 268_431_360 ++ zeros 14
    ++ big_bytes 2 64 ++ 64 ∷ 9 ∷ zeros 5 ++ 2 ∷ 0x02 ∷ 0xe4 ∷ [])
