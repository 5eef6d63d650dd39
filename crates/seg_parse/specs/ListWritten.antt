-- How the list of an EXTENDED COPY is spelled
use Rattle.std.specs.Prelude.{ℕ, ◌*◌, List, [], ◌∷◌, ◌++◌, length, Option, Some, None}
use Rattle.byteorder.specs.Endian.{big_bytes}
use Rattle.cm_base.specs.Fields.{zeros}
use Rattle.seg_parse.specs.declared.list.Cscd.{Cscd}
use Rattle.seg_parse.specs.declared.list.Segment.{Segment}
use Rattle.seg_parse.specs.declared.list.CopyList.{CopyList}

-- a CSCD that is written has a name
abbrev pub name_bytes : Option (List ℕ) → List ℕ
name_bytes (Some name) = name
name_bytes None = zeros 8

abbrev pub cscd_bytes : Cscd → List ℕ
cscd_bytes c = 0xe4 ∷ c.device ∷ 0 ∷ 0 ∷ 1 ∷ 3 ∷ 0 ∷ 8 ∷ name_bytes c.name ++ zeros 13 ++ big_bytes 3 c.block_length

abbrev pub segment_bytes : Segment → List ℕ
segment_bytes s =
    2 ∷ 0 ∷ 0 ∷ 0x18 ∷ big_bytes 2 s.source ++ big_bytes 2 s.destination ++ zeros 2 ++ big_bytes 2 s.count
    ++ big_bytes 8 s.from ++ big_bytes 8 s.to

abbrev pub all_cscds : List Cscd → List ℕ
all_cscds [] = []
all_cscds (c ∷ cs) = cscd_bytes c ++ all_cscds cs

abbrev pub all_segments : List Segment → List ℕ
all_segments [] = []
all_segments (s ∷ ss) = segment_bytes s ++ all_segments ss

abbrev pub lid1_written : CopyList → List ℕ
lid1_written list =
    list.id ∷ 8 * list.usage ∷ big_bytes 2 (32 * length list.units) ++ zeros 4 ++ big_bytes 4 (28 * length list.segments) ++ zeros 4
    ++ all_cscds list.units ++ all_segments list.segments
