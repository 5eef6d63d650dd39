-- How each list is spelled
use Rattle.std.specs.Prelude.{ℕ, ◌+◌, ◌*◌, List, [], ◌∷◌, ◌++◌, length}
use Rattle.byteorder.specs.Endian.{big_bytes}
use Rattle.cm_base.specs.Fields.{zeros, flag}
use Rattle.lba_ranges.specs.declared.ranges.Range.{Range}
use Rattle.block_params.specs.declared.lists.PopulateList.{PopulateList}
use Rattle.block_params.specs.declared.lists.WriteList.{WriteList}

-- a range descriptor
abbrev pub descriptor : Range → List ℕ
descriptor r = big_bytes 8 r.lba ++ big_bytes 4 r.count ++ zeros 4

-- the range descriptors, one after another
abbrev pub descriptors : List Range → List ℕ
descriptors [] = []
descriptors (r ∷ rs) = descriptor r ++ descriptors rs

-- the descriptors, and before them their length in two bytes
abbrev pub measured : List Range → List ℕ
measured ranges = big_bytes 2 (16 * length ranges) ++ descriptors ranges

-- the list, and before it its length in two bytes
abbrev pub sized : List ℕ → List ℕ
sized bytes = big_bytes 2 (length bytes) ++ bytes

abbrev pub unmap_written : List Range → List ℕ
unmap_written ranges = sized (big_bytes 2 (16 * length ranges) ++ zeros 4 ++ descriptors ranges)

-- with RTV and a point in time copy
abbrev pub populate_written : PopulateList → List ℕ
populate_written list = sized (2 ∷ 0 ∷ big_bytes 4 list.timeout ++ big_bytes 4 0x0080_0000 ++ zeros 2 ++ measured list.ranges)

-- with IMMED in bit 0 and DEL_TKN in bit 1 of byte 2
abbrev pub write_token_written : WriteList → List ℕ
write_token_written list =
    sized ((flag list.immed + 2 * flag list.delete) ∷ zeros 5 ++ big_bytes 8 list.offset ++ list.token ++ zeros 6 ++ measured list.ranges)
