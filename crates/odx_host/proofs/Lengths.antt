-- How long a parameter list is
use Rattle.std.proofs.Common.{◌≡◌, ◌+◌, ◌*◌, List, [], ◌∷◌, ◌++◌, length, arith, length-append}
use Rattle.cm_base.specs.Fields.{zeros}
use Rattle.lba_ranges.specs.declared.ranges.Range.{Range}
use Rattle.block_params.specs.declared.lists.PopulateList.{PopulateList}
use Rattle.block_params.specs.declared.lists.WriteList.{WriteList}
use Rattle.block_params.specs.ListsWritten.{descriptor, descriptors, measured, populate_written, write_token_written}

length-descriptors : (rs : List Range) → length (descriptors rs) ≡ 16 * length rs
length-descriptors [] = omega arith
length-descriptors (r ∷ rs) = omega (arith, length-descriptors rs, length-append (descriptor r) (descriptors rs))

pub populate-length : (list : PopulateList) → length (populate_written list) ≡ 16 + 16 * length list.ranges
populate-length list = omega (arith, length-descriptors list.ranges)

pub write-length : (list : WriteList) → length list.token ≡ 512 → length (write_token_written list) ≡ 536 + 16 * length list.ranges
write-length list token =
    omega (arith, token, length-descriptors list.ranges, length-append list.token (zeros 6), length-append (list.token ++ zeros 6) (measured list.ranges))
