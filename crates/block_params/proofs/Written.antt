-- The descriptors of a list that grows, and their length
use Rattle.std.proofs.Common.{◌≡◌, ℕ, ◌+◌, ◌*◌, List, [], ◌∷◌, ◌++◌, length, drop, refl, sym, ap, ◌∙◌, arith, append_assoc, length-append}
use Rattle.byteorder.specs.Endian.{big_bytes}
use Rattle.cm_base.specs.Fields.{zeros, flag}
use Rattle.lba_ranges.specs.declared.ranges.Range.{Range}
use Rattle.block_params.specs.declared.lists.PopulateList.{PopulateList}
use Rattle.block_params.specs.declared.lists.WriteList.{WriteList}
use Rattle.block_params.specs.ListsWritten.{descriptor, descriptors, unmap_written, populate_written, write_token_written}

-- one more descriptor
pub descriptors-push : (rs : List Range) (r : Range) → descriptors (rs ++ r ∷ []) ≡ descriptors rs ++ descriptor r
descriptors-push [] r = refl
descriptors-push (x ∷ xs) r = ap (λ l. descriptor x ++ l) (descriptors-push xs r)

pub length-descriptors : (rs : List Range) → length (descriptors rs) ≡ 16 * length rs
length-descriptors [] = refl
length-descriptors (x ∷ xs) = let rest = length-descriptors xs in omega arith

-- behind a token
pub length_behind : (token rest : List ℕ) → length ((token ++ zeros 6) ++ rest) ≡ length token + 6 + length rest
length_behind token rest = length-append (token ++ zeros 6) rest ∙ ap (λ n. n + length rest) (length-append token (zeros 6))

-- ---- each list, with the length of its descriptors as a number

pub unmap_is : (rs : List Range) (n : ℕ) → n ≡ 16 * length rs
    → (big_bytes 2 (6 + n) ++ big_bytes 2 n ++ zeros 4) ++ descriptors rs ≡ unmap_written rs
unmap_is rs n is =
    let size : 6 + n ≡ length (drop 2 (unmap_written rs)) = omega (arith, length-descriptors rs) in
    ap (λ k. (big_bytes 2 k ++ big_bytes 2 n ++ zeros 4) ++ descriptors rs) size
    ∙ ap (λ k. (big_bytes 2 (length (drop 2 (unmap_written rs))) ++ big_bytes 2 k ++ zeros 4) ++ descriptors rs) is

pub populate_is : (list : PopulateList) (n : ℕ) → n ≡ 16 * length list.ranges
    → (big_bytes 2 (14 + n) ++ 2 ∷ 0 ∷ big_bytes 4 list.timeout ++ big_bytes 4 0x0080_0000 ++ zeros 2 ++ big_bytes 2 n) ++ descriptors list.ranges
    ≡ populate_written list
populate_is list n is =
    let rest : List ℕ = 2 ∷ 0 ∷ big_bytes 4 list.timeout ++ big_bytes 4 0x0080_0000 ++ zeros 2 in
    let size : 14 + n ≡ length (drop 2 (populate_written list)) = omega (arith, length-descriptors list.ranges) in
    ap (λ k. (big_bytes 2 k ++ rest ++ big_bytes 2 n) ++ descriptors list.ranges) size
    ∙ ap (λ k. (big_bytes 2 (length (drop 2 (populate_written list))) ++ rest ++ big_bytes 2 k) ++ descriptors list.ranges) is

pub write_token_is : (list : WriteList) (n : ℕ) → n ≡ 16 * length list.ranges → length list.token ≡ 512
    → ((big_bytes 2 (534 + n) ++ (flag list.immed + 2 * flag list.delete) ∷ zeros 5 ++ big_bytes 8 list.offset) ++ list.token
    ++ (zeros 6 ++ big_bytes 2 n)) ++ descriptors list.ranges
    ≡ write_token_written list
write_token_is list n is whole =
    let rs = list.ranges in
    let bytes = write_token_written list in
    let head : ℕ → List ℕ = λ k. big_bytes 2 k ++ (flag list.immed + 2 * flag list.delete) ∷ zeros 5 ++ big_bytes 8 list.offset in
    let size : 534 + n ≡ length (drop 2 bytes) = omega (arith, length-descriptors rs, length_behind list.token (big_bytes 2 (16 * length rs) ++ descriptors rs)) in
    let regrouped : (list.token ++ (zeros 6 ++ big_bytes 2 n)) ++ descriptors rs ≡ (list.token ++ zeros 6) ++ (big_bytes 2 n ++ descriptors rs) =
    append_assoc list.token (zeros 6 ++ big_bytes 2 n) (descriptors rs) ∙ sym (append_assoc list.token (zeros 6) (big_bytes 2 n ++ descriptors rs)) in
    ap (λ l. head (534 + n) ++ l) regrouped
    ∙ ap (λ k. head k ++ ((list.token ++ zeros 6) ++ (big_bytes 2 n ++ descriptors rs))) size
    ∙ ap (λ k. head (length (drop 2 bytes)) ++ ((list.token ++ zeros 6) ++ (big_bytes 2 k ++ descriptors rs))) is
