-- What is written is read as the same value
use Rattle.std.proofs.Common.{◌≡◌, ℕ, ◌+◌, ◌-◌, ◌*◌, ◌/◌, ◌%◌, ◌^◌, ◌<◌, ◌≤◌, ◌==◌, nat_lt, Bool, true, false, not, List, [], ◌∷◌, ◌++◌, length, take, drop, Ok, None, refl, sym, ap, ◌∙◌, arith, min, append_assoc, drop-drop}
use Rattle.std.proofs.lemmas.Bool.{le-ltb, eq-eqb}
use Rattle.std.proofs.lemmas.Bool.Decides.{nat_tests}
use Rattle.std.proofs.lemmas.List.Elements.{All-head, All-tail}
use Rattle.byteorder.specs.Endian.{big_from}
use Rattle.std.specs.List.{slice_range}
use Rattle.std.proofs.Math.Seq.{drop-append_seam, take-append_seam}
use Rattle.cm_base.specs.Fields.{field, bit, flag, zeros}
use Rattle.cm_base.proofs.PublicLaws.{field-moved, number-back}
use Rattle.scsi_sense.specs.Faults.{unless, or_else}
use Rattle.scsi_sense.proofs.PublicLaws.{unless-no_faults}
use Rattle.lba_ranges.specs.declared.ranges.Range.{Range}
use Rattle.block_params.specs.declared.lists.PopulateList.{PopulateList}
use Rattle.block_params.specs.declared.lists.WriteList.{WriteList}
use Rattle.block_params.specs.inner.Lists.{IsRange, AreRanges}
use Rattle.block_params.specs.Lists.{IsPopulate, IsWrite}
use Rattle.block_params.specs.RangesRead.{ranges_in, ranges_length, ranges_from, length_fault, range_fault}
use Rattle.block_params.specs.ListsRead.{unmap_count, unmap_read, populate_fault, timeout_of, populate_read, write_token_read}
use Rattle.block_params.specs.ListsWritten.{descriptor, descriptors, measured, unmap_written, populate_written, write_token_written}
use Rattle.block_params.proofs.Written.{length-descriptors, length_behind}

-- the descriptors of ranges are these ranges
pub ranges_in-descriptors : (rs : List Range) → AreRanges rs → ranges_in (length rs) (descriptors rs) ≡ rs
ranges_in-descriptors [] fit = refl
ranges_in-descriptors (r ∷ rs) fit =
    let here = All-head IsRange r rs fit in
    let lba = number-back 8 r.lba here.0 in
    let count = number-back 4 r.count here.1 in
    ap (λ x. record { lba = x; count = big_from 8 4 (descriptor r) } ∷ ranges_in (length rs) (descriptors rs)) lba
    ∙ ap (λ x. record { lba = r.lba; count = x } ∷ ranges_in (length rs) (descriptors rs)) count
    ∙ ap (λ l. r ∷ l) (ranges_in-descriptors rs (All-tail IsRange r rs fit))

-- ---- UNMAP

unmap_read-whole : (bytes : List ℕ) (n : ℕ) → 8 ≤ length bytes → unmap_count bytes ≡ n → n ≤ 64 → unmap_read bytes ≡ Ok (ranges_in n (drop 8 bytes))
unmap_read-whole bytes n long is few =
    let some : (length bytes == 0) ≡ false = grind (arith, nat_tests) in
    let head : nat_lt (length bytes) 8 ≡ false = grind (arith, nat_tests) in
    let all : nat_lt 64 (unmap_count bytes) ≡ false = le-ltb 64 (unmap_count bytes) (omega arith) in
    rw (some, head, all) (ap (λ k. Ok (ranges_in k (drop 8 bytes))) is)

-- two bytes spell a number below 65,536
two_bytes : (n : ℕ) → n < 65536 → n / 256 % 256 * 256 + (n % 256 * 1 + 0) ≡ n
two_bytes n fits = number-back 2 n fits

pub unmap_back : (rs : List Range) → AreRanges rs → length rs ≤ 64 → unmap_read (unmap_written rs) ≡ Ok rs
unmap_back rs fit few =
    let length_is = length-descriptors rs in
    let told : field (unmap_written rs) 2 3 ≡ 16 * length rs = two_bytes (16 * length rs) (omega arith) in
    let behind : length (unmap_written rs) - 8 ≡ 16 * length rs = omega arith in
    let fewer : min (field (unmap_written rs) 2 3) (length (unmap_written rs) - 8) ≡ 16 * length rs = omega arith in
    let count : unmap_count (unmap_written rs) ≡ length rs = ap (λ k. k / 16) fewer ∙ omega arith in
    unmap_read-whole (unmap_written rs) (length rs) (omega arith) count few ∙ ap Ok (ranges_in-descriptors rs fit)

-- ---- POPULATE TOKEN and WRITE USING TOKEN

-- nothing is wrong with the lengths of a list that has all its descriptors
length_fault-none : (start n : ℕ) (bytes : List ℕ) → start ≤ length bytes → field bytes 0 1 + 2 ≤ length bytes → ranges_length start bytes ≡ 16 * n
    → start + 16 * n ≤ length bytes → n ≤ 64 → length_fault start bytes ≡ None
length_fault-none start n bytes long told measure whole few =
    let head : nat_lt (length bytes) start ≡ false = le-ltb (length bytes) start long in
    let data_length : nat_lt (length bytes) (field bytes 0 1 + 2) ≡ false = le-ltb (length bytes) (field bytes 0 1 + 2) told in
    let multiple : not (ranges_length start bytes % 16 == 0) ≡ false = ap not (eq-eqb (ranges_length start bytes % 16) 0 (omega arith)) in
    let there : nat_lt (length bytes) (start + ranges_length start bytes) ≡ false = le-ltb (length bytes) (start + ranges_length start bytes) (omega arith) in
    let fewer : nat_lt 1024 (ranges_length start bytes) ≡ false = le-ltb 1024 (ranges_length start bytes) (omega arith) in
    rw (head, data_length, multiple, there, fewer) refl

populate_fault-none : (bytes : List ℕ) → field bytes 4 7 ≤ 3600 → field bytes 8 11 ≡ 0x0080_0000 → populate_fault bytes ≡ None
populate_fault-none bytes timeout type = grind (arith, nat_tests)

timeout_of-asked : (t : ℕ) → 1 ≤ t → timeout_of t ≡ t
timeout_of-asked t some = grind (arith, nat_tests)

populate_read-whole : (bytes : List ℕ) (t : ℕ) (rs : List Range) → length_fault 16 bytes ≡ None → populate_fault bytes ≡ None
    → field bytes 4 7 ≡ t → 1 ≤ t → ranges_from 16 bytes ≡ rs → range_fault rs ≡ None
    → populate_read bytes ≡ Ok (record { timeout = t; ranges = rs })
populate_read-whole bytes t rs lengths fields timeout some ranges apart =
    unless-no_faults (length_fault 16 bytes) (populate_fault bytes) (range_fault (ranges_from 16 bytes))
    (Ok (record { timeout = timeout_of (field bytes 4 7); ranges = ranges_from 16 bytes })) lengths fields (ap range_fault ranges ∙ apart)
    ∙ ap (λ x. Ok (record { timeout = x; ranges = ranges_from 16 bytes })) (ap timeout_of timeout ∙ timeout_of-asked t some)
    ∙ ap (λ x. Ok (record { timeout = t; ranges = x })) ranges

-- the ranges behind a head are read, where their measure is right
ranges_from-written : (start : ℕ) (bytes : List ℕ) (rs : List Range) → AreRanges rs → drop start bytes ≡ descriptors rs
    → ranges_length start bytes ≡ 16 * length rs → ranges_from start bytes ≡ rs
ranges_from-written start bytes rs fit behind measure =
    let count : ranges_length start bytes / 16 ≡ length rs = ap (λ m. m / 16) measure ∙ omega arith in
    ap (λ k. ranges_in k (drop start bytes)) count ∙ ap (ranges_in (length rs)) behind ∙ ranges_in-descriptors rs fit

pub populate_back : (list : PopulateList) → IsPopulate list → AreRanges list.ranges → length list.ranges ≤ 64
    → populate_read (populate_written list) ≡ Ok list
populate_back list legal fit few =
    let rs : List Range = list.ranges in
    let bytes = populate_written list in
    let length_is = length-descriptors rs in
    let told : field bytes 0 1 ≡ length (drop 2 bytes) = two_bytes (length (drop 2 bytes)) (omega arith) in
    let measure : ranges_length 16 bytes ≡ 16 * length rs = two_bytes (16 * length rs) (omega arith) in
    let timeout : field bytes 4 7 ≡ list.timeout = number-back 4 list.timeout (omega (arith, legal.timeout)) in
    populate_read-whole bytes list.timeout rs
    (length_fault-none 16 (length rs) bytes (omega arith) (omega (arith, told)) measure (omega arith) few)
    (populate_fault-none bytes (omega (arith, timeout, legal.timeout)) refl) timeout legal.timeout.0
    (ranges_from-written 16 bytes rs fit refl measure) legal.ranges

write_token_read-whole : (bytes : List ℕ) (list : WriteList) → length_fault 536 bytes ≡ None
    → bit bytes 2 0 ≡ list.immed → bit bytes 2 1 ≡ list.delete → field bytes 8 15 ≡ list.offset → slice_range bytes 16 528 ≡ list.token
    → ranges_from 536 bytes ≡ list.ranges → range_fault list.ranges ≡ None
    → write_token_read bytes ≡ Ok list
write_token_read-whole bytes list lengths immed delete offset token ranges apart =
    let faults : or_else (length_fault 536 bytes) (range_fault (ranges_from 536 bytes)) ≡ None =
    ap (λ x. or_else x (range_fault (ranges_from 536 bytes))) lengths ∙ ap range_fault ranges ∙ apart in
    ap (λ f. unless f (Ok (record { immed = bit bytes 2 0; delete = bit bytes 2 1; offset = field bytes 8 15; token = slice_range bytes 16 528; ranges = ranges_from 536 bytes }))) faults
    ∙ ap (λ x. Ok (record { immed = x; delete = bit bytes 2 1; offset = field bytes 8 15; token = slice_range bytes 16 528; ranges = ranges_from 536 bytes })) immed
    ∙ ap (λ x. Ok (record { immed = list.immed; delete = x; offset = field bytes 8 15; token = slice_range bytes 16 528; ranges = ranges_from 536 bytes })) delete
    ∙ ap (λ x. Ok (record list { offset = x; token = slice_range bytes 16 528; ranges = ranges_from 536 bytes })) offset
    ∙ ap (λ x. Ok (record list { token = x; ranges = ranges_from 536 bytes })) token ∙ ap (λ x. Ok (record list { ranges = x })) ranges

-- behind a token of 512 bytes
behind_token : (token rest : List ℕ) → length token ≡ 512 → drop 512 ((token ++ zeros 6) ++ rest) ≡ zeros 6 ++ rest
behind_token token rest whole =
    ap (drop 512) (append_assoc token (zeros 6) rest) ∙ ap (λ n. drop n (token ++ (zeros 6 ++ rest))) (sym whole)
    ∙ drop-append_seam token (zeros 6 ++ rest)

token_of : (token rest : List ℕ) → length token ≡ 512 → take 512 ((token ++ zeros 6) ++ rest) ≡ token
token_of token rest whole =
    ap (take 512) (append_assoc token (zeros 6) rest) ∙ ap (λ n. take n (token ++ (zeros 6 ++ rest))) (sym whole)
    ∙ take-append_seam token (zeros 6 ++ rest)

-- IMMED and DEL_TKN in one byte
immed_of : (a b : Bool) → ((flag a + 2 * flag b) / 1 % 2 == 1) ≡ a
immed_of true true = refl
immed_of true false = refl
immed_of false true = refl
immed_of false false = refl

delete_of : (a b : Bool) → ((flag a + 2 * flag b) / 2 % 2 == 1) ≡ b
delete_of true true = refl
delete_of true false = refl
delete_of false true = refl
delete_of false false = refl

pub write_token_back : (list : WriteList) → IsWrite list → AreRanges list.ranges → length list.ranges ≤ 64 → list.offset < 2 ^ 64 → length list.token ≡ 512
    → write_token_read (write_token_written list) ≡ Ok list
write_token_back list legal fit few fits whole =
    let rs : List Range = list.ranges in
    let bytes = write_token_written list in
    let length_is = length-descriptors rs in
    let rest = measured rs in
    let behind : drop 528 bytes ≡ zeros 6 ++ rest = behind_token list.token rest whole in
    let parts : length (drop 16 bytes) ≡ 520 + 16 * length rs = length_behind list.token rest ∙ omega arith in
    let told : field bytes 0 1 ≡ length (drop 2 bytes) = two_bytes (length (drop 2 bytes)) (omega (arith, parts)) in
    let measure : ranges_length 536 bytes ≡ 16 * length rs =
    sym (field-moved 6 2 528 bytes) ∙ ap (big_from 6 2) behind ∙ two_bytes (16 * length rs) (omega arith) in
    let after : drop 536 bytes ≡ descriptors rs = sym (drop-drop 8 528 bytes) ∙ ap (drop 8) behind in
    write_token_read-whole bytes list
    (length_fault-none 536 (length rs) bytes (omega (arith, parts)) (omega (arith, told, parts)) measure (omega (arith, parts)) few)
    (immed_of list.immed list.delete) (delete_of list.immed list.delete) (number-back 8 list.offset fits)
    (token_of list.token rest whole) (ranges_from-written 536 bytes rs fit after measure) legal
