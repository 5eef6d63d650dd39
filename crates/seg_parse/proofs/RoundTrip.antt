-- What is written is read as the same value
use Rattle.std.proofs.Common.{◌≡◌, ◌≢◌, ◌==◌, ℕ, zero, suc, ◌+◌, ◌-◌, ◌*◌, ◌/◌, ◌%◌, ◌^◌, ◌<◌, ◌≤◌, List, [], ◌∷◌, ◌++◌, length, take, drop, All, Option, Some, None, Ok, IsSome, IfSome, false, not, nat_lt, nat_le, refl, sym, ap, ◌∙◌, arith, append_assoc, length-append, drop-drop}
use Rattle.std.specs.List.{slice_range}
use Rattle.std.proofs.lemmas.Bool.{le-ltb, lt-leb, ne_eqb, eq-eqb}
use Rattle.std.proofs.lemmas.List.Elements.{All-head, All-tail}
use Rattle.std.proofs.Math.Seq.{take-length, drop-append_seam, take-append_seam}
use Rattle.byteorder.specs.Endian.{big_from, big_bytes}
use Rattle.cm_base.specs.Fields.{byte, field, bits, zeros}
use Rattle.cm_base.proofs.PublicLaws.{field-moved, number-back}
use Rattle.seg_parse.specs.declared.list.Cscd.{Cscd}
use Rattle.seg_parse.specs.declared.list.Segment.{Segment}
use Rattle.seg_parse.specs.declared.list.CopyList.{CopyList}
use Rattle.seg_parse.specs.CopyLists.{IsCscd, IsSegment, IsCopyList, AreNamed}
use Rattle.seg_parse.specs.inner.Sizes.{IsSized, IsWide}
use Rattle.seg_parse.specs.Descriptors.{followed, cscd, cscds_read, segment, segment_fault, segments_read}
use Rattle.seg_parse.specs.ListRead.{usage, cscd_length, segment_length, head_fault, cscds_of, segments_of, lid1_read}
use Rattle.seg_parse.specs.ListWritten.{name_bytes, cscd_bytes, segment_bytes, all_cscds, all_segments, lid1_written}
use Rattle.seg_parse.proofs.Preceded.{cscds-step, segments-step}
use Rattle.seg_parse.proofs.Copies.{lid1_read-headed, copy_list-read}

-- ---- CSCDs

-- what stands behind a name, and what follows the descriptor
behind_name : ℕ → List ℕ → List ℕ
behind_name n rest = zeros 13 ++ (big_bytes 3 n ++ rest)

regrouped : (name : List ℕ) (n : ℕ) (rest : List ℕ) → ((name ++ zeros 13) ++ big_bytes 3 n) ++ rest ≡ name ++ behind_name n rest
unfolding behind_name
regrouped name n rest = simp append_assoc

past_name : (name : List ℕ) (n : ℕ) (rest : List ℕ) → length name ≡ 8 → drop 8 (((name ++ zeros 13) ++ big_bytes 3 n) ++ rest) ≡ behind_name n rest
past_name name n rest sized =
    ap (drop 8) (regrouped name n rest) ∙ ap (λ k. drop k (name ++ behind_name n rest)) (sym sized) ∙ drop-append_seam name (behind_name n rest)

name_first : (name : List ℕ) (n : ℕ) (rest : List ℕ) → length name ≡ 8 → take 8 (((name ++ zeros 13) ++ big_bytes 3 n) ++ rest) ≡ name
name_first name n rest sized =
    ap (take 8) (regrouped name n rest) ∙ ap (λ k. take k (name ++ behind_name n rest)) (sym sized) ∙ take-append_seam name (behind_name n rest)

length-name_bytes : (name : Option (List ℕ)) → IfSome name (λ x. length x ≡ 8) → length (name_bytes name) ≡ 8
length-name_bytes None sized = refl
length-name_bytes (Some name) sized = sized

-- a CSCD descriptor is read as it was, whatever follows
cscd-back : (device : ℕ) (name : Option (List ℕ)) (n : ℕ) (rest : List ℕ) → device < 32 → n < 2 ^ 24 → IsSome name → IfSome name (λ x. length x ≡ 8)
    → cscd (cscd_bytes (record { device = device; name = name; block_length = n }) ++ rest) ≡ record { device = device; name = name; block_length = n }
unfolding behind_name
cscd-back device None n rest small fits named sized = absurd (cc)
cscd-back device (Some name) n rest small fits named sized =
    let d = cscd_bytes (record { device = device; name = Some name; block_length = n }) ++ rest in
    let device_is : bits d 1 4 0 ≡ device = omega arith in
    let name_is : slice_range d 8 16 ≡ name = name_first name n rest sized in
    let length_is : field d 29 31 ≡ n =
    sym (field-moved 13 3 16 d) ∙ ap (big_from 13 3) (past_name name n rest sized) ∙ number-back 3 n (omega arith) in
    ap (λ x. record { device = x; name = Some (slice_range d 8 16); block_length = field d 29 31 }) device_is
    ∙ ap (λ x. record { device = device; name = Some x; block_length = field d 29 31 }) name_is
    ∙ ap (λ x. record { device = device; name = Some name; block_length = x }) length_is

-- what follows it stands behind it
behind_cscd : (u : Cscd) (rest : List ℕ) → IsSized u → drop 32 (cscd_bytes u ++ rest) ≡ rest
unfolding behind_name
behind_cscd u rest sized =
    let name = name_bytes u.name in
    let past = past_name name u.block_length rest (length-name_bytes u.name sized) in
    sym (drop-drop 16 8 (((name ++ zeros 13) ++ big_bytes 3 u.block_length) ++ rest)) ∙ ap (drop 16) past

cscds-back : (us : List Cscd) (rest : List ℕ) → All IsCscd us → All IsSized us → All (λ c. IsSome c.name) us → cscds_read (length us) (all_cscds us ++ rest) ≡ Ok us
cscds-back [] rest fit sized named = refl
cscds-back (u ∷ us) rest fit sized named =
    let more = all_cscds us ++ rest in
    let d = cscd_bytes u ++ more in
    let here = All-head IsCscd u us fit in
    let size = All-head IsSized u us sized in
    let read : cscd d ≡ u = cscd-back u.device u.name u.block_length more here.device here.block_length (All-head (λ c. IsSome c.name) u us named) size in
    ap (cscds_read (suc (length us))) (append_assoc (cscd_bytes u) (all_cscds us) rest)
    ∙ cscds-step (suc (length us)) (length us) d refl refl
    ∙ ap (λ c. followed c (cscds_read (length us) (drop 32 d))) read
    ∙ ap (λ l. followed u (cscds_read (length us) l)) (behind_cscd u more size)
    ∙ ap (followed u) (cscds-back us rest (All-tail IsCscd u us fit) (All-tail IsSized u us sized) (All-tail (λ c. IsSome c.name) u us named))

length-all_cscds : (us : List Cscd) → All IsSized us → length (all_cscds us) ≡ 32 * length us
unfolding behind_name
length-all_cscds [] sized = refl
length-all_cscds (u ∷ us) sized =
    let name = name_bytes u.name in
    let one = length-name_bytes u.name (All-head IsSized u us sized) in
    let rest = length-all_cscds us (All-tail IsSized u us sized) in
    omega (arith, one, rest, ap length (regrouped name u.block_length (all_cscds us)), length-append name (behind_name u.block_length (all_cscds us)))

-- ---- segments

-- a segment descriptor is read as it was, whatever follows
segment-back : (s : Segment) (rest : List ℕ) → IsWide s → segment (segment_bytes s ++ rest) ≡ s
segment-back s rest wide =
    let d = segment_bytes s ++ rest in
    let source : field d 4 5 ≡ s.source = number-back 2 s.source (omega (arith, wide.source)) in
    let destination : field d 6 7 ≡ s.destination = number-back 2 s.destination (omega (arith, wide.destination)) in
    let count : field d 10 11 ≡ s.count = number-back 2 s.count (omega (arith, wide.count)) in
    let from : field d 12 19 ≡ s.from = number-back 8 s.from wide.from in
    let to : field d 20 27 ≡ s.to = number-back 8 s.to wide.to in
    ap (λ x. record { source = x; destination = field d 6 7; count = field d 10 11; from = field d 12 19; to = field d 20 27 }) source
    ∙ ap (λ x. record { source = s.source; destination = x; count = field d 10 11; from = field d 12 19; to = field d 20 27 }) destination
    ∙ ap (λ x. record s { count = x; from = field d 12 19; to = field d 20 27 }) count
    ∙ ap (λ x. record s { from = x; to = field d 20 27 }) from ∙ ap (λ x. record s { to = x }) to

segment_fault-whole : (cscds : ℕ) (bytes : List ℕ) → byte bytes 0 ≡ 0x02 → 28 ≤ length bytes → field bytes 2 3 ≡ 0x0018
    → field bytes 4 5 < cscds → field bytes 6 7 < cscds → segment_fault cscds bytes ≡ None
segment_fault-whole cscds bytes is long measure from to =
    let kind : not (byte bytes 0 == 0x02) ≡ false = ap not (eq-eqb (byte bytes 0) 0x02 is) in
    let whole : nat_lt (length bytes) 28 ≡ false = le-ltb (length bytes) 28 long in
    let same : not (field bytes 2 3 == 0x0018) ≡ false = ap not (eq-eqb (field bytes 2 3) 0x0018 measure) in
    let source : nat_le cscds (field bytes 4 5) ≡ false = lt-leb cscds (field bytes 4 5) from in
    let destination : nat_le cscds (field bytes 6 7) ≡ false = lt-leb cscds (field bytes 6 7) to in
    rw (kind, whole, same, source, destination) refl

-- and nothing is wrong with it
segment_fault-none : (cscds : ℕ) (s : Segment) (rest : List ℕ) → IsWide s → IsSegment cscds s → segment_fault cscds (segment_bytes s ++ rest) ≡ None
segment_fault-none cscds s rest wide within =
    let d = segment_bytes s ++ rest in
    let source : field d 4 5 ≡ s.source = number-back 2 s.source (omega (arith, wide.source)) in
    let destination : field d 6 7 ≡ s.destination = number-back 2 s.destination (omega (arith, wide.destination)) in
    segment_fault-whole cscds d refl (omega arith) refl (omega (arith, source, within.source)) (omega (arith, destination, within.destination))

segments-back : (cscds n : ℕ) (ss : List Segment) → length ss ≤ n → All IsWide ss → All (IsSegment cscds) ss → segments_read cscds n (all_segments ss) ≡ Ok ss
segments-back cscds n [] few wide within = refl
segments-back cscds zero (s ∷ ss) few wide within = absurd (omega arith)
segments-back cscds (suc n) (s ∷ ss) few wide within =
    let more = all_segments ss in
    let here = All-head IsWide s ss wide in
    let sound = segment_fault-none cscds s more here (All-head (IsSegment cscds) s ss within) in
    segments-step cscds (suc n) n (segment_bytes s ++ more) refl (omega arith) sound
    ∙ ap (λ x. followed x (segments_read cscds n more)) (segment-back s more here)
    ∙ ap (followed s) (segments-back cscds n ss (omega arith) (All-tail IsWide s ss wide) (All-tail (IsSegment cscds) s ss within))

length-all_segments : (ss : List Segment) → length (all_segments ss) ≡ 28 * length ss
length-all_segments [] = refl
length-all_segments (s ∷ ss) = let rest = length-all_segments ss in omega arith

-- ---- the whole list

-- nothing is wrong with a head whose lengths are right
head_fault-none : (bytes : List ℕ) (n m : ℕ) → 16 ≤ length bytes → usage bytes ≢ 1 → field bytes 12 15 ≡ 0 → cscd_length bytes ≡ 32 * n → segment_length bytes ≡ 28 * m
    → n ≤ 16 → m ≤ 64 → 16 + 32 * n + 28 * m ≤ length bytes → head_fault bytes ≡ None
head_fault-none bytes n m long used no_inline cscds segments few_cscds few_segments whole =
    let head : nat_lt (length bytes) 16 ≡ false = le-ltb (length bytes) 16 long in
    let usage_is : (usage bytes == 1) ≡ false = ne_eqb (usage bytes) 1 used in
    let inline : not (field bytes 12 15 == 0) ≡ false = ap not (eq-eqb (field bytes 12 15) 0 no_inline) in
    let multiple : not (cscd_length bytes % 32 == 0) ≡ false = ap not (eq-eqb (cscd_length bytes % 32) 0 (omega (arith, cscds))) in
    let units : nat_lt 512 (cscd_length bytes) ≡ false = le-ltb 512 (cscd_length bytes) (omega (arith, cscds)) in
    let parts : nat_lt 1792 (segment_length bytes) ≡ false = le-ltb 1792 (segment_length bytes) (omega (arith, segments)) in
    let there : nat_lt (length bytes) (16 + cscd_length bytes + segment_length bytes) ≡ false =
    le-ltb (length bytes) (16 + cscd_length bytes + segment_length bytes) (omega (arith, cscds, segments)) in
    rw (head, usage_is, inline, multiple, units, parts, there) refl

pub lid1_back : (list : CopyList) → IsCopyList list → AreNamed list → All IsSized list.units → All IsWide list.segments
    → lid1_read (lid1_written list) ≡ Ok list
lid1_back list legal named sized wide =
    let us : List Cscd = list.units in
    let ss : List Segment = list.segments in
    let bytes = lid1_written list in
    let n = length us in
    let m = length ss in
    let front = length-all_cscds us sized in
    let back = length-all_segments ss in
    let both = length-append (all_cscds us) (all_segments ss) in
    let cscds : cscd_length bytes ≡ 32 * n = number-back 2 (32 * n) (omega (arith, legal.cscds)) in
    let segments : segment_length bytes ≡ 28 * m = number-back 4 (28 * m) (omega (arith, legal.segments)) in
    let used : usage bytes ≡ list.usage = omega (arith, legal.usage) in
    let sound = head_fault-none bytes n m (omega arith) (λ e. legal.usage.1 (sym used ∙ e)) refl cscds segments legal.cscds legal.segments (omega (arith, front, back, both)) in
    let units_read : cscds_of bytes ≡ Ok us =
    ap (λ k. cscds_read (k / 32) (all_cscds us ++ all_segments ss)) cscds ∙ ap (λ k. cscds_read k (all_cscds us ++ all_segments ss)) (omega arith)
    ∙ cscds-back us (all_segments ss) legal.each_cscd sized named in
    let at : drop (16 + cscd_length bytes) bytes ≡ all_segments ss =
    ap (λ k. drop (16 + k) bytes) cscds ∙ sym (drop-drop (32 * n) 16 bytes) ∙ ap (λ k. drop k (all_cscds us ++ all_segments ss)) (sym front)
    ∙ drop-append_seam (all_cscds us) (all_segments ss) in
    let count : 16 + cscd_length bytes + segment_length bytes - (16 + cscd_length bytes) ≡ length (all_segments ss) = omega (arith, segments, back) in
    let part : slice_range bytes (16 + cscd_length bytes) (16 + cscd_length bytes + segment_length bytes) ≡ all_segments ss =
    ap (λ k. take k (drop (16 + cscd_length bytes) bytes)) count ∙ ap (take (length (all_segments ss))) at ∙ take-length (all_segments ss) in
    let units_there : cscd_length bytes / 32 ≡ n = ap (λ k. k / 32) cscds ∙ omega arith in
    let segments_read_back : segments_of bytes ≡ Ok ss =
    ap (segments_read (cscd_length bytes / 32) 64) part ∙ ap (λ k. segments_read k 64 (all_segments ss)) units_there
    ∙ segments-back n 64 ss legal.segments wide legal.each_segment in
    lid1_read-headed bytes sound ∙ copy_list-read bytes (cscds_of bytes) (segments_of bytes) us ss units_read segments_read_back
    ∙ ap (λ u. Ok (record list { usage = u })) used
