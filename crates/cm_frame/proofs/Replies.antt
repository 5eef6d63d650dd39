-- Replies: what is spelled is read, and what was judged stays so
use Rattle.std.proofs.Common.{◌≡◌, ℕ, ◌+◌, ◌≤◌, List, [], ◌∷◌, ◌++◌, length, take, refl, ap, ◌∙◌, arith, true, false, take_at}
use Rattle.std.specs.Prelude.{nat_lt, nat_le, cond, not, ◌==◌, ◌&&◌, bytes_eq}
use Rattle.std.proofs.lemmas.Bool.{le-ltb, le-leb, eq-eqb}
use Rattle.std.proofs.lemmas.List.{length-append}
use Rattle.scsi_sense.specs.SenseCode.{SenseCode}
use Rattle.cm_frame.specs.declared.frame.Reply.{Reply}
use Rattle.cm_base.specs.declared.parsed.Parsed.TheVariants.{Whole}
use Rattle.scsi_sense.specs.SenseBytes.{sense_bytes}
use Rattle.byteorder.specs.Endian.{big_from, big_bytes}
use Rattle.cm_base.specs.Fields.{byte, field, part}
use Rattle.cm_base.proofs.PublicLaws.{part-stays, field-stays, byte-stays, number-back}
use Rattle.cm_frame.specs.Grammar.{data_limit, reply_bytes, IsSense, IsReply}
use Rattle.cm_frame.specs.Reading.{is_status, sense_in, is_sense, read_check, read_good, read_reply}
use Rattle.cm_frame.specs.Laws.{IsJudged, IsReadBack, NoneBegins, StaysJudged}
use Rattle.cm_frame.proofs.Stays.{guard-stays, test-stays}
use Rattle.cm_frame.proofs.ReadBack.{none-begins}

-- ---- what was judged stays so

good-stays : (a b : List ℕ) → 6 ≤ length a → IsJudged (read_good a) → read_good (a ++ b) ≡ read_good a
good-stays a b six judged =
    let count : field (a ++ b) 2 5 ≡ field a 2 5 = field-stays 2 4 a b six in
    guard-stays _ _ a b _ _ (ap (λ d. 6 + d) count) judged (λ all j.
    let given : part 6 (field a 2 5) (a ++ b) ≡ part 6 (field a 2 5) a = part-stays 6 (field a 2 5) a b all in
    rw (count, given) refl)

check-stays : (a b : List ℕ) → IsJudged (read_check a) → read_check (a ++ b) ≡ read_check a
check-stays a b judged = guard-stays 24 24 a b _ _ refl judged (λ all j.
    let sense : part 6 18 (a ++ b) ≡ part 6 18 a = part-stays 6 18 a b all in
    rw sense refl)

pub reply-stays : StaysJudged read_reply
reply-stays a b judged = guard-stays 6 6 a b _ _ refl judged (λ six j.
    let status : byte (a ++ b) 0 ≡ byte a 0 = byte-stays 0 a b (omega arith) in
    let count : field (a ++ b) 2 5 ≡ field a 2 5 = field-stays 2 4 a b six in
    let sense : byte (a ++ b) 1 ≡ byte a 1 = byte-stays 1 a b (omega arith) in
    let sense_test : not (byte (a ++ b) 1 == cond {A = ℕ} (byte (a ++ b) 0 == 0x02) 0x12 0) ≡ not (byte a 1 == cond {A = ℕ} (byte a 0 == 0x02) 0x12 0) =
    rw (status, sense) refl in
    let limit_test : nat_lt (cond {A = ℕ} (byte (a ++ b) 0 == 0x00) data_limit 0) (field (a ++ b) 2 5) ≡ nat_lt (cond {A = ℕ} (byte a 0 == 0x00) data_limit 0) (field a 2 5) =
    rw (status, count) refl in
    test-stays _ _ _ _ _ _ (ap (λ s. not (is_status s)) status) j (λ k. refl) (λ k.
    test-stays _ _ _ _ _ _ sense_test k (λ l. refl) (λ l.
    test-stays _ _ _ _ _ _ limit_test l (λ m. refl) (λ m.
    test-stays _ _ _ _ _ _ (ap (λ s. s == 0x00) status) m (λ n. good-stays a b six n) (λ n.
    test-stays _ _ _ _ _ _ (ap (λ s. s == 0x02) status) n (λ o. check-stays a b o) (λ o. rw status refl))))))

-- ---- what is spelled is read

bytes-same : (bs : List ℕ) → bytes_eq bs bs ≡ true
bytes-same [] = refl
bytes-same (b ∷ bs) = let e = eq-eqb b b refl in rw (e, bytes-same bs) refl

sense-back : (s : SenseCode) → IsSense s → (is_sense (sense_bytes s) ≡ true) × (sense_in (sense_bytes s) ≡ s)
sense-back s fits =
    let is : sense_in (sense_bytes s) ≡ s = refl in
    let low : nat_le s.key 15 ≡ true = le-leb s.key 15 fits.key in
    let same : bytes_eq (sense_bytes s) (sense_bytes (sense_in (sense_bytes s))) ≡ true =
    ap (λ t. bytes_eq (sense_bytes s) (sense_bytes t)) is ∙ bytes-same (sense_bytes s) in
    (ap (λ t. t && bytes_eq (sense_bytes s) (sense_bytes (sense_in (sense_bytes s)))) low ∙ same, is)

pub reply-back : IsReadBack IsReply reply_bytes read_reply
reply-back (Reply.Good bytes) rest fits =
    let d = length bytes in
    let all = reply_bytes (Reply.Good bytes) ++ rest in
    let count : big_from 0 4 (big_bytes 4 d) ≡ d = number-back 4 d (omega (arith, fits.0)) in
    let long : length all ≡ 6 + d + length rest = omega (arith, length-append bytes rest) in
    let used : length (reply_bytes (Reply.Good bytes)) ≡ 6 + d = omega arith in
    let six : nat_lt (length all) 6 ≡ false = le-ltb (length all) 6 (omega (arith, long)) in
    let limit : nat_lt data_limit d ≡ false = le-ltb data_limit d fits.0 in
    let whole : nat_lt (length all) (6 + d) ≡ false = le-ltb (length all) (6 + d) (omega (arith, long)) in
    let given : take d (bytes ++ rest) ≡ bytes = take_at bytes rest d refl in
    rw (six, count, limit, whole, given, used) refl
reply-back (Reply.Check sense) rest fits =
    let all = reply_bytes (Reply.Check sense) ++ rest in
    let six : nat_lt (length all) 6 ≡ false = le-ltb (length all) 6 (omega arith) in
    let whole : nat_lt (length all) 24 ≡ false = le-ltb (length all) 24 (omega arith) in
    let back = sense-back sense fits in
    let given : is_sense (part 6 18 all) ≡ true = back.0 in
    let value : sense_in (part 6 18 all) ≡ sense = back.1 in
    let test : read_reply all ≡ read_check all = rw six refl in
    let check : read_check all ≡ Whole (Reply.Check (sense_in (part 6 18 all))) 24 = rw (whole, given) refl in
    test ∙ check ∙ ap (λ s. Whole (Reply.Check s) 24) value
reply-back Reply.Busy rest fits =
    let six : nat_lt (length (reply_bytes Reply.Busy ++ rest)) 6 ≡ false = le-ltb _ 6 (omega arith) in
    rw six refl
reply-back Reply.Conflict rest fits =
    let six : nat_lt (length (reply_bytes Reply.Conflict ++ rest)) 6 ≡ false = le-ltb _ 6 (omega arith) in
    rw six refl
reply-back Reply.Full rest fits =
    let six : nat_lt (length (reply_bytes Reply.Full ++ rest)) 6 ≡ false = le-ltb _ 6 (omega arith) in
    rw six refl

pub replies-apart : NoneBegins IsReply reply_bytes
replies-apart = none-begins IsReply reply_bytes read_reply reply-back
