-- A reply that is read was spelled so
use Rattle.std.proofs.Common.{◌≡◌, ℕ, ◌+◌, ◌≤◌, List, ◌++◌, length, take, refl, ap, sym, ◌∙◌, arith, true, false, Bool}
use Rattle.std.specs.Prelude.{nat_le, cond, not, ◌==◌, bytes_eq}
use Rattle.std.proofs.lemmas.Bool.{ltb-false, eqb-true, not-false, leb-true, and_parts}
use Rattle.std.proofs.lemmas.Slice.Eq.{bytes_eq-Decides}
use Rattle.byteorder.specs.Endian.{big_bytes}
use Rattle.scsi_sense.specs.SenseBytes.{sense_bytes}
use Rattle.cm_base.specs.declared.parsed.Parsed.TheVariants.{Whole}
use Rattle.cm_base.specs.Fields.{byte, field, part, AreBytes}
use Rattle.cm_base.proofs.PublicLaws.{below-bytes, bytes-part, field-spelled, length-part, parts-join}
use Rattle.cm_frame.specs.declared.frame.Reply.{Reply}
use Rattle.cm_frame.specs.Grammar.{data_limit, reply_bytes, IsReply}
use Rattle.cm_frame.specs.Reading.{is_status, bare_reply, sense_in, is_sense, read_check, read_good, read_reply}
use Rattle.cm_frame.specs.Laws.{IsSpelledSo}
use Rattle.cm_frame.proofs.Spelled.{guard-whole, bad-whole, Takes, moved, byte-spelled}

-- the status and the lengths are the first six bytes
front-spelled : (bytes : List ℕ) (status sense count : ℕ) → AreBytes bytes → 6 ≤ length bytes → byte bytes 0 ≡ status → byte bytes 1 ≡ sense → field bytes 2 5 ≡ count
    → big_bytes 1 status ++ (big_bytes 1 sense ++ big_bytes 4 count) ≡ part 0 6 bytes
front-spelled bytes status sense count all six a b c =
    let first = byte-spelled 0 bytes status all (omega arith) a in
    let second = byte-spelled 1 bytes sense all (omega arith) b in
    let third : big_bytes 4 count ≡ part 2 4 bytes = ap (big_bytes 4) (sym c) ∙ field-spelled 2 4 bytes all (omega arith) in
    ap (λ l. l ++ (big_bytes 1 sense ++ big_bytes 4 count)) first
    ∙ ap (λ l. part 0 1 bytes ++ (l ++ big_bytes 4 count)) second
    ∙ ap (λ l. part 0 1 bytes ++ (part 1 1 bytes ++ l)) third
    ∙ ap (λ l. part 0 1 bytes ++ l) (parts-join 1 1 4 bytes) ∙ parts-join 0 1 5 bytes

good-takes : (bytes : List ℕ) (x : Reply) (used : ℕ) → AreBytes bytes → 6 ≤ length bytes → byte bytes 0 ≡ 0 → byte bytes 1 ≡ 0 → field bytes 2 5 ≤ data_limit
    → read_good bytes ≡ Whole x used → Takes IsReply reply_bytes bytes x used
good-takes bytes x used all six status none limit e =
    let d = field bytes 2 5 in
    let given = part 6 d bytes in
    let whole = guard-whole (6 + d) bytes (Whole (Reply.Good given) (6 + d)) x used e in
    let len : length given ≡ d = length-part 6 d bytes whole.0 in
    let front = front-spelled bytes 0 0 (length given) all six status none (sym len) in
    let spelled : reply_bytes (Reply.Good given) ≡ take (6 + d) bytes = ap (λ l. l ++ given) front ∙ parts-join 0 6 d bytes in
    let mine : Takes IsReply reply_bytes bytes (Reply.Good given) (6 + d) =
    record { fits = (omega (arith, len, limit), bytes-part 6 d bytes all); within = whole.0; is = sym spelled } in
    moved IsReply reply_bytes bytes (Reply.Good given) x (6 + d) used mine whole.1

-- what passes the test is the bytes of its sense
pub is_sense-parts : (bytes : List ℕ) → is_sense bytes ≡ true → (bytes ≡ sense_bytes (sense_in bytes)) × (byte bytes 2 ≤ 15)
is_sense-parts bytes e =
    let both = and_parts (nat_le (byte bytes 2) 15) (bytes_eq bytes (sense_bytes (sense_in bytes))) e in
    ((bytes_eq-Decides bytes (sense_bytes (sense_in bytes))).0 both.1, leb-true (byte bytes 2) 15 both.0)

check-takes : (bytes : List ℕ) (x : Reply) (used : ℕ) → AreBytes bytes → 6 ≤ length bytes → byte bytes 0 ≡ 2 → byte bytes 1 ≡ 0x12 → field bytes 2 5 ≡ 0
    → read_check bytes ≡ Whole x used → Takes IsReply reply_bytes bytes x used
check-takes bytes x used all six status length_is none e =
    let text = part 6 18 bytes in
    let sense = sense_in text in
    let whole = guard-whole 24 bytes _ x used e in
    let test = bad-whole (not (is_sense text)) 6 (Whole (Reply.Check sense) 24) x used whole.1 in
    let is = is_sense-parts text (not-false (is_sense text) test.0) in
    let front = front-spelled bytes 2 0x12 0 all six status length_is none in
    let spelled : reply_bytes (Reply.Check sense) ≡ take 24 bytes =
    ap (λ l. l ++ sense_bytes sense) front ∙ ap (λ l. part 0 6 bytes ++ l) (sym is.0) ∙ parts-join 0 6 18 bytes in
    let small = below-bytes text (bytes-part 6 18 bytes all) in
    let mine : Takes IsReply reply_bytes bytes (Reply.Check sense) 24 =
    record { fits = record { key = is.1; codes = (small 12, small 13) }; within = whole.0; is = sym spelled } in
    moved IsReply reply_bytes bytes (Reply.Check sense) x 24 used mine test.1

bare-takes : (bytes : List ℕ) (reply x : Reply) (status used : ℕ) → AreBytes bytes → 6 ≤ length bytes → byte bytes 0 ≡ status → byte bytes 1 ≡ 0 → field bytes 2 5 ≡ 0
    → reply_bytes reply ≡ big_bytes 1 status ++ (big_bytes 1 0 ++ big_bytes 4 0) → IsReply reply
    → Whole reply 6 ≡ Whole x used → Takes IsReply reply_bytes bytes x used
bare-takes bytes reply x status used all six first none empty spelled fits e =
    let mine : Takes IsReply reply_bytes bytes reply 6 =
    record { fits = fits; within = six; is = sym (spelled ∙ front-spelled bytes status 0 0 all six first none empty) } in
    moved IsReply reply_bytes bytes reply x 6 used mine e

last-takes : (bytes : List ℕ) (x : Reply) (used : ℕ) → AreBytes bytes → 6 ≤ length bytes → is_status (byte bytes 0) ≡ true → (byte bytes 0 == 0) ≡ false → (byte bytes 0 == 2) ≡ false
    → byte bytes 1 ≡ 0 → field bytes 2 5 ≡ 0 → Whole (bare_reply (byte bytes 0)) 6 ≡ Whole x used → Takes IsReply reply_bytes bytes x used
last-takes bytes x used all six status not_good not_check none empty e = go (byte bytes 0 == 0x08) refl e
  where
    other : (byte bytes 0 == 0x08) ≡ false → (t : Bool) → (byte bytes 0 == 0x18) ≡ t → Whole (cond t Reply.Conflict Reply.Full) 6 ≡ Whole x used → Takes IsReply reply_bytes bytes x used
    other not_busy true k w = bare-takes bytes Reply.Conflict x 0x18 used all six (eqb-true (byte bytes 0) 0x18 k) none empty refl tt w
    other not_busy false k w =
        let full : (byte bytes 0 == 0x28) ≡ true = rw (not_good, not_check, not_busy, k) at status in
        bare-takes bytes Reply.Full x 0x28 used all six (eqb-true (byte bytes 0) 0x28 full) none empty refl tt w

    go : (t : Bool) → (byte bytes 0 == 0x08) ≡ t → Whole (cond t Reply.Busy (cond (byte bytes 0 == 0x18) Reply.Conflict Reply.Full)) 6 ≡ Whole x used
        → Takes IsReply reply_bytes bytes x used
    go true k w = bare-takes bytes Reply.Busy x 0x08 used all six (eqb-true (byte bytes 0) 0x08 k) none empty refl tt w
    go false k w = other k (byte bytes 0 == 0x18) refl w

reply-takes : (bytes : List ℕ) (x : Reply) (used : ℕ) → AreBytes bytes → read_reply bytes ≡ Whole x used → Takes IsReply reply_bytes bytes x used
reply-takes bytes x used all e =
    let six = guard-whole 6 bytes _ x used e in
    let status = bad-whole (not (is_status (byte bytes 0))) 0 _ x used six.1 in
    let sense = bad-whole _ 1 _ x used status.1 in
    let limit = bad-whole _ 2 _ x used sense.1 in
    let known = not-false (is_status (byte bytes 0)) status.0 in
    let second = eqb-true (byte bytes 1) _ (not-false _ sense.0) in
    let third = ltb-false _ (field bytes 2 5) limit.0 in
    go (byte bytes 0 == 0) refl (byte bytes 0 == 2) refl known six.0 second third limit.1
  where
    go : (a : Bool) → (byte bytes 0 == 0) ≡ a → (b : Bool) → (byte bytes 0 == 2) ≡ b → is_status (byte bytes 0) ≡ true → 6 ≤ length bytes
        → byte bytes 1 ≡ cond {A = ℕ} b 0x12 0 → field bytes 2 5 ≤ cond {A = ℕ} a data_limit 0
        → cond a (read_good bytes) (cond b (read_check bytes) (Whole (bare_reply (byte bytes 0)) 6)) ≡ Whole x used
        → Takes IsReply reply_bytes bytes x used
    go true k true l known six second third w = absurd (omega (arith, eqb-true (byte bytes 0) 0 k, eqb-true (byte bytes 0) 2 l))
    go true k false l known six second third w = good-takes bytes x used all six (eqb-true (byte bytes 0) 0 k) second third w
    go false k true l known six second third w = check-takes bytes x used all six (eqb-true (byte bytes 0) 2 l) second (omega (arith, third)) w
    go false k false l known six second third w = last-takes bytes x used all six known k l second (omega (arith, third)) w

pub reply-spelled : IsSpelledSo IsReply reply_bytes read_reply
reply-spelled bytes x used small e =
    let t = reply-takes bytes x used small e in
    (t.fits, t.within, t.is)
