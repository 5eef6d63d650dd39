-- What is spelled is read, whatever follows it
use Rattle.std.proofs.Common.{◌≡◌, ℕ, ◌+◌, ◌^◌, ◌<◌, List, ◌++◌, length, take, drop, refl, ap, sym, ◌∙◌, arith, false, append_assoc, take_at, drop_at}
use Rattle.std.specs.Prelude.{nat_lt}
use Rattle.std.proofs.lemmas.Bool.{le-ltb}
use Rattle.std.proofs.lemmas.List.{length-append, append_cancel_left}
use Rattle.cm_frame.specs.declared.item.TraceItem.{TraceItem}
use Rattle.cm_base.specs.declared.parsed.Parsed.{Parsed}
use Rattle.cm_base.specs.declared.parsed.Parsed.TheVariants.{Whole, Short, Bad}
use Rattle.byteorder.specs.Endian.{big_from, big_bytes}
use Rattle.cm_base.proofs.PublicLaws.{number-back}
use Rattle.cm_frame.specs.Grammar.{data_limit, request_bytes, IsRequest, item_bytes, IsItem}
use Rattle.cm_frame.specs.Reading.{read_request, begin_in, read_item}
use Rattle.cm_frame.specs.Laws.{IsReadBack, NoneBegins}

-- ---- requests

pub request-back : IsReadBack IsRequest request_bytes read_request
request-back r rest fits =
    let d = length r.out in
    let behind = (r.cdb ++ r.out) ++ rest in
    let split : behind ≡ r.cdb ++ (r.out ++ rest) = append_assoc r.cdb r.out rest in
    let small : d < 256 ^ 4 = omega (arith, fits.out.0) in
    let length_is : big_from 0 4 (big_bytes 4 d) ≡ d = number-back 4 d small in
    let unit_is : big_from 0 2 (big_bytes 2 r.unit) ≡ r.unit = number-back 2 r.unit (omega (arith, fits.unit)) in
    let cdb_is : take 16 behind ≡ r.cdb = ap (take 16) split ∙ take_at r.cdb (r.out ++ rest) 16 fits.cdb.0 in
    let out_is : take d (drop 16 behind) ≡ r.out =
    ap (λ l. take d (drop 16 l)) split ∙ ap (take d) (drop_at r.cdb (r.out ++ rest) 16 fits.cdb.0) ∙ take_at r.out rest d refl in
    let long : length behind ≡ 16 + d + length rest = omega (arith, length-append (r.cdb ++ r.out) rest, length-append r.cdb r.out, fits.cdb.0) in
    let all : length (request_bytes r ++ rest) ≡ 22 + d + length rest = omega (arith, long) in
    let used : length (request_bytes r) ≡ 22 + d = omega (arith, length-append r.cdb r.out, fits.cdb.0) in
    let four : nat_lt (length (request_bytes r ++ rest)) 4 ≡ false = le-ltb _ 4 (omega (arith, all)) in
    let limit : nat_lt data_limit d ≡ false = le-ltb data_limit d fits.out.0 in
    let whole : nat_lt (length (request_bytes r ++ rest)) (22 + d) ≡ false = le-ltb _ (22 + d) (omega (arith, all)) in
    rw (four, length_is, limit, whole, used, unit_is, cdb_is, out_is) refl

-- ---- items

pub item-back : IsReadBack IsItem item_bytes read_item
item-back (TraceItem.Begin i m r) rest fits =
    let bytes = item_bytes (TraceItem.Begin i m r) ++ rest in
    let i_is : big_from 0 4 (big_bytes 4 i) ≡ i = number-back 4 i (omega (arith, fits.0)) in
    let m_is : big_from 0 8 (big_bytes 8 m) ≡ m = number-back 8 m (omega (arith, fits.1)) in
    let one : nat_lt (length bytes) 1 ≡ false = le-ltb (length bytes) 1 (omega arith) in
    let used : length (item_bytes (TraceItem.Begin i m r)) ≡ 13 + length (request_bytes r) = omega arith in
    let request : begin_in bytes (read_request (request_bytes r ++ rest)) ≡ begin_in bytes (Whole r (length (request_bytes r))) =
    ap (begin_in bytes) (request-back r rest fits.2) in
    let test : read_item bytes ≡ begin_in bytes (read_request (request_bytes r ++ rest)) = rw one refl in
    test ∙ request ∙ rw (i_is, m_is, used) refl
item-back (TraceItem.Run i m) rest fits =
    let bytes = item_bytes (TraceItem.Run i m) ++ rest in
    let i_is : big_from 0 4 (big_bytes 4 i) ≡ i = number-back 4 i (omega (arith, fits.0)) in
    let m_is : big_from 0 8 (big_bytes 8 m) ≡ m = number-back 8 m (omega (arith, fits.1)) in
    let one : nat_lt (length bytes) 1 ≡ false = le-ltb (length bytes) 1 (omega arith) in
    let all : nat_lt (length bytes) 13 ≡ false = le-ltb (length bytes) 13 (omega arith) in
    rw (one, all, i_is, m_is) refl
item-back (TraceItem.Pump u m) rest fits =
    let bytes = item_bytes (TraceItem.Pump u m) ++ rest in
    let u_is : big_from 0 2 (big_bytes 2 u) ≡ u = number-back 2 u (omega (arith, fits.0)) in
    let m_is : big_from 0 8 (big_bytes 8 m) ≡ m = number-back 8 m (omega (arith, fits.1)) in
    let one : nat_lt (length bytes) 1 ≡ false = le-ltb (length bytes) 1 (omega arith) in
    let all : nat_lt (length bytes) 11 ≡ false = le-ltb (length bytes) 11 (omega arith) in
    rw (one, all, u_is, m_is) refl

-- ---- no spelling begins another

abbrev value_in : {A : Type 0} → A → Parsed A → A
value_in {A} x (Whole y used) = y
value_in {A} x Short = x
value_in {A} x (Bad place) = x

pub none-begins : {A : Type 0} (Fits : A → Type 0) (spelling : A → List ℕ) (read : List ℕ → Parsed A)
    → IsReadBack Fits spelling read → NoneBegins Fits spelling
none-begins {A} Fits spelling read back x y rest more fx fy e =
    let whole : Whole x (length (spelling x)) ≡ Whole y (length (spelling y)) = sym (back x rest fx) ∙ ap read e ∙ back y more fy in
    let same : x ≡ y = ap (value_in x) whole in
    (same, append_cancel_left (spelling x) rest more (e ∙ ap (λ z. spelling z ++ more) (sym same)))

pub requests-apart : NoneBegins IsRequest request_bytes
requests-apart = none-begins IsRequest request_bytes read_request request-back

pub items-apart : NoneBegins IsItem item_bytes
items-apart = none-begins IsItem item_bytes read_item item-back
