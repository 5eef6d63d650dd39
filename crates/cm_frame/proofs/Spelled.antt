-- What is read was spelled so
use Rattle.std.proofs.Common.{◌≡◌, ℕ, ◌+◌, ◌^◌, ◌<◌, ◌≤◌, List, ◌++◌, length, take, drop, refl, ap, sym, ◌∙◌, subst, arith, true, false, Bool}
use Rattle.std.specs.Prelude.{nat_lt, cond, ◌==◌}
use Rattle.std.proofs.lemmas.Bool.{ltb-false, eqb-true}
use Rattle.std.proofs.lemmas.List.{length-drop}
use Rattle.std.proofs.lemmas.List.Elements.{All-drop}
use Rattle.byteorder.specs.Endian.{big_from, big_bytes}
use Rattle.cm_base.specs.declared.parsed.Parsed.{Parsed}
use Rattle.cm_base.specs.declared.parsed.Parsed.TheVariants.{Whole, Short, Bad}
use Rattle.cm_base.specs.Fields.{byte, field, part, AreBytes}
use Rattle.cm_base.proofs.PublicLaws.{bytes-part, field-fits, field-spelled, length-part, parts-join}
use Rattle.cm_frame.specs.declared.frame.Request.{Request}
use Rattle.cm_frame.specs.declared.item.TraceItem.{TraceItem}
use Rattle.cm_frame.specs.Grammar.{data_limit, request_bytes, IsRequest, item_bytes, IsItem}
use Rattle.cm_frame.specs.Reading.{request_in, read_request, begin_in, read_run, read_pump, read_item}
use Rattle.cm_frame.specs.Laws.{IsSpelledSo}

-- ---- a chain that ends whole

pub guard-whole : {A : Type 0} (n : ℕ) (a : List ℕ) (y : Parsed A) (x : A) (used : ℕ) → cond (nat_lt (length a) n) Short y ≡ Whole x used → (n ≤ length a) × (y ≡ Whole x used)
guard-whole {A} n a y x used e = go (nat_lt (length a) n) refl e
  where
    go : (t : Bool) → nat_lt (length a) n ≡ t → cond t Short y ≡ Whole x used → (n ≤ length a) × (y ≡ Whole x used)
    go true s k = cc
    go false s k = (ltb-false (length a) n s, k)

pub bad-whole : {A : Type 0} (t : Bool) (place : ℕ) (y : Parsed A) (x : A) (used : ℕ) → cond t (Bad place) y ≡ Whole x used → (t ≡ false) × (y ≡ Whole x used)
bad-whole {A} true place y x used e = cc
bad-whole {A} false place y x used e = (refl, e)

abbrev value_of : {A : Type 0} → A → Parsed A → A
value_of {A} x (Whole y used) = y
value_of {A} x Short = x
value_of {A} x (Bad place) = x

abbrev used_of : {A : Type 0} → Parsed A → ℕ
used_of {A} (Whole y used) = used
used_of {A} Short = 0
used_of {A} (Bad place) = 0

-- what a reader owes at Whole
pub record Takes {A : Type 0} (Fits : A → Type 0) (spelling : A → List ℕ) (bytes : List ℕ) (x : A) (used : ℕ) : Type 0 where
  pub fits : Fits x
  pub within : used ≤ length bytes
  pub is : take used bytes ≡ spelling x

pub moved : {A : Type 0} (Fits : A → Type 0) (spelling : A → List ℕ) (bytes : List ℕ) (x y : A) (m n : ℕ)
    → Takes Fits spelling bytes x m → Whole x m ≡ Whole y n → Takes Fits spelling bytes y n
moved {A} Fits spelling bytes x y m n t e =
    subst (λ k. Takes Fits spelling bytes y k) (ap used_of e) (subst (λ z. Takes Fits spelling bytes z m) (ap (value_of x) e) t)

-- ---- bytes

-- a byte is spelled by itself
pub byte-spelled : (place : ℕ) (bytes : List ℕ) (value : ℕ) → AreBytes bytes → place + 1 ≤ length bytes → byte bytes place ≡ value
    → big_bytes 1 value ≡ part place 1 bytes
byte-spelled place bytes value all there e =
    let first : big_from place 1 bytes ≡ value = omega (arith, e) in
    ap (big_bytes 1) (sym first) ∙ field-spelled place 1 bytes all there

-- ---- requests

request-takes : (bytes : List ℕ) (r : Request) (used : ℕ) → AreBytes bytes → read_request bytes ≡ Whole r used
    → Takes IsRequest request_bytes bytes r used
request-takes bytes r used all e =
    let d = field bytes 0 3 in
    let four = guard-whole 4 bytes _ r used e in
    let limit = bad-whole (nat_lt data_limit d) 0 _ r used four.1 in
    let whole = guard-whole (22 + d) bytes (Whole (request_in bytes) (22 + d)) r used limit.1 in
    let out_len : length (part 22 d bytes) ≡ d = length-part 22 d bytes whole.0 in
    let first : big_bytes 4 (length (part 22 d bytes)) ≡ part 0 4 bytes = ap (big_bytes 4) out_len ∙ field-spelled 0 4 bytes all (omega (arith, four.0)) in
    let second : big_bytes 2 (field bytes 4 5) ≡ part 4 2 bytes = field-spelled 4 2 bytes all (omega (arith, whole.0)) in
    let j6 : part 6 16 bytes ++ part 22 d bytes ≡ part 6 (16 + d) bytes = parts-join 6 16 d bytes in
    let j4 : part 4 2 bytes ++ part 6 (16 + d) bytes ≡ part 4 (2 + (16 + d)) bytes = parts-join 4 2 (16 + d) bytes in
    let j0 : part 0 4 bytes ++ part 4 (2 + (16 + d)) bytes ≡ part 0 (4 + (2 + (16 + d))) bytes = parts-join 0 4 (2 + (16 + d)) bytes in
    let count : 4 + (2 + (16 + d)) ≡ 22 + d = omega arith in
    let whole_is : part 0 (4 + (2 + (16 + d))) bytes ≡ take (22 + d) bytes = ap (λ k. take k bytes) count in
    let joined : part 0 4 bytes ++ (part 4 2 bytes ++ (part 6 16 bytes ++ part 22 d bytes)) ≡ take (22 + d) bytes =
    ap (λ l. part 0 4 bytes ++ (part 4 2 bytes ++ l)) j6 ∙ ap (λ l. part 0 4 bytes ++ l) j4 ∙ j0 ∙ whole_is in
    let spelled : request_bytes (request_in bytes) ≡ take (22 + d) bytes =
    ap (λ l. l ++ (big_bytes 2 (field bytes 4 5) ++ (part 6 16 bytes ++ part 22 d bytes))) first
    ∙ ap (λ l. part 0 4 bytes ++ (l ++ (part 6 16 bytes ++ part 22 d bytes))) second
    ∙ joined in
    let unit_fits : field bytes 4 5 < 2 ^ 16 = omega (arith, field-fits 4 2 bytes all) in
    let out_fits : length (part 22 d bytes) ≤ data_limit = omega (arith, out_len, ltb-false data_limit d limit.0) in
    let request : IsRequest (request_in bytes) = record {
      unit = unit_fits;
      cdb = (length-part 6 16 bytes (omega (arith, whole.0)), bytes-part 6 16 bytes all);
      out = (out_fits, bytes-part 22 d bytes all);
    } in
    let takes : Takes IsRequest request_bytes bytes (request_in bytes) (22 + d) = record { fits = request; within = whole.0; is = sym spelled } in
    moved IsRequest request_bytes bytes (request_in bytes) r (22 + d) used takes whole.1

pub request-spelled : IsSpelledSo IsRequest request_bytes read_request
request-spelled bytes r used small e =
    let t = request-takes bytes r used small e in
    (t.fits, t.within, t.is)

-- ---- items

begin-takes : (bytes : List ℕ) (p : Parsed Request) (x : TraceItem) (used : ℕ) → AreBytes bytes → 1 ≤ length bytes → byte bytes 0 ≡ 1
    → ((r : Request) (u : ℕ) → p ≡ Whole r u → Takes IsRequest request_bytes (drop 13 bytes) r u × (13 ≤ length bytes))
    → begin_in bytes p ≡ Whole x used → Takes IsItem item_bytes bytes x used
begin-takes bytes Short x used all one kind takes e = cc
begin-takes bytes (Bad place) x used all one kind takes e = cc
begin-takes bytes (Whole r u) x used all one kind takes e =
    let t = (takes r u refl).0 in
    let long : 13 ≤ length bytes = (takes r u refl).1 in
    let j5 : part 5 8 bytes ++ part 13 u bytes ≡ part 5 (8 + u) bytes = parts-join 5 8 u bytes in
    let j1 : part 1 4 bytes ++ part 5 (8 + u) bytes ≡ part 1 (4 + (8 + u)) bytes = parts-join 1 4 (8 + u) bytes in
    let j0 : part 0 1 bytes ++ part 1 (4 + (8 + u)) bytes ≡ part 0 (1 + (4 + (8 + u))) bytes = parts-join 0 1 (4 + (8 + u)) bytes in
    let count : 1 + (4 + (8 + u)) ≡ 13 + u = omega arith in
    let spelled : big_bytes 1 1 ++ (big_bytes 4 (field bytes 1 4) ++ (big_bytes 8 (field bytes 5 12) ++ request_bytes r)) ≡ take (13 + u) bytes =
    ap (λ l. l ++ (big_bytes 4 (field bytes 1 4) ++ (big_bytes 8 (field bytes 5 12) ++ request_bytes r))) (byte-spelled 0 bytes 1 all one kind)
    ∙ ap (λ l. part 0 1 bytes ++ (l ++ (big_bytes 8 (field bytes 5 12) ++ request_bytes r))) (field-spelled 1 4 bytes all (omega (arith, long)))
    ∙ ap (λ l. part 0 1 bytes ++ (part 1 4 bytes ++ (l ++ request_bytes r))) (field-spelled 5 8 bytes all (omega (arith, long)))
    ∙ ap (λ l. part 0 1 bytes ++ (part 1 4 bytes ++ (part 5 8 bytes ++ l))) (sym t.is)
    ∙ ap (λ l. part 0 1 bytes ++ (part 1 4 bytes ++ l)) j5 ∙ ap (λ l. part 0 1 bytes ++ l) j1 ∙ j0 ∙ ap (λ k. take k bytes) count in
    let i_fits : field bytes 1 4 < 2 ^ 32 = omega (arith, field-fits 1 4 bytes all) in
    let m_fits : field bytes 5 12 < 2 ^ 64 = omega (arith, field-fits 5 8 bytes all) in
    let within : 13 + u ≤ length bytes = omega (arith, t.within, length-drop 13 bytes, long) in
    let mine : Takes IsItem item_bytes bytes (TraceItem.Begin (field bytes 1 4) (field bytes 5 12) r) (13 + u) =
    record { fits = (i_fits, m_fits, t.fits); within = within; is = sym spelled } in
    moved IsItem item_bytes bytes (TraceItem.Begin (field bytes 1 4) (field bytes 5 12) r) x (13 + u) used mine e

run-takes : (bytes : List ℕ) (x : TraceItem) (used : ℕ) → AreBytes bytes → 1 ≤ length bytes → byte bytes 0 ≡ 2
    → read_run bytes ≡ Whole x used → Takes IsItem item_bytes bytes x used
run-takes bytes x used all one kind e =
    let whole = guard-whole 13 bytes (Whole (TraceItem.Run (field bytes 1 4) (field bytes 5 12)) 13) x used e in
    let j1 : part 1 4 bytes ++ part 5 8 bytes ≡ part 1 12 bytes = parts-join 1 4 8 bytes in
    let j0 : part 0 1 bytes ++ part 1 12 bytes ≡ part 0 13 bytes = parts-join 0 1 12 bytes in
    let spelled : big_bytes 1 2 ++ (big_bytes 4 (field bytes 1 4) ++ big_bytes 8 (field bytes 5 12)) ≡ take 13 bytes =
    ap (λ l. l ++ (big_bytes 4 (field bytes 1 4) ++ big_bytes 8 (field bytes 5 12))) (byte-spelled 0 bytes 2 all one kind)
    ∙ ap (λ l. part 0 1 bytes ++ (l ++ big_bytes 8 (field bytes 5 12))) (field-spelled 1 4 bytes all (omega (arith, whole.0)))
    ∙ ap (λ l. part 0 1 bytes ++ (part 1 4 bytes ++ l)) (field-spelled 5 8 bytes all (omega (arith, whole.0)))
    ∙ ap (λ l. part 0 1 bytes ++ l) j1 ∙ j0 in
    let i_fits : field bytes 1 4 < 2 ^ 32 = omega (arith, field-fits 1 4 bytes all) in
    let m_fits : field bytes 5 12 < 2 ^ 64 = omega (arith, field-fits 5 8 bytes all) in
    let mine : Takes IsItem item_bytes bytes (TraceItem.Run (field bytes 1 4) (field bytes 5 12)) 13 =
    record { fits = (i_fits, m_fits); within = whole.0; is = sym spelled } in
    moved IsItem item_bytes bytes (TraceItem.Run (field bytes 1 4) (field bytes 5 12)) x 13 used mine whole.1

pump-takes : (bytes : List ℕ) (x : TraceItem) (used : ℕ) → AreBytes bytes → 1 ≤ length bytes → byte bytes 0 ≡ 3
    → read_pump bytes ≡ Whole x used → Takes IsItem item_bytes bytes x used
pump-takes bytes x used all one kind e =
    let whole = guard-whole 11 bytes (Whole (TraceItem.Pump (field bytes 1 2) (field bytes 3 10)) 11) x used e in
    let j1 : part 1 2 bytes ++ part 3 8 bytes ≡ part 1 10 bytes = parts-join 1 2 8 bytes in
    let j0 : part 0 1 bytes ++ part 1 10 bytes ≡ part 0 11 bytes = parts-join 0 1 10 bytes in
    let spelled : big_bytes 1 3 ++ (big_bytes 2 (field bytes 1 2) ++ big_bytes 8 (field bytes 3 10)) ≡ take 11 bytes =
    ap (λ l. l ++ (big_bytes 2 (field bytes 1 2) ++ big_bytes 8 (field bytes 3 10))) (byte-spelled 0 bytes 3 all one kind)
    ∙ ap (λ l. part 0 1 bytes ++ (l ++ big_bytes 8 (field bytes 3 10))) (field-spelled 1 2 bytes all (omega (arith, whole.0)))
    ∙ ap (λ l. part 0 1 bytes ++ (part 1 2 bytes ++ l)) (field-spelled 3 8 bytes all (omega (arith, whole.0)))
    ∙ ap (λ l. part 0 1 bytes ++ l) j1 ∙ j0 in
    let u_fits : field bytes 1 2 < 2 ^ 16 = omega (arith, field-fits 1 2 bytes all) in
    let m_fits : field bytes 3 10 < 2 ^ 64 = omega (arith, field-fits 3 8 bytes all) in
    let mine : Takes IsItem item_bytes bytes (TraceItem.Pump (field bytes 1 2) (field bytes 3 10)) 11 =
    record { fits = (u_fits, m_fits); within = whole.0; is = sym spelled } in
    moved IsItem item_bytes bytes (TraceItem.Pump (field bytes 1 2) (field bytes 3 10)) x 11 used mine whole.1

-- a request behind 13 bytes
request-behind : (bytes : List ℕ) (r : Request) (u : ℕ) → AreBytes bytes → read_request (drop 13 bytes) ≡ Whole r u
    → Takes IsRequest request_bytes (drop 13 bytes) r u × (13 ≤ length bytes)
request-behind bytes r u all e =
    let four = guard-whole 4 (drop 13 bytes) _ r u e in
    (request-takes (drop 13 bytes) r u (All-drop (λ b. b < 256) 13 bytes all) e, omega (arith, four.0, length-drop 13 bytes))

item-takes : (bytes : List ℕ) (x : TraceItem) (used : ℕ) → AreBytes bytes → read_item bytes ≡ Whole x used
    → Takes IsItem item_bytes bytes x used
item-takes bytes x used all e =
    let one = guard-whole 1 bytes _ x used e in
    first (byte bytes 0 == 1) refl (byte bytes 0 == 2) refl (byte bytes 0 == 3) refl one.0 one.1
  where
    first : (a : Bool) → (byte bytes 0 == 1) ≡ a → (b : Bool) → (byte bytes 0 == 2) ≡ b → (c : Bool) → (byte bytes 0 == 3) ≡ c → 1 ≤ length bytes
        → cond a (begin_in bytes (read_request (drop 13 bytes))) (cond b (read_run bytes) (cond c (read_pump bytes) (Bad 0))) ≡ Whole x used
        → Takes IsItem item_bytes bytes x used
    first true k b l c m one w =
        begin-takes bytes (read_request (drop 13 bytes)) x used all one (eqb-true (byte bytes 0) 1 k) (λ r u e. request-behind bytes r u all e) w
    first false k true l c m one w = run-takes bytes x used all one (eqb-true (byte bytes 0) 2 l) w
    first false k false l true m one w = pump-takes bytes x used all one (eqb-true (byte bytes 0) 3 m) w
    first false k false l false m one w = cc

pub item-spelled : IsSpelledSo IsItem item_bytes read_item
item-spelled bytes x used small e =
    let t = item-takes bytes x used small e in
    (t.fits, t.within, t.is)
