-- What is whole is whole by the bytes that it used alone
use Rattle.std.proofs.Common.{◌≡◌, ℕ, ◌+◌, ◌*◌, ◌<◌, ◌≤◌, List, ◌++◌, length, take, drop, refl, ap, sym, ◌∙◌, subst, arith, true, false, Bool, take-append-drop}
use Rattle.std.specs.Prelude.{nat_lt, cond, ◌==◌, Option, Some, None}
use Rattle.std.proofs.lemmas.Bool.{le-ltb}
use Rattle.std.proofs.Math.Seq.{drop-append_seam}
use Rattle.std.proofs.lemmas.List.{drop-append-le, length-drop, length-take-le}
use Rattle.cm_base.specs.Configuration.{Configuration}
use Rattle.cm_base.specs.declared.parsed.Parsed.{Parsed}
use Rattle.cm_base.specs.declared.parsed.Parsed.TheVariants.{Whole, Short, Bad}
use Rattle.cm_base.specs.Fields.{byte, field}
use Rattle.cm_base.proofs.PublicLaws.{field-stays, byte-stays}
use Rattle.cm_frame.specs.declared.frame.Request.{Request}
use Rattle.cm_frame.specs.declared.item.TraceItem.{TraceItem}
use Rattle.cm_frame.specs.Reading.{units_told, units_fault, judged_units, read_header, request_in, read_request, begin_in, read_run, read_pump, read_item}
use Rattle.cm_frame.specs.Laws.{IsJudged}
use Rattle.cm_frame.proofs.PublicLaws.{item-stays, header-stays, UsesWithin, item-within, header-within}

-- ---- what a test leaves of a whole value

guard-whole : {A : Type 0} (t : Bool) (x : Parsed A) (v : A) (used : ℕ) → cond t Short x ≡ Whole v used → x ≡ Whole v used
guard-whole {A} true x v used e = cc
guard-whole {A} false x v used e = e

test-whole : {A : Type 0} (t : Bool) (place : ℕ) (x : Parsed A) (v : A) (used : ℕ) → cond t (Bad place) x ≡ Whole v used → x ≡ Whole v used
test-whole {A} true place x v used e = cc
test-whole {A} false place x v used e = e

same-used : {A : Type 0} (v w : A) (m n : ℕ) → Whole v m ≡ Whole w n → m ≡ n
same-used {A} v w m n e = cc

-- ---- what a test leaves judged

record Judged {A : Type 0} (p : Parsed A) : Type 0 where
  pub is : IsJudged p

bad-judged : {A : Type 0} (place : ℕ) → Judged {A = A} (Bad place)
bad-judged {A} place = record { is = tt }

whole-judged : {A : Type 0} (x : A) (used : ℕ) → Judged (Whole x used)
whole-judged {A} x used = record { is = tt }

guard-judged : {A : Type 0} (n : ℕ) (a : List ℕ) (x : Parsed A) → n ≤ length a → Judged x → Judged (cond (nat_lt (length a) n) Short x)
guard-judged {A} n a x there judged =
    let test : nat_lt (length a) n ≡ false = le-ltb (length a) n there in rw test judged

test-judged : {A : Type 0} (t : Bool) (x y : Parsed A) → Judged x → Judged y → Judged (cond t x y)
test-judged {A} true x y one other = one
test-judged {A} false x y one other = other

-- by a test that comes out as that of more bytes
kind-judged : {A : Type 0} (s t : Bool) (x' y' x y w : Parsed A) → s ≡ t → cond t x y ≡ w → (x ≡ w → Judged x') → (y ≡ w → Judged y') → Judged (cond s x' y')
kind-judged {A} s true x' y' x y w same e one other = rw same (one e)
kind-judged {A} s false x' y' x y w same e one other = rw same (other e)

-- ---- requests

request-used : (c : List ℕ) (r : Request) (used : ℕ) → read_request c ≡ Whole r used → used ≡ 22 + field c 0 3
request-used c r used e =
    let large = guard-whole _ _ r used e in
    let few = test-whole _ 0 _ r used large in
    sym (same-used (request_in c) r (22 + field c 0 3) used (guard-whole _ _ r used few))

request-judged : (a b : List ℕ) (r : Request) (used : ℕ) → read_request (a ++ b) ≡ Whole r used → used ≤ length a → Judged (read_request a)
request-judged a b r used e within =
    let length_is : used ≡ 22 + field (a ++ b) 0 3 = request-used (a ++ b) r used e in
    let data_is : field (a ++ b) 0 3 ≡ field a 0 3 = field-stays 0 4 a b (omega (arith, length_is, within)) in
    guard-judged 4 a _ (omega (arith, length_is, within))
    (test-judged _ _ _ (bad-judged 0) (guard-judged (22 + field a 0 3) a _ (omega (arith, length_is, data_is, within)) (whole-judged _ _)))

-- ---- items

begin-used : (c : List ℕ) (p : Parsed Request) (item : TraceItem) (used : ℕ) → begin_in c p ≡ Whole item used
    → (r : Request) × (n : ℕ) × (p ≡ Whole r n) × (used ≡ 13 + n)
begin-used c (Whole r n) item used e = (r, n, refl, sym (same-used (TraceItem.Begin (field c 1 4) (field c 5 12) r) item (13 + n) used e))
begin-used c Short item used e = cc
begin-used c (Bad place) item used e = cc

begin-judged : (a : List ℕ) (p : Parsed Request) → Judged p → Judged (begin_in a p)
begin-judged a (Whole r used) j = whole-judged _ _
begin-judged a Short j = absurd j.is
begin-judged a (Bad place) j = bad-judged _

began-judged : (a b : List ℕ) (item : TraceItem) (used : ℕ) → begin_in (a ++ b) (read_request (drop 13 (a ++ b))) ≡ Whole item used → used ≤ length a
    → Judged (begin_in a (read_request (drop 13 a)))
began-judged a b item used e within =
    let found = begin-used (a ++ b) (read_request (drop 13 (a ++ b))) item used e in
    let behind : drop 13 (a ++ b) ≡ drop 13 a ++ b = drop-append-le 13 a b (omega (arith, found.3, within)) in
    begin-judged a (read_request (drop 13 a))
    (request-judged (drop 13 a) b found.0 found.1 (ap read_request (sym behind) ∙ found.2) (omega (arith, found.3, within, length-drop 13 a)))

run-judged : (a c : List ℕ) (item : TraceItem) (used : ℕ) → read_run c ≡ Whole item used → used ≤ length a → Judged (read_run a)
run-judged a c item used e within =
    let length_is : 13 ≡ used = same-used (TraceItem.Run (field c 1 4) (field c 5 12)) item 13 used
    (guard-whole (nat_lt (length c) 13) (Whole (TraceItem.Run (field c 1 4) (field c 5 12)) 13) item used e) in
    guard-judged 13 a _ (omega (arith, length_is, within)) (whole-judged _ _)

pump-judged : (a c : List ℕ) (item : TraceItem) (used : ℕ) → read_pump c ≡ Whole item used → used ≤ length a → Judged (read_pump a)
pump-judged a c item used e within =
    let length_is : 11 ≡ used = same-used (TraceItem.Pump (field c 1 2) (field c 3 10)) item 11 used
    (guard-whole (nat_lt (length c) 11) (Whole (TraceItem.Pump (field c 1 2) (field c 3 10)) 11) item used e) in
    guard-judged 11 a _ (omega (arith, length_is, within)) (whole-judged _ _)

item-judged : (a b : List ℕ) (item : TraceItem) (used : ℕ) → 0 < used → read_item (a ++ b) ≡ Whole item used → used ≤ length a → Judged (read_item a)
item-judged a b item used some e within =
    let kind_is : byte a 0 ≡ byte (a ++ b) 0 = sym (byte-stays 0 a b (omega (arith, some, within))) in
    guard-judged 1 a _ (omega (arith, some, within))
    (kind-judged _ _ _ _ _ _ (Whole item used) (ap (λ k. k == 1) kind_is) (guard-whole _ _ item used e) (λ f. began-judged a b item used f within) (λ f.
    kind-judged _ _ _ _ _ _ (Whole item used) (ap (λ k. k == 2) kind_is) f (λ g. run-judged a (a ++ b) item used g within) (λ g.
    kind-judged _ _ _ _ _ _ (Whole item used) (ap (λ k. k == 3) kind_is) g (λ h. pump-judged a (a ++ b) item used h within) (λ h. bad-judged 0))))

-- ---- headers

units-judged : (a : List ℕ) (fault : Option ℕ) → Judged (judged_units a fault)
units-judged a (Some place) = bad-judged _
units-judged a None = whole-judged _ _

units-used : (c : List ℕ) (fault : Option ℕ) (config : Configuration) (used : ℕ) → judged_units c fault ≡ Whole config used → used ≡ 42 + 32 * units_told c
units-used c (Some place) config used e = cc
units-used c None config used e = sym (same-used _ config (42 + 32 * units_told c) used e)

header-used-is : (c : List ℕ) (config : Configuration) (used : ℕ) → read_header c ≡ Whole config used → used ≡ 42 + 32 * units_told c
header-used-is c config used e =
    let text = guard-whole _ _ config used e in
    let count = test-whole _ 0 _ config used text in
    let few = test-whole _ 40 _ config used count in
    units-used c (units_fault (units_told c) 42 (drop 42 c)) config used (guard-whole _ _ config used few)

header-judged : (a b : List ℕ) (config : Configuration) (used : ℕ) → read_header (a ++ b) ≡ Whole config used → used ≤ length a → Judged (read_header a)
header-judged a b config used e within =
    let length_is : used ≡ 42 + 32 * units_told (a ++ b) = header-used-is (a ++ b) config used e in
    let count : units_told (a ++ b) ≡ units_told a = field-stays 40 2 a b (omega (arith, length_is, within)) in
    guard-judged 42 a _ (omega (arith, length_is, within))
    (test-judged _ _ _ (bad-judged 0) (test-judged _ _ _ (bad-judged 40)
    (guard-judged (42 + 32 * units_told a) a _ (omega (arith, length_is, count, within)) (units-judged a (units_fault (units_told a) 42 (drop 42 a))))))

-- ---- the bytes alone

pub item-alone : (bytes : List ℕ) (item : TraceItem) (used : ℕ) → read_item bytes ≡ Whole item used → read_item (take used bytes) ≡ Whole item used
item-alone bytes item used e =
    let uses = subst (UsesWithin (length bytes)) e (item-within bytes).uses in
    let all : take used bytes ++ drop used bytes ≡ bytes = take-append-drop used bytes in
    let whole : read_item (take used bytes ++ drop used bytes) ≡ Whole item used = ap read_item all ∙ e in
    let judged = item-judged (take used bytes) (drop used bytes) item used uses.0 whole (omega (arith, length-take-le used bytes uses.1)) in
    sym (item-stays (take used bytes) (drop used bytes) judged.is) ∙ whole

pub header-alone : (bytes : List ℕ) (config : Configuration) (used : ℕ) → read_header bytes ≡ Whole config used → read_header (take used bytes) ≡ Whole config used
header-alone bytes config used e =
    let uses = subst (UsesWithin (length bytes)) e (header-within bytes).uses in
    let all : take used bytes ++ drop used bytes ≡ bytes = take-append-drop used bytes in
    let whole : read_header (take used bytes ++ drop used bytes) ≡ Whole config used = ap read_header all ∙ e in
    let judged = header-judged (take used bytes) (drop used bytes) config used whole (omega (arith, length-take-le used bytes uses.1)) in
    sym (header-stays (take used bytes) (drop used bytes) judged.is) ∙ whole

-- behind them comes what comes
pub drop-alone : (used : ℕ) (bytes more : List ℕ) → used ≤ length bytes → drop used (take used bytes ++ more) ≡ more
drop-alone used bytes more within =
    let len : length (take used bytes) ≡ used = length-take-le used bytes within in
    ap (λ n. drop n (take used bytes ++ more)) (sym len) ∙ drop-append_seam (take used bytes) more
