-- What was judged stays judged so, whatever comes behind
use Rattle.std.proofs.Common.{◌≡◌, ℕ, zero, suc, ◌+◌, ◌*◌, ◌<◌, ◌≤◌, List, ◌∷◌, ◌++◌, length, take, drop, refl, ap, ◌∙◌, subst, arith, true, false, Bool, inl, inr}
use Rattle.std.specs.Prelude.{nat_lt, cond, not, bytes_eq, ◌==◌, ◌⊎◌, Option, Some, None}
use Rattle.std.proofs.lemmas.Bool.{ltb-false, le-ltb, lt-ltb, cases_lt}
use Rattle.std.proofs.lemmas.List.{drop-append-le, take-append-le, length-append, length-drop}
use Rattle.cm_frame.specs.declared.frame.Request.{Request}
use Rattle.cm_base.specs.declared.parsed.Parsed.{Parsed}
use Rattle.cm_base.specs.declared.parsed.Parsed.TheVariants.{Whole, Short, Bad}
use Rattle.cm_base.specs.Fields.{byte, field, part, is_between}
use Rattle.cm_base.proofs.PublicLaws.{part-stays, field-stays, byte-stays}
use Rattle.cm_frame.specs.Grammar.{data_limit, header_text}
use Rattle.cm_frame.specs.Reading.{first_broken, unit_checks, unit_in, units_in, or_later, units_fault, units_told, config_in, judged_units, read_header, read_request, begin_in, read_run, read_pump, read_item}
use Rattle.cm_frame.specs.Laws.{IsJudged, StaysJudged}

-- behind a test that so many bytes are there
pub guard-stays : {A : Type 0} (m n : ℕ) (a b : List ℕ) (y x : Parsed A) → m ≡ n → IsJudged (cond (nat_lt (length a) n) Short x)
    → (n ≤ length a → IsJudged x → y ≡ x) → cond (nat_lt (length (a ++ b)) m) Short y ≡ cond (nat_lt (length a) n) Short x
guard-stays {A} m n a b y x same judged later = go (nat_lt (length a) n) refl judged
  where
    go : (t : Bool) → nat_lt (length a) n ≡ t → IsJudged (cond t Short x) → cond (nat_lt (length (a ++ b)) m) Short y ≡ cond t Short x
    go true e j = absurd j
    go false e j =
        let there : n ≤ length a = ltb-false (length a) n e in
        let test : nat_lt (length (a ++ b)) m ≡ false = le-ltb (length (a ++ b)) m (omega (arith, length-append a b, same, there)) in
        rw test (later there j)

-- behind a test that comes out as before
pub test-stays : {A : Type 0} (s t : Bool) (x' y' x y : Parsed A) → s ≡ t → IsJudged (cond t x y)
    → (IsJudged x → x' ≡ x) → (IsJudged y → y' ≡ y) → cond s x' y' ≡ cond t x y
test-stays {A} s t x' y' x y same judged one other = rw same (go t judged)
  where
    go : (u : Bool) → IsJudged (cond u x y) → cond u x' y' ≡ cond u x y
    go true j = one j
    go false j = other j

pub request-stays : StaysJudged read_request
request-stays a b judged =
    guard-stays 4 4 a b _ _ refl judged (λ four j.
    let length_is : field (a ++ b) 0 3 ≡ field a 0 3 = field-stays 0 4 a b four in
    test-stays _ _ _ _ _ _ (ap (nat_lt data_limit) length_is) j (λ k. refl) (λ k.
    guard-stays _ _ a b _ _ (ap (λ d. 22 + d) length_is) k (λ all l.
    let unit_is : field (a ++ b) 4 5 ≡ field a 4 5 = field-stays 4 2 a b (omega arith) in
    let cdb_is : part 6 16 (a ++ b) ≡ part 6 16 a = part-stays 6 16 a b (omega arith) in
    let out_is : part 22 (field a 0 3) (a ++ b) ≡ part 22 (field a 0 3) a = part-stays 22 (field a 0 3) a b all in
    rw (length_is, unit_is, cdb_is, out_is) refl)))

-- a request that was judged has four bytes at least, and one that is whole lies within the bytes
pub request-begins : (a : List ℕ) → length a < 4 → read_request a ≡ Short
request-begins a few = let test : nat_lt (length a) 4 ≡ true = lt-ltb (length a) 4 few in rw test refl

begin-same : (a c : List ℕ) (p : Parsed Request) → field c 1 4 ≡ field a 1 4 → field c 5 12 ≡ field a 5 12 → begin_in c p ≡ begin_in a p
begin-same a c (Whole r used) one two = rw (one, two) refl
begin-same a c Short one two = refl
begin-same a c (Bad place) one two = refl

begin-judged : (a : List ℕ) (p : Parsed Request) → IsJudged (begin_in a p) → IsJudged p
begin-judged a (Whole r used) j = tt
begin-judged a Short j = absurd j
begin-judged a (Bad place) j = tt

begin-stays : (a b : List ℕ) → IsJudged (begin_in a (read_request (drop 13 a)))
    → begin_in (a ++ b) (read_request (drop 13 (a ++ b))) ≡ begin_in a (read_request (drop 13 a))
begin-stays a b judged = go (cases_lt (length a) 13)
  where
    go : ((length a < 13) ⊎ (13 ≤ length a)) → begin_in (a ++ b) (read_request (drop 13 (a ++ b))) ≡ begin_in a (read_request (drop 13 a))
    go (inl few) =
        let short : read_request (drop 13 a) ≡ Short = request-begins (drop 13 a) (omega (arith, length-drop 13 a)) in
        absurd (subst IsJudged (ap (begin_in a) short) judged)
    go (inr all) =
        let rest = request-stays (drop 13 a) b (begin-judged a _ judged) in
        ap (λ bytes. begin_in (a ++ b) (read_request bytes)) (drop-append-le 13 a b all)
        ∙ ap (begin_in (a ++ b)) rest
        ∙ begin-same a (a ++ b) (read_request (drop 13 a)) (field-stays 1 4 a b (omega arith)) (field-stays 5 8 a b (omega arith))

run-stays : (a b : List ℕ) → IsJudged (read_run a) → read_run (a ++ b) ≡ read_run a
run-stays a b judged = guard-stays 13 13 a b _ _ refl judged (λ all j.
    let one = field-stays 1 4 a b (omega arith) in
    let two = field-stays 5 8 a b (omega arith) in
    rw (one, two) refl)

pump-stays : (a b : List ℕ) → IsJudged (read_pump a) → read_pump (a ++ b) ≡ read_pump a
pump-stays a b judged = guard-stays 11 11 a b _ _ refl judged (λ all j.
    let one = field-stays 1 2 a b (omega arith) in
    let two = field-stays 3 8 a b (omega arith) in
    rw (one, two) refl)

pub item-stays : StaysJudged read_item
item-stays a b judged = guard-stays 1 1 a b _ _ refl judged (λ one j.
    let kind_is : byte (a ++ b) 0 ≡ byte a 0 = byte-stays 0 a b one in
    test-stays _ _ _ _ _ _ (ap (λ k. k == 1) kind_is) j (λ k. begin-stays a b k) (λ k.
    test-stays _ _ _ _ _ _ (ap (λ k. k == 2) kind_is) k (λ l. run-stays a b l) (λ l.
    test-stays _ _ _ _ _ _ (ap (λ k. k == 3) kind_is) l (λ m. pump-stays a b m) (λ m. refl))))

-- ---- headers

unit_checks-stay : (a b : List ℕ) → 32 ≤ length a → unit_checks (a ++ b) ≡ unit_checks a
unit_checks-stay a b all =
    let f0 = field-stays 0 8 a b (omega arith) in
    let f8 = field-stays 8 4 a b (omega arith) in
    let f12 = field-stays 12 4 a b (omega arith) in
    let f16 = field-stays 16 8 a b (omega arith) in
    let f24 = field-stays 24 4 a b (omega arith) in
    let f28 = byte-stays 28 a b (omega arith) in
    let f29 = field-stays 29 3 a b (omega arith) in
    rw (f0, f8, f12, f16, f24, f28, f29) refl

unit_in-stays : (a b : List ℕ) → 32 ≤ length a → unit_in (a ++ b) ≡ unit_in a
unit_in-stays a b all =
    let f0 = field-stays 0 8 a b (omega arith) in
    let f8 = field-stays 8 4 a b (omega arith) in
    let f12 = field-stays 12 4 a b (omega arith) in
    let f16 = field-stays 16 8 a b (omega arith) in
    let f24 = field-stays 24 4 a b (omega arith) in
    let f28 = byte-stays 28 a b (omega arith) in
    rw (f0, f8, f12, f16, f24, f28) refl

units_fault-stays : (n place : ℕ) (a b : List ℕ) → 32 * n ≤ length a → units_fault n place (a ++ b) ≡ units_fault n place a
units_fault-stays zero place a b all = refl
units_fault-stays (suc n) place a b all =
    let whole : 32 ≤ length a = omega arith in
    let later = ap (units_fault n (place + 32)) (drop-append-le 32 a b whole)
    ∙ units_fault-stays n (place + 32) (drop 32 a) b (omega (arith, length-drop 32 a)) in
    ap (λ checks. or_later place (first_broken checks) (units_fault n (place + 32) (drop 32 (a ++ b)))) (unit_checks-stay a b whole)
    ∙ ap (or_later place (first_broken (unit_checks a))) later

units_in-stay : (n : ℕ) (a b : List ℕ) → 32 * n ≤ length a → units_in n (a ++ b) ≡ units_in n a
units_in-stay zero a b all = refl
units_in-stay (suc n) a b all =
    let whole : 32 ≤ length a = omega arith in
    let later = ap (units_in n) (drop-append-le 32 a b whole) ∙ units_in-stay n (drop 32 a) b (omega (arith, length-drop 32 a)) in
    ap (λ u. u ∷ units_in n (drop 32 (a ++ b))) (unit_in-stays a b whole) ∙ ap (λ us. unit_in a ∷ us) later

judged-same : (a c : List ℕ) (fault : Option ℕ) → config_in c ≡ config_in a → units_told c ≡ units_told a → judged_units c fault ≡ judged_units a fault
judged-same a c (Some place) one two = refl
judged-same a c None one two = ap (λ config. Whole config (42 + 32 * units_told c)) one ∙ ap (λ n. Whole (config_in a) (42 + 32 * n)) two

pub header-stays : StaysJudged read_header
header-stays a b judged = guard-stays 42 42 a b _ _ refl judged (λ first j.
    let text : take 8 (a ++ b) ≡ take 8 a = take-append-le 8 a b (omega arith) in
    let count : units_told (a ++ b) ≡ units_told a = field-stays 40 2 a b (omega arith) in
    test-stays _ _ _ _ _ _ (ap (λ bytes. not (bytes_eq bytes header_text)) text) j (λ k. refl) (λ k.
    test-stays _ _ _ _ _ _ (ap (λ n. not (is_between 1 16 n)) count) k (λ l. refl) (λ l.
    guard-stays _ _ a b _ _ (ap (λ n. 42 + 32 * n) count) l (λ all m.
    let n = units_told a in
    let behind : drop 42 (a ++ b) ≡ drop 42 a ++ b = drop-append-le 42 a b first in
    let room : 32 * n ≤ length (drop 42 a) = omega (arith, length-drop 42 a, all) in
    let secret : part 8 32 (a ++ b) ≡ part 8 32 a = part-stays 8 32 a b (omega arith) in
    let units : units_in (units_told (a ++ b)) (drop 42 (a ++ b)) ≡ units_in n (drop 42 a) =
    ap (λ m. units_in m (drop 42 (a ++ b))) count ∙ ap (units_in n) behind ∙ units_in-stay n (drop 42 a) b room in
    let fault : units_fault (units_told (a ++ b)) 42 (drop 42 (a ++ b)) ≡ units_fault n 42 (drop 42 a) =
    ap (λ m. units_fault m 42 (drop 42 (a ++ b))) count ∙ ap (units_fault n 42) behind ∙ units_fault-stays n 42 (drop 42 a) b room in
    let config : config_in (a ++ b) ≡ config_in a =
    ap (λ s. record { secret = s; units = units_in (units_told (a ++ b)) (drop 42 (a ++ b)) }) secret
    ∙ ap (λ us. record { secret = part 8 32 a; units = us }) units in
    ap (judged_units (a ++ b)) fault ∙ judged-same a (a ++ b) (units_fault n 42 (drop 42 a)) config count))))
