-- How many bytes a header and an item may have
use Rattle.std.proofs.Common.{◌≡◌, ℕ, ◌+◌, ◌*◌, ◌<◌, ◌≤◌, List, length, take, drop, refl, subst, arith, true, false, Bool}
use Rattle.std.proofs.lemmas.List.{length-drop}
use Rattle.std.specs.Prelude.{cond, bytes_eq, ◌==◌, ◌&&◌, Option, Some, None, nat_lt, nat_le, not}
use Rattle.std.proofs.lemmas.Bool.{ltb-true, ltb-false, leb-true}
use Rattle.cm_base.specs.Configuration.{Configuration}
use Rattle.cm_base.specs.Fields.{byte, field, is_between}
use Rattle.cm_frame.specs.declared.frame.Request.{Request}
use Rattle.cm_frame.specs.declared.item.TraceItem.{TraceItem}
use Rattle.cm_base.specs.declared.parsed.Parsed.{Parsed}
use Rattle.cm_base.specs.declared.parsed.Parsed.TheVariants.{Whole, Short, Bad}
use Rattle.cm_frame.specs.Grammar.{data_limit, header_text}
use Rattle.cm_frame.specs.Reading.{units_told, units_fault, judged_units, read_header, read_request, begin_in, read_run, read_pump, read_item}

-- where more bytes are needed there are few, and what is whole has few
abbrev pub AreFewAt : {A : Type 0} → ℕ → ℕ → Parsed A → Type 0
AreFewAt len limit (Whole x used) = used ≤ limit
AreFewAt len limit Short = len < limit
AreFewAt len limit (Bad place) = Unit {0}

record FewAt {A : Type 0} (len limit : ℕ) (p : Parsed A) : Type 0 where
  few : AreFewAt len limit p

guard-few : {A : Type 0} (len limit n : ℕ) (x : Parsed A) → n ≤ limit → FewAt len limit x → FewAt len limit (cond (nat_lt len n) Short x)
guard-few {A} len limit n x within rest = go (nat_lt len n) refl
  where
    go : (t : Bool) → nat_lt len n ≡ t → FewAt len limit (cond t Short x)
    go true e = let below : len < n = ltb-true len n e in record { few = omega (arith, below, within) }
    go false e = rest

test-few : {A : Type 0} (len limit : ℕ) (t : Bool) (x y : Parsed A) → FewAt len limit x → (t ≡ false → FewAt len limit y) → FewAt len limit (cond t x y)
test-few {A} len limit true x y a b = a
test-few {A} len limit false x y a b = b refl

bad-few : {A : Type 0} (len limit place : ℕ) → FewAt {A = A} len limit (Bad place)
bad-few {A} len limit place = record { few = tt }

whole-few : {A : Type 0} (len limit used : ℕ) (x : A) → used ≤ limit → FewAt len limit (Whole x used)
whole-few {A} len limit used x within = record { few = within }

-- ---- headers

units-few : (n : ℕ) → not (is_between 1 16 n) ≡ false → n ≤ 16
units-few n e = go (nat_le 1 n) (nat_le n 16) refl e
  where
    go : (t u : Bool) → nat_le n 16 ≡ u → not (t && u) ≡ false → n ≤ 16
    go t true e f = leb-true n 16 e
    go true false e f = cc
    go false false e f = cc

judged-few : (len : ℕ) (a : List ℕ) (fault : Option ℕ) → units_told a ≤ 16 → FewAt len 554 (judged_units a fault)
judged-few len a (Some place) few = bad-few len 554 place
judged-few len a None few = whole-few len 554 _ _ (omega (arith, few))

header-few : (a : List ℕ) → FewAt (length a) 554 (read_header a)
header-few a =
    guard-few (length a) 554 42 _ (omega arith)
    (test-few (length a) 554 (not (bytes_eq (take 8 a) header_text)) (Bad 0) _ (bad-few (length a) 554 0) (λ _.
    test-few (length a) 554 (not (is_between 1 16 (units_told a))) (Bad 40) _ (bad-few (length a) 554 40) (λ e.
    guard-few (length a) 554 (42 + 32 * units_told a) (judged_units a (units_fault (units_told a) 42 (drop 42 a))) (omega (arith, units-few (units_told a) e))
    (judged-few (length a) a (units_fault (units_told a) 42 (drop 42 a)) (units-few (units_told a) e)))))

-- ---- items

request-few : (a : List ℕ) → FewAt (length a) 8_388_630 (read_request a)
request-few a =
    guard-few (length a) 8_388_630 4 _ (omega arith) (test-few (length a) 8_388_630 (nat_lt data_limit (field a 0 3)) _ _ (bad-few _ _ _) (λ e.
    let within : field a 0 3 ≤ 8_388_608 = ltb-false data_limit (field a 0 3) e in
    guard-few (length a) 8_388_630 (22 + field a 0 3) _ (omega (arith, within)) (whole-few _ _ _ _ (omega (arith, within)))))

begin-few : (a : List ℕ) (p : Parsed Request) → FewAt (length (drop 13 a)) 8_388_630 p → FewAt (length a) 8_388_643 (begin_in a p)
begin-few a (Whole r used) w = record { few = omega (arith, w.few) }
begin-few a Short w = record { few = omega (arith, length-drop 13 a, w.few) }
begin-few a (Bad place) w = record { few = tt }

run-few : (a : List ℕ) → FewAt (length a) 8_388_643 (read_run a)
run-few a = guard-few (length a) 8_388_643 13 _ (omega arith) (whole-few (length a) 8_388_643 13 _ (omega arith))

pump-few : (a : List ℕ) → FewAt (length a) 8_388_643 (read_pump a)
pump-few a = guard-few (length a) 8_388_643 11 _ (omega arith) (whole-few (length a) 8_388_643 11 _ (omega arith))

item-few : (a : List ℕ) → FewAt (length a) 8_388_643 (read_item a)
item-few a =
    guard-few (length a) 8_388_643 1 _ (omega arith)
    (test-few (length a) 8_388_643 (byte a 0 == 1) (begin_in a (read_request (drop 13 a))) _ (begin-few a (read_request (drop 13 a)) (request-few (drop 13 a))) (λ _.
    test-few (length a) 8_388_643 (byte a 0 == 2) (read_run a) _ (run-few a) (λ _.
    test-few (length a) 8_388_643 (byte a 0 == 3) (read_pump a) (Bad 0) (pump-few a) (λ _. bad-few (length a) 8_388_643 0))))

-- ---- what is cited

pub header-used : (a : List ℕ) (config : Configuration) (used : ℕ) → read_header a ≡ Whole config used → used ≤ 554
header-used a config used e = subst (AreFewAt (length a) 554) e (header-few a).few

pub header-short : (a : List ℕ) → read_header a ≡ Short → length a < 554
header-short a e = subst (AreFewAt (length a) 554) e (header-few a).few

pub item-used : (a : List ℕ) (item : TraceItem) (used : ℕ) → read_item a ≡ Whole item used → used ≤ 8_388_643
item-used a item used e = subst (AreFewAt (length a) 8_388_643) e (item-few a).few

pub item-short : (a : List ℕ) → read_item a ≡ Short → length a < 8_388_643
item-short a e = subst (AreFewAt (length a) 8_388_643) e (item-few a).few
