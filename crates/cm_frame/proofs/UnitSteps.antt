-- The units of a header, one after the other
use Rattle.std.proofs.Common.{◌≡◌, ℕ, zero, suc, ◌+◌, ◌*◌, ◌-◌, ◌<◌, ◌≤◌, List, [], ◌∷◌, ◌++◌, length, take, drop, append-nil, refl, sym, ap, ◌∙◌, arith, true, false, Bool, inl, inr}
use Rattle.std.specs.Prelude.{cond, nat_le, ◌==◌, ◌||◌, ◌⊎◌, Option, Some, None, flat_map, slice_get}
use Rattle.std.specs.List.{AllByRecursion}
use Rattle.std.proofs.Math.Seq.{take-length}
use Rattle.std.proofs.lemmas.Bool.{leb-true, eqb-true, and_parts, or_cases}
use Rattle.std.proofs.lemmas.List.{drop-drop, length-drop, append_assoc}
use Rattle.std.proofs.lemmas.List.Elements.{All-from_recursion}
use Rattle.cm_base.specs.declared.config.UnitConfig.{UnitConfig}
use Rattle.cm_base.specs.Configuration.{IsUnit, AreUnits}
use Rattle.cm_base.specs.Fields.{byte, field, is_between}
use Rattle.cm_base.specs.Units.{told}
use Rattle.cm_frame.specs.Reading.{first_broken, unit_checks, unit_in, units_in, or_later, units_fault}

-- ---- one unit more

pub rest-of : (place : ℕ) (bytes : List ℕ) → take (length bytes - place) (drop place bytes) ≡ drop place bytes
rest-of place bytes = ap (λ k. take k (drop place bytes)) (sym (length-drop place bytes)) ∙ take-length (drop place bytes)

abbrev pub place_of : ℕ → ℕ
place_of index = 42 + 32 * index

next-place : (index : ℕ) (bytes : List ℕ) → drop 32 (drop (place_of index) bytes) ≡ drop (place_of (index + 1)) bytes
next-place index bytes = drop-drop 32 (place_of index) bytes ∙ ap (λ k. drop k bytes) (omega arith)

pub fault-step : (count index : ℕ) (bytes : List ℕ) → index < count
    → units_fault (count - index) (place_of index) (drop (place_of index) bytes)
    ≡ or_later (place_of index) (first_broken (unit_checks (drop (place_of index) bytes))) (units_fault (count - (index + 1)) (place_of (index + 1)) (drop (place_of (index + 1)) bytes))
fault-step count index bytes within =
    let left : count - index ≡ suc (count - (index + 1)) = omega arith in
    let place : place_of index + 32 ≡ place_of (index + 1) = omega arith in
    ap (λ n. units_fault n (place_of index) (drop (place_of index) bytes)) left
    ∙ ap (λ l. or_later (place_of index) (first_broken (unit_checks (drop (place_of index) bytes))) (units_fault (count - (index + 1)) (place_of index + 32) l)) (next-place index bytes)
    ∙ ap (λ k. or_later (place_of index) (first_broken (unit_checks (drop (place_of index) bytes))) (units_fault (count - (index + 1)) k (drop (place_of (index + 1)) bytes))) place

pub unit-step : (count index : ℕ) (bytes : List ℕ) → index < count
    → units_in (count - index) (drop (place_of index) bytes) ≡ unit_in (drop (place_of index) bytes) ∷ units_in (count - (index + 1)) (drop (place_of (index + 1)) bytes)
unit-step count index bytes within =
    let left : count - index ≡ suc (count - (index + 1)) = omega arith in
    ap (λ n. units_in n (drop (place_of index) bytes)) left
    ∙ ap (λ l. unit_in (drop (place_of index) bytes) ∷ units_in (count - (index + 1)) l) (next-place index bytes)

-- ---- units without a fault

check-kept : (t : Bool) (place : ℕ) (later : Option ℕ) → cond t later (Some place) ≡ None → (t ≡ true) × (later ≡ None)
check-kept true place later e = (refl, e)
check-kept false place later e = cc

pub between-bounds : (low high n : ℕ) → is_between low high n ≡ true → (low ≤ n) × (n ≤ high)
between-bounds low high n e =
    let both = and_parts (nat_le low n) (nat_le n high) e in
    (leb-true low n both.0, leb-true n high both.1)

two-lengths : (n : ℕ) → ((n == 512) || (n == 4096)) ≡ true → (n ≡ 512) ⊎ (n ≡ 4096)
two-lengths n e = go (or_cases (n == 512) (n == 4096) e)
  where
    go : (((n == 512) ≡ true) ⊎ ((n == 4096) ≡ true)) → (n ≡ 512) ⊎ (n ≡ 4096)
    go (inl a) = inl (eqb-true n 512 a)
    go (inr b) = inr (eqb-true n 4096 b)

pub record Sound (bytes : List ℕ) : Type 0 where
  pub unit : IsUnit (unit_in bytes)
  pub rest : field bytes 29 31 ≡ 0

pub unit-sound : (bytes : List ℕ) → first_broken (unit_checks bytes) ≡ None → Sound bytes
unit-sound bytes e =
    let k0 = check-kept (is_between 1 4_294_967_296 (field bytes 0 7)) 0 _ e in
    let k8 = check-kept ((field bytes 8 11 == 512) || (field bytes 8 11 == 4096)) 8 _ k0.1 in
    let k12 = check-kept (is_between 1 1_048_576 (field bytes 12 15)) 12 _ k8.1 in
    let k16 = check-kept (nat_le (field bytes 16 23) (field bytes 0 7)) 16 _ k12.1 in
    let k24 = check-kept (is_between 1 268_435_456 (field bytes 24 27)) 24 _ k16.1 in
    let k28 = check-kept (nat_le (byte bytes 28) 15) 28 _ k24.1 in
    let k29 = check-kept (field bytes 29 31 == 0) 29 None k28.1 in
    record {
      unit = record {
        blocks = between-bounds 1 4_294_967_296 (field bytes 0 7) k0.0;
        block_length = two-lengths (field bytes 8 11) k8.0;
        entries = between-bounds 1 1_048_576 (field bytes 12 15) k12.0;
        quota = leb-true (field bytes 16 23) (field bytes 0 7) k16.0;
        payload = between-bounds 1 268_435_456 (field bytes 24 27) k24.0;
        group = leb-true (byte bytes 28) 15 k28.0;
      };
      rest = eqb-true (field bytes 29 31) 0 k29.0;
    }

pub none-later : (place : ℕ) (fault later : Option ℕ) → or_later place fault later ≡ None → (fault ≡ None) × (later ≡ None)
none-later place None later e = (refl, e)
none-later place (Some fault) later e = cc

units-fit : (n place : ℕ) (bytes : List ℕ) → units_fault n place bytes ≡ None → AllByRecursion IsUnit (units_in n bytes)
units-fit zero place bytes e = tt
units-fit (suc n) place bytes e =
    let both = none-later place (first_broken (unit_checks bytes)) (units_fault n (place + 32) (drop 32 bytes)) e in
    ((unit-sound bytes both.0).unit, units-fit n (place + 32) (drop 32 bytes) both.1)

pub length-units_in : (n : ℕ) (bytes : List ℕ) → length (units_in n bytes) ≡ n
length-units_in zero bytes = refl
length-units_in (suc n) bytes = omega (arith, length-units_in n (drop 32 bytes))

pub units-are : (n place : ℕ) (bytes : List ℕ) → 1 ≤ n → n ≤ 16 → units_fault n place bytes ≡ None → AreUnits (units_in n bytes)
units-are n place bytes some few e = record {
  count = (omega (arith, length-units_in n bytes), omega (arith, length-units_in n bytes));
  each = All-from_recursion IsUnit (units_in n bytes) (units-fit n place bytes e);
}

-- ---- units spelled one after the other

pub flat-more : (f : UnitConfig → List ℕ) (us : List UnitConfig) (i : ℕ) → i < length us
    → flat_map f (take i us) ++ f (told (slice_get us i)) ≡ flat_map f (take (suc i) us)
flat-more f [] i within = absurd (omega (arith, within))
flat-more f (u ∷ us) zero within = sym (append-nil (f u))
flat-more f (u ∷ us) (suc i) within = append_assoc (f u) _ _ ∙ ap (λ l. f u ++ l) (flat-more f us i (omega (arith, within)))
