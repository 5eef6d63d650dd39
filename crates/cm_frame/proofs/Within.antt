-- What is whole lies within the bytes
use Rattle.std.proofs.Common.{◌≡◌, ℕ, ◌+◌, ◌*◌, ◌<◌, ◌≤◌, List, length, drop, refl, sym, subst, arith, true, false, Bool, inl, inr}
use Rattle.std.specs.Prelude.{nat_lt, cond, ◌⊎◌, Option, Some, None}
use Rattle.std.proofs.lemmas.Bool.{ltb-false, cases_lt}
use Rattle.std.proofs.lemmas.List.{length-drop}
use Rattle.cm_frame.specs.declared.frame.Request.{Request}
use Rattle.cm_base.specs.declared.parsed.Parsed.{Parsed}
use Rattle.cm_base.specs.declared.parsed.Parsed.TheVariants.{Whole, Short, Bad}
use Rattle.cm_frame.proofs.Stays.{request-begins}
use Rattle.cm_frame.specs.Reading.{units_told, units_fault, judged_units, read_header, read_request, begin_in, read_item}

-- a whole value used at least one byte, and at most so many
abbrev pub UsesWithin : {A : Type 0} → ℕ → Parsed A → Type 0
UsesWithin len (Whole x used) = (0 < used) × (used ≤ len)
UsesWithin len _ = Unit {0}

pub record IsWithin {A : Type 0} (len : ℕ) (p : Parsed A) : Type 0 where
  pub uses : UsesWithin len p

guard-within : {A : Type 0} (len n : ℕ) (a : List ℕ) (x : Parsed A) → (n ≤ length a → IsWithin len x) → IsWithin len (cond (nat_lt (length a) n) Short x)
guard-within {A} len n a x later = go (nat_lt (length a) n) refl
  where
    go : (t : Bool) → nat_lt (length a) n ≡ t → IsWithin len (cond t Short x)
    go true e = record { uses = tt }
    go false e = later (ltb-false (length a) n e)

test-within : {A : Type 0} (len : ℕ) (t : Bool) (x y : Parsed A) → IsWithin len x → IsWithin len y → IsWithin len (cond t x y)
test-within {A} len true x y one other = one
test-within {A} len false x y one other = other

bad-within : {A : Type 0} (len place : ℕ) → IsWithin {A = A} len (Bad place)
bad-within {A} len place = record { uses = tt }

whole-within : {A : Type 0} (len used : ℕ) (x : A) → 0 < used → used ≤ len → IsWithin len (Whole x used)
whole-within {A} len used x some all = record { uses = (some, all) }

pub request-within : (a : List ℕ) → IsWithin (length a) (read_request a)
request-within a = guard-within _ _ a _ (λ four.
    test-within _ _ _ _ (bad-within _ 0) (guard-within _ _ a _ (λ all. whole-within _ _ _ (omega arith) all)))

begin-within : (a : List ℕ) (p : Parsed Request) → 13 ≤ length a → UsesWithin (length (drop 13 a)) p → UsesWithin (length a) (begin_in a p)
begin-within a (Whole r used) all w = (omega arith, omega (arith, length-drop 13 a, w.1))
begin-within a Short all w = tt
begin-within a (Bad place) all w = tt

begin-whole : (a : List ℕ) → IsWithin (length a) (begin_in a (read_request (drop 13 a)))
begin-whole a = go (cases_lt (length a) 13)
  where
    go : ((length a < 13) ⊎ (13 ≤ length a)) → IsWithin (length a) (begin_in a (read_request (drop 13 a)))
    go (inl few) =
        let short : read_request (drop 13 a) ≡ Short = request-begins (drop 13 a) (omega (arith, length-drop 13 a)) in
        subst (λ p. IsWithin (length a) (begin_in a p)) (sym short) (record { uses = tt })
    go (inr all) = record { uses = begin-within a (read_request (drop 13 a)) all (request-within (drop 13 a)).uses }

pub item-within : (a : List ℕ) → IsWithin (length a) (read_item a)
item-within a = guard-within _ 1 a _ (λ one.
    test-within _ _ _ _ (begin-whole a)
    (test-within _ _ _ _ (guard-within _ 13 a _ (λ all. whole-within _ _ _ (omega arith) all))
    (test-within _ _ _ _ (guard-within _ 11 a _ (λ all. whole-within _ _ _ (omega arith) all)) (bad-within _ 0))))

judged-within : (a : List ℕ) (fault : Option ℕ) → 42 + 32 * units_told a ≤ length a → UsesWithin (length a) (judged_units a fault)
judged-within a (Some place) all = tt
judged-within a None all = (omega arith, all)

pub header-within : (a : List ℕ) → IsWithin (length a) (read_header a)
header-within a = guard-within _ 42 a _ (λ first.
    test-within _ _ _ _ (bad-within _ 0) (test-within _ _ _ _ (bad-within _ 40)
    (guard-within _ _ a _ (λ all. record { uses = judged-within a (units_fault (units_told a) 42 (drop 42 a)) all }))))
