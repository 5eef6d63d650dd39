-- What a file is, before its records are looked at
use Rattle.std.proofs.Common.{◌≡◌, ◌⊎◌, ◌≤◌, ◌<◌, ℕ, ◌+◌, ◌-◌, List, [], ◌∷◌, ◌++◌, length, take, inl, inr, sym, ◌∙◌, ap, subst, refl, arith, length-append, Option, Some, None, Err, Bool, true, false, ltb, eqb, IfSome}
use Rattle.std.specs.Prelude.{◌&&◌, ◌||◌, not, bytes_eq}
use Rattle.std.proofs.lemmas.Bool.{ltb-true, ltb-false, eqb-true, eqb-false, ne_eqb, or_cases, or_parts, and_parts, not-true, both_ways}
use Rattle.std.proofs.lemmas.List.{take_at}
use Rattle.std.proofs.lemmas.Slice.Eq.{bytes_eq-Decides}
use Rattle.cm_base.specs.Configuration.{Configuration}
use Rattle.journal_disk.specs.Opened.{open_gate, begins_open, is_unmade, mark_bytes, front_bytes, opened}
use Rattle.journal_disk.specs.inner.NewFile.{MayMake}
use Rattle.journal_disk.specs.inner.Scanning.{IsOfShape, IsSafeShape}
use Rattle.journal_disk.specs.declared.judging.Shape.TheVariants.{Unmade, Made}
use Rattle.journal_disk.proofs.Found.{shut-is, other-is}
use Rattle.journal_disk.proofs.Scans.{scanned-start}

-- it may be made new
may-make : (mark file : List ℕ) → is_unmade (open_gate ∷ mark) file ≡ true → MayMake (eqb (length file) 0 || begins_open file) mark file
may-make mark [] unmade = omega arith
may-make mark (x ∷ xs) unmade = by-cases (eqb x open_gate) refl (or_cases (ltb (length (x ∷ xs)) (length (open_gate ∷ mark) + 1)) (eqb (length (x ∷ xs)) (length (open_gate ∷ mark) + 1) && not (eqb x open_gate)) unmade)
  where
    few : (b : Bool) → (ltb (length (x ∷ xs)) (length (open_gate ∷ mark) + 1) ≡ true) ⊎ ((eqb (length (x ∷ xs)) (length (open_gate ∷ mark) + 1) && not b) ≡ true) → length xs ≤ length mark + 1
    few b (inl less) = omega (arith, ltb-true (length (x ∷ xs)) (length (open_gate ∷ mark) + 1) less)
    few b (inr full) = omega (arith, eqb-true (length (x ∷ xs)) (length (open_gate ∷ mark) + 1) (and_parts (eqb (length (x ∷ xs)) (length (open_gate ∷ mark) + 1)) (not b) full).0)

    none : (b : Bool) → eqb x open_gate ≡ b → (eqb (length (x ∷ xs)) 0 || eqb x open_gate) ≡ b
    none b is = ap (λ a. a || eqb x open_gate) (ne_eqb (length (x ∷ xs)) 0 (λ e. omega (arith, e))) ∙ is

    by-cases : (b : Bool) → eqb x open_gate ≡ b → (ltb (length (x ∷ xs)) (length (open_gate ∷ mark) + 1) ≡ true) ⊎ ((eqb (length (x ∷ xs)) (length (open_gate ∷ mark) + 1) && not (eqb x open_gate)) ≡ true)
        → MayMake (eqb (length (x ∷ xs)) 0 || eqb x open_gate) mark (x ∷ xs)
    by-cases true is (inl less) = subst (λ b. MayMake b mark (x ∷ xs)) (sym (none true is)) (omega (arith, ltb-true (length (x ∷ xs)) (length (open_gate ∷ mark) + 1) less))
    by-cases true is (inr full) = absurd (both_ways (eqb x open_gate) (not-true (eqb x open_gate) (and_parts (eqb (length (x ∷ xs)) (length (open_gate ∷ mark) + 1)) (not (eqb x open_gate)) full).1) is)
    by-cases false is unmade = subst (λ b. MayMake b mark (x ∷ xs)) (sym (none false is)) (record { gate = x; rest = xs; shut = eqb-false x open_gate is; is = refl; few = few (eqb x open_gate) unmade })

module _ (config : Configuration) (unit : ℕ) (file new : List ℕ) (size whole : ℕ) (opens : Bool) (new_is : new ≡ front_bytes config unit ++ (0 ∷ [])) (size_is : size ≡ length file) (whole_is : whole ≡ length new) (opens_is : opens ≡ begins_open file) where
  pub whole-front : whole ≡ length (front_bytes config unit) + 1
  whole-front = whole_is ∙ ap length new_is ∙ length-append (front_bytes config unit) (0 ∷ [])

  pub tests-are : (ltb size whole || (eqb size whole && not opens)) ≡ is_unmade (front_bytes config unit) file
  tests-are =
      ap (λ k. ltb k whole || (eqb k whole && not opens)) size_is
      ∙ ap (λ k. ltb (length file) k || (eqb (length file) k && not opens)) whole-front
      ∙ ap (λ b. ltb (length file) (length (front_bytes config unit) + 1) || (eqb (length file) (length (front_bytes config unit) + 1) && not b)) opens_is

  pub judged-unmade : (closes : Bool) → (ltb size whole || (eqb size whole && not opens)) ≡ true → closes ≡ (eqb size 0 || opens) → IsOfShape config unit file (Unmade closes)
  judged-unmade closes unmade closes_is =
      let is = sym tests-are ∙ unmade in
      (subst (λ b. MayMake b (mark_bytes config unit) file) (sym (closes_is ∙ ap (λ k. eqb k 0 || opens) size_is ∙ ap (λ b. eqb (length file) 0 || b) opens_is)) (may-make (mark_bytes config unit) file is), is)

  pub judged-shut : (ltb size whole || (eqb size whole && not opens)) ≡ false → opens ≡ false → opened config unit file ≡ Err 0
  judged-shut made shut = shut-is config unit (front_bytes config unit) file (sym tests-are ∙ made) (sym opens_is ∙ shut)

  pub take-front : take (whole - 1) new ≡ front_bytes config unit
  take-front =
      let less : length (front_bytes config unit) ≡ whole - 1 = omega (arith, whole-front) in
      ap (λ (l : List ℕ). take (whole - 1) l) new_is ∙ take_at (front_bytes config unit) (0 ∷ []) (whole - 1) less

  pub judged-other : (begins : List ℕ) (same : Bool) → begins ≡ take (whole - 1) new → same ≡ bytes_eq (take (length begins) file) begins → (ltb size whole || (eqb size whole && not opens)) ≡ false → opens ≡ true → same ≡ false
      → opened config unit file ≡ Err 1
  judged-other begins same begins_is same_is made is_open differs =
      other-is config unit (front_bytes config unit) file (sym tests-are ∙ made) (sym opens_is ∙ is_open)
      (sym (same_is ∙ ap (λ (l : List ℕ). bytes_eq (take (length l) file) l) (begins_is ∙ take-front)) ∙ differs)

  pub judged-made : (begins : List ℕ) (same : Bool) → begins ≡ take (whole - 1) new → same ≡ bytes_eq (take (length begins) file) begins → (ltb size whole || (eqb size whole && not opens)) ≡ false → same ≡ true
      → IsOfShape config unit file (Made size)
  judged-made begins same begins_is same_is made agrees =
      let less = (or_parts (ltb size whole) (eqb size whole && not opens) made).0 in
      let long : length (front_bytes config unit) < length file = omega (arith, ltb-false size whole less, whole-front, size_is) in
      let eq : bytes_eq (take (length (front_bytes config unit)) file) (front_bytes config unit) ≡ true =
      sym (same_is ∙ ap (λ (l : List ℕ). bytes_eq (take (length l) file) l) (begins_is ∙ take-front)) ∙ agrees in
      (size_is, scanned-start config unit file ((bytes_eq-Decides (take (length (front_bytes config unit)) file) (front_bytes config unit)).0 eq) long)

-- what is owed where it is told
pub safe-unmade : (r : Option (List ℕ)) (start size : ℕ) (opens closes : Bool) → closes ≡ (eqb size 0 || opens) → IfSome r (λ file. size ≡ length file) → IsSafeShape r start (Unmade closes)
safe-unmade r start size opens true is told = tt
safe-unmade None start size opens false is told = tt
safe-unmade (Some file) start size opens false is told =
    let some = (or_parts (eqb size 0) opens (sym is)).0 in
    let none : size ≡ 0 → ⊥ = eqb-false size 0 some in
    omega (arith, told, none)

pub safe-made : (r : Option (List ℕ)) (start size whole : ℕ) (opens : Bool) → start ≡ whole - 1 → 1 ≤ whole → (ltb size whole || (eqb size whole && not opens)) ≡ false → IfSome r (λ file. size ≡ length file) → IsSafeShape r start (Made size)
safe-made r start size whole opens start_is some made told =
    let less = (or_parts (ltb size whole) (eqb size whole && not opens) made).0 in
    (omega (arith, start_is, some, ltb-false size whole less), told)
