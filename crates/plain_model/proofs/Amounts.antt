-- How many blocks are mapped at most
use Rattle.std.proofs.Common.{◌≡◌, ℕ, zero, suc, ◌+◌, ◌^◌, ◌<◌, ◌≤◌, List, [], ◌∷◌, ◌++◌, length, take, get_or, refl, ap, ◌∙◌, arith, true, false, Bool}
use Rattle.std.specs.Prelude.{is_some, map, nat_lt, ◌==◌, if◌then◌else◌}
use Rattle.std.proofs.lemmas.Bool.{ne_eqb}
use Rattle.std.proofs.lemmas.Bool.Decides.{nat_tests}
use Rattle.lba_ranges.specs.Writings.{Held, Writing, after, held_with, mapped_below}
use Rattle.lba_ranges.proofs.PublicLaws.{mapped-le, mapped-same, mapped-set, one_if}
use Rattle.cm_history.specs.Blocks.{held}
use Rattle.cm_history.specs.Deeds.{Deed}
use Rattle.plain_model.specs.declared.writings.PlainWriting.{PlainWriting}
use Rattle.plain_model.specs.inner.Amounts.{capped, mapping, mappings}
use Rattle.plain_model.specs.inner.Writings.{writing_of}
use Rattle.plain_model.proofs.Loops.{taken-more}

-- ---- a walk over writings

mapping-append : (xs ys : List Writing) → mapping (xs ++ ys) ≡ mapping xs + mapping ys
mapping-append [] ys = omega arith
mapping-append (x ∷ xs) ys = let h = mapping-append xs ys in omega (arith, h)

pub mapping-more : (ws : List PlainWriting) (i : ℕ) (w : PlainWriting) → i < length ws → w ≡ get_or ws i w
    → mapping (map writing_of (take (i + 1) ws)) ≡ mapping (map writing_of (take i ws)) + (if is_some w.held then 1 else 0)
mapping-more ws i w there is =
    let all = ap mapping (taken-more ws i w there is) ∙ mapping-append (map writing_of (take i ws)) (writing_of w ∷ []) in
    omega (arith, all)

-- ---- how many blocks are mapped

-- a block is given what it holds from then on
abbrev put : (ℕ → Held) → Writing → ℕ → Held
put holds w b = if w.block == b then w.held else holds b

put-mapped : (n : ℕ) (holds : ℕ → Held) (w : Writing) → mapped_below n (put holds w) ≤ mapped_below n holds + one_if (is_some w.held)
put-mapped n holds w = go (nat_lt w.block n) refl
  where
    others : (b : ℕ) → (w.block ≡ b → ⊥) → put holds w b ≡ holds b
    others b other = rw (ne_eqb w.block b other) refl

    here : put holds w w.block ≡ w.held
    here = let same : (w.block == w.block) ≡ true = grind (arith, nat_tests) in rw same refl

    go : (t : Bool) → nat_lt w.block n ≡ t → mapped_below n (put holds w) ≤ mapped_below n holds + one_if (is_some w.held)
    go true e =
        let moved = mapped-set n w.block holds (put holds w) (grind (arith, nat_tests)) others in
        let now : one_if (is_some (put holds w w.block)) ≡ one_if (is_some w.held) = ap (λ h. one_if (is_some h)) here in
        omega (arith, moved, now)
    go false e =
        let same = mapped-same n (put holds w) holds (λ b below. others b (λ at. let no : n ≤ w.block = grind (arith, nat_tests) in absurd (omega (arith, at, below, no)))) in
        omega (arith, same)

pub after-mapped : (n : ℕ) (ws : List Writing) (holds : ℕ → Held) → mapped_below n (λ b. after ws b (holds b)) ≤ mapped_below n holds + mapping ws
after-mapped n [] holds = omega arith
after-mapped n (w ∷ ws) holds =
    let rest = after-mapped n ws (put holds w) in
    let first = put-mapped n holds w in
    omega (arith, rest, first)

pub past-mapped : (n : ℕ) (past : List Deed) → mapped_below n (held past) ≤ mappings past
past-mapped n [] = none n
  where
    none : (m : ℕ) → mapped_below m (held []) ≤ 0
    none zero = omega arith
    none (suc m) = let h = none m in omega (arith, h)
past-mapped n (d ∷ past) =
    let same = mapped-same n (held (d ∷ past)) (λ b. after d.wrote b (held past b)) (λ b below. refl) in
    let more = after-mapped n d.wrote (held past) in
    let before = past-mapped n past in
    omega (arith, same, more, before)

-- where no more writings than these left their block mapped, no more blocks are
pub few-mapped : (quota n : ℕ) (past : List Deed) (more : List Writing) → capped (capped (mappings past) + mapping more) ≤ quota → n < 2 ^ 64
    → nat_lt quota (mapped_below n (held_with (held past) more)) ≡ false
few-mapped quota n past more few range =
    let same = mapped-same n (held_with (held past) more) (λ b. after more b (held past b)) (λ b below. refl) in
    let all = after-mapped n more (held past) in
    let before = past-mapped n past in
    let most = mapped-le n (held_with (held past) more) in
    let low : mapped_below n (held_with (held past) more) ≤ quota = omega (arith, same, all, before, few, most, range) in
    grind (arith, nat_tests)

-- the steps of a walk over writings that counts
pub ruleset amounts = (mapping-more)
