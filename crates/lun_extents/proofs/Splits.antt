-- Extents that are cut, and extents that are taken out where nothing goes on
use Rattle.std.proofs.Common.{◌≡◌, ◌∙◌, ℕ, zero, suc, ◌+◌, ◌-◌, ◌<◌, ◌≤◌, ap, sym, subst, arith, true, false, cond, inl, inr}
use Rattle.std.specs.Prelude.{Option, Some, None, IsSome, slice_range, ◌==◌, ◌⊎◌}
use Rattle.std.specs.BTreeMap.{is_at}
use Rattle.std.specs.Ordering.{nat_cmp}
use Rattle.std.proofs.lemmas.Bool.{cases_lt}
use Rattle.std.proofs.lemmas.Bool.Decides.{nat_tests}
use Rattle.lba_ranges.specs.HeldBlocks.{filled, held_at}
use Rattle.lba_ranges.specs.declared.fill.Piece.{Piece}
use Rattle.lba_ranges.proofs.PublicLaws.{length-filled}
use Rattle.lun_extents.specs.Extents.{held_from, held_or}
use Rattle.lun_extents.proofs.Nearest.{IsRun, run-inside, run-below, run-above, from-nearest, from-before, same-below, changed-one}
use Rattle.lun_extents.proofs.Places.{held_at-over, held_at-part}

pub chosen : (a : ℕ) (x y : Option Piece) → cond (a == a) x y ≡ x
chosen a x y = let same : (a == a) ≡ true = grind (arith, nat_tests) in ap (λ t. cond t x y) same

pub other : (a b : ℕ) (x y : Option Piece) → (a ≡ b → ⊥) → cond (a == b) x y ≡ y
other a b x y h = let no : (a == b) ≡ false = grind (arith, nat_tests) in ap (λ t. cond t x y) no

pub not_at : (a b : ℕ) → (b ≡ a → ⊥) → is_at (nat_cmp a) b ≡ false
not_at a b h = grind (arith, nat_tests)

-- the extent before an extent is cut where that one begins: `place` is that of its last block
pub record IsCut (size : ℕ) (f g : ℕ → Option Piece) (block place : ℕ) (p q : Piece) : Type 0 where
  pub some : 0 < block
  pub low : place ≤ block - 1
  pub count : q.count ≡ place + 1
  pub part : filled size q.count q.fill ≡ slice_range (filled size p.count p.fill) 0 (0 + (place + 1))
  pub was : f (block - 1 - place) ≡ Some p
  pub inside : (j : ℕ) → block - 1 - place < j → j ≤ block - 1 → f j ≡ None
  pub next : IsSome (f block)
  pub now : (j : ℕ) → g j ≡ cond ((block - 1 - place) == j) (Some q) (f j)

cut-run : (size : ℕ) (f g : ℕ → Option Piece) (block place : ℕ) (p q : Piece) → IsCut size f g block place p q → IsRun f g (block - 1 - place) (place + 1) q
cut-run size f g block place p q is =
    let some = is.some in
    let low = is.low in
    let k = block - 1 - place in
    let ends : k + (place + 1) ≡ block = omega arith in record {
      some = omega arith;
      start = is.now k ∙ chosen k _ _;
      inside = λ j above below. is.now j ∙ other k j _ _ (omega arith) ∙ is.inside j above (omega arith);
      below = λ j below. is.now j ∙ other k j _ _ (omega arith);
      above = λ j above. is.now j ∙ other k j _ _ (omega arith);
      end = subst (λ n. IsSome (f n)) (sym ends) is.next;
    }

-- no block holds anything else
pub cut-held : (size : ℕ) (f g : ℕ → Option Piece) (block place : ℕ) (p q : Piece) → IsCut size f g block place p q → (b : ℕ) → held_from size g b 0 ≡ held_from size f b 0
cut-held size f g block place p q is b = go (cases_lt b (block - 1 - place)) (cases_lt b (block - 1 - place + (place + 1)))
  where
    run : IsRun f g (block - 1 - place) (place + 1) q
    run = cut-run size f g block place p q is

    go : (b < block - 1 - place) ⊎ (block - 1 - place ≤ b) → (b < block - 1 - place + (place + 1)) ⊎ (block - 1 - place + (place + 1) ≤ b) → held_from size g b 0 ≡ held_from size f b 0
    go (inl low) _ = run-below size f g (block - 1 - place) (place + 1) q run b low
    go (inr _) (inr high) = run-above size f g (block - 1 - place) (place + 1) q run b high
    go (inr from) (inl to) =
        let k = block - 1 - place in
        let i = b - k in
        let some = is.some in
        let e : k + i ≡ b = omega arith in
        let less : i < place + 1 = omega arith in
        let place0 : 0 + i ≡ i + 0 = omega arith in
        let now = run-inside size f g k (place + 1) q run i less in
        let same = ap (λ l. held_at l i) is.part ∙ held_at-part (filled size p.count p.fill) 0 (place + 1) i less in
        let was = from-nearest size f b k p 0 from is.was (λ j above below. is.inside j above (omega arith)) in
        ap (λ n. held_from size g n 0) (sym e) ∙ now ∙ same ∙ ap (λ n. held_at (filled size p.count p.fill) n) place0 ∙ sym was

-- and it goes on no further
pub cut-ended : (size : ℕ) (f g : ℕ → Option Piece) (block place : ℕ) (p q : Piece) → IsCut size f g block place p q → (i : ℕ) → held_from size g (block - 1) (1 + i) ≡ None
cut-ended size f g block place p q is i =
    let run = cut-run size f g block place p q is in
    let some = is.some in
    let low = is.low in
    let count = is.count in
    let k = block - 1 - place in
    let long = length-filled size q.count q.fill in
    from-nearest size g (block - 1) k q (1 + i) (omega arith) run.start (λ j above below. run.inside j above (omega arith))
    ∙ held_at-over (filled size q.count q.fill) (block - 1 - k + (1 + i)) (omega arith)

-- an extent that holds nothing is taken out, where none before it goes on
pub record IsDropped (size : ℕ) (f g : ℕ → Option Piece) (block : ℕ) : Type 0 where
  pub nothing : (i : ℕ) → held_from size f block i ≡ None
  pub before : 0 < block → (i : ℕ) → held_from size f (block - 1) (1 + i) ≡ None
  pub gone : g block ≡ None
  pub others : (j : ℕ) → (j ≡ block → ⊥) → g j ≡ f j

dropped-here : (size : ℕ) (f g : ℕ → Option Piece) (block : ℕ) → IsDropped size f g block → (i : ℕ) → held_from size g block i ≡ None
dropped-here size f g zero is i = ap (λ x. held_or size i x None) is.gone
dropped-here size f g (suc m) is i =
    let e : suc m - 1 ≡ m = omega arith in
    let s : 1 + i ≡ suc i = omega arith in
    let some : 0 < suc m = omega arith in
    let ended = rw (e, s) at (is.before some i) in
    from-before size g m i is.gone ∙ same-below size f g m (suc i) (λ j low. is.others j (omega arith)) ∙ ended

pub dropped-held : (size : ℕ) (f g : ℕ → Option Piece) (block : ℕ) → IsDropped size f g block → (b : ℕ) → held_from size g b 0 ≡ held_from size f b 0
dropped-held size f g block is b = changed-one size f g block is.others (λ i. dropped-here size f g block is i ∙ sym (is.nothing i)) b 0
