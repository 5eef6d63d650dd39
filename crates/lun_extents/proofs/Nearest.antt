-- What stands past a block, by the nearest extent
use Rattle.std.proofs.Common.{◌≡◌, ℕ, zero, suc, ◌+◌, ◌-◌, ◌<◌, ◌≤◌, refl, ap, sym, ◌∙◌, subst, arith, inl, inr}
use Rattle.std.specs.Prelude.{Option, Some, None, IsSome, ◌⊎◌}
use Rattle.std.proofs.lemmas.Bool.{cases_eq}
use Rattle.lba_ranges.specs.HeldBlocks.{filled, held_at}
use Rattle.lba_ranges.specs.Writings.{Held}
use Rattle.lba_ranges.specs.declared.fill.Piece.{Piece}
use Rattle.lun_extents.specs.Extents.{held_or, held_from}

-- an extent that begins at the block decides
pub from-start : (size : ℕ) (f : ℕ → Option Piece) (k : ℕ) (p : Piece) (e : ℕ) → f k ≡ Some p → held_from size f k e ≡ held_at (filled size p.count p.fill) e
from-start size f zero p e is = ap (λ x. held_or size e x None) is
from-start size f (suc k) p e is = ap (λ x. held_or size e x (held_from size f k (suc e))) is

-- where no extent begins, the one before decides
pub from-before : (size : ℕ) (f : ℕ → Option Piece) (k e : ℕ) → f (suc k) ≡ None → held_from size f (suc k) e ≡ held_from size f k (suc e)
from-before size f k e is = ap (λ x. held_or size e x (held_from size f k (suc e))) is

-- it decides up to where the next one begins
pub from-gap : (size : ℕ) (f : ℕ → Option Piece) (k d e : ℕ) → ((j : ℕ) → k < j → j ≤ k + d → f j ≡ None) → held_from size f (k + d) e ≡ held_from size f k (d + e)
from-gap size f k zero e gap = let same : k + 0 ≡ k = omega arith in let more : 0 + e ≡ e = omega arith in rw (same, more) refl
from-gap size f k (suc d) e gap =
    let next : k + suc d ≡ suc (k + d) = omega arith in
    let none : f (suc (k + d)) ≡ None = gap (suc (k + d)) (omega arith) (omega arith) in
    let more : d + suc e ≡ suc d + e = omega arith in
    let rest = from-gap size f k d (suc e) (λ j low high. gap j low (omega arith)) in
    ap (λ n. held_from size f n e) next ∙ from-before size f (k + d) e none ∙ rest ∙ ap (λ n. held_from size f k n) more

-- where no extent begins at a block or below it, it is unmapped
pub from-none : (size : ℕ) (f : ℕ → Option Piece) (k e : ℕ) → ((j : ℕ) → j ≤ k → f j ≡ None) → held_from size f k e ≡ None
from-none size f zero e gap = ap (λ x. held_or size e x None) (gap 0 (omega arith))
from-none size f (suc k) e gap = from-before size f k e (gap (suc k) (omega arith)) ∙ from-none size f k (suc e) (λ j low. gap j (omega arith))

-- what begins above a block is nothing to it
pub same-below : (size : ℕ) (f g : ℕ → Option Piece) (k e : ℕ) → ((j : ℕ) → j ≤ k → g j ≡ f j) → held_from size g k e ≡ held_from size f k e
same-below size f g zero e same = ap (λ x. held_or size e x None) (same 0 (omega arith))
same-below size f g (suc k) e same =
    let rest = same-below size f g k (suc e) (λ j low. same j (omega arith)) in
    ap (λ x. held_or size e x (held_from size g k (suc e))) (same (suc k) (omega arith)) ∙ ap (λ h. held_or size e (f (suc k)) h) rest

-- nor is what begins below an extent
pub covered : (size e : ℕ) (x : Option Piece) (m n : Held) → IsSome x → held_or size e x m ≡ held_or size e x n
covered size e None m n some = cc
covered size e (Some p) m n some = refl

pub same-above : (size : ℕ) (f g : ℕ → Option Piece) (c k e : ℕ) → c ≤ k → IsSome (f c) → ((j : ℕ) → c ≤ j → j ≤ k → g j ≡ f j) → held_from size g k e ≡ held_from size f k e
same-above size f g c zero e low some same = ap (λ x. held_or size e x None) (same 0 low (omega arith))
same-above size f g c (suc k) e low some same =
    ap (λ x. held_or size e x (held_from size g k (suc e))) (same (suc k) low (omega arith)) ∙ go (λ less. same-above size f g c k (suc e) less some (λ j a b. same j a (omega arith))) (cases_eq c (suc k))
  where
    go : (c ≤ k → held_from size g k (suc e) ≡ held_from size f k (suc e)) → (c ≡ suc k) ⊎ (c ≡ suc k → ⊥)
        → held_or size e (f (suc k)) (held_from size g k (suc e)) ≡ held_or size e (f (suc k)) (held_from size f k (suc e))
    go rest (inl is) = covered size e (f (suc k)) _ _ (subst (λ n. IsSome (f n)) is some)
    go rest (inr other) = ap (λ h. held_or size e (f (suc k)) h) (rest (omega arith))

-- one extent more, fewer, or another one in its place
pub changed-one : (size : ℕ) (f g : ℕ → Option Piece) (x : ℕ) → ((j : ℕ) → (j ≡ x → ⊥) → g j ≡ f j) → ((i : ℕ) → held_from size g x i ≡ held_from size f x i)
    → (k e : ℕ) → held_from size g k e ≡ held_from size f k e
changed-one size f g x others here zero e = go (cases_eq 0 x)
  where
    go : (0 ≡ x) ⊎ (0 ≡ x → ⊥) → held_from size g 0 e ≡ held_from size f 0 e
    go (inl is) = subst (λ n. held_from size g n e ≡ held_from size f n e) (sym is) (here e)
    go (inr other) = ap (λ y. held_or size e y None) (others 0 other)
changed-one size f g x others here (suc k) e = go (changed-one size f g x others here k (suc e)) (cases_eq (suc k) x)
  where
    go : held_from size g k (suc e) ≡ held_from size f k (suc e) → (suc k ≡ x) ⊎ (suc k ≡ x → ⊥) → held_from size g (suc k) e ≡ held_from size f (suc k) e
    go rest (inl is) = subst (λ n. held_from size g n e ≡ held_from size f n e) (sym is) (here e)
    go rest (inr other) = ap (λ y. held_or size e y (held_from size g k (suc e))) (others (suc k) other) ∙ ap (λ h. held_or size e (f (suc k)) h) rest

-- a run of blocks that begins with an extent, where none begins within it, and one does at its end
pub record IsRun (f g : ℕ → Option Piece) (a n : ℕ) (p : Piece) : Type 0 where
  pub some : 1 ≤ n
  pub start : g a ≡ Some p
  pub inside : (j : ℕ) → a < j → j < a + n → g j ≡ None
  pub below : (j : ℕ) → j < a → g j ≡ f j
  pub above : (j : ℕ) → a + n ≤ j → g j ≡ f j
  pub end : IsSome (f (a + n))

pub run-inside : (size : ℕ) (f g : ℕ → Option Piece) (a n : ℕ) (p : Piece) → IsRun f g a n p → (i : ℕ) → i < n → held_from size g (a + i) 0 ≡ held_at (filled size p.count p.fill) i
run-inside size f g a n p is i h =
    let same : i + 0 ≡ i = omega arith in
    from-gap size g a i 0 (λ j low high. is.inside j low (omega arith)) ∙ from-start size g a p (i + 0) is.start ∙ ap (λ m. held_at (filled size p.count p.fill) m) same

pub run-below : (size : ℕ) (f g : ℕ → Option Piece) (a n : ℕ) (p : Piece) → IsRun f g a n p → (b : ℕ) → b < a → held_from size g b 0 ≡ held_from size f b 0
run-below size f g a n p is b h = same-below size f g b 0 (λ j low. is.below j (omega arith))

pub run-above : (size : ℕ) (f g : ℕ → Option Piece) (a n : ℕ) (p : Piece) → IsRun f g a n p → (b : ℕ) → a + n ≤ b → held_from size g b 0 ≡ held_from size f b 0
run-above size f g a n p is b h = same-above size f g (a + n) b 0 h is.end (λ j low high. is.above j low)

-- the nearest extent decides
pub from-nearest : (size : ℕ) (f : ℕ → Option Piece) (b k : ℕ) (p : Piece) (i : ℕ) → k ≤ b → f k ≡ Some p → ((j : ℕ) → k < j → j ≤ b → f j ≡ None)
    → held_from size f b i ≡ held_at (filled size p.count p.fill) (b - k + i)
from-nearest size f b k p i low is gap =
    let e : k + (b - k) ≡ b = omega arith in
    let none : (j : ℕ) → k < j → j ≤ k + (b - k) → f j ≡ None = λ j above below. gap j above (omega arith) in
    ap (λ n. held_from size f n i) (sym e) ∙ from-gap size f k (b - k) i none ∙ from-start size f k p (b - k + i) is

-- up to where the next extent begins
pub in-gap : (size : ℕ) (f : ℕ → Option Piece) (block b : ℕ) → block ≤ b → ((j : ℕ) → block < j → j ≤ b → f j ≡ None) → held_from size f b 0 ≡ held_from size f block (b - block)
in-gap size f block b low gap =
    let e : block + (b - block) ≡ b = omega arith in
    let n : b - block + 0 ≡ b - block = omega arith in
    ap (λ k. held_from size f k 0) (sym e) ∙ from-gap size f block (b - block) 0 (λ j above below. gap j above (omega arith)) ∙ ap (λ k. held_from size f block k) n
