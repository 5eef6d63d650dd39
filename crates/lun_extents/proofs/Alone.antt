-- A run that is set by one extent, where none begins within it and none goes on behind it
use Rattle.std.proofs.Common.{◌≡◌, ℕ, zero, suc, ◌+◌, ◌-◌, ◌<◌, ◌≤◌, ap, sym, ◌∙◌, subst, arith, inl, inr, cond}
use Rattle.std.specs.Prelude.{Option, Some, None, ◌⊎◌}
use Rattle.std.proofs.lemmas.Bool.{cases_lt}
use Rattle.lba_ranges.specs.HeldBlocks.{filled, held_at}
use Rattle.lba_ranges.specs.Denoted.{row}
use Rattle.lba_ranges.specs.Writings.{Held, paired, after, mapped_below, mapped_among}
use Rattle.lba_ranges.specs.declared.fill.Piece.{Piece}
use Rattle.lba_ranges.proofs.PublicLaws.{length-filled}
use Rattle.lba_ranges.specs.declared.fill.Fill.{Fill}
use Rattle.lun_extents.specs.Extents.{held_or, held_from}
use Rattle.lun_extents.specs.inner.Runs.{is_mapped}
use Rattle.lun_extents.proofs.Counting.{set-counted, among-le}
use Rattle.lun_extents.proofs.Nearest.{from-start, from-gap, from-nearest, same-below}
use Rattle.lun_extents.proofs.Places.{held_at-over}
use Rattle.lun_extents.proofs.Written.{row-outside, row-inside}

-- one extent is put, of the blocks from `a` on
pub record IsPut (size : ℕ) (f g : ℕ → Option Piece) (a : ℕ) (p : Piece) : Type 0 where
  pub some : 1 ≤ p.count
  pub start : g a ≡ Some p
  pub others : (j : ℕ) → (j ≡ a → ⊥) → g j ≡ f j
  pub inside : (j : ℕ) → a < j → j < a + p.count → f j ≡ None
  pub ended : (i : ℕ) → held_from size f (a + p.count - 1) (1 + i) ≡ None

put-gap : (size : ℕ) (f g : ℕ → Option Piece) (a : ℕ) (p : Piece) → IsPut size f g a p → (j : ℕ) → a < j → j < a + p.count → g j ≡ None
put-gap size f g a p is j above below = is.others j (omega arith) ∙ is.inside j above below

-- behind its last block nothing goes on, as before
behind : (size : ℕ) (f g : ℕ → Option Piece) (a : ℕ) (p : Piece) → IsPut size f g a p → (d e : ℕ) → 1 ≤ d + e
    → held_from size g (a + p.count - 1 + d) e ≡ held_from size f (a + p.count - 1 + d) e
behind size f g a p is zero e some =
    let one = is.some in
    let m = a + p.count - 1 in
    let at : m + 0 ≡ m = omega arith in
    let long = length-filled size p.count p.fill in
    let more : 1 + (e - 1) ≡ e = omega arith in
    let now : held_from size g m e ≡ None = from-nearest size g m a p e (omega arith) is.start (λ j above below. put-gap size f g a p is j above (omega arith))
    ∙ held_at-over (filled size p.count p.fill) (m - a + e) (omega arith) in
    let was : held_from size f m e ≡ None = ap (λ n. held_from size f m n) (sym more) ∙ is.ended (e - 1) in
    rw at (now ∙ sym was)
behind size f g a p is (suc d) e some =
    let one = is.some in
    let next : a + p.count - 1 + suc d ≡ suc (a + p.count - 1 + d) = omega arith in
    let same : g (suc (a + p.count - 1 + d)) ≡ f (suc (a + p.count - 1 + d)) = is.others (suc (a + p.count - 1 + d)) (omega arith) in
    let rest = behind size f g a p is d (suc e) (omega arith) in
    rw next (ap (λ x. held_or size e x (held_from size g (a + p.count - 1 + d) (suc e))) same ∙ ap (λ h. held_or size e (f (suc (a + p.count - 1 + d))) h) rest)

pub put-held : (size : ℕ) (f g : ℕ → Option Piece) (a : ℕ) (p : Piece) → IsPut size f g a p → (b : ℕ)
    → held_from size g b 0 ≡ after (paired (row a p.count) (filled size p.count p.fill)) b (held_from size f b 0)
put-held size f g a p is b = go (cases_lt b a) (cases_lt b (a + p.count))
  where
    go : (b < a) ⊎ (a ≤ b) → (b < a + p.count) ⊎ (a + p.count ≤ b)
        → held_from size g b 0 ≡ after (paired (row a p.count) (filled size p.count p.fill)) b (held_from size f b 0)
    go (inl low) _ = same-below size f g b 0 (λ j h. is.others j (omega arith)) ∙ sym (row-outside a p.count (filled size p.count p.fill) b (held_from size f b 0) (inl low))
    go (inr _) (inr high) =
        let one = is.some in
        let e : a + p.count - 1 + (b - (a + p.count - 1)) ≡ b = omega arith in
        let past = behind size f g a p is (b - (a + p.count - 1)) 0 (omega arith) in
        rw e at past ∙ sym (row-outside a p.count (filled size p.count p.fill) b (held_from size f b 0) (inr high))
    go (inr from) (inl to) =
        let e : a + (b - a) ≡ b = omega arith in
        let less : b - a < p.count = omega arith in
        let P : ℕ → Type 0 = λ n. held_from size g n 0 ≡ after (paired (row a p.count) (filled size p.count p.fill)) n (held_from size f b 0) in
        subst P e (from-gap size g a (b - a) 0 (λ j above below. put-gap size f g a p is j above (omega arith)) ∙ from-start size g a p (b - a + 0) is.start
        ∙ ap (λ m. held_at (filled size p.count p.fill) m) (let z : b - a + 0 ≡ b - a = omega arith in z)
        ∙ sym (row-inside a p.count (filled size p.count p.fill) (b - a) (held_from size f b 0) (length-filled size p.count p.fill) less))

-- how many blocks are mapped after a run was set
pub record IsCounted (own before now after : ℕ) : Type 0 where
  pub few : before ≤ own
  pub sum : own - before + now ≡ after

pub counted-anew : (n size : ℕ) (f g : ℕ → Held) (lba m : ℕ) (fill : Fill) (own before now : ℕ) → lba + m ≤ n → ((b : ℕ) → g b ≡ after (paired (row lba m) (filled size m fill)) b (f b))
    → own ≡ mapped_below n f → before ≡ mapped_among f (row lba m) → now ≡ cond (is_mapped fill) m 0 → IsCounted own before now (mapped_below n g)
counted-anew n size f g lba m fill own before now h put counts was adds =
    let step = set-counted n size f g lba m fill h put in
    let le = among-le n f lba m h in
    record { few = omega arith; sum = omega arith }
