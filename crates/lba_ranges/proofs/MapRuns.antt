-- A run that is as long as may be is the one that is told
use Rattle.std.proofs.Common.{◌≡◌, ℕ, zero, suc, ◌+◌, ◌-◌, ◌<◌, ◌≤◌, List, [], ◌∷◌, ◌++◌, length, refl, ap, sym, ◌∙◌, arith, true, false, Bool, min, inl, inr, append_assoc, length-append}
use Rattle.std.specs.Prelude.{is_some, ◌≢◌, ◌⊎◌}
use Rattle.std.specs.Bool.{beq}
use Rattle.lba_ranges.specs.declared.status.MapRun.{MapRun}
use Rattle.lba_ranges.specs.Status.{run_blocks, run_length, map_runs}
use Rattle.lba_ranges.specs.inner.Status.{IsRun}
use Rattle.lba_ranges.specs.Writings.{Held}

beq-same : (a : Bool) → beq a a ≡ true
beq-same true = refl
beq-same false = refl

beq-other : (a b : Bool) → (a ≡ b → ⊥) → beq a b ≡ false
beq-other true true e = absurd (e refl)
beq-other false false e = absurd (e refl)
beq-other true false e = refl
beq-other false true e = refl

pub run_length-is : (held : ℕ → Held) (kind : Bool) (block room c : ℕ) → c ≤ room → ((k : ℕ) → k < c → is_some (held (block + k)) ≡ kind)
    → (c ≢ room → is_some (held (block + c)) ≢ kind) → run_length held kind block room ≡ c
run_length-is held kind block zero zero fits alike ends = refl
run_length-is held kind block zero (suc c) fits alike ends = absurd (omega arith)
run_length-is held kind block (suc room) zero fits alike ends =
    let here : block + 0 ≡ block = omega arith in
    let other : is_some (held block) ≡ kind → ⊥ = λ e. ends (λ same. absurd (omega arith)) (ap (λ b. is_some (held b)) here ∙ e) in
    let test : beq (is_some (held block)) kind ≡ false = beq-other _ _ other in
    rw test refl
run_length-is held kind block (suc room) (suc c) fits alike ends =
    let here : block + 0 ≡ block = omega arith in
    let same : is_some (held block) ≡ kind = sym (ap (λ b. is_some (held b)) here) ∙ alike 0 (omega arith) in
    let test : beq (is_some (held block)) kind ≡ true = ap (λ b. beq b kind) same ∙ beq-same kind in
    let rest : run_length held kind (suc block) room ≡ c =
    run_length-is held kind (suc block) room c (omega arith)
    (λ k h. let next : suc block + k ≡ block + suc k = omega arith in ap (λ b. is_some (held b)) next ∙ alike (suc k) (omega arith))
    (λ differ e. let next : suc block + c ≡ block + suc c = omega arith in ends (λ s. differ (omega arith)) (sym (ap (λ b. is_some (held b)) next) ∙ e)) in
    rw test (ap suc rest)

-- the first run, and those after it
pub runs-is : (held : ℕ → Held) (n block left : ℕ) (run : MapRun) → IsRun held block (suc left) run
    → map_runs held (suc n) block (suc left) ≡ run ∷ map_runs held n (block + run.count) (suc left - run.count)
runs-is held n block left run is =
    let here : block + 0 ≡ block = omega arith in
    let kind : is_some (held block) ≡ run.mapped = sym (ap (λ b. is_some (held b)) here) ∙ is.alike 0 is.some in
    let count : run_length held (is_some (held block)) block (min (suc left) run_blocks) ≡ run.count =
    ap (λ k. run_length held k block (min (suc left) run_blocks)) kind
    ∙ run_length-is held run.mapped block (min (suc left) run_blocks) run.count is.fits is.alike is.ends in
    ap (λ c. record { lba = block; count = c; mapped = is_some (held block) } ∷ map_runs held n (block + c) (suc left - c)) count
    ∙ ap (λ m. record { lba = block; count = run.count; mapped = m } ∷ map_runs held n (block + run.count) (suc left - run.count)) kind
    ∙ ap (λ b. record { lba = b; count = run.count; mapped = run.mapped } ∷ map_runs held n (block + run.count) (suc left - run.count)) (sym is.starts)

-- the first run, and those after it
pub runs-more : (held : ℕ → Held) (n block left : ℕ) (run : MapRun) → 0 < n → 0 < left → IsRun held block left run
    → map_runs held n block left ≡ run ∷ map_runs held (n - 1) (block + run.count) (left - run.count)
runs-more held zero block left run some more is = absurd (omega arith)
runs-more held (suc n) block zero run some more is = absurd (omega arith)
runs-more held (suc n) block (suc left) run some more is =
    let e : suc n - 1 ≡ n = omega arith in
    rw e (runs-is held n block left run is)

-- no block, or no run, is left
pub runs-done : (held : ℕ → Held) (n block left : ℕ) → (n ≡ 0) ⊎ (left ≡ 0) → map_runs held n block left ≡ []
runs-done held n block left (inl e) = rw e refl
runs-done held zero block left (inr e) = refl
runs-done held (suc n) block left (inr e) = rw e refl

-- one more run that was found
pub runs-step : (held : ℕ → Held) (found : List MapRun) (all : List MapRun) (block blocks : ℕ) (run : MapRun) → length found < 64 → block < blocks → IsRun held block (blocks - block) run
    → found ++ map_runs held (64 - length found) block (blocks - block) ≡ all
    → ((found ++ run ∷ []) ++ map_runs held (64 - length (found ++ run ∷ [])) (block + run.count) (blocks - (block + run.count)) ≡ all)
    × (block + run.count ≤ blocks) × (length (found ++ run ∷ []) ≤ 64)
runs-step held found all block blocks run few low is so_far =
    let long = length-append found (run ∷ []) in
    let fits = is.fits in
    let next = runs-more held (64 - length found) block (blocks - block) run (omega arith) (omega arith) is in
    let n : 64 - length (found ++ run ∷ []) ≡ 64 - length found - 1 = omega arith in
    let left : blocks - (block + run.count) ≡ blocks - block - run.count = omega arith in (
      rw (n, left) (append_assoc found (run ∷ []) _ ∙ ap (λ l. found ++ l) (sym next) ∙ so_far),
      omega arith,
      omega arith,
    )
