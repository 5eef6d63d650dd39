-- Which blocks are mapped, in runs
use Rattle.std.specs.Prelude.{ℕ, zero, suc, ◌+◌, ◌-◌, List, [], ◌∷◌, min, is_some, Bool, if◌then◌else◌}
use Rattle.std.specs.Bool.{beq}
use Rattle.lba_ranges.specs.declared.status.MapRun.{MapRun}
use Rattle.lba_ranges.specs.Writings.{Held}

-- runs that are told at once
abbrev pub told_runs : ℕ
told_runs = 64

-- blocks of the longest run
abbrev pub run_blocks : ℕ
run_blocks = 4_294_967_295

-- how many of the next `room` blocks in a row are mapped, or in a row are unmapped
abbrev pub run_length : (ℕ → Held) → Bool → ℕ → ℕ → ℕ
run_length held kind block zero = 0
run_length held kind block (suc room) = if beq (is_some (held block)) kind then suc (run_length held kind (suc block) room) else 0

-- the first `n` runs of the `left` blocks from `block` on, none longer than 4,294,967,295 blocks
abbrev pub map_runs : (ℕ → Held) → ℕ → ℕ → ℕ → List MapRun
map_runs held zero block left = []
map_runs held (suc n) block zero = []
map_runs held (suc n) block (suc left) =
    let count = run_length held (is_some (held block)) block (min (suc left) run_blocks) in
    record { lba = block; count = count; mapped = is_some (held block) } ∷ map_runs held n (block + count) (suc left - count)
