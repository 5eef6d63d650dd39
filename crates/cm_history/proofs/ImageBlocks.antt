-- Blocks that two functions hold alike
use Rattle.std.proofs.Common.{◌≡◌, ℕ, zero, suc, ◌+◌, ◌-◌, ◌<◌, ◌≤◌, List, [], ◌∷◌, ◌++◌, refl, ap, sym, ◌∙◌, arith, true, false, Bool, min, inl, inr}
use Rattle.std.specs.Prelude.{◌⊎◌, map, nat_le, nat_lt, ◌&&◌, is_some, if◌then◌else◌}
use Rattle.std.specs.Bool.{beq}
use Rattle.std.proofs.lemmas.Bool.{cases_lt}
use Rattle.std.proofs.lemmas.Bool.Decides.{nat_tests}
use Rattle.cm_base.specs.declared.config.UnitConfig.{UnitConfig}
use Rattle.lba_ranges.specs.declared.ranges.Range.{Range}
use Rattle.lba_ranges.specs.Denoted.{row, blocks_of, is_within}
use Rattle.lba_ranges.specs.Writings.{Held, Writing, after}
use Rattle.lba_ranges.proofs.PublicLaws.{mapped-same}
use Rattle.cm_history.specs.Blocks.{cut, mapped_with}
use Rattle.cm_history.specs.declared.answer.Answer.{Answer}
use Rattle.scsi_sense.specs.Codes.{lba_out_of_range}
use Rattle.lba_ranges.specs.Status.{told_runs, run_blocks, run_length, map_runs}
use Rattle.cm_history.specs.Answers.{answer_read, answer_write, answer_status, put_at}
use Rattle.cm_history.proofs.Imaging.{now_of}
use Rattle.cm_history.proofs.Finding.{map-append}

-- the first n blocks hold the same
abbrev pub SameBelow : ℕ → (ℕ → Held) → (ℕ → Held) → Type 0
SameBelow n f g = (b : ℕ) → b < n → f b ≡ g b

now-of-row : (f : ℕ → Held) (first n b : ℕ) → b < n → now_of (map f (row first n)) b ≡ f (first + b)
now-of-row f first zero b low = absurd (omega arith)
now-of-row f first (suc n) zero low = let e : first + 0 ≡ first = omega arith in rw e refl
now-of-row f first (suc n) (suc b) low =
    let e : first + suc b ≡ suc first + b = omega arith in
    now-of-row f (suc first) n b (omega arith) ∙ ap f (sym e)

-- a list of what the first n blocks hold shows them
pub now-is : (f : ℕ → Held) (n : ℕ) → SameBelow n (now_of (map f (row 0 n))) f
now-is f n b low = now-of-row f 0 n b low ∙ (let e : 0 + b ≡ b = omega arith in ap f e)

pub map-row : (n lba count : ℕ) (f g : ℕ → Held) → SameBelow n f g → lba + count ≤ n → map f (row lba count) ≡ map g (row lba count)
map-row n lba zero f g same h = refl
map-row n lba (suc count) f g same h = rw (same lba (omega arith), map-row n (suc lba) count f g same (omega arith)) refl

pub read-same : (unit : UnitConfig) (f g : ℕ → Held) (lba count : ℕ) → SameBelow unit.blocks f g → answer_read unit f lba count ≡ answer_read unit g lba count
read-same unit f g lba count same = go (cases_lt unit.blocks (lba + count))
  where
    go : (unit.blocks < lba + count) ⊎ (lba + count ≤ unit.blocks) → answer_read unit f lba count ≡ answer_read unit g lba count
    go (inl high) = let no : nat_le (lba + count) unit.blocks ≡ false = grind (arith, nat_tests) in rw no refl
    go (inr fits) = rw (map-row unit.blocks lba count f g same fits) refl

pub mapped-with-same : (unit : UnitConfig) (f g : ℕ → Held) (ws : List Writing) → SameBelow unit.blocks f g → mapped_with unit f ws ≡ mapped_with unit g ws
mapped-with-same unit f g ws same = mapped-same unit.blocks (λ b. after ws b (f b)) (λ b. after ws b (g b)) (λ b h. ap (after ws b) (same b h))

pub write-same : (unit : UnitConfig) (f g : ℕ → Held) (lba : ℕ) (items : List Held) → SameBelow unit.blocks f g → answer_write unit f lba items ≡ answer_write unit g lba items
write-same unit f g lba items same = rw (mapped-with-same unit f g (put_at lba items) same) refl

-- ---- runs

abbrev Alike : (f g : ℕ → Held) → ℕ → ℕ → Type 0
Alike f g block n = (b : ℕ) → block ≤ b → b < block + n → f b ≡ g b

run_length-same : (f g : ℕ → Held) (kind : Bool) (block room : ℕ) → Alike f g block room → run_length f kind block room ≡ run_length g kind block room
run_length-same f g kind block zero same = refl
run_length-same f g kind block (suc room) same =
    let here : f block ≡ g block = same block (omega arith) (omega arith) in
    let rest = run_length-same f g kind (suc block) room (λ b low high. same b (omega arith) (omega arith)) in
    rw (here, rest) refl

run_length-le : (f : ℕ → Held) (kind : Bool) (block room : ℕ) → run_length f kind block room ≤ room
run_length-le f kind block zero = omega arith
run_length-le f kind block (suc room) = go (beq (is_some (f block)) kind) (run_length-le f kind (suc block) room)
  where
    go : (t : Bool) → run_length f kind (suc block) room ≤ room → (if t then suc (run_length f kind (suc block) room) else 0) ≤ suc room
    go true h = omega arith
    go false h = omega arith

runs-same : (f g : ℕ → Held) (n block left : ℕ) → Alike f g block left → map_runs f n block left ≡ map_runs g n block left
runs-same f g zero block left same = refl
runs-same f g (suc n) block zero same = refl
runs-same f g (suc n) block (suc left) same =
    let here : f block ≡ g block = same block (omega arith) (omega arith) in
    let room = min (suc left) run_blocks in
    let kind = is_some (f block) in
    let count = run_length f kind block room in
    let few : count ≤ room = run_length-le f kind block room in
    let counts : run_length f kind block room ≡ run_length g kind block room = run_length-same f g kind block room (λ b low high. same b low (omega arith)) in
    let later : map_runs f n (block + count) (suc left - count) ≡ map_runs g n (block + count) (suc left - count) =
    runs-same f g n (block + count) (suc left - count) (λ b low high. same b (omega arith) (omega arith)) in
    ap (λ l. record { lba = block; count = count; mapped = kind } ∷ l) later
    ∙ ap (λ c. record { lba = block; count = c; mapped = kind } ∷ map_runs g n (block + c) (suc left - c)) counts
    ∙ ap (λ (h : Held). record { lba = block; count = run_length g (is_some h) block room; mapped = is_some h }
    ∷ map_runs g n (block + run_length g (is_some h) block room) (suc left - run_length g (is_some h) block room)) here

pub status-same : (unit : UnitConfig) (f g : ℕ → Held) (lba : ℕ) → SameBelow unit.blocks f g → answer_status unit f lba ≡ answer_status unit g lba
status-same unit f g lba same = go (cases_lt lba unit.blocks)
  where
    go : (lba < unit.blocks) ⊎ (unit.blocks ≤ lba) → answer_status unit f lba ≡ answer_status unit g lba
    go (inl low) =
        let alike : map_runs f told_runs lba (unit.blocks - lba) ≡ map_runs g told_runs lba (unit.blocks - lba) =
        runs-same f g told_runs lba (unit.blocks - lba) (λ b from to. same b (omega arith)) in
        ap (λ l. if nat_lt lba unit.blocks then Answer.Status l else Answer.Refused lba_out_of_range) alike
    go (inr high) = let no' : nat_lt lba unit.blocks ≡ false = grind (arith, nat_tests) in rw no' refl

-- ---- what ranges within the unit hold

pub both : (a b : Bool) → (a && b) ≡ true → (a ≡ true) × (b ≡ true)
both true b e = (refl, e)
both false b e = cc

pub map-blocks : (n : ℕ) (ranges : List Range) (f g : ℕ → Held) → SameBelow n f g → is_within n ranges ≡ true → map f (blocks_of ranges) ≡ map g (blocks_of ranges)
map-blocks n [] f g same h = refl
map-blocks n (r ∷ rs) f g same h =
    let two = both (nat_le (r.lba + r.count) n) (is_within n rs) h in
    let fits : r.lba + r.count ≤ n = (let t = two.0 in grind (arith, nat_tests)) in
    map-append f (row r.lba r.count) (blocks_of rs)
    ∙ ap (λ l. l ++ map f (blocks_of rs)) (map-row n r.lba r.count f g same fits)
    ∙ ap (λ l. map g (row r.lba r.count) ++ l) (map-blocks n rs f g same two.1)
    ∙ sym (map-append g (row r.lba r.count) (blocks_of rs))

pub cut-same : (unit : UnitConfig) (ranges : List Range) (f g : ℕ → Held) → SameBelow unit.blocks f g → is_within unit.blocks ranges ≡ true
    → cut unit f (blocks_of ranges) ≡ cut unit g (blocks_of ranges)
cut-same unit ranges f g same h = rw (map-blocks unit.blocks ranges f g same h) refl
