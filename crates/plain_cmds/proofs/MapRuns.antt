-- What is told of runs
use Rattle.std.proofs.Common.{◌≡◌, ℕ, ◌+◌, ◌*◌, ◌≤◌, List, [], ◌∷◌, ◌++◌, length, take, refl, ap, arith}
use Rattle.std.proofs.lemmas.List.{length-take, take_all}
use Rattle.byteorder.specs.Endian.{big_bytes}
use Rattle.cm_base.specs.Fields.{zeros}
use Rattle.cm_frame.specs.Grammar.{data_limit}
use Rattle.lba_ranges.specs.declared.status.MapRun.{MapRun}
use Rattle.cmd_program.specs.AnswerBytes.{run_bytes, runs_bytes, map_bytes}

-- one more run
pub runs-push : (rs : List MapRun) (r : MapRun) → runs_bytes (rs ++ r ∷ []) ≡ runs_bytes rs ++ run_bytes r
runs-push [] r = refl
runs-push (x ∷ xs) r = ap (λ l. run_bytes x ++ l) (runs-push xs r)

length-runs : (rs : List MapRun) → length (runs_bytes rs) ≡ 16 * length rs
length-runs [] = refl
length-runs (x ∷ xs) = let rest = length-runs xs in omega arith

-- after the last run all are told
pub all-told : (runs : List MapRun) (n : ℕ) → n ≡ length runs
    → big_bytes 4 (4 + 16 * n) ++ zeros 4 ++ runs_bytes (take n runs) ≡ map_bytes runs
all-told runs n is =
    let whole : take n runs ≡ runs = take_all n runs (omega arith) in
    let each = length-runs runs in
    let long : 4 + 16 * n ≡ length (zeros 4 ++ runs_bytes runs) = omega (arith, each) in
    rw whole (ap (λ k. big_bytes 4 k ++ zeros 4 ++ runs_bytes runs) long)

-- so many runs fit into one reply
pub map-short : (allocation : ℕ) (runs : List MapRun) → length runs ≤ 64 → length (take allocation (map_bytes runs)) ≤ data_limit
map-short allocation runs few =
    let each = length-runs runs in
    let all : length (map_bytes runs) ≡ 8 + 16 * length runs = omega (arith, each) in
    let part = length-take allocation (map_bytes runs) in
    omega (arith, all, part)
