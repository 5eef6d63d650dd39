-- How many identifiers a copy uses
use Rattle.std.proofs.Common.{◌≡◌, ℕ, zero, suc, ◌+◌, ◌-◌, ◌*◌, ◌≤◌, ◌<◌, List, [], ◌∷◌, length, ap, arith, inl, inr}
use Rattle.std.specs.Prelude.{◌⊎◌}
use Rattle.std.proofs.lemmas.Bool.{cases_lt}
use Rattle.lba_ranges.specs.declared.ranges.Range.{Range}
use Rattle.lba_ranges.specs.Denoted.{total}
use Rattle.copy_plan.specs.Jobs.{CopyJob, AreExtents}
use Rattle.copy_plan.specs.Plans.{IsLongestRun, extents_between, ranges_between, longest_run, part_limit}
use Rattle.copy_plan.proofs.PublicLaws.{between-empty, between-here, between-past, between-fewer, between-one, total-between}
use Rattle.copy_plan.proofs.PublicLaws.{run-longest}
use Rattle.odx_host.specs.Parts.{parts, parts_from, part_at, place_behind, ranges_at}
use Rattle.odx_host.specs.inner.Steps.{steps_in, writes_to_come, parts_to_come, behind_write}
use Rattle.odx_host.proofs.Coming.{run-some, writes-next, writes-end, parts-next, parts-end, writes-of}

-- ---- the extents of two parts in a row

-- an extent that lies in both is counted twice
pub between-split : (es : List Range) (p q r : ℕ) → p ≤ q → q ≤ r → extents_between es p q + extents_between es q r ≤ suc (extents_between es p r)
between-split [] p q r low high = omega arith
between-split (e ∷ es) p q r low high = go (λ a b c l h. between-split es a b c l h) (cases_lt p q) (cases_lt q r) (cases_lt p e.count) (cases_lt q e.count)
  where
    go : ((a b c : ℕ) → a ≤ b → b ≤ c → extents_between es a b + extents_between es b c ≤ suc (extents_between es a c))
        → ((p < q) ⊎ (q ≤ p)) → ((q < r) ⊎ (r ≤ q)) → ((p < e.count) ⊎ (e.count ≤ p)) → ((q < e.count) ⊎ (e.count ≤ q))
        → extents_between (e ∷ es) p q + extents_between (e ∷ es) q r ≤ suc (extents_between (e ∷ es) p r)
    go later (inr none) _ _ _ = let fewer = between-fewer (e ∷ es) p r q r low (omega arith) in rw (between-empty (e ∷ es) p q none) (omega (arith, fewer))
    go later (inl some) (inr none) _ _ = let fewer = between-fewer (e ∷ es) p r p q (omega arith) high in rw (between-empty (e ∷ es) q r none) (omega (arith, fewer))
    go later (inl some) (inl more) (inl within) (inl inside) =
        let nothing = between-empty es 0 (q - e.count) (omega arith) in
        rw (between-here e es p q within some, between-here e es q r inside more, between-here e es p r within (omega arith), nothing) (omega arith)
    go later (inl some) (inl more) (inl within) (inr past) =
        let rest = later 0 (q - e.count) (r - e.count) (omega arith) (omega arith) in
        rw (between-here e es p q within some, between-past e es q r past, between-here e es p r within (omega arith)) (omega (arith, rest))
    go later (inl some) (inl more) (inr before) (inl inside) = absurd (omega arith)
    go later (inl some) (inl more) (inr before) (inr past) =
        let rest = later (p - e.count) (q - e.count) (r - e.count) (omega arith) (omega arith) in
        rw (between-past e es p q before, between-past e es q r past, between-past e es p r before) (omega (arith, rest))

pub between-joined : (es : List Range) (p q r : ℕ) → p ≤ q → q ≤ r → extents_between es p r ≤ extents_between es p q + extents_between es q r
between-joined [] p q r low high = omega arith
between-joined (e ∷ es) p q r low high = go (λ a b c l h. between-joined es a b c l h) (cases_lt p q) (cases_lt q r) (cases_lt p e.count) (cases_lt q e.count)
  where
    go : ((a b c : ℕ) → a ≤ b → b ≤ c → extents_between es a c ≤ extents_between es a b + extents_between es b c)
        → ((p < q) ⊎ (q ≤ p)) → ((q < r) ⊎ (r ≤ q)) → ((p < e.count) ⊎ (e.count ≤ p)) → ((q < e.count) ⊎ (e.count ≤ q))
        → extents_between (e ∷ es) p r ≤ extents_between (e ∷ es) p q + extents_between (e ∷ es) q r
    go later (inr none) _ _ _ = let fewer = between-fewer (e ∷ es) q r p r (omega arith) (omega arith) in omega (arith, fewer)
    go later (inl some) (inr none) _ _ = let fewer = between-fewer (e ∷ es) p q p r (omega arith) none in omega (arith, fewer)
    go later (inl some) (inl more) (inl within) (inl inside) =
        rw (between-here e es q r inside more, between-here e es p r within (omega arith)) (omega arith)
    go later (inl some) (inl more) (inl within) (inr past) =
        let rest = later 0 (q - e.count) (r - e.count) (omega arith) (omega arith) in
        rw (between-here e es p q within some, between-past e es q r past, between-here e es p r within (omega arith)) (omega (arith, rest))
    go later (inl some) (inl more) (inr before) (inl inside) = absurd (omega arith)
    go later (inl some) (inl more) (inr before) (inr past) =
        let rest = later (p - e.count) (q - e.count) (r - e.count) (omega arith) (omega arith) in
        rw (between-past e es p q before, between-past e es q r past, between-past e es p r before) (omega (arith, rest))

between-all : (es : List Range) (p q : ℕ) → extents_between es p q ≤ length es
between-all [] p q = omega arith
between-all (e ∷ es) p q = go (λ a b. between-all es a b) (cases_lt p q) (cases_lt p e.count)
  where
    go : ((a b : ℕ) → extents_between es a b ≤ length es) → ((p < q) ⊎ (q ≤ p)) → ((p < e.count) ⊎ (e.count ≤ p)) → extents_between (e ∷ es) p q ≤ suc (length es)
    go later (inr none) _ = rw (between-empty (e ∷ es) p q none) (omega arith)
    go later (inl some) (inl within) = let rest = later 0 (q - e.count) in rw (between-here e es p q within some) (omega (arith, rest))
    go later (inl some) (inr past) = let rest = later (p - e.count) (q - e.count) in rw (between-past e es p q past) (omega (arith, rest))

-- some blocks are of an extent
no-blocks : (rs : List Range) → 0 < total rs → 1 ≤ length rs
no-blocks [] some = absurd (omega arith)
no-blocks (r ∷ rs) some = omega arith

between-some : (es : List Range) (p : ℕ) → p < total es → 1 ≤ extents_between es p (total es)
between-some es p some = no-blocks (ranges_between es p (total es)) (let all = total-between es p (total es) in omega (arith, all))

-- a longest run that other blocks follow is of 64 extents, or it has as many blocks as it may
run-full : (es : List Range) (p most n : ℕ) → IsLongestRun es p most n → p + n < total es → n < most → 64 ≤ extents_between es p (p + n)
run-full es p most n run more room = go (cases_lt (extents_between es p (p + n)) 64)
  where
    next : p + suc n ≡ p + n + 1
    next = omega arith

    go : ((extents_between es p (p + n) < 64) ⊎ (64 ≤ extents_between es p (p + n))) → 64 ≤ extents_between es p (p + n)
    go (inr full) = full
    go (inl few) =
        let one = between-one es (p + n) in
        let joined = between-joined es p (p + n) (p + n + 1) (omega arith) (omega arith) in
        let longest = run.longest (suc n) (omega arith) (omega arith) (rw next (omega arith)) in
        absurd (omega arith)

-- ---- the writes of a part

writes-few : (left : ℕ) (to : List Range) (p last : ℕ) → last - p ≤ left → p < last → last ≤ total to
    → length (writes_to_come to p last) + extents_between to last (total to) ≤ extents_between to p (total to) + 1
writes-few zero to p last enough some within = absurd (omega arith)
writes-few (suc left) to p last enough some within = go (cases_lt (behind_write to p last) last) (λ a b. writes-few left to (behind_write to p last) last a b within)
  where
    run : IsLongestRun to p (last - p) (total (longest_run to p (last - p)))
    run = run-longest to p (last - p) (omega arith)

    some_run : 0 < total (longest_run to p (last - p))
    some_run = run-some to p (last - p) (omega arith) (omega arith)

    first : length (writes_to_come to p last) ≡ suc (length (writes_to_come to (behind_write to p last) last))
    first = ap length (writes-next to p last within some)

    go : ((behind_write to p last < last) ⊎ (last ≤ behind_write to p last))
        → (last - behind_write to p last ≤ left → behind_write to p last < last → length (writes_to_come to (behind_write to p last) last) + extents_between to last (total to) ≤ extents_between to (behind_write to p last) (total to) + 1)
        → length (writes_to_come to p last) + extents_between to last (total to) ≤ extents_between to p (total to) + 1
    go (inl more) later =
        let q = behind_write to p last in
        let n = total (longest_run to p (last - p)) in
        let full = run-full to p (last - p) n run (omega arith) (omega arith) in
        let split = between-split to p q (total to) (omega arith) (omega arith) in
        let rest = later (omega (arith, some_run)) more in
        omega (arith, first, full, split, rest)
    go (inr over) later =
        let none : length (writes_to_come to (behind_write to p last) last) ≡ 0 = ap length (writes-end to (behind_write to p last) last over) in
        let fewer = between-fewer to p (total to) last (total to) (omega arith) (omega arith) in
        omega (arith, first, none, fewer)

-- ---- the parts

parts-few : (left : ℕ) (job : CopyJob) (p b : ℕ) → total job.to ≡ total job.from → total job.from - p ≤ left → p ≤ total job.from → total job.from - p ≤ b * 1_048_576
    → steps_in (parts_to_come job p) ≤ 2 * (extents_between job.from p (total job.from) + b) + extents_between job.to p (total job.to)
parts-few zero job p b same enough within blocks =
    let none : steps_in (parts_to_come job p) ≡ 0 = ap steps_in (parts-end job p (omega arith)) in
    omega (arith, none)
parts-few (suc left) job p b same enough within blocks = go (cases_lt p (total job.from)) (λ c x y z. parts-few left job (place_behind job p) c same x y z)
  where
    go : ((p < total job.from) ⊎ (total job.from ≤ p))
        → ((c : ℕ) → total job.from - place_behind job p ≤ left → place_behind job p ≤ total job.from → total job.from - place_behind job p ≤ c * 1_048_576
        → steps_in (parts_to_come job (place_behind job p)) ≤ 2 * (extents_between job.from (place_behind job p) (total job.from) + c) + extents_between job.to (place_behind job p) (total job.to))
        → steps_in (parts_to_come job p) ≤ 2 * (extents_between job.from p (total job.from) + b) + extents_between job.to p (total job.to)
    go (inr over) later = let none : steps_in (parts_to_come job p) ≡ 0 = ap steps_in (parts-end job p over) in omega (arith, none)
    go (inl some) later = by (cases_lt (place_behind job p) (total job.from)) (cases_lt (total (ranges_at job p)) part_limit)
      where
        run : IsLongestRun job.from p part_limit (total (ranges_at job p))
        run = run-longest job.from p part_limit within

        some_run : 0 < total (ranges_at job p)
        some_run = run-some job.from p part_limit some (omega arith)

        first : steps_in (parts_to_come job p) ≡ suc (length (part_at job p).writes) + steps_in (parts_to_come job (place_behind job p))
        first = ap steps_in (parts-next job p some)

        there : place_behind job p ≤ total job.from
        there = run.there

        writes : length (part_at job p).writes + extents_between job.to (place_behind job p) (total job.to) ≤ extents_between job.to p (total job.to) + 1
        writes =
            let few = writes-few (place_behind job p - p) job.to p (place_behind job p) (omega arith) (omega (arith, some_run)) (omega (arith, there, same)) in
            let is = ap length (writes-of job p) in
            omega (arith, few, is)

        by : ((place_behind job p < total job.from) ⊎ (total job.from ≤ place_behind job p)) → ((total (ranges_at job p) < part_limit) ⊎ (part_limit ≤ total (ranges_at job p)))
            → steps_in (parts_to_come job p) ≤ 2 * (extents_between job.from p (total job.from) + b) + extents_between job.to p (total job.to)
        by (inr over) _ =
            let rest = later 0 (omega (arith, over)) there (omega (arith, over)) in
            let one = between-some job.from p some in
            let none : extents_between job.from (place_behind job p) (total job.from) ≡ 0 = ap length (between-empty job.from (place_behind job p) (total job.from) over) in
            omega (arith, first, writes, rest, one, none)
        by (inl more) (inl short) =
            let rest = later b (omega (arith, some_run)) there (omega (arith, blocks, some_run)) in
            let full = run-full job.from p part_limit (total (ranges_at job p)) run more short in
            let split = between-split job.from p (place_behind job p) (total job.from) (omega arith) there in
            omega (arith, first, writes, rest, full, split)
        by (inl more) (inr long) =
            let rest = later (b - 1) (omega (arith, some_run)) there (omega (arith, blocks, long, more)) in
            let fewer = between-fewer job.from p (total job.from) (place_behind job p) (total job.from) (omega arith) (omega arith) in
            omega (arith, first, writes, rest, fewer, blocks, more)

pub steps-few : (job : CopyJob) → AreExtents job.from → AreExtents job.to → total job.from ≤ 4_294_967_296 → total job.to ≡ total job.from
    → steps_in (parts job) ≤ 1_000_000
steps-few job from to few same =
    let all = parts-few (total job.from) job 0 4096 same (omega arith) (omega arith) (omega arith) in
    let sources = between-all job.from 0 (total job.from) in
    let targets = between-all job.to 0 (total job.to) in
    let whole : total job.from - 0 ≡ total job.from = omega arith in
    let is = ap (λ n. steps_in (parts_from n job 0)) whole in
    omega (arith, all, is, sources, targets, from.few, to.few)
