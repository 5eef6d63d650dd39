-- The entries that were there at the opening of a world
use Rattle.std.proofs.Common.{◌<◌, ◌≤◌, ◌≡◌, ℕ, zero, suc, ◌+◌, List, [], ◌∷◌, ◌++◌, length, take, drop, refl, ap, sym, ◌∙◌, subst, arith, append-nil, length-append}
use Rattle.std.proofs.lemmas.List.{take-append-le}
use mathlib.Core.List.{IsPrefix}
use Rattle.cm_base.specs.Configuration.{Configuration}
use Rattle.cm_history.specs.declared.act.Entry.{Entry}
use Rattle.cm_history.proofs.PublicLaws.{Each}
use Rattle.merged_history.specs.Own.{IsAsked}
use Rattle.unit_gate.specs.SeatActs.{UnitSeat}
use Rattle.nexus.specs.inner.Keeping.{IsOpened}

pub prefix-same : (xs ys : List Entry) → ys ≡ xs → IsPrefix xs ys
prefix-same xs ys same = ([], append-nil xs ∙ sym same)

-- they stay where more was seen
pub opened-longer : (config : Configuration) (before after : UnitSeat) → after.opening ≡ before.opening → IsPrefix before.seen after.seen → IsOpened config before → IsOpened config after
opened-longer config before after opening longer is =
    let long : length before.seen + length longer.0 ≡ length after.seen = sym (length-append before.seen longer.0) ∙ ap length longer.1 in
    let low : before.opening ≤ length before.seen = is.low in
    let same : take after.opening after.seen ≡ take before.opening before.seen =
    ap (λ n. take n after.seen) opening ∙ ap (λ l. take before.opening l) (sym longer.1) ∙ take-append-le before.opening before.seen longer.0 low in
    record { low = omega (arith, opening, long, low); asked = subst (Each (IsAsked config)) (sym same) is.asked }

pub each-parts : (P : Entry → Type 0) (n : ℕ) (xs : List Entry) → Each P (take n xs) → Each P (drop n xs) → Each P xs
each-parts P zero xs front back = back
each-parts P (suc n) [] front back = tt
each-parts P (suc n) (x ∷ xs) front back = (front.0, each-parts P n xs front.1 back)
