-- A generated trace is played to its end, where memory is never refused
use Rattle.std.proofs.Common.{◌≡◌, ℕ, zero, suc, ◌+◌, ◌*◌, ◌≤◌, List, [], ◌∷◌, ◌++◌, length, drop, flat_map, map, All, refl, sym, ap, ◌∙◌, subst, arith, drop_at}
use Rattle.cm_base.specs.declared.parsed.Parsed.TheVariants.{Whole}
use Rattle.cm_frame.specs.declared.item.TraceItem.{TraceItem}
use Rattle.cm_frame.specs.Grammar.{header_bytes, item_bytes, IsItem}
use Rattle.cm_frame.specs.Reading.{read_item}
use Rattle.cm_frame.specs.Laws.{IsReadBack, IsJudged}
use Rattle.cmd_program.specs.Judging.{step}
use Rattle.generator.specs.Settings.{settings}
use Rattle.generator.specs.Generated.{items, generated}
use Rattle.generator.specs.WellFormed.{HeaderIsRead, ItemsFit, TwelveEach, header_length}
use Rattle.trace_replay.specs.Items.{Done, Placed, Trace, led_by, with_item, trace_of, items_limit}
use Rattle.trace_replay.specs.ReplayState.{ReplayState, at_first}
use Rattle.trace_replay.specs.Played.{Played, play, played, played_after, summary_of}
use Rattle.round_counts.specs.Counts.{HasCounts, counts_of}
use Rattle.round_counts.proofs.Commands.{Goes, all-played}
use Rattle.round_counts.proofs.Rounds.{IsWhole, all-go}

-- the item in front, and the trace behind it
pub in-front : (bytes : List ℕ) (item : TraceItem) (used n place : ℕ) → read_item bytes ≡ Whole item used
    → trace_of (suc n) place bytes ≡ with_item place item (trace_of n (place + used) (drop used bytes))
in-front [] item used n place e = absurd (subst IsJudged (sym e) tt)
in-front (b ∷ bs) item used n place e = ap (λ p. led_by place p (λ u. trace_of n (place + u) (drop u (b ∷ bs)))) e

-- the bytes of items are a trace that ends between two items
pub items-end : IsReadBack IsItem item_bytes read_item → (xs : List TraceItem) (n place : ℕ) → All IsItem xs → length xs ≤ n
    → (trace_of n place (flat_map item_bytes xs)).ending ≡ Done
items-end back [] zero place fit few = refl
items-end back [] (suc n) place fit few = refl
items-end back (x ∷ xs) zero place fit few = absurd (omega (arith, few))
items-end back (x ∷ xs) (suc n) place fit few =
    let first = item_bytes x in
    let rest = flat_map item_bytes xs in
    let used = length first in
    ap (λ t. t.ending) (in-front (first ++ rest) x used n place (back x rest (fit 0 x (omega arith))))
    ∙ ap (λ l. (trace_of n (place + used) l).ending) (drop_at first rest used refl)
    ∙ items-end back xs n (place + used) (λ k d h. fit (suc k) d (omega (arith, h))) (omega (arith, few))

-- the items of a trace, without their places
abbrev items_in : List Placed → List TraceItem
items_in xs = map (λ (x : Placed). x.item) xs

-- the bytes of items are a trace of these items
items-read : IsReadBack IsItem item_bytes read_item → (xs : List TraceItem) (n place : ℕ) → All IsItem xs → length xs ≤ n
    → items_in (trace_of n place (flat_map item_bytes xs)).items ≡ xs
items-read back [] zero place fit few = refl
items-read back [] (suc n) place fit few = refl
items-read back (x ∷ xs) zero place fit few = absurd (omega (arith, few))
items-read back (x ∷ xs) (suc n) place fit few =
    let first = item_bytes x in
    let rest = flat_map item_bytes xs in
    let used = length first in
    ap (λ (t : Trace). items_in t.items) (in-front (first ++ rest) x used n place (back x rest (fit 0 x (omega arith))))
    ∙ ap (λ l. x ∷ items_in (trace_of n (place + used) l).items) (drop_at first rest used refl)
    ∙ ap (λ l. x ∷ l) (items-read back xs n (place + used) (λ k d h. fit (suc k) d (omega (arith, h))) (omega (arith, few)))

-- the numbers of what so many rounds come to
whole-counts : (rounds : ℕ) (s : ReplayState) → IsWhole rounds s → summary_of s ≡ counts_of rounds
whole-counts rounds s w =
    let r = w.replies in
    ap (λ n. record (summary_of s) { records = n }) w.items
    ∙ ap (λ n. record (summary_of s) { records = 12 * rounds; replies = n }) r.count
    ∙ ap (λ n. record (summary_of s) { records = 12 * rounds; replies = 5 * rounds; good = n }) r.good
    ∙ ap (λ n. record (summary_of s) { records = 12 * rounds; replies = 5 * rounds; good = 5 * rounds; check = n }) r.check
    ∙ ap (λ n. record (summary_of s) { records = 12 * rounds; replies = 5 * rounds; good = 5 * rounds; check = 0; busy = n }) r.busy
    ∙ ap (λ n. record (summary_of s) { records = 12 * rounds; replies = 5 * rounds; good = 5 * rounds; check = 0; busy = 0; full = n }) r.full
    ∙ ap (λ n. record (summary_of s) { records = 12 * rounds; replies = 5 * rounds; good = 5 * rounds; check = 0; busy = 0; full = 0; steps = n }) w.entries
    ∙ ap (λ n. record (counts_of rounds) { bytes = n }) r.bytes

-- a trace that is played so
record PlaysOut (rounds : ℕ) (p : Played) : Type 0 where
  ends : p.ending ≡ Done
  whole : IsWhole rounds p.state

pub generated-counts : IsReadBack IsItem item_bytes read_item → HeaderIsRead → ItemsFit → TwelveEach → (rounds : ℕ) → rounds ≤ 4096 → HasCounts rounds
generated-counts back header fit twelve rounds few = record { ends = out.ends; counts = whole-counts rounds (played step (generated rounds) []).state out.whole }
  where
    body : List ℕ
    body = flat_map item_bytes (items rounds)

    trace : Trace
    trace = trace_of items_limit header_length (flat_map item_bytes (items rounds))

    all : All IsItem (items rounds)
    all = fit rounds (omega (arith, few))

    short : length (items rounds) ≤ items_limit
    short = omega (arith, twelve rounds, few)

    behind : drop header_length (generated rounds) ≡ flat_map item_bytes (items rounds)
    behind = drop_at (header_bytes settings) (flat_map item_bytes (items rounds)) header_length refl

    same : items_in (trace_of items_limit header_length (flat_map item_bytes (items rounds))).items ≡ items rounds
    same = items-read back (items rounds) items_limit header_length all short

    goes : PlaysOut rounds (play step settings at_first (trace_of items_limit header_length (flat_map item_bytes (items rounds))).items (trace_of items_limit header_length (flat_map item_bytes (items rounds))).ending [])
    goes =
        let p = all-played step settings (IsWhole rounds) at_first (trace_of items_limit header_length (flat_map item_bytes (items rounds))).items
        (trace_of items_limit header_length (flat_map item_bytes (items rounds))).ending (subst (Goes step settings (IsWhole rounds) at_first) (sym same) (all-go rounds few)) in
        record { ends = p.0 ∙ items-end back (items rounds) items_limit header_length all short; whole = p.1 }

    out : PlaysOut rounds (played step (generated rounds) [])
    out =
        subst (λ p. PlaysOut rounds (played_after step p (generated rounds) [])) (sym (header (flat_map item_bytes (items rounds))))
        (subst (λ l. PlaysOut rounds (play step settings at_first (trace_of items_limit header_length l).items (trace_of items_limit header_length l).ending [])) (sym behind) goes)
