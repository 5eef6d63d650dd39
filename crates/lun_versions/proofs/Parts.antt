-- Parts of blocks that a pin shows alike
use Rattle.std.proofs.Common.{◌≡◌, ◌∙◌, ◌+◌, ◌-◌, ◌<◌, ◌≤◌, ℕ, zero, suc, List, [], ◌∷◌, ◌++◌, length, ap, sym, refl, arith, inl, inr, append_assoc}
use Rattle.std.proofs.lemmas.List.{map-append}
use Rattle.lba_ranges.specs.Denoted.{row}
use Rattle.lun_extents.proofs.PublicLaws.{row-append}
use Rattle.std.specs.Prelude.{Option, Some, None, map, IfSome, IfNone, ◌⊎◌}
use Rattle.std.proofs.lemmas.Bool.{cases_lt}
use Rattle.lba_ranges.specs.HeldBlocks.{HeldBlocks, held_at}
use Rattle.lba_ranges.specs.Writings.{Held}
use Rattle.lun_versions.specs.declared.segment.Segment.{Segment}
use Rattle.lun_versions.specs.Chains.{Slot, shown_at}
use Rattle.lun_versions.specs.inner.Chains.{last_to}
use Rattle.lun_versions.specs.Segments.{stored, slots_of, chain_in}
use Rattle.lun_versions.specs.inner.Segments.{AreSegments}
use Rattle.lun_versions.specs.inner.ShownParts.{ShowsEarlierOf, ShowsCurrentOf, ShowsEarlier, ShowsCurrent}
use Rattle.lun_versions.proofs.Nearest.{in-segment, beyond}
use Rattle.lun_versions.proofs.Unpinned.{near-chain}

-- the nearest segment at the blocks
pub record IsNearest (entries : List (ℕ × Segment)) (first at end : ℕ) (s : Segment) : Type 0 where
  pub low : first ≤ at
  pub found : stored entries first ≡ Some s
  pub above : (j : ℕ) → first < j → j ≤ at → stored entries j ≡ None
  pub gap : (j : ℕ) → at < j → j < end → stored entries j ≡ None

pub earlier-part : (blocks size : ℕ) (entries : List (ℕ × Segment)) (first at bound end time : ℕ) (s : Segment) (list : HeldBlocks) → AreSegments blocks size entries → IsNearest entries first at bound s
    → at < end → ShowsEarlierOf s (at - first) (end - at) time list → ShowsEarlier size (chain_in entries) at end time list
earlier-part blocks size entries first at bound end time s list are is some shows = record {
  size_is = shows.size size (λ k v got. are.full first s k v is.found got);
  length_is = shows.length_is;
  shown = λ block now from to.
      let low = is.low in
      let within = shows.within in
      let e : first + (at - first + (block - at)) ≡ block = omega arith in
      ap (λ b. shown_at (chain_in entries b) time now) (sym e)
      ∙ ap (λ l. shown_at l time now) (in-segment blocks size entries first (at - first + (block - at)) s are is.found (omega arith))
      ∙ shows.shown (block - at) now (omega arith);
}

pub current-part : (blocks size : ℕ) (entries : List (ℕ × Segment)) (first at bound end time : ℕ) (s : Segment) → AreSegments blocks size entries → IsNearest entries first at bound s
    → end ≤ bound → ShowsCurrentOf s (at - first) (end - at) time → ShowsCurrent (chain_in entries) at end time
current-part blocks size entries first at bound end time s are is short shows block now from to = go (cases_lt (block - first) s.count)
  where
    gap : (j : ℕ) → first < j → j ≤ block → stored entries j ≡ None
    gap j above below = pick (cases_lt at j)
      where
        pick : (at < j) ⊎ (j ≤ at) → stored entries j ≡ None
        pick (inl high) = is.gap j high (omega arith)
        pick (inr low) = is.above j above low

    go : (block - first < s.count) ⊎ (s.count ≤ block - first) → shown_at (chain_in entries block) time now ≡ now
    go (inl inside) =
        let low = is.low in
        let e : first + (at - first + (block - at)) ≡ block = omega arith in
        ap (λ b. shown_at (chain_in entries b) time now) (sym e)
        ∙ ap (λ l. shown_at l time now) (in-segment blocks size entries first (at - first + (block - at)) s are is.found (omega arith))
        ∙ shows.shown (block - at) now (omega arith) (omega arith)
    go (inr out) =
        let low = is.low in
        ap (λ l. shown_at l time now) (near-chain entries block first s (omega arith) is.found gap ∙ beyond (block - first) s.count (slots_of (block - first) s.versions.items) [] out)

pub earlier-parts : (blocks size : ℕ) (entries : List (ℕ × Segment)) (first at bound end time : ℕ) (s : Segment) (earlier : Option HeldBlocks) → AreSegments blocks size entries → IsNearest entries first at bound s
    → at < end → IfSome earlier (λ list. ShowsEarlierOf s (at - first) (end - at) time list) → IfSome earlier (λ list. ShowsEarlier size (chain_in entries) at end time list)
earlier-parts blocks size entries first at bound end time s None are is some shows = shows
earlier-parts blocks size entries first at bound end time s (Some list) are is some shows = earlier-part blocks size entries first at bound end time s list are is some shows

pub current-parts : (blocks size : ℕ) (entries : List (ℕ × Segment)) (first at bound end time : ℕ) (s : Segment) (earlier : Option HeldBlocks) → AreSegments blocks size entries → IsNearest entries first at bound s
    → end ≤ bound → IfNone earlier (ShowsCurrentOf s (at - first) (end - at) time) → IfNone earlier (ShowsCurrent (chain_in entries) at end time)
current-parts blocks size entries first at bound end time s None are is short shows = current-part blocks size entries first at bound end time s are is short shows
current-parts blocks size entries first at bound end time s (Some list) are is short shows = shows

pub no-start : (entries : List (ℕ × Segment)) (at end block : ℕ) → ((j : ℕ) → j ≤ at → stored entries j ≡ None) → ((j : ℕ) → at < j → j < end → stored entries j ≡ None)
    → block < end → (j : ℕ) → j ≤ block → stored entries j ≡ None
no-start entries at end block low high below j within = go (cases_lt at j)
  where
    go : (at < j) ⊎ (j ≤ at) → stored entries j ≡ None
    go (inl above) = high j above (omega arith)
    go (inr under) = low j under

-- ---- the blocks of a row, one by one

pub row-read : (f : ℕ → Held) (at : ℕ) (items : List Held) → ((i : ℕ) → i < length items → f (at + i) ≡ held_at items i) → items ≡ map f (row at (length items))
row-read f at [] same = refl
row-read f at (x ∷ xs) same =
    let here : f at ≡ x = ap f (omega arith) ∙ same 0 (omega arith) in
    let ih = row-read f (suc at) xs (λ i low. let e : suc at + i ≡ at + suc i = omega arith in ap f e ∙ same (suc i) (omega arith)) in
    ap (λ y. y ∷ xs) (sym here) ∙ ap (λ l. f at ∷ l) ih

pub row-same : (f g : ℕ → Held) (at n : ℕ) → ((i : ℕ) → i < n → f (at + i) ≡ g (at + i)) → map f (row at n) ≡ map g (row at n)
row-same f g at zero same = refl
row-same f g at (suc n) same =
    let e : at ≡ at + 0 = omega arith in
    let here : f at ≡ g at = ap f e ∙ same 0 (omega arith) ∙ ap g (sym e) in
    let ih = row-same f g (suc at) n (λ i low. let e : suc at + i ≡ at + suc i = omega arith in ap f e ∙ same (suc i) (omega arith) ∙ ap g (sym e)) in
    ap (λ y. y ∷ map f (row (suc at) n)) here ∙ ap (λ l. g at ∷ l) ih

pub earlier-row : (size : ℕ) (chain : ℕ → List Slot) (holds : ℕ → Held) (at end time : ℕ) (list : HeldBlocks) → at < end → ShowsEarlier size chain at end time list
    → list.items ≡ map (λ block. shown_at (chain block) time (holds block)) (row at (length list.items))
earlier-row size chain holds at end time list some shows =
    let long = shows.length_is in
    row-read (λ block. shown_at (chain block) time (holds block)) at list.items
    (λ i low. shows.shown (at + i) (holds (at + i)) (omega arith) (omega arith) ∙ ap (held_at list.items) (omega arith))

pub current-row : (chain : ℕ → List Slot) (holds : ℕ → Held) (at end time n : ℕ) → n ≡ end - at → ShowsCurrent chain at end time
    → map holds (row at n) ≡ map (λ block. shown_at (chain block) time (holds block)) (row at n)
current-row chain holds at end time n e shows =
    row-same holds (λ block. shown_at (chain block) time (holds block)) at n (λ i low. sym (shows (at + i) (holds (at + i)) (omega arith) (omega arith)))

pub length-map-row : (f : ℕ → Held) (at n : ℕ) → length (map f (row at n)) ≡ n
length-map-row f at zero = refl
length-map-row f at (suc n) = ap suc (length-map-row f (suc at) n)

-- a part more
pub rows-more : (f : ℕ → Held) (lba at n : ℕ) (was items shown : List Held) → lba ≤ at → items ≡ was ++ map f (row lba (at - lba)) → shown ≡ map f (row at n)
    → items ++ shown ≡ was ++ map f (row lba (at + n - lba))
rows-more f lba at n was items shown low before more =
    let count : at + n - lba ≡ (at - lba) + n = omega arith in
    let start : lba + (at - lba) ≡ at = omega arith in
    ap (λ l. l ++ shown) before
    ∙ append_assoc was (map f (row lba (at - lba))) shown
    ∙ ap (λ l. was ++ (map f (row lba (at - lba)) ++ l)) (more ∙ ap (λ k. map f (row k n)) (sym start))
    ∙ ap (λ l. was ++ l) (sym (map-append f (row lba (at - lba)) (row (lba + (at - lba)) n)) ∙ ap (map f) (sym (row-append lba (at - lba) n)) ∙ ap (λ k. map f (row lba k)) (sym count))

-- ---- when the blocks of a run were last changed

pub run-last : (blocks size : ℕ) (entries : List (ℕ × Segment)) (first at bound end last : ℕ) (s : Segment) → AreSegments blocks size entries → IsNearest entries first at bound s → end ≤ bound
    → ((place : ℕ) → at - first < s.count → last_to 0 (slots_of place s.versions.items) ≡ last) → (at - first < s.count → end ≤ first + s.count) → (s.count ≤ at - first → last ≡ 0)
    → (block : ℕ) → at ≤ block → block < end → last_to 0 (chain_in entries block) ≡ last
run-last blocks size entries first at bound end last s are is short same inside past block from to = go (cases_lt (at - first) s.count)
  where
    gap : (j : ℕ) → first < j → j ≤ block → stored entries j ≡ None
    gap j above below = pick (cases_lt at j)
      where
        pick : (at < j) ⊎ (j ≤ at) → stored entries j ≡ None
        pick (inl high) = is.gap j high (omega arith)
        pick (inr low) = is.above j above low

    go : (at - first < s.count) ⊎ (s.count ≤ at - first) → last_to 0 (chain_in entries block) ≡ last
    go (inl within) =
        let low = is.low in
        let end-is = inside within in
        let e : first + (at - first + (block - at)) ≡ block = omega arith in
        ap (λ b. last_to 0 (chain_in entries b)) (sym e)
        ∙ ap (last_to 0) (in-segment blocks size entries first (at - first + (block - at)) s are is.found (omega arith))
        ∙ same (at - first + (block - at)) within
    go (inr out) =
        let low = is.low in
        ap (last_to 0) (near-chain entries block first s (omega arith) is.found gap ∙ beyond (block - first) s.count (slots_of (block - first) s.versions.items) [] (omega arith))
        ∙ sym (past out)
