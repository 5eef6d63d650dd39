-- A unit after a put or a clear
use Rattle.std.proofs.Common.{◌≡◌, ◌∙◌, ◌+◌, ◌-◌, ◌<◌, ◌≤◌, ◌^◌, ℕ, zero, suc, List, [], ◌∷◌, ◌++◌, length, ap, sym, refl, subst, arith, inl, inr, true, false}
use Rattle.std.specs.Prelude.{Option, Some, slice_get, ◌⊎◌, ◌||◌, ◌==◌}
use Rattle.std.specs.List.{list_any}
use Rattle.std.proofs.lemmas.Bool.{cases_lt, cases_eq}
use Rattle.std.proofs.lemmas.Bool.Decides.{nat_tests}
use Rattle.std.proofs.lemmas.List.Folds.{list_any-append}
use Rattle.lba_ranges.specs.declared.ranges.Range.{Range}
use Rattle.lba_ranges.specs.Denoted.{row, blocks_of, covers, denotes}
use Rattle.lba_ranges.specs.HeldBlocks.{held_at}
use Rattle.lba_ranges.specs.Writings.{Held, Writing, paired, unmapped, after, is_written}
use Rattle.lun_versions.specs.declared.pinned.Pinned.{Pinned}
use Rattle.lun_versions.specs.declared.earlier.Part.{Part}
use Rattle.lba_ranges.specs.Versions.{Writers}
use Rattle.lun_versions.specs.Chains.{Slot, AreWritten, put_at}
use Rattle.lun_versions.specs.inner.Chains.{AllPinned, last_to, kept_below}
use Rattle.lun_versions.specs.Units.{AreWrittenBy}
use Rattle.lun_versions.specs.inner.Units.{LivesAt, AreVersions, IsKeptOver, IsOverwritten}
use Rattle.lun_versions.specs.Segments.{EarlierBlocks, slot_of, slots_of, chain_in}
use Rattle.lun_versions.specs.inner.Segments.{AreSegments, AreEven}
use Rattle.lun_versions.specs.inner.Adding.{IsReady}
use Rattle.lun_versions.specs.inner.Planned.{with_part, with_parts, is_row, InParts, ArePlanned, StayChains}
use Rattle.lun_versions.specs.inner.Versioned.{IsSound}
use Rattle.lun_versions.proofs.Given.{some-is}
use Rattle.lun_versions.proofs.Chained.{clash}
use Rattle.lun_versions.proofs.Nearest.{in-segment, kept-alike}
use Rattle.lun_versions.proofs.Unpinned.{none-some, last-place}
use Rattle.lun_versions.proofs.Planning.{part-in, part-out}
use Rattle.lun_versions.proofs.Plans.{bool-same, row-is, row-true}
use Rattle.lun_versions.proofs.Writing.{IsEvenPart, part-kept, written-sound}

-- ---- planning changes no version

pub stay-versions : (blocks made : ℕ) (f g : ℕ → List Slot) (pins : ℕ → Option Pinned) → ((b : ℕ) → g b ≡ f b) → AreVersions blocks made f pins → AreVersions blocks made g pins
stay-versions blocks made f g pins same are = record {
  pinned = λ b. subst (AllPinned (LivesAt pins b) 0) (sym (same b)) (are.pinned b);
  until = λ b. subst (λ (l : List Slot). last_to 0 l ≤ made) (sym (same b)) (are.until b);
  times = are.times;
  within = are.within;
}

pub stay-sound : (blocks size made : ℕ) (earlier new : EarlierBlocks) (pins : ℕ → Option Pinned) → IsSound blocks size made earlier pins → StayChains pins earlier new → IsSound blocks size made new pins
stay-sound blocks size made earlier new pins is stay = record {
  versions = stay-versions blocks made (chain_in earlier.entries) (chain_in new.entries) pins stay.chains is.versions;
  even = stay.even (λ pin p found. (is.versions.times pin p found).0) is.even;
  ranges = is.ranges;
  same_blocks = stay.blocks ∙ is.same_blocks;
  same_length = stay.length_is ∙ is.same_length;
  fits = let e = kept-alike blocks (chain_in earlier.entries) (chain_in new.entries) stay.chains in let f = is.fits in omega arith;
}

pub stay-written : (blocks : ℕ) (f g : ℕ → List Slot) (holds now : ℕ → Held) (pins : ℕ → Option Pinned) (w : Writers) → ((b : ℕ) → g b ≡ f b) → ((b : ℕ) → now b ≡ holds b)
    → AreWrittenBy blocks f holds pins w → AreWrittenBy blocks g now pins w
stay-written blocks f g holds now pins w chains same by = record {
  puts = by.puts;
  written = λ b low. subst (λ (l : List Slot). AreWritten l (now b) (w.now b) (by.puts b)) (sym (chains b))
      (subst (λ (h : Held). AreWritten (f b) h (w.now b) (by.puts b)) (sym (same b)) (by.written b low));
  shown = λ pin p b found denoted. by.shown pin p b found denoted ∙ ap (λ (l : List Slot). put_at l (by.puts b) p.time (w.now b)) (sym (chains b));
}

-- ---- which blocks are written

row-there : (l m b : ℕ) → list_any (λ a. a == b) (row l m) ≡ true → is_row l (l + m) b ≡ true
row-there l zero b h = absurd (clash (sym h))
row-there l (suc m) b h = go (cases_eq l b) (row-there (suc l) m b)
  where
    go : (l ≡ b) ⊎ (l ≡ b → ⊥) → (list_any (λ a. a == b) (row (suc l) m) ≡ true → is_row (suc l) (suc l + m) b ≡ true) → is_row l (l + suc m) b ≡ true
    go (inl e) ih = row-true l (l + suc m) b (omega arith) (omega arith)
    go (inr d) ih =
        let away : (l == b) ≡ false = grind (arith, nat_tests) in
        let i = row-is (suc l) (suc l + m) b (ih (sym (ap (λ t. t || list_any (λ a. a == b) (row (suc l) m)) away) ∙ h)) in
        let low = i.0 in
        let high = i.1 in
        row-true l (l + suc m) b (omega arith) (omega arith)

row-back : (l m b : ℕ) → l ≤ b → b < l + m → list_any (λ a. a == b) (row l m) ≡ true
row-back l zero b low high = absurd (omega arith)
row-back l (suc m) b low high = go (cases_eq l b) (λ p q. row-back (suc l) m b p q)
  where
    go : (l ≡ b) ⊎ (l ≡ b → ⊥) → (suc l ≤ b → b < suc l + m → list_any (λ a. a == b) (row (suc l) m) ≡ true) → ((l == b) || list_any (λ a. a == b) (row (suc l) m)) ≡ true
    go (inl e) ih = let here : (l == b) ≡ true = grind (arith, nat_tests) in ap (λ t. t || list_any (λ a. a == b) (row (suc l) m)) here
    go (inr d) ih =
        let away : (l == b) ≡ false = grind (arith, nat_tests) in
        ap (λ t. t || list_any (λ a. a == b) (row (suc l) m)) away ∙ ih (omega arith) (omega arith)

row-any : (lba n b : ℕ) → list_any (λ a. a == b) (row lba n) ≡ is_row lba (lba + n) b
row-any lba n b = bool-same (list_any (λ a. a == b) (row lba n)) (is_row lba (lba + n) b) (row-there lba n b) (λ h. let i = row-is lba (lba + n) b h in row-back lba n b i.0 i.1)

blocks-any : (rs : List Range) (b : ℕ) → list_any (λ a. a == b) (blocks_of rs) ≡ denotes rs b
blocks-any [] b = refl
blocks-any (r ∷ rs) b =
    list_any-append (λ a. a == b) (row r.lba r.count) (blocks_of rs)
    ∙ ap (λ t. t || list_any (λ a. a == b) (blocks_of rs)) (row-any r.lba r.count b)
    ∙ ap (λ t. covers b r || t) (blocks-any rs b)

paired-any : (bs : List ℕ) (xs : List Held) (b : ℕ) → length bs ≡ length xs → is_written (paired bs xs) b ≡ list_any (λ a. a == b) bs
paired-any [] xs b h = refl
paired-any (a ∷ bs) [] b h = absurd (omega arith)
paired-any (a ∷ bs) (x ∷ xs) b h = ap (λ t. (a == b) || t) (paired-any bs xs b (omega arith))

unmapped-any : (bs : List ℕ) (b : ℕ) → is_written (unmapped bs) b ≡ list_any (λ a. a == b) bs
unmapped-any [] b = refl
unmapped-any (a ∷ bs) b = ap (λ t. (a == b) || t) (unmapped-any bs b)

pub put-writes : (rs : List Range) (xs : List Held) (b : ℕ) → length (blocks_of rs) ≡ length xs → is_written (paired (blocks_of rs) xs) b ≡ denotes rs b
put-writes rs xs b h = paired-any (blocks_of rs) xs b h ∙ blocks-any rs b

pub clear-writes : (rs : List Range) (b : ℕ) → is_written (unmapped (blocks_of rs)) b ≡ denotes rs b
clear-writes rs b = unmapped-any (blocks_of rs) b ∙ blocks-any rs b

-- ---- the parts of a block

pub parts-none : (ps : List Part) (chain : ℕ → List Slot) (b : ℕ) → ((k : ℕ) (p : Part) → slice_get ps k ≡ Some p → (b < p.first) ⊎ (p.first + length p.version.list.items ≤ b)) → with_parts ps chain b ≡ chain b
parts-none [] chain b out = refl
parts-none (p ∷ ps) chain b out = parts-none ps (with_part p chain) b (λ k q got. out (suc k) q got) ∙ part-out p chain b (out 0 p refl)

pub parts-one : (ps : List Part) (chain : ℕ → List Slot) (b k : ℕ) (p : Part) → slice_get ps k ≡ Some p → p.first ≤ b → b < p.first + length p.version.list.items
    → ((j : ℕ) (q : Part) → slice_get ps j ≡ Some q → (j ≡ k → ⊥) → (b < q.first) ⊎ (q.first + length q.version.list.items ≤ b))
    → with_parts ps chain b ≡ chain b ++ slot_of (b - p.first) p.version ∷ []
parts-one [] chain b k p got low high out = absurd (none-some p got)
parts-one (q ∷ ps) chain b zero p got low high out =
    let e : q ≡ p = some-is q p got in
    parts-none ps (with_part q chain) b (λ k r there. out (suc k) r there (λ h. absurd (omega arith)))
    ∙ ap (λ (x : Part). with_part x chain b) e
    ∙ part-in p chain b low high
parts-one (q ∷ ps) chain b (suc k) p got low high out =
    parts-one ps (with_part q chain) b k p got low high (λ j r there d. out (suc j) r there (λ h. d (omega arith)))
    ∙ ap (λ (l : List Slot). l ++ slot_of (b - p.first) p.version ∷ []) (part-out q chain b (out 0 q refl (λ h. absurd (omega arith))))

in-or-out : (ps : List Part) (b : ℕ) → InParts ps b ⊎ ((k : ℕ) (p : Part) → slice_get ps k ≡ Some p → (b < p.first) ⊎ (p.first + length p.version.list.items ≤ b))
in-or-out [] b = inr (λ k p got. absurd (none-some p got))
in-or-out (q ∷ ps) b = go (cases_lt b q.first) (cases_lt b (q.first + length q.version.list.items)) (in-or-out ps b)
  where
    more : (b < q.first) ⊎ (q.first + length q.version.list.items ≤ b) → InParts ps b ⊎ ((k : ℕ) (p : Part) → slice_get ps k ≡ Some p → (b < p.first) ⊎ (p.first + length p.version.list.items ≤ b))
        → InParts (q ∷ ps) b ⊎ ((k : ℕ) (p : Part) → slice_get (q ∷ ps) k ≡ Some p → (b < p.first) ⊎ (p.first + length p.version.list.items ≤ b))
    more here (inl i) = inl (record { index = suc i.index; part = i.part; found = i.found; low = i.low; high = i.high })
    more here (inr out) = inr all
      where
        all : (k : ℕ) (p : Part) → slice_get (q ∷ ps) k ≡ Some p → (b < p.first) ⊎ (p.first + length p.version.list.items ≤ b)
        all zero p got = subst (λ (x : Part). (b < x.first) ⊎ (x.first + length x.version.list.items ≤ b)) (some-is q p got) here
        all (suc k) p got = out k p got

    go : (b < q.first) ⊎ (q.first ≤ b) → (b < q.first + length q.version.list.items) ⊎ (q.first + length q.version.list.items ≤ b)
        → InParts ps b ⊎ ((k : ℕ) (p : Part) → slice_get ps k ≡ Some p → (b < p.first) ⊎ (p.first + length p.version.list.items ≤ b))
        → InParts (q ∷ ps) b ⊎ ((k : ℕ) (p : Part) → slice_get (q ∷ ps) k ≡ Some p → (b < p.first) ⊎ (p.first + length p.version.list.items ≤ b))
    go (inr low) (inl high) _ = inl (record { index = 0; part = q; found = refl; low = low; high = high })
    go (inl before) _ rest = more (inl before) rest
    go (inr _) (inr past) rest = more (inr past) rest

-- ---- the versions of the parts were added

module _ (blocks size made : ℕ) (earlier new : EarlierBlocks) (pins : ℕ → Option Pinned) (holds : ℕ → Held) (ws : List Writing) (ranges : List Range) (parts : List Part)
    (is : IsSound blocks size made earlier pins)
    (segments : AreSegments earlier.blocks earlier.block_length earlier.entries)
    (planned : ArePlanned size made earlier.entries pins holds (denotes ranges) parts)
    (wrote : (b : ℕ) → is_written ws b ≡ denotes ranges b)
    (chains : (b : ℕ) → chain_in new.entries b ≡ with_parts parts (chain_in earlier.entries) b) where
  alone : (b : ℕ) (i : InParts parts b) (j : ℕ) (q : Part) → slice_get parts j ≡ Some q → (j ≡ i.index → ⊥) → (b < q.first) ⊎ (q.first + length q.version.list.items ≤ b)
  alone b i j q got d = go (cases_lt b q.first) (cases_lt b (q.first + length q.version.list.items)) (cases_lt i.part.first q.first) (cases_lt q.first i.part.first)
    where
      r : IsReady size earlier.entries q.first q.version
      r = planned.ready.ready j q got

      s : IsReady size earlier.entries i.part.first i.part.version
      s = planned.ready.ready i.index i.part i.found

      go : (b < q.first) ⊎ (q.first ≤ b) → (b < q.first + length q.version.list.items) ⊎ (q.first + length q.version.list.items ≤ b) → (i.part.first < q.first) ⊎ (q.first ≤ i.part.first)
          → (q.first < i.part.first) ⊎ (i.part.first ≤ q.first) → (b < q.first) ⊎ (q.first + length q.version.list.items ≤ b)
      go (inl e) _ _ _ = inl e
      go (inr _) (inr e) _ _ = inr e
      go (inr low) (inl high) (inl after) _ =
          let n = s.long in
          let top = i.high in
          absurd (none-some r.segment (sym (segments.apart i.part.first s.segment q.first s.found after (omega arith)) ∙ r.found))
      go (inr low) (inl high) (inr _) (inl before) =
          let n = r.long in
          let top = i.low in
          absurd (none-some s.segment (sym (segments.apart q.first r.segment i.part.first r.found before (omega arith)) ∙ s.found))
      go (inr low) (inl high) (inr a) (inr c) = absurd (d (planned.ready.apart j i.index q i.part got i.found (omega arith)))

  even-part : (b : ℕ) (i : InParts parts b) → IsEvenPart pins (chain_in earlier.entries) i.part.first (i.part.first + length i.part.version.list.items) (last_to 0 (chain_in earlier.entries i.part.first))
  even-part b i = record { last_is = last-is; even = even }
    where
      r : IsReady size earlier.entries i.part.first i.part.version
      r = planned.ready.ready i.index i.part i.found

      slots : (x : ℕ) → i.part.first ≤ x → x < i.part.first + length i.part.version.list.items → chain_in earlier.entries x ≡ slots_of (x - i.part.first) r.segment.versions.items
      slots x low high =
          let n = r.long in
          let e : x ≡ i.part.first + (x - i.part.first) = omega arith in
          ap (chain_in earlier.entries) e ∙ in-segment earlier.blocks earlier.block_length earlier.entries i.part.first (x - i.part.first) r.segment segments r.found (omega arith)

      some : i.part.first < i.part.first + length i.part.version.list.items
      some = let low = i.low in let high = i.high in omega arith

      first : last_to 0 (chain_in earlier.entries i.part.first) ≡ last_to 0 (slots_of 0 r.segment.versions.items)
      first = ap (last_to 0) (slots i.part.first (omega arith) some) ∙ last-place 0 (i.part.first - i.part.first) 0 r.segment.versions.items

      last-is : (x : ℕ) → i.part.first ≤ x → x < i.part.first + length i.part.version.list.items → last_to 0 (chain_in earlier.entries x) ≡ last_to 0 (chain_in earlier.entries i.part.first)
      last-is x low high = ap (last_to 0) (slots x low high) ∙ last-place 0 (x - i.part.first) 0 r.segment.versions.items ∙ sym first

      even : (pin : ℕ) (p : Pinned) (x : ℕ) → pins pin ≡ Some p → last_to 0 (chain_in earlier.entries i.part.first) < p.time → i.part.first ≤ x → x < i.part.first + length i.part.version.list.items
          → denotes p.ranges x ≡ denotes p.ranges i.part.first
      even pin p x lives old low high =
          let n = r.long in
          let f = first in
          let e : x ≡ i.part.first + (x - i.part.first) = omega arith in
          ap (denotes p.ranges) e ∙ (planned.even i.index i.part i.found).even r.segment pin p (x - i.part.first) r.found lives (omega arith) (omega arith)

  kept-in : (b : ℕ) → InParts parts b → IsKeptOver (LivesAt pins b) made (chain_in earlier.entries b) (holds b) (chain_in new.entries b)
  kept-in b i =
      let p = planned.planned i.index i.part i.found in
      let low = i.low in
      let high = i.high in
      let e : i.part.first + (b - i.part.first) ≡ b = omega arith in
      part-kept blocks made pins (chain_in earlier.entries) (chain_in new.entries) holds i.part.first (i.part.first + length i.part.version.list.items) (last_to 0 (chain_in earlier.entries i.part.first)) b
      is.versions (even-part b i) p.newer i.low i.high
      (chains b ∙ parts-one parts (chain_in earlier.entries) b i.index i.part i.found i.low i.high (alone b i)
      ∙ ap (λ t. chain_in earlier.entries b ++ record { to = t; held = held_at i.part.version.list.items (b - i.part.first) } ∷ []) p.to
      ∙ ap (λ (h : Held). chain_in earlier.entries b ++ record { to = made; held = h } ∷ []) (p.held (b - i.part.first) (omega arith) ∙ ap holds e))

  pub kept-over : (b : ℕ) → is_written ws b ≡ true → IsOverwritten (LivesAt pins b) made (chain_in earlier.entries b) (holds b) (chain_in new.entries b)
  kept-over b written = go (in-or-out parts b)
    where
      pick : ((k : ℕ) (p : Part) → slice_get parts k ≡ Some p → (b < p.first) ⊎ (p.first + length p.version.list.items ≤ b)) → InParts parts b ⊎ ((time : ℕ) → LivesAt pins b time → time ≤ last_to 0 (chain_in earlier.entries b))
          → IsOverwritten (LivesAt pins b) made (chain_in earlier.entries b) (holds b) (chain_in new.entries b)
      pick out (inl i) = inl (kept-in b i)
      pick out (inr none) = inr (record { same = chains b ∙ parts-none parts (chain_in earlier.entries) b out; none = none })

      go : InParts parts b ⊎ ((k : ℕ) (p : Part) → slice_get parts k ≡ Some p → (b < p.first) ⊎ (p.first + length p.version.list.items ≤ b))
          → IsOverwritten (LivesAt pins b) made (chain_in earlier.entries b) (holds b) (chain_in new.entries b)
      go (inl i) = inl (kept-in b i)
      go (inr out) = pick out (planned.rest b (sym (wrote b) ∙ written))

  pub kept-others : (b : ℕ) → is_written ws b ≡ false → chain_in new.entries b ≡ chain_in earlier.entries b
  kept-others b other = go (in-or-out parts b)
    where
      go : InParts parts b ⊎ ((k : ℕ) (p : Part) → slice_get parts k ≡ Some p → (b < p.first) ⊎ (p.first + length p.version.list.items ≤ b)) → chain_in new.entries b ≡ chain_in earlier.entries b
      go (inl i) = absurd (clash (sym (planned.inside i.index i.part b i.found i.low i.high) ∙ sym (wrote b) ∙ other))
      go (inr out) = chains b ∙ parts-none parts (chain_in earlier.entries) b out

  pub kept-sound : AreEven pins new.entries → new.blocks ≡ earlier.blocks → new.block_length ≡ earlier.block_length → kept_below blocks (chain_in new.entries) + blocks < 2 ^ 64 → IsSound blocks size made new pins
  kept-sound = written-sound blocks size made earlier new pins ws holds is kept-over kept-others
