-- A unit whose pin has ended, and one with a pin more
use Rattle.std.proofs.Common.{◌≡◌, ℕ, zero, suc, ◌+◌, ◌<◌, ◌≤◌, List, [], ◌∷◌, refl, ap, sym, ◌∙◌, subst, arith, inl, inr, Bool, true, false, leb}
use Rattle.std.specs.Prelude.{Option, Some, None, is_some, ◌⊎◌, ◌||◌, ◌&&◌}
use Rattle.std.proofs.lemmas.Bool.{cases_eq}
use Rattle.std.proofs.lemmas.Bool.Decides.{nat_tests}
use Rattle.lba_ranges.specs.declared.ranges.Range.{Range}
use Rattle.lba_ranges.specs.Denoted.{is_within, is_overlapping, covers, denotes}
use Rattle.lun_versions.specs.declared.segment.Segment.{Segment}
use Rattle.lun_versions.specs.declared.pinned.Pinned.{Pinned}
use Rattle.lba_ranges.specs.Writings.{Held}
use Rattle.lba_ranges.specs.Versions.{Writers, with_pin}
use Rattle.lun_versions.specs.Chains.{Slot, shown_at}
use Rattle.lun_versions.specs.inner.Chains.{last_to, mapped_slots, kept_below}
use Rattle.lun_versions.specs.Units.{AreWrittenBy}
use Rattle.lun_versions.specs.inner.Units.{LivesAt, IsUnpinned}
use Rattle.lun_versions.specs.Segments.{stored, slots_of, chain_in, EarlierBlocks}
use Rattle.lun_versions.specs.inner.Segments.{AreSegments, AreEven, AreFewer}
use Rattle.lun_versions.specs.inner.GivenUp.{AreEnded}
use Rattle.lun_versions.specs.inner.Versioned.{IsSound}
use Rattle.lun_versions.proofs.Listed.{cases}
use Rattle.lun_versions.proofs.Given.{some-is}
use Rattle.lun_versions.proofs.Chained.{clash, mapped-given_up}
use Rattle.lun_versions.proofs.Nearest.{in-segment}
use Rattle.lun_versions.proofs.Changes.{ended-versions, ended-shown, ended-by, pinned-versions, pinned-shown, pinned-by}
use Rattle.lun_versions.proofs.Unpinned.{covered-unpinned, beside-unpinned, even-given, even-fewer}

none-some : {X : Type 0} (x : X) → None ≡ Some x → ⊥
none-some x e = clash (sym (ap is_some e))

kept-le : (n : ℕ) (f g : ℕ → List Slot) → ((b : ℕ) → mapped_slots (g b) ≤ mapped_slots (f b)) → kept_below n g ≤ kept_below n f
kept-le zero f g less = omega arith
kept-le (suc n) f g less = let ih = kept-le n f g less in let here = less n in omega arith

module _ (blocks size made pin : ℕ) (ended : Pinned) (earlier new : EarlierBlocks) (pins left : ℕ → Option Pinned) (given : List (ℕ × Segment))
    (is : IsSound blocks size made earlier pins)
    (segments : AreSegments earlier.blocks earlier.block_length earlier.entries)
    (was : pins pin ≡ Some ended)
    (gone : left pin ≡ None)
    (rest : (other : ℕ) → (other ≡ pin → ⊥) → left other ≡ pins other)
    (gave : AreEnded (λ first. LivesAt left first) ended.time ended.ranges earlier.entries given)
    (fewer : AreFewer given new.entries)
    (same-blocks : new.blocks ≡ earlier.blocks)
    (same-length : new.block_length ≡ earlier.block_length) where
  was-live : (other : ℕ) (p : Pinned) → left other ≡ Some p → pins other ≡ Some p
  was-live other p found = sym (rest other (λ e. none-some p (sym gone ∙ ap left (sym e) ∙ found))) ∙ found

  even-left : AreEven left earlier.entries
  even-left first s other p place found lives old low = is.even first s other p place found (was-live other p lives) old low

  even-ended : (first : ℕ) (s : Segment) (place : ℕ) → stored earlier.entries first ≡ Some s → ended.time ≤ last_to 0 (slots_of 0 s.versions.items) → place < s.count
      → denotes ended.ranges (first + place) ≡ denotes ended.ranges first
  even-ended first s place found old low = is.even first s pin ended place found was old low

  some : 0 < ended.time
  some = (is.versions.times pin ended was).0

  over : (b : ℕ) → denotes ended.ranges b ≡ true → IsUnpinned (LivesAt left b) ended.time (chain_in earlier.entries b) (chain_in new.entries b)
  over b cover =
      subst (λ l. IsUnpinned (LivesAt left b) ended.time (chain_in earlier.entries b) l) (sym (fewer.chains b))
      (covered-unpinned earlier.blocks earlier.block_length earlier.entries given pins left ended segments is.versions.pinned even-left even-ended some gave b cover)

  others : (b : ℕ) → denotes ended.ranges b ≡ false → chain_in new.entries b ≡ chain_in earlier.entries b
  others b beside =
      fewer.chains b ∙ beside-unpinned earlier.blocks earlier.block_length earlier.entries given pins left ended segments is.versions.pinned even-left even-ended some gave b beside

  less : (b : ℕ) → mapped_slots (chain_in new.entries b) ≤ mapped_slots (chain_in earlier.entries b)
  less b = go (cases (denotes ended.ranges b))
    where
      unpinned : IsUnpinned (LivesAt left b) ended.time (chain_in earlier.entries b) (chain_in new.entries b) → mapped_slots (chain_in new.entries b) ≤ mapped_slots (chain_in earlier.entries b)
      unpinned (inl e) =
          let same = ap mapped_slots e.fewer in
          let count = mapped-given_up (chain_in earlier.entries b) ended.time in
          omega arith
      unpinned (inr (inl e)) = let same = ap mapped_slots e.same in omega arith
      unpinned (inr (inr e)) = let same = ap mapped_slots e.same in omega arith

      go : (denotes ended.ranges b ≡ true) ⊎ (denotes ended.ranges b ≡ false) → mapped_slots (chain_in new.entries b) ≤ mapped_slots (chain_in earlier.entries b)
      go (inl cover) = unpinned (over b cover)
      go (inr beside) = let same = ap mapped_slots (others b beside) in omega arith

  pub ended-sound : IsSound blocks size made new left
  ended-sound = record {
    versions = ended-versions blocks made pin ended (chain_in earlier.entries) (chain_in new.entries) (λ _. None) pins left is.versions was gone rest over others;
    even = even-fewer left given new.entries fewer (even-given earlier.blocks earlier.block_length earlier.entries given pins left ended segments is.versions.pinned even-left even-ended some gave);
    ranges = λ other p found. is.ranges other p (was-live other p found);
    same_blocks = same-blocks ∙ is.same_blocks;
    same_length = same-length ∙ is.same_length;
    fits = let fits = is.fits in let small = kept-le blocks (chain_in earlier.entries) (chain_in new.entries) less in omega arith;
  }

  pub ended-shows : (holds : ℕ → Held) (other : ℕ) (p : Pinned) (block : ℕ) → left other ≡ Some p → denotes p.ranges block ≡ true
      → shown_at (chain_in new.entries block) p.time (holds block) ≡ shown_at (chain_in earlier.entries block) p.time (holds block)
  ended-shows holds = ended-shown blocks made pin ended (chain_in earlier.entries) (chain_in new.entries) holds pins left is.versions was gone rest over others

  pub ended-written : (holds : ℕ → Held) (w : Writers) → AreWrittenBy blocks (chain_in earlier.entries) holds pins w → AreWrittenBy blocks (chain_in new.entries) holds left w
  ended-written holds w by = ended-by blocks made pin ended (chain_in earlier.entries) (chain_in new.entries) holds pins left is.versions was gone rest over others w by

-- ---- a pin more

pub denotes-within : (blocks : ℕ) (rs : List Range) (b : ℕ) → is_within blocks rs ≡ true → denotes rs b ≡ true → b < blocks
denotes-within blocks [] b within is = absurd (clash (sym is))
denotes-within blocks (r ∷ rs) b within is = go (cases (covers b r)) (denotes-within blocks rs b)
  where
    head : (x y : Bool) → (x && y) ≡ true → x ≡ true
    head true y h = refl
    head false y h = h

    tail : (x y : Bool) → (x && y) ≡ true → y ≡ true
    tail true y h = h
    tail false y h = absurd (clash (sym h))

    go : (covers b r ≡ true) ⊎ (covers b r ≡ false) → (is_within blocks rs ≡ true → denotes rs b ≡ true → b < blocks) → b < blocks
    go (inl here) ih = let fits = head (leb (r.lba + r.count) blocks) (is_within blocks rs) within in grind (arith, nat_tests)
    go (inr away) ih = ih (tail (leb (r.lba + r.count) blocks) (is_within blocks rs) within) (ap (λ t. t || denotes rs b) (sym away) ∙ is)

module _ (blocks size made pin : ℕ) (earlier : EarlierBlocks) (pins next : ℕ → Option Pinned) (ranges : List Range)
    (is : IsSound blocks size made earlier pins)
    (segments : AreSegments earlier.blocks earlier.block_length earlier.entries)
    (vacant : pins pin ≡ None)
    (added : next pin ≡ Some (record { time = made + 1; ranges = ranges }))
    (others : (other : ℕ) → (other ≡ pin → ⊥) → next other ≡ pins other)
    (fits : is_within blocks ranges ≡ true)
    (apart : is_overlapping ranges ≡ false) where
  within : (block : ℕ) → denotes ranges block ≡ true → block < blocks
  within block = denotes-within blocks ranges block fits

  even : AreEven next earlier.entries
  even first s other p place found lives old low = go (cases_eq other pin)
    where
      go : (other ≡ pin) ⊎ (other ≡ pin → ⊥) → denotes p.ranges (first + place) ≡ denotes p.ranges first
      go (inr d) = is.even first s other p place found (sym (others other d) ∙ lives) old low
      go (inl e) =
          let time = ap (λ (q : Pinned). q.time) (some-is (record { time = made + 1; ranges = ranges }) p (sym added ∙ ap next (sym e) ∙ lives)) in
          let count = segments.some first s found in
          let zero-place : first + 0 ≡ first = omega arith in
          let chain = ap (chain_in earlier.entries) (sym zero-place) ∙ in-segment earlier.blocks earlier.block_length earlier.entries first 0 s segments found (omega arith) in
          let last = ap (last_to 0) chain in
          let until = is.versions.until first in
          absurd (omega arith)

  pub added-sound : IsSound blocks size (made + 1) earlier next
  added-sound = record {
    versions = pinned-versions blocks made pin (chain_in earlier.entries) (λ _. None) pins next ranges is.versions vacant added others within;
    even = even;
    ranges = ranges-in;
    same_blocks = is.same_blocks;
    same_length = is.same_length;
    fits = is.fits;
  }
    where
      ranges-in : (other : ℕ) (p : Pinned) → next other ≡ Some p → (is_within blocks p.ranges ≡ true) × (is_overlapping p.ranges ≡ false)
      ranges-in other p lives = go (cases_eq other pin)
        where
          go : (other ≡ pin) ⊎ (other ≡ pin → ⊥) → (is_within blocks p.ranges ≡ true) × (is_overlapping p.ranges ≡ false)
          go (inr d) = is.ranges other p (sym (others other d) ∙ lives)
          go (inl e) =
              let same = ap (λ (q : Pinned). q.ranges) (some-is (record { time = made + 1; ranges = ranges }) p (sym added ∙ ap next (sym e) ∙ lives)) in
              (ap (is_within blocks) (sym same) ∙ fits, ap is_overlapping (sym same) ∙ apart)

  pub added-shows : (holds : ℕ → Held) (block : ℕ) → shown_at (chain_in earlier.entries block) (made + 1) (holds block) ≡ holds block
  added-shows holds = pinned-shown blocks made pin (chain_in earlier.entries) holds pins next ranges is.versions vacant added others within

  pub added-written : (holds : ℕ → Held) (w : Writers) → AreWrittenBy blocks (chain_in earlier.entries) holds pins w → AreWrittenBy blocks (chain_in earlier.entries) holds next (with_pin pin w)
  added-written holds w by = pinned-by blocks made pin (chain_in earlier.entries) holds pins next ranges is.versions vacant added others within w by
