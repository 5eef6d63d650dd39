-- A unit without earlier versions
use Rattle.std.proofs.Common.{◌≡◌, ◌∙◌, ◌+◌, ◌<◌, ◌≤◌, ◌^◌, ℕ, zero, suc, List, [], ap, sym, refl, subst, arith}
use Rattle.std.specs.Prelude.{Option, None, is_some}
use Rattle.lba_ranges.specs.Writings.{Held}
use Rattle.lun_versions.specs.declared.pinned.Pinned.{Pinned}
use Rattle.lun_versions.specs.declared.segment.Segment.{Segment}
use Rattle.lba_ranges.specs.Versions.{no_writers}
use Rattle.lun_versions.specs.Chains.{Slot, AreAlike}
use Rattle.lun_versions.specs.inner.Chains.{AllPinned, last_to, mapped_slots, kept_below}
use Rattle.lun_versions.specs.Units.{AreWrittenBy}
use Rattle.lun_versions.specs.inner.Units.{LivesAt}
use Rattle.lun_versions.specs.Segments.{EarlierBlocks, stored, chain_in}
use Rattle.lun_versions.specs.inner.Segments.{AreSegments}
use Rattle.lun_versions.specs.inner.Versioned.{IsSound}
use Rattle.lun_versions.proofs.Unpinned.{none-some, nowhere-chain}

module _ (entries : List (ℕ × Segment)) (none : (b : ℕ) → stored entries b ≡ None) where
  pub no-chain : (b : ℕ) → chain_in entries b ≡ []
  no-chain b = nowhere-chain entries b (λ j low. none j)

  pub no-segments : (blocks size : ℕ) → AreSegments blocks size entries
  no-segments blocks size = record {
    some = λ b s is. absurd (none-some s (sym (none b) ∙ is));
    within = λ b s is. absurd (none-some s (sym (none b) ∙ is));
    apart = λ b s other is. absurd (none-some s (sym (none b) ∙ is));
    full = λ b s k v is. absurd (none-some s (sym (none b) ∙ is));
  }

  pub none-kept : (n : ℕ) → kept_below n (chain_in entries) ≡ 0
  none-kept zero = refl
  none-kept (suc n) = ap (λ (l : List Slot). kept_below n (chain_in entries) + mapped_slots l) (no-chain n) ∙ ap (λ m. m + 0) (none-kept n)

pub empty-sound : (blocks size : ℕ) (own : EarlierBlocks) (pins : ℕ → Option Pinned) → ((b : ℕ) → stored own.entries b ≡ None) → ((pin : ℕ) → pins pin ≡ None) → own.blocks ≡ blocks → own.block_length ≡ size
    → blocks < 2 ^ 64 → IsSound blocks size 0 own pins
empty-sound blocks size own pins none free same-blocks same-length few = record {
  versions = record {
    pinned = λ b. subst (AllPinned (LivesAt pins b) 0) (sym (no-chain own.entries none b)) tt;
    until = λ b. subst (λ (l : List Slot). last_to 0 l ≤ 0) (sym (no-chain own.entries none b)) (omega arith);
    times = λ pin p found. absurd (none-some p (sym (free pin) ∙ found));
    within = λ pin p b found den. absurd (none-some p (sym (free pin) ∙ found));
  };
  even = λ b s pin p place is. absurd (none-some s (sym (none b) ∙ is));
  ranges = λ pin p found. absurd (none-some p (sym (free pin) ∙ found));
  same_blocks = same-blocks;
  same_length = same-length;
  fits = let k = none-kept own.entries none blocks in omega arith;
}

pub empty-written : (blocks : ℕ) (chain : ℕ → List Slot) (holds : ℕ → Held) (pins : ℕ → Option Pinned) → ((b : ℕ) → chain b ≡ []) → ((b : ℕ) → holds b ≡ None) → ((pin : ℕ) → pins pin ≡ None)
    → AreWrittenBy blocks chain holds pins no_writers
empty-written blocks chain holds pins none unmapped free = record {
  puts = λ b. [];
  written = λ b low. record {
    current = sym (ap is_some (unmapped b));
    earlier = subst (λ (l : List Slot). AreAlike l []) (sym (none b)) tt;
    apart = refl;
  };
  shown = λ pin p b found den. absurd (none-some p (sym (free pin) ∙ found));
}
