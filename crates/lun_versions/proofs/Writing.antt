-- What a put or a clear has to leave, part by part and as a whole
use Rattle.std.proofs.Common.{◌≡◌, ◌∙◌, ◌+◌, ◌<◌, ◌≤◌, ◌^◌, ℕ, List, [], ◌∷◌, ◌++◌, sym, arith, true, false, inl, inr}
use Rattle.std.specs.Prelude.{Option, Some, ◌⊎◌}
use Rattle.std.proofs.lemmas.Bool.{cases_lt}
use Rattle.lba_ranges.specs.Writings.{Held, Writing, is_written}
use Rattle.lun_versions.specs.declared.pinned.Pinned.{Pinned}
use Rattle.lba_ranges.specs.Denoted.{denotes}
use Rattle.lun_versions.specs.Chains.{Slot}
use Rattle.lun_versions.specs.inner.Chains.{last_to, kept_below}
use Rattle.lun_versions.specs.inner.Units.{LivesAt, NewerPin, AreVersions, IsKeptOver, IsLetGo, IsOverwritten}
use Rattle.lun_versions.specs.Segments.{EarlierBlocks, chain_in}
use Rattle.lun_versions.specs.inner.Segments.{AreEven}
use Rattle.lun_versions.specs.inner.Versioned.{IsSound}
use Rattle.lun_versions.proofs.Changes.{written-versions}

-- a part whose blocks were last changed together, on which the newer pins are even
pub record IsEvenPart (pins : ℕ → Option Pinned) (chain : ℕ → List Slot) (at end last : ℕ) : Type 0 where
  pub last_is : (b : ℕ) → at ≤ b → b < end → last_to 0 (chain b) ≡ last
  pub even : (pin : ℕ) (p : Pinned) (b : ℕ) → pins pin ≡ Some p → last < p.time → at ≤ b → b < end → denotes p.ranges b ≡ denotes p.ranges at

-- one of them covers it: what its blocks hold is kept
pub part-kept : (blocks made : ℕ) (pins : ℕ → Option Pinned) (chain next : ℕ → List Slot) (holds : ℕ → Held) (at end last b : ℕ) → AreVersions blocks made chain pins → IsEvenPart pins chain at end last
    → NewerPin pins at last → at ≤ b → b < end → next b ≡ chain b ++ record { to = made; held = holds b } ∷ [] → IsKeptOver (LivesAt pins b) made (chain b) (holds b) (next b)
part-kept blocks made pins chain next holds at end last b are is newer from to more = record {
  more = more;
  pin = let l = newer.lives in
      let same = l.same in
      let new = newer.newer in
      let last-is = is.last_is b from to in
      let times = (are.times l.pin l.is l.found).1 in record {
        time = newer.time;
        lives = record { pin = l.pin; is = l.is; found = l.found; denoted = is.even l.pin l.is b l.found (omega arith) from to ∙ l.denoted; same = l.same };
        newer = omega arith;
        until = omega arith;
      };
}

-- none does: it is let go
pub part-let_go : (pins : ℕ → Option Pinned) (chain next : ℕ → List Slot) (at end last b : ℕ) → IsEvenPart pins chain at end last → ((time : ℕ) → LivesAt pins at time → time ≤ last)
    → at ≤ b → b < end → next b ≡ chain b → IsLetGo (LivesAt pins b) (chain b) (next b)
part-let_go pins chain next at end last b is bare from to same = record { same = same; none = none }
  where
    none : (time : ℕ) → LivesAt pins b time → time ≤ last_to 0 (chain b)
    none time l = go (cases_lt last time)
      where
        go : (last < time) ⊎ (time ≤ last) → time ≤ last_to 0 (chain b)
        go (inr old) = let last-is = is.last_is b from to in omega arith
        go (inl new) =
            let time-is = l.same in
            let there = bare time (record { pin = l.pin; is = l.is; found = l.found; denoted = sym (is.even l.pin l.is b l.found (omega arith) from to) ∙ l.denoted; same = l.same }) in
            absurd (omega arith)

-- the unit is sound with what was kept
pub written-sound : (blocks size made : ℕ) (earlier new : EarlierBlocks) (pins : ℕ → Option Pinned) (ws : List Writing) (holds : ℕ → Held) → IsSound blocks size made earlier pins
    → ((b : ℕ) → is_written ws b ≡ true → IsOverwritten (LivesAt pins b) made (chain_in earlier.entries b) (holds b) (chain_in new.entries b))
    → ((b : ℕ) → is_written ws b ≡ false → chain_in new.entries b ≡ chain_in earlier.entries b)
    → AreEven pins new.entries → new.blocks ≡ earlier.blocks → new.block_length ≡ earlier.block_length → kept_below blocks (chain_in new.entries) + blocks < 2 ^ 64
    → IsSound blocks size made new pins
written-sound blocks size made earlier new pins ws holds is over others even same-blocks same-length fits = record {
  versions = written-versions blocks made (chain_in earlier.entries) (chain_in new.entries) holds pins ws is.versions over others;
  even = even;
  ranges = is.ranges;
  same_blocks = same-blocks ∙ is.same_blocks;
  same_length = same-length ∙ is.same_length;
  fits = fits;
}
