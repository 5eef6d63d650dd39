-- The tokens of a unit as its blocks and their pins are changed
use Rattle.std.proofs.Common.{◌≡◌, ℕ, List, [], refl, ap, sym, ◌∙◌, subst, true}
use Rattle.std.specs.Prelude.{Option, Some, Result, Ok, Err, OnErr, map}
use Rattle.cm_history.proofs.PublicLaws.{map-same}
use Rattle.lba_ranges.specs.declared.ranges.Range.{Range}
use Rattle.lba_ranges.specs.Denoted.{denotes, blocks_of}
use Rattle.lba_ranges.specs.HeldBlocks.{HeldBlocks}
use Rattle.lba_ranges.specs.Writings.{Held}
use Rattle.rod_store.specs.declared.kept.Kept.{Kept}
use Rattle.rod_store.specs.Kept.{value_at, kept_with}
use Rattle.rod_store.specs.Store.{Store}
use Rattle.rod_store.specs.declared.pinned_rod.PinnedRod.{PinnedRod}
use Rattle.rod_store.specs.declared.pinned_change.PinnedChange.{PinnedChange}
use Rattle.rod_store.specs.declared.token_change.TokenChange.{TokenChange}
use Rattle.rod_store.specs.Pinning.{rod_now, holder, ArePinned, ShowSame}
use Rattle.rod_store.specs.TokenChanges.{is_make, MayToken, unpinned, rod_made}
use Rattle.rod_store.proofs.PublicLaws.{may-with}
use Rattle.unit_core.specs.declared.block_change.BlockChange.{BlockChange}
use Rattle.unit_core.specs.inner.BlockChanges.{writings_of, is_nothing}

pub on-err : {T E : Type 0} (r : Result T E) (F : Type 0) → F → OnErr r F
on-err (Ok x) F f = tt
on-err (Err e) F f = f

pub nothing-written : (b : BlockChange) → is_nothing b ≡ true → writings_of b ≡ []
nothing-written BlockChange.Nothing e = refl
nothing-written (BlockChange.Put ranges list) e = cc
nothing-written (BlockChange.PutPiece ranges list) e = cc
nothing-written (BlockChange.Clear ranges) e = cc

-- a change that has a pin is one that makes a token
pub made-makes : {P : Type 0} (c : PinnedChange P) (rod : PinnedRod P) → rod_made c ≡ Some rod → is_make (unpinned c) ≡ true
made-makes PinnedChange.Nothing rod e = cc
made-makes (PinnedChange.Make timeout blocks its) rod e = refl
made-makes (PinnedChange.Use serial) rod e = cc
made-makes (PinnedChange.Delete serial) rod e = cc

-- the same blocks, where each holds what it held
pub now-same : (size size' : ℕ) (f g : ℕ → Held) (ranges : List Range) → size' ≡ size → ((b : ℕ) → g b ≡ f b) → rod_now size' g ranges ≡ rod_now size f ranges
now-same size size' f g ranges long same =
    ap (λ n. let h : HeldBlocks = record { block_length = n; items = map g (blocks_of ranges) } in h) long
    ∙ ap (λ l. let h : HeldBlocks = record { block_length = size; items = l } in h) (map-same g f (blocks_of ranges) (λ b i. same b))

-- a change that may be made to the blocks that tokens stand for may be made to their pins
pub may-now : {K T : Type 0} (f : K → T) (was now : Store K) (at : ℕ) (c c' : TokenChange) → now.tokens ≡ was.tokens → c' ≡ c
    → MayToken (record { unit = was.unit; tokens = map (kept_with f) was.tokens; spare = now.spare }) at c → MayToken now at c'
may-now f was now at c c' same is may =
    let there = subst (λ (l : List (Kept _)). MayToken (record { unit = was.unit; tokens = map (kept_with f) l; spare = now.spare }) at c) (sym same) may in
    subst (λ (x : TokenChange). MayToken now at x) (sym is) (may-with f (record { unit = was.unit; tokens = now.tokens; spare = now.spare }) at c there)

module _ {P : Type 0} (number : P → ℕ) (blocks : ℕ) where
  -- what tokens stand for stays, where live pins show what they showed
  pub stay : (p : ℕ → Option (List Range)) (s t : ℕ → ℕ → Held) (spare : Option (PinnedRod P)) (tokens : List (Kept (PinnedRod P))) → ArePinned number blocks p (holder spare tokens)
      → ((n : ℕ) (ranges : List Range) (b : ℕ) → p n ≡ Some ranges → denotes ranges b ≡ true → t n b ≡ s n b)
      → (k : ℕ) (rod : PinnedRod P) (b : ℕ) → value_at k tokens ≡ Some rod → denotes rod.ranges b ≡ true → t (number rod.pin) b ≡ s (number rod.pin) b
  stay p s t spare tokens are same k rod b e den = same (number rod.pin) rod.ranges b (are.live (Some k) rod e) den

  pub stay-shown : (p q : ℕ → Option (List Range)) (s t : ℕ → ℕ → Held) (spare : Option (PinnedRod P)) (tokens : List (Kept (PinnedRod P))) → ArePinned number blocks q (holder spare tokens)
      → ShowSame p s q t → (k : ℕ) (rod : PinnedRod P) (b : ℕ) → value_at k tokens ≡ Some rod → denotes rod.ranges b ≡ true → t (number rod.pin) b ≡ s (number rod.pin) b
  stay-shown p q s t spare tokens are shows k rod b e den = (shows (number rod.pin) rod.ranges b (are.live (Some k) rod e) den).1
