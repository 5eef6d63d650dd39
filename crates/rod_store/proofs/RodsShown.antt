-- The blocks that the pins of tokens show, as the tokens change
use Rattle.std.proofs.Common.{◌≡◌, ℕ, zero, suc, ◌+◌, ◌<◌, ◌≤◌, ◌^◌, List, [], ◌∷◌, ◌++◌, length, refl, ap, sym, ◌∙◌, subst, arith, true, false, Bool}
use Rattle.std.specs.Prelude.{Some, IsSome, ◌||◌, map}
use Rattle.std.proofs.lemmas.Bool.Decides.{nat_tests}
use Rattle.std.proofs.lemmas.List.{length-map, map-append}
use Rattle.lba_ranges.specs.declared.ranges.Range.{Range}
use Rattle.lba_ranges.specs.Denoted.{row, blocks_of, covers, denotes}
use Rattle.lba_ranges.specs.Writings.{Held}
use Rattle.rod_store.specs.declared.kept.Kept.{Kept}
use Rattle.rod_store.specs.Kept.{value_at, expired, populated, deleted, used, kept_with}
use Rattle.rod_store.specs.Store.{Store, store_with}
use Rattle.rod_store.proofs.Values.{deleted-with, expired-with, populated-with, same-with, some-with, used-with, value-with}
use Rattle.rod_store.specs.declared.pinned_rod.PinnedRod.{PinnedRod}
use Rattle.rod_store.specs.declared.pinned_change.PinnedChange.{PinnedChange}
use Rattle.rod_store.specs.declared.token_change.TokenChange.{TokenChange}
use Rattle.rod_store.specs.Pinning.{rod_shown, rod_now}
use Rattle.rod_store.specs.TokenChanges.{tokens_after, MayToken, unpinned, rod_made, pinned_after}

module _ {K T : Type 0} (f : K → T) where
  pub may-with : (s : Store K) (moment : ℕ) (c : TokenChange) → MayToken (store_with f s) moment c → MayToken s moment c
  may-with s moment TokenChange.Nothing may = tt
  may-with s moment (TokenChange.Make timeout blocks ranges) may =
      let same = length-map s.tokens (kept_with f) in let few : length (map (kept_with f) s.tokens) < 2 ^ 48 = may.1 in (may.0, omega (arith, few, same))
  may-with s moment (TokenChange.Use serial) may =
      some-with f (value_at serial (expired moment s.tokens))
      (subst IsSome (ap (value_at serial) (expired-with f moment s.tokens) ∙ value-with f (expired moment s.tokens) serial) may)
  may-with s moment (TokenChange.Delete serial) may = tt

pub after-with : {P T : Type 0} (f : PinnedRod P → T) (cut : List Range → T) (c : PinnedChange P) (moment : ℕ) (ts : List (Kept (PinnedRod P)))
    → ((rod : PinnedRod P) → rod_made c ≡ Some rod → f rod ≡ cut rod.ranges)
    → map (kept_with f) (pinned_after c moment ts) ≡ tokens_after cut (unpinned c) moment (map (kept_with f) ts)
after-with f cut PinnedChange.Nothing moment ts made = sym (expired-with f moment ts)
after-with f cut (PinnedChange.Make timeout blocks rod) moment ts made =
    sym (populated-with f (expired moment ts) moment timeout blocks rod)
    ∙ ap (λ l. populated l moment timeout blocks (f rod)) (sym (expired-with f moment ts))
    ∙ ap (populated (expired moment (map (kept_with f) ts)) moment timeout blocks) (made rod refl)
after-with f cut (PinnedChange.Use serial) moment ts made =
    sym (used-with f serial moment (expired moment ts)) ∙ ap (used serial moment) (sym (expired-with f moment ts))
after-with f cut (PinnedChange.Delete serial) moment ts made =
    sym (deleted-with f serial (expired moment ts)) ∙ ap (deleted serial) (sym (expired-with f moment ts))

-- ---- what pins show

row-same : (f g : ℕ → Held) (lba n : ℕ) → ((b : ℕ) → lba ≤ b → b < lba + n → f b ≡ g b) → map f (row lba n) ≡ map g (row lba n)
row-same f g lba zero same = refl
row-same f g lba (suc n) same =
    ap (λ y. y ∷ map f (row (suc lba) n)) (same lba (omega arith) (omega arith))
    ∙ ap (λ l. g lba ∷ l) (row-same f g (suc lba) n (λ b low high. same b (omega (arith, low)) (omega (arith, high))))

pub denoted-same : (f g : ℕ → Held) (rs : List Range) → ((b : ℕ) → denotes rs b ≡ true → f b ≡ g b) → map f (blocks_of rs) ≡ map g (blocks_of rs)
denoted-same f g [] same = refl
denoted-same f g (r ∷ rs) same =
    map-append f (row r.lba r.count) (blocks_of rs)
    ∙ ap (λ l. l ++ map f (blocks_of rs)) (row-same f g r.lba r.count here)
    ∙ ap (λ l. map g (row r.lba r.count) ++ l) (denoted-same f g rs (λ b den. same b (lift b den (covers b r))))
    ∙ sym (map-append g (row r.lba r.count) (blocks_of rs))
  where
    here : (b : ℕ) → r.lba ≤ b → b < r.lba + r.count → f b ≡ g b
    here b low high = let e : covers b r ≡ true = grind (arith, nat_tests) in same b (ap (λ t. t || denotes rs b) e)

    lift : (b : ℕ) → denotes rs b ≡ true → (t : Bool) → (t || denotes rs b) ≡ true
    lift b den true = refl
    lift b den false = den

module _ {P : Type 0} (number : P → ℕ) where
  -- a rod whose blocks are shown as before is the same
  pub rod-same : (size size' : ℕ) (shown shown' : ℕ → ℕ → Held) (rod : PinnedRod P) → size' ≡ size
      → ((b : ℕ) → denotes rod.ranges b ≡ true → shown' (number rod.pin) b ≡ shown (number rod.pin) b) → rod_shown number size' shown' rod ≡ rod_shown number size shown rod
  rod-same size size' shown shown' rod long same =
      ap (λ n. record { block_length = n; items = map (shown' (number rod.pin)) (blocks_of rod.ranges) }) long
      ∙ ap (λ l. record { block_length = size; items = l }) (denoted-same (shown' (number rod.pin)) (shown (number rod.pin)) rod.ranges same)

  -- and one that shows what the blocks hold
  pub rod-made : (size : ℕ) (shown : ℕ → ℕ → Held) (holds : ℕ → Held) (rod : PinnedRod P)
      → ((b : ℕ) → denotes rod.ranges b ≡ true → shown (number rod.pin) b ≡ holds b) → rod_shown number size shown rod ≡ rod_now size holds rod.ranges
  rod-made size shown holds rod same = ap (λ l. record { block_length = size; items = l }) (denoted-same (shown (number rod.pin)) holds rod.ranges same)

  -- all tokens stand for the same blocks, where their pins show the same
  pub rods-same : (size size' : ℕ) (shown shown' : ℕ → ℕ → Held) (ts : List (Kept (PinnedRod P))) → size' ≡ size
      → ((s : ℕ) (rod : PinnedRod P) (b : ℕ) → value_at s ts ≡ Some rod → denotes rod.ranges b ≡ true → shown' (number rod.pin) b ≡ shown (number rod.pin) b)
      → map (kept_with (rod_shown number size' shown')) ts ≡ map (kept_with (rod_shown number size shown)) ts
  rods-same size size' shown shown' ts long same =
      same-with (rod_shown number size shown) (rod_shown number size' shown') ts (λ s rod e. rod-same size size' shown shown' rod long (λ b den. same s rod b e den))
