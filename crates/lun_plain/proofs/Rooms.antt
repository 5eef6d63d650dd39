-- Room that is made for blocks and taken out again
use Rattle.std.proofs.Common.{◌≡◌, ℕ, ◌+◌, ◌<◌, List, [], ◌∷◌, length, take, get_or, refl, ap, sym, ◌∙◌, arith, true, false, Bool, cond, ◌≤◌, inl, inr, leb, ltb}
use Rattle.std.specs.Prelude.{Option, Some, None, IsSome, ◌==◌, ◌||◌, ◌&&◌, ◌⊎◌}
use Rattle.std.proofs.lemmas.Bool.Decides.{nat_tests}
use Rattle.std.proofs.lemmas.Bool.{ne_eqb, cases_lt}
use Rattle.std.proofs.lemmas.List.Folds.{list_any_more}
use borrow.Author.Count.{below_more}
use Rattle.lba_ranges.proofs.PublicLaws.{differs-at, after-unmapped_row}
use Rattle.lba_ranges.specs.Denoted.{row}
use Rattle.lba_ranges.specs.Writings.{unmapped, after}
use Rattle.lun_plain.specs.Plain.{stored}
use Rattle.lun_plain.specs.inner.Plain.{seen, is_among}

-- the first `n` blocks have room, and nothing else has changed
pub record HasRooms (was now : List (ℕ × List ℕ)) (blocks : List ℕ) (n : ℕ) : Type 0 where
  pub room : (k : ℕ) → k < n → IsSome (stored now (get_or blocks k 0))
  pub same : (b : ℕ) → seen (stored now b) ≡ seen (stored was b)
  pub others : (b : ℕ) → is_among b blocks ≡ false → stored now b ≡ stored was b

-- what making room for one block leaves of the rest
pub record MadeRoom (was now : List (ℕ × List ℕ)) (block : ℕ) : Type 0 where
  pub same : (b : ℕ) → seen (stored now b) ≡ seen (stored was b)
  pub others : (b : ℕ) → (b == block) ≡ false → stored now b ≡ stored was b
  pub kept : (b : ℕ) → IsSome (stored was b) → IsSome (stored now b)

pub rooms-start : (was : List (ℕ × List ℕ)) (blocks : List ℕ) → HasRooms was was blocks 0
rooms-start was blocks = record { room = λ k h. absurd (omega arith); same = λ b. refl; others = λ b e. refl }

other : (blocks : List ℕ) (b n : ℕ) → n < length blocks → is_among b blocks ≡ false → (b == get_or blocks n 0) ≡ false
other blocks b n h e = ne_eqb b (get_or blocks n 0) (λ same. differs-at blocks b n e h (sym same))

-- whether or not there was room for the next block
pub rooms-kept : (was now next : List (ℕ × List ℕ)) (blocks : List ℕ) (n : ℕ) → n < length blocks → HasRooms was now blocks n → MadeRoom now next (get_or blocks n 0) → HasRooms was next blocks n
rooms-kept was now next blocks n h has made = record {
  room = λ k low. made.kept (get_or blocks k 0) (has.room k low);
  same = λ b. made.same b ∙ has.same b;
  others = λ b e. made.others b (other blocks b n h e) ∙ has.others b e;
}

pub rooms-more : (was now next : List (ℕ × List ℕ)) (blocks : List ℕ) (n : ℕ) → n < length blocks → HasRooms was now blocks n → MadeRoom now next (get_or blocks n 0)
    → IsSome (stored next (get_or blocks n 0)) → HasRooms was next blocks (n + 1)
rooms-more was now next blocks n h has made room =
    let kept = rooms-kept was now next blocks n h has made in
    record { room = below_more (λ k. IsSome (stored next (get_or blocks k 0))) n kept.room room; same = kept.same; others = kept.others }

seen-seen : (x : Option (List ℕ)) → seen (seen x) ≡ seen x
seen-seen None = refl
seen-seen (Some []) = refl
seen-seen (Some (y ∷ ys)) = refl

-- one more block's room is dropped
drop_cases : (done here : Bool) (x : Option (List ℕ)) → cond here (seen (cond done (seen x) x)) (cond done (seen x) x) ≡ cond (done || here) (seen x) x
drop_cases true true x = seen-seen x
drop_cases true false x = refl
drop_cases false true x = refl
drop_cases false false x = refl

pub drop-more : (was now next : List (ℕ × List ℕ)) (blocks : List ℕ) (n b : ℕ) → n < length blocks
    → stored now b ≡ cond (is_among b (take n blocks)) (seen (stored was b)) (stored was b)
    → stored next b ≡ cond (b == get_or blocks n 0) (seen (stored now b)) (stored now b)
    → stored next b ≡ cond (is_among b (take (n + 1) blocks)) (seen (stored was b)) (stored was b)
drop-more was now next blocks n b h before step =
    let flip : (get_or blocks n 0 == b) ≡ (b == get_or blocks n 0) = grind (arith, nat_tests) in
    let grows : is_among b (take (n + 1) blocks) ≡ (is_among b (take n blocks) || (b == get_or blocks n 0)) =
    list_any_more (λ a. a == b) blocks n 0 h ∙ ap (λ t. is_among b (take n blocks) || t) flip in
    step ∙ ap (λ x. cond (b == get_or blocks n 0) (seen x) x) before
    ∙ drop_cases (is_among b (take n blocks)) (b == get_or blocks n 0) (stored was b)
    ∙ ap (λ t. cond t (seen (stored was b)) (stored was b)) (sym grows)

-- a row that is cleared holds nothing, and all else is as before
pub cleared_row : (was now : List (ℕ × List ℕ)) (lba n : ℕ) → ((b : ℕ) → (b < lba) ⊎ (lba + n ≤ b) → stored now b ≡ stored was b)
    → ((b : ℕ) → lba ≤ b → b < lba + n → stored now b ≡ None) → (b : ℕ) → stored now b ≡ after (unmapped (row lba n)) b (stored was b)
cleared_row was now lba n outside none b = go (cases_lt b lba) (cases_lt b (lba + n)) ∙ sym (after-unmapped_row lba n b (stored was b))
  where
    go : (b < lba) ⊎ (lba ≤ b) → (b < lba + n) ⊎ (lba + n ≤ b) → stored now b ≡ cond (leb lba b && ltb b (lba + n)) None (stored was b)
    go (inl low) _ = let out : (leb lba b && ltb b (lba + n)) ≡ false = grind (arith, nat_tests) in rw out (outside b (inl low))
    go (inr _) (inr high) = let out : (leb lba b && ltb b (lba + n)) ≡ false = grind (arith, nat_tests) in rw out (outside b (inr high))
    go (inr from) (inl to) = let inside : (leb lba b && ltb b (lba + n)) ≡ true = grind (arith, nat_tests) in rw inside (none b from to)
