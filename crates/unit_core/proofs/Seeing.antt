-- What the tables of a unit see of blocks, as an act changes them
use Rattle.std.proofs.Common.{◌≡◌, ℕ, zero, suc, List, [], ◌∷◌, length, refl, ap, sym, ◌∙◌, arith, true, false, Bool, inl, inr}
use Rattle.std.specs.Prelude.{Option, Some, None, is_some, ◌==◌, ◌⊎◌, ◌&&◌, map, if◌then◌else◌}
use Rattle.std.proofs.lemmas.Bool.Decides.{nat_tests}
use Rattle.std.proofs.lemmas.List.{length-map}
use Rattle.lba_ranges.specs.declared.ranges.Range.{Range}
use Rattle.lba_ranges.specs.Denoted.{denotes}
use Rattle.lba_ranges.specs.Versions.{Writers, writer_after, with_put}
use Rattle.lba_ranges.specs.Writings.{Writing}
use Rattle.rod_store.specs.declared.kept.Kept.{Kept}
use Rattle.rod_store.specs.declared.kept.TokenState.TheVariants.{Live, Expired, Evicted, Deleted}
use Rattle.rod_store.specs.Kept.{value_of, value_at, expired, expire_at, evict_if, gives_way, end_at, is_live, is_over}
use Rattle.rod_store.proofs.PublicLaws.{append-before, append-last, append-others, used-same}
use Rattle.rod_store.specs.declared.pinned_rod.PinnedRod.{PinnedRod}
use Rattle.rod_store.specs.declared.pinned_change.PinnedChange.{PinnedChange}
use Rattle.rod_store.specs.Pinning.{holder, ArePinned}
use Rattle.rod_store.specs.TokenChanges.{unpinned, rod_made, pinned_after, written_with, ranges_pinned}
use Rattle.unit_core.specs.Versions.{Sight, Now, ByToken}
use Rattle.unit_core.specs.inner.Seen.{Nothing, Before, origin_made, put_from, seen_after, put_shown, put_seen, lives_in}
use Rattle.unit_core.proofs.Writers.{writer-now}

module _ {V : Type 0} where
  -- where each token keeps its value, or ends
  pub left-value : (f : Kept V → Kept V) → ((t : Kept V) → (value_of (f t).state ≡ value_of t.state) ⊎ (value_of (f t).state ≡ None)) → (ts : List (Kept V)) (s : ℕ) (v : V)
      → value_at s (map f ts) ≡ Some v → value_at s ts ≡ Some v
  left-value f h [] s v e = e
  left-value f h (t ∷ ts) zero v e = go (h t)
    where
      go : (value_of (f t).state ≡ value_of t.state) ⊎ (value_of (f t).state ≡ None) → value_of t.state ≡ Some v
      go (inl same) = sym same ∙ e
      go (inr none) = let no = sym none ∙ e in cc
  left-value f h (t ∷ ts) (suc s) v e = left-value f h ts s v e

  expire-leaves : (at : ℕ) (t : Kept V) → (value_of (expire_at at t).state ≡ value_of t.state) ⊎ (value_of (expire_at at t).state ≡ None)
  expire-leaves at t = go (is_over at t.state)
    where
      go : (b : Bool) → (value_of (if b then record t { state = Expired } else t).state ≡ value_of t.state) ⊎ (value_of (if b then record t { state = Expired } else t).state ≡ None)
      go true = inr refl
      go false = inl refl

  evict-leaves : (ts : List (Kept V)) (t : Kept V) → (value_of (evict_if ts t).state ≡ value_of t.state) ⊎ (value_of (evict_if ts t).state ≡ None)
  evict-leaves ts t = go (gives_way ts t)
    where
      go : (b : Bool) → (value_of (if b then record t { state = Evicted } else t).state ≡ value_of t.state) ⊎ (value_of (if b then record t { state = Evicted } else t).state ≡ None)
      go true = inr refl
      go false = inl refl

  delete-leaves : (serial : ℕ) (t : Kept V) → (value_of (end_at Deleted serial t).state ≡ value_of t.state) ⊎ (value_of (end_at Deleted serial t).state ≡ None)
  delete-leaves serial t = go (is_live t.state && (t.serial == serial))
    where
      go : (b : Bool) → (value_of (if b then record t { state = Deleted } else t).state ≡ value_of t.state) ⊎ (value_of (if b then record t { state = Deleted } else t).state ≡ None)
      go true = inr refl
      go false = inl refl

  expired-value : (at : ℕ) (ts : List (Kept V)) (s : ℕ) (v : V) → value_at s (expired at ts) ≡ Some v → value_at s ts ≡ Some v
  expired-value at ts s v e = left-value (expire_at at) (expire-leaves at) ts s v e

module _ {P : Type 0} where
  long-after : (at : ℕ) (ts : List (Kept (PinnedRod P))) → length (map (evict_if (expired at ts)) (expired at ts)) ≡ length ts
  long-after at ts = length-map (expired at ts) (evict_if (expired at ts)) ∙ length-map ts (expire_at at)

  -- a token that was there before the act was live before, with its pin
  after-value : (c : PinnedChange P) (at : ℕ) (ts : List (Kept (PinnedRod P))) (s : ℕ) (rod : PinnedRod P) → value_at s (pinned_after c at ts) ≡ Some rod → (s ≡ length ts → ⊥) → value_at s ts ≡ Some rod
  after-value PinnedChange.Nothing at ts s rod e other = expired-value at ts s rod e
  after-value (PinnedChange.Make timeout blocks its) at ts s rod e other =
      let others : s ≡ length (map (evict_if (expired at ts)) (expired at ts)) → ⊥ = λ same. other (same ∙ long-after at ts) in
      expired-value at ts s rod
      (left-value (evict_if (expired at ts)) (evict-leaves (expired at ts)) (expired at ts) s rod (sym (append-others (map (evict_if (expired at ts)) (expired at ts)) _ s others) ∙ e))
  after-value (PinnedChange.Use serial) at ts s rod e other = expired-value at ts s rod (sym (used-same serial at (expired at ts) s) ∙ e)
  after-value (PinnedChange.Delete serial) at ts s rod e other = expired-value at ts s rod (left-value (end_at Deleted serial) (delete-leaves serial) (expired at ts) s rod e)

  -- the last one is the one that was made
  after-last : (c : PinnedChange P) (at : ℕ) (ts : List (Kept (PinnedRod P))) (rod : PinnedRod P) → value_at (length ts) (pinned_after c at ts) ≡ Some rod → rod_made c ≡ Some rod
  after-last PinnedChange.Nothing at ts rod e = let no = sym (append-before ts) ∙ expired-value at ts (length ts) rod e in cc
  after-last (PinnedChange.Make timeout blocks its) at ts rod e =
      let is = append-last (map (evict_if (expired at ts)) (expired at ts)) (record { serial = length (expired at ts); blocks = blocks; state = Live timeout at its }) in
      sym (ap (λ n. value_at n (pinned_after (PinnedChange.Make timeout blocks its) at ts)) (sym (long-after at ts)) ∙ is) ∙ e
  after-last (PinnedChange.Use serial) at ts rod e = let no = sym (append-before ts) ∙ expired-value at ts (length ts) rod (sym (used-same serial at (expired at ts) (length ts)) ∙ e) in cc
  after-last (PinnedChange.Delete serial) at ts rod e =
      let no = sym (append-before ts) ∙ expired-value at ts (length ts) rod (left-value (end_at Deleted serial) (delete-leaves serial) (expired at ts) (length ts) rod e) in cc

-- the pin of a new token is none of those that there are
pub record IsApart {P : Type 0} (number : P → ℕ) (c : PinnedChange P) (ts : List (Kept (PinnedRod P))) : Type 0 where
  pub apart : (s : ℕ) (rod its : PinnedRod P) → rod_made c ≡ Some its → value_at s ts ≡ Some rod → (number rod.pin == number its.pin) ≡ false

pub pinned-apart : {P : Type 0} (number : P → ℕ) (blocks : ℕ) (pinned : ℕ → Option (List Range)) (c : PinnedChange P) (ts : List (Kept (PinnedRod P))) → ArePinned number blocks pinned (holder (rod_made c) ts)
    → IsApart number c ts
pinned-apart number blocks pinned c ts pins = record { apart = λ s rod its made e. go s rod its made e (number rod.pin == number its.pin) refl }
  where
    go : (s : ℕ) (rod its : PinnedRod _) → rod_made c ≡ Some its → value_at s ts ≡ Some rod → (t : Bool) → (number rod.pin == number its.pin) ≡ t → t ≡ false
    go s rod its made e false same = refl
    go s rod its made e true same =
        let alike : number its.pin ≡ number rod.pin = grind (arith, nat_tests) in
        let no : None ≡ Some s = pins.apart None (Some s) its rod made e alike in cc

module _ {P : Type 0} (number : P → ℕ) where
  now-with : (c : PinnedChange P) (w : Writers) (block : ℕ) → (written_with number c w).now block ≡ w.now block
  now-with PinnedChange.Nothing w block = refl
  now-with (PinnedChange.Make timeout blocks its) w block = refl
  now-with (PinnedChange.Use serial) w block = refl
  now-with (PinnedChange.Delete serial) w block = refl

  shown-with : (c : PinnedChange P) (w : Writers) (n block : ℕ) → ((its : PinnedRod P) → rod_made c ≡ Some its → (n == number its.pin) ≡ false) → (written_with number c w).shown n block ≡ w.shown n block
  shown-with PinnedChange.Nothing w n block other = refl
  shown-with (PinnedChange.Make timeout blocks its) w n block other = ap (λ t. if t then w.now block else w.shown n block) (other its refl)
  shown-with (PinnedChange.Use serial) w n block other = refl
  shown-with (PinnedChange.Delete serial) w n block other = refl

  shown-made : (c : PinnedChange P) (w : Writers) (its : PinnedRod P) (block : ℕ) → rod_made c ≡ Some its → (written_with number c w).shown (number its.pin) block ≡ w.now block
  shown-made PinnedChange.Nothing w its block e = cc
  shown-made (PinnedChange.Make timeout blocks rod) w its block e =
      let same : rod ≡ its = cc in
      let on : (number its.pin == number rod.pin) ≡ true = (let n : number its.pin ≡ number rod.pin = ap (λ (r : PinnedRod P). number r.pin) (sym same) in grind (arith, nat_tests)) in
      ap (λ t. if t then w.now block else w.shown (number its.pin) block) on
  shown-made (PinnedChange.Use serial) w its block e = cc
  shown-made (PinnedChange.Delete serial) w its block e = cc

  made-ranges : (c : PinnedChange P) (its : PinnedRod P) → rod_made c ≡ Some its → ranges_pinned (unpinned c) ≡ Some its.ranges
  made-ranges PinnedChange.Nothing its e = cc
  made-ranges (PinnedChange.Make timeout blocks rod) its e = let same : rod ≡ its = cc in ap (λ (r : PinnedRod P). Some r.ranges) same
  made-ranges (PinnedChange.Use serial) its e = cc
  made-ranges (PinnedChange.Delete serial) its e = cc

  module _ (c : PinnedChange P) (ts : List (Kept (PinnedRod P))) (are : IsApart number c ts) where
    -- a pin that is made changes nothing of what tokens show
    pub seen-with : (w : Writers) (sight : Sight) (block : ℕ) → put_seen number (written_with number c w) ts sight block ≡ put_seen number w ts sight block
    seen-with w Now block = now-with c w block
    seen-with w (ByToken s) block = go (value_at s ts) refl
      where
        go : (o : Option (PinnedRod P)) → value_at s ts ≡ o → put_shown number (written_with number c w) o block ≡ put_shown number w o block
        go None e = refl
        go (Some rod) e = ap (λ (p : Option ℕ). if denotes rod.ranges block then p else None) (shown-with c w (number rod.pin) block (λ its made. are.apart s rod its made e))

    -- what is seen after the writings of a put, and with the pin of a new token
    pub seen-changed : (at : ℕ) (ws : List Writing) (put : ℕ) (w : Writers) → ((its : PinnedRod P) → rod_made c ≡ Some its → ws ≡ [])
        → (sight : Sight) (block : ℕ) → put_seen number (written_with number c (with_put ws put w)) (pinned_after c at ts) sight block
        ≡ seen_after put ws (ranges_pinned (unpinned c)) (length ts) (lives_in (pinned_after c at ts)) (put_seen number w ts) sight block
    seen-changed at ws put w quiet Now block =
        now-with c (with_put ws put w) block ∙ writer-now put ws (ranges_pinned (unpinned c)) (length ts) (lives_in (pinned_after c at ts)) (put_seen number w ts) block
    seen-changed at ws put w quiet (ByToken s) block = go (value_at s (pinned_after c at ts)) refl
      where
        v : Writers
        v = written_with number c (with_put ws put w)

        From : Option (PinnedRod P) → Option ℕ
        From o = put_from put (put_seen number w ts) block (if is_some o then (if s == length ts then origin_made (ranges_pinned (unpinned c)) block else Before (ByToken s)) else Nothing)

        chosen : (t : Bool) (p : Option ℕ) → p ≡ w.now block → (if t then p else None) ≡ put_from put (put_seen number w ts) block (if t then Before Now else Nothing)
        chosen true p e = e
        chosen false p e = refl

        new : (rod : PinnedRod P) → s ≡ length ts → rod_made c ≡ Some rod → put_shown number (written_with number c (with_put ws put w)) (Some rod) block ≡ From (Some rod)
        new rod last made =
            let on : (s == length ts) ≡ true = grind (arith, nat_tests) in
            let shows : (written_with number c (with_put ws put w)).shown (number rod.pin) block ≡ w.now block =
            shown-made c (with_put ws put w) rod block made ∙ ap (λ l. writer_after l put block (w.now block)) (quiet rod made) in
            chosen (denotes rod.ranges block) ((written_with number c (with_put ws put w)).shown (number rod.pin) block) shows
            ∙ sym (ap (λ o. put_from put (put_seen number w ts) block (origin_made o block)) (made-ranges c rod made))
            ∙ sym (ap (λ t. put_from put (put_seen number w ts) block (if t then origin_made (ranges_pinned (unpinned c)) block else Before (ByToken s))) on)

        old : (rod : PinnedRod P) → (s == length ts) ≡ false → value_at s ts ≡ Some rod → put_shown number (written_with number c (with_put ws put w)) (Some rod) block ≡ From (Some rod)
        old rod off was =
            ap (λ (p : Option ℕ). if denotes rod.ranges block then p else None) (shown-with c (with_put ws put w) (number rod.pin) block (λ its made. are.apart s rod its made was))
            ∙ sym (ap (λ o. put_shown number w o block) was)
            ∙ sym (ap (λ t. put_from put (put_seen number w ts) block (if t then origin_made (ranges_pinned (unpinned c)) block else Before (ByToken s))) off)

        pick : (rod : PinnedRod P) → value_at s (pinned_after c at ts) ≡ Some rod → (t : Bool) → (s == length ts) ≡ t → put_shown number (written_with number c (with_put ws put w)) (Some rod) block ≡ From (Some rod)
        pick rod e true is =
            let last : s ≡ length ts = grind (arith, nat_tests) in
            new rod last (after-last c at ts rod (ap (λ n. value_at n (pinned_after c at ts)) (sym last) ∙ e))
        pick rod e false is = old rod is (after-value c at ts s rod e (λ last. (let on : (s == length ts) ≡ true = grind (arith, nat_tests) in let no = sym is ∙ on in cc)))

        go : (o : Option (PinnedRod P)) → value_at s (pinned_after c at ts) ≡ o → put_shown number (written_with number c (with_put ws put w)) (value_at s (pinned_after c at ts)) block ≡ From (value_at s (pinned_after c at ts))
        go None e = ap (λ o. put_shown number (written_with number c (with_put ws put w)) o block) e ∙ sym (ap From e)
        go (Some rod) e = ap (λ o. put_shown number (written_with number c (with_put ws put w)) o block) e ∙ pick rod e (s == length ts) refl ∙ sym (ap From e)
