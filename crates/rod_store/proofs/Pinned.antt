-- Each live token keeps a pin of its own, as tokens and pins come and go
use Rattle.std.proofs.Common.{◌≡◌, ℕ, List, [], ◌∷◌, ◌++◌, length, refl, ap, sym, ◌∙◌, subst, arith, true, false, Bool, inl, inr}
use Rattle.std.specs.Prelude.{Option, Some, None, ◌⊎◌, ◌==◌, map, if◌then◌else◌}
use Rattle.std.proofs.lemmas.Bool.{cases_eq}
use Rattle.std.proofs.lemmas.Bool.Decides.{nat_tests}
use Rattle.lba_ranges.specs.declared.ranges.Range.{Range}
use Rattle.lba_ranges.specs.Denoted.{denotes, is_within}
use Rattle.lba_ranges.specs.Versions.{with_ranges}
use Rattle.lba_ranges.specs.Writings.{Held}
use Rattle.rod_store.specs.declared.kept.Kept.{Kept}
use Rattle.rod_store.specs.declared.kept.TokenState.TheVariants.{Live}
use Rattle.rod_store.specs.Kept.{value_at}
use Rattle.rod_store.specs.declared.pinned_rod.PinnedRod.{PinnedRod}
use Rattle.rod_store.specs.Pinning.{holder, IsHeld, ArePinned, ShowSame}
use Rattle.rod_store.proofs.Ended.{Ends, append-last, append-before, append-others}

pub with-mine : (n : ℕ) (o : Option (List Range)) (pins : ℕ → Option (List Range)) (other : ℕ) → other ≡ n → with_ranges n o pins other ≡ o
with-mine n o pins other same = let t : (other == n) ≡ true = grind (arith, nat_tests) in ap (λ b. if b then o else pins other) t

pub with-other : (n : ℕ) (o : Option (List Range)) (pins : ℕ → Option (List Range)) (other : ℕ) → (other ≡ n → ⊥) → with_ranges n o pins other ≡ pins other
with-other n o pins other ne = let t : (other == n) ≡ false = grind (arith, nat_tests) in ap (λ b. if b then o else pins other) t

same-or-not : (a b : Option ℕ) → (a ≡ b) ⊎ (a ≡ b → ⊥)
same-or-not None None = inl refl
same-or-not None (Some n) = inr (λ e. cc)
same-or-not (Some n) None = inr (λ e. cc)
same-or-not (Some m) (Some n) = go (cases_eq m n)
  where
    go : (m ≡ n) ⊎ (m ≡ n → ⊥) → (Some m ≡ Some n) ⊎ (Some m ≡ Some n → ⊥)
    go (inl e) = inl (ap Some e)
    go (inr ne) = inr (λ e. let f : m ≡ n = cc in ne f)

-- ---- what pins show

pub show-next : (p q r : ℕ → Option (List Range)) (s t u : ℕ → ℕ → Held) → ShowSame p s q t → ShowSame q t r u → ShowSame p s r u
show-next p q r s t u first second n ranges block live den =
    let later = second n ranges block live den in
    let earlier = first n ranges block later.0 den in
    (earlier.0, later.1 ∙ earlier.1)

-- a pin ends, and the others show what they showed
pub show-end : (end : ℕ) (p q : ℕ → Option (List Range)) (s t : ℕ → ℕ → Held) → ((n : ℕ) → q n ≡ with_ranges end None p n)
    → ((n : ℕ) (ranges : List Range) (block : ℕ) → q n ≡ Some ranges → denotes ranges block ≡ true → t n block ≡ s n block) → ShowSame p s q t
show-end end p q s t less same n ranges block live den = (go (cases_eq n end), same n ranges block live den)
  where
    go : (n ≡ end) ⊎ (n ≡ end → ⊥) → p n ≡ Some ranges
    go (inl e) = let gone = sym (less n ∙ with-mine end None p n e) ∙ live in cc
    go (inr ne) = sym (less n ∙ with-other end None p n ne) ∙ live

-- ---- which pins are live

-- in a unit of as many blocks
pub pinned-sized : {P : Type 0} (number : P → ℕ) (blocks blocks' : ℕ) (pins : ℕ → Option (List Range)) (own : Option ℕ → Option (PinnedRod P)) → blocks' ≡ blocks
    → ArePinned number blocks pins own → ArePinned number blocks' pins own
pinned-sized number blocks blocks' pins own same are = subst (λ n. ArePinned number n pins own) (sym same) are

module _ {P : Type 0} (number : P → ℕ) (blocks : ℕ) where
  abbrev Own : Type 0
  Own = Option ℕ → Option (PinnedRod P)

  abbrev Pins : Type 0
  Pins = ℕ → Option (List Range)

  -- nothing is live
  pub pinned-none : (pins : Pins) (own : Own) → ((n : ℕ) → pins n ≡ None) → ((at : Option ℕ) → own at ≡ None) → ArePinned number blocks pins own
  pinned-none pins own none empty = record {
    live = λ at rod e. let f = empty at in cc;
    within = λ at rod e. let f = empty at in cc;
    apart = λ at other rod its e f same. let g = empty at in cc;
    held = λ n ranges e. let f = none n in cc;
  }

  -- the same holders and the same pins
  pub pinned-same : (pins pins' : Pins) (own own' : Own) → ArePinned number blocks pins own → ((n : ℕ) → pins' n ≡ pins n) → ((at : Option ℕ) → own' at ≡ own at) → ArePinned number blocks pins' own'
  pinned-same pins pins' own own' are same-pins same = record {
    live = λ at rod e. same-pins (number rod.pin) ∙ are.live at rod (sym (same at) ∙ e);
    within = λ at rod e. are.within at rod (sym (same at) ∙ e);
    apart = λ at other rod its e f g. are.apart at other rod its (sym (same at) ∙ e) (sym (same other) ∙ f) g;
    held = λ n ranges e. let h = are.held n ranges (sym (same-pins n) ∙ e) in record { by = h.by; rod = h.rod; held = same h.by ∙ h.held; is = h.is };
  }

  -- one holder and its pin end
  pub pinned-end : (pins pins' : Pins) (own own' : Own) (end : Option ℕ) (gone : PinnedRod P) → ArePinned number blocks pins own → own end ≡ Some gone → own' end ≡ None
      → ((at : Option ℕ) → (at ≡ end → ⊥) → own' at ≡ own at) → ((n : ℕ) → pins' n ≡ with_ranges (number gone.pin) None pins n) → ArePinned number blocks pins' own'
  pinned-end pins pins' own own' end gone are was none others less = record {
    live = λ at rod e. live at rod e (same-or-not at end);
    within = λ at rod e. within at rod e (same-or-not at end);
    apart = λ at other rod its e f g. apart at other rod its e f g (same-or-not at end) (same-or-not other end);
    held = λ n ranges e. held n ranges e (cases_eq n (number gone.pin));
  }
    where
      live : (at : Option ℕ) (rod : PinnedRod P) → own' at ≡ Some rod → (at ≡ end) ⊎ (at ≡ end → ⊥) → pins' (number rod.pin) ≡ Some rod.ranges
      live at rod e (inl same) = let f : own' end ≡ Some rod = subst (λ x. own' x ≡ Some rod) same e in cc
      live at rod e (inr ne) =
          let before : own at ≡ Some rod = sym (others at ne) ∙ e in
          less (number rod.pin) ∙ with-other (number gone.pin) None pins (number rod.pin) (λ same. ne (are.apart at end rod gone before was same)) ∙ are.live at rod before

      within : (at : Option ℕ) (rod : PinnedRod P) → own' at ≡ Some rod → (at ≡ end) ⊎ (at ≡ end → ⊥) → is_within blocks rod.ranges ≡ true
      within at rod e (inl same) = let f : own' end ≡ Some rod = subst (λ x. own' x ≡ Some rod) same e in cc
      within at rod e (inr ne) = are.within at rod (sym (others at ne) ∙ e)

      apart : (at other : Option ℕ) (rod its : PinnedRod P) → own' at ≡ Some rod → own' other ≡ Some its → number rod.pin ≡ number its.pin
          → (at ≡ end) ⊎ (at ≡ end → ⊥) → (other ≡ end) ⊎ (other ≡ end → ⊥) → at ≡ other
      apart at other rod its e f same (inl a) b = let h : own' end ≡ Some rod = subst (λ x. own' x ≡ Some rod) a e in cc
      apart at other rod its e f same (inr a) (inl b) = let h : own' end ≡ Some its = subst (λ x. own' x ≡ Some its) b f in cc
      apart at other rod its e f same (inr a) (inr b) = are.apart at other rod its (sym (others at a) ∙ e) (sym (others other b) ∙ f) same

      held : (n : ℕ) (ranges : List Range) → pins' n ≡ Some ranges → (n ≡ number gone.pin) ⊎ (n ≡ number gone.pin → ⊥) → IsHeld number own' n
      held n ranges e (inl same) = let f = sym (less n ∙ with-mine (number gone.pin) None pins n same) ∙ e in cc
      held n ranges e (inr ne) = go (are.held n ranges (sym (less n ∙ with-other (number gone.pin) None pins n ne) ∙ e))
        where
          go : IsHeld number own n → IsHeld number own' n
          go h = record { by = h.by; rod = h.rod; held = others h.by away ∙ h.held; is = h.is }
            where
              away : h.by ≡ end → ⊥
              away same =
                  let found : own end ≡ Some h.rod = subst (λ x. own x ≡ Some h.rod) same h.held in
                  let one : gone ≡ h.rod = cc in
                  ne (sym (ap (λ (r : PinnedRod P). number r.pin) one ∙ h.is))

  -- one more holder has a new pin
  pub pinned-add : (pins pins' : Pins) (own own' : Own) (place : Option ℕ) (more : PinnedRod P) → ArePinned number blocks pins own → own place ≡ None → own' place ≡ Some more
      → ((at : Option ℕ) → (at ≡ place → ⊥) → own' at ≡ own at) → pins (number more.pin) ≡ None → is_within blocks more.ranges ≡ true
      → ((n : ℕ) → pins' n ≡ with_ranges (number more.pin) (Some more.ranges) pins n) → ArePinned number blocks pins' own'
  pinned-add pins pins' own own' place more are none here others vacant inside grown = record {
    live = λ at rod e. live at rod e (same-or-not at place);
    within = λ at rod e. within at rod e (same-or-not at place);
    apart = λ at other rod its e f g. apart at other rod its e f g (same-or-not at place) (same-or-not other place);
    held = λ n ranges e. held n ranges e (cases_eq n (number more.pin));
  }
    where
      its-own : (at : Option ℕ) (rod : PinnedRod P) → own' at ≡ Some rod → at ≡ place → more ≡ rod
      its-own at rod e same = let f : own' place ≡ Some rod = subst (λ x. own' x ≡ Some rod) same e in cc

      away : (at : Option ℕ) (rod : PinnedRod P) → own at ≡ Some rod → number rod.pin ≡ number more.pin → ⊥
      away at rod e same = let f = are.live at rod e in let g : pins (number rod.pin) ≡ None = ap pins same ∙ vacant in cc

      live : (at : Option ℕ) (rod : PinnedRod P) → own' at ≡ Some rod → (at ≡ place) ⊎ (at ≡ place → ⊥) → pins' (number rod.pin) ≡ Some rod.ranges
      live at rod e (inl same) =
          let one = its-own at rod e same in
          subst (λ (r : PinnedRod P). pins' (number r.pin) ≡ Some r.ranges) one (grown (number more.pin) ∙ with-mine (number more.pin) (Some more.ranges) pins (number more.pin) refl)
      live at rod e (inr ne) =
          let before : own at ≡ Some rod = sym (others at ne) ∙ e in
          grown (number rod.pin) ∙ with-other (number more.pin) (Some more.ranges) pins (number rod.pin) (away at rod before) ∙ are.live at rod before

      within : (at : Option ℕ) (rod : PinnedRod P) → own' at ≡ Some rod → (at ≡ place) ⊎ (at ≡ place → ⊥) → is_within blocks rod.ranges ≡ true
      within at rod e (inl same) = subst (λ (r : PinnedRod P). is_within blocks r.ranges ≡ true) (its-own at rod e same) inside
      within at rod e (inr ne) = are.within at rod (sym (others at ne) ∙ e)

      apart : (at other : Option ℕ) (rod its : PinnedRod P) → own' at ≡ Some rod → own' other ≡ Some its → number rod.pin ≡ number its.pin
          → (at ≡ place) ⊎ (at ≡ place → ⊥) → (other ≡ place) ⊎ (other ≡ place → ⊥) → at ≡ other
      apart at other rod its e f same (inl a) (inl b) = a ∙ sym b
      apart at other rod its e f same (inl a) (inr b) =
          absurd (away other its (sym (others other b) ∙ f) (sym same ∙ ap (λ (r : PinnedRod P). number r.pin) (sym (its-own at rod e a))))
      apart at other rod its e f same (inr a) (inl b) =
          absurd (away at rod (sym (others at a) ∙ e) (same ∙ ap (λ (r : PinnedRod P). number r.pin) (sym (its-own other its f b))))
      apart at other rod its e f same (inr a) (inr b) = are.apart at other rod its (sym (others at a) ∙ e) (sym (others other b) ∙ f) same

      held : (n : ℕ) (ranges : List Range) → pins' n ≡ Some ranges → (n ≡ number more.pin) ⊎ (n ≡ number more.pin → ⊥) → IsHeld number own' n
      held n ranges e (inl same) = record { by = place; rod = more; held = here; is = sym same }
      held n ranges e (inr ne) = go (are.held n ranges (sym (grown n ∙ with-other (number more.pin) (Some more.ranges) pins n ne) ∙ e))
        where
          go : IsHeld number own n → IsHeld number own' n
          go h = record { by = h.by; rod = h.rod; held = others h.by there ∙ h.held; is = h.is }
            where
              there : h.by ≡ place → ⊥
              there same = let found : own place ≡ Some h.rod = subst (λ x. own x ≡ Some h.rod) same h.held in let g = sym none ∙ found in cc

  -- ---- tokens

  pub token-ends : (pins pins' : Pins) (spare : Option (PinnedRod P)) (tokens now : List (Kept (PinnedRod P))) (gone : PinnedRod P) → ArePinned number blocks pins (holder spare tokens)
      → Ends tokens now gone → ((n : ℕ) → pins' n ≡ with_ranges (number gone.pin) None pins n) → ArePinned number blocks pins' (holder spare now)
  token-ends pins pins' spare tokens now gone are ends less =
      pinned-end pins pins' (holder spare tokens) (holder spare now) (Some ends.serial) gone are ends.was ends.gone others less
    where
      others : (at : Option ℕ) → (at ≡ Some ends.serial → ⊥) → holder spare now at ≡ holder spare tokens at
      others None ne = refl
      others (Some s) ne = ends.others s (λ e. ne (ap Some e))

  pub spare-ends : (pins pins' : Pins) (gone : PinnedRod P) (tokens : List (Kept (PinnedRod P))) → ArePinned number blocks pins (holder (Some gone) tokens)
      → ((n : ℕ) → pins' n ≡ with_ranges (number gone.pin) None pins n) → ArePinned number blocks pins' (holder None tokens)
  spare-ends pins pins' gone tokens are less = pinned-end pins pins' (holder (Some gone) tokens) (holder None tokens) None gone are refl refl others less
    where
      others : (at : Option ℕ) → (at ≡ None → ⊥) → holder None tokens at ≡ holder (Some gone) tokens at
      others None ne = absurd (ne refl)
      others (Some s) ne = refl

  pub spare-made : (pins pins' : Pins) (more : PinnedRod P) (tokens : List (Kept (PinnedRod P))) → ArePinned number blocks pins (holder None tokens)
      → pins (number more.pin) ≡ None → is_within blocks more.ranges ≡ true → ((n : ℕ) → pins' n ≡ with_ranges (number more.pin) (Some more.ranges) pins n)
      → ArePinned number blocks pins' (holder (Some more) tokens)
  spare-made pins pins' more tokens are vacant inside grown = pinned-add pins pins' (holder None tokens) (holder (Some more) tokens) None more are refl refl others vacant inside grown
    where
      others : (at : Option ℕ) → (at ≡ None → ⊥) → holder (Some more) tokens at ≡ holder None tokens at
      others None ne = absurd (ne refl)
      others (Some s) ne = refl

  pub tokens-same : (pins : Pins) (spare : Option (PinnedRod P)) (tokens now : List (Kept (PinnedRod P))) → ArePinned number blocks pins (holder spare tokens)
      → ((s : ℕ) → value_at s now ≡ value_at s tokens) → ArePinned number blocks pins (holder spare now)
  tokens-same pins spare tokens now are same = pinned-same pins pins (holder spare tokens) (holder spare now) are (λ n. refl) go
    where
      go : (at : Option ℕ) → holder spare now at ≡ holder spare tokens at
      go None = refl
      go (Some s) = same s

  -- the one that has a pin becomes the last token
  pub spare-kept : (pins : Pins) (rod : PinnedRod P) (tokens : List (Kept (PinnedRod P))) (t : Kept (PinnedRod P)) → ArePinned number blocks pins (holder (Some rod) tokens)
      → value_at (length tokens) (tokens ++ t ∷ []) ≡ Some rod → ArePinned number blocks pins (holder None (tokens ++ t ∷ []))
  spare-kept pins rod tokens t are last =
      let without : Pins = with_ranges (number rod.pin) None pins in
      let fewer = spare-ends pins without rod tokens are (λ n. refl) in
      pinned-add without pins (holder None tokens) (holder None (tokens ++ t ∷ [])) (Some (length tokens)) rod fewer (append-before tokens) last others
      (with-mine (number rod.pin) None pins (number rod.pin) refl) (are.within None rod refl) back
    where
      others : (at : Option ℕ) → (at ≡ Some (length tokens) → ⊥) → holder None (tokens ++ t ∷ []) at ≡ holder None tokens at
      others None ne = refl
      others (Some s) ne = append-others tokens t s (λ e. ne (ap Some e))

      back : (n : ℕ) → pins n ≡ with_ranges (number rod.pin) (Some rod.ranges) (with_ranges (number rod.pin) None pins) n
      back n = go (cases_eq n (number rod.pin))
        where
          go : (n ≡ number rod.pin) ⊎ (n ≡ number rod.pin → ⊥) → pins n ≡ with_ranges (number rod.pin) (Some rod.ranges) (with_ranges (number rod.pin) None pins) n
          go (inl same) = ap pins same ∙ are.live None rod refl ∙ sym (with-mine (number rod.pin) (Some rod.ranges) (with_ranges (number rod.pin) None pins) n same)
          go (inr ne) = sym (with-other (number rod.pin) (Some rod.ranges) (with_ranges (number rod.pin) None pins) n ne ∙ with-other (number rod.pin) None pins n ne)

  pub spare-last : (pins : Pins) (rod : PinnedRod P) (tokens : List (Kept (PinnedRod P))) (serial count timeout moment : ℕ) → ArePinned number blocks pins (holder (Some rod) tokens)
      → ArePinned number blocks pins (holder None (tokens ++ record { serial = serial; blocks = count; state = Live timeout moment rod } ∷ []))
  spare-last pins rod tokens serial count timeout moment are =
      spare-kept pins rod tokens (record { serial = serial; blocks = count; state = Live timeout moment rod }) are (append-last tokens (record { serial = serial; blocks = count; state = Live timeout moment rod }))
