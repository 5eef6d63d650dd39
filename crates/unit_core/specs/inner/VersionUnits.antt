-- Which of the versions that a VersionUnit keeps are the same
use Rattle.std.proofs.Common.{◌≡◌, ℕ, List, [], ◌∷◌, refl, ap, sym, ◌∙◌, true, false, Bool, true≢false}
use Rattle.std.proofs.lemmas.Bool.{eq-eqb, eqb-true}
use Rattle.std.specs.Prelude.{Option, Some, None, is_some, nat_le, ◌||◌, ◌==◌, option_map, if◌then◌else◌}
use Rattle.std.specs.List.{list_any}
use Rattle.slab.specs.Slab.{get}
use Rattle.lba_ranges.specs.declared.ranges.Range.{Range}
use Rattle.lba_ranges.specs.Denoted.{denotes, has_repeat}
use Rattle.lba_ranges.specs.Versions.{Writers}
use Rattle.lba_ranges.specs.Writings.{Held}
use Rattle.lun_versions.specs.declared.pinned.Pinned.{Pinned}
use Rattle.lun_versions.specs.Chains.{Slot, put_at, somes, AreAlike}
use Rattle.lun_versions.specs.Units.{ranges_of}
use Rattle.lun_versions.specs.Versioned.{Versioned, holds, chain, WrittenBy}
use Rattle.unit_core.specs.Versions.{same_put}
use Rattle.unit_core.specs.Sharing.{put_of, IsSeenBy, AreShared}

-- the earlier version is the one that this sees: each that was there when its pin was made, or none
abbrev pub stops : Option Pinned → Slot → Bool
stops None s = false
stops (Some p) s = nat_le p.time s.to

-- the two see one version: both stop at it, and it is mapped
abbrev pub is_one : (Slot → Bool) → (Slot → Bool) → List Slot → Held → Bool
is_one f g [] now = is_some now
is_one f g (s ∷ ss) now = if f s then (if g s then is_some s.held else false) else (if g s then false else is_one f g ss now)

abbrev pub pinned_of : Versioned → Option ℕ → Option Pinned
pinned_of u None = None
pinned_of u (Some pin) = get u.pins pin

abbrev pub shares_of : Versioned → Option ℕ → Option ℕ → ℕ → Bool
shares_of u one other block = is_one (stops (pinned_of u one)) (stops (pinned_of u other)) (chain u block) (holds u block)

-- ---- it is so whichever puts wrote the versions

-- the put that wrote what is seen so
abbrev pub put_by : (Slot → Bool) → List Slot → List (Option ℕ) → Option ℕ → Option ℕ
put_by f [] puts now = now
put_by f (s ∷ ss) [] now = now
put_by f (s ∷ ss) (p ∷ ps) now = if f s then p else put_by f ss ps now

put-is : (f : Slot → Bool) (time : ℕ) (ss : List Slot) (ps : List (Option ℕ)) (now : Option ℕ) → ((s : Slot) → f s ≡ nat_le time s.to) → put_at ss ps time now ≡ put_by f ss ps now
put-is f time [] ps now same = refl
put-is f time (s ∷ ss) [] now same = refl
put-is f time (s ∷ ss) (p ∷ ps) now same =
    ap (λ t. if nat_le time s.to then p else t) (put-is f time ss ps now same) ∙ ap (λ t. if t then p else put_by f ss ps now) (sym (same s))

now-is : (f : Slot → Bool) (ss : List Slot) (ps : List (Option ℕ)) (now : Option ℕ) → ((s : Slot) → f s ≡ false) → now ≡ put_by f ss ps now
now-is f [] ps now none = refl
now-is f (s ∷ ss) [] now none = refl
now-is f (s ∷ ss) (p ∷ ps) now none = now-is f ss ps now none ∙ ap (λ t. if t then p else put_by f ss ps now) (sym (none s))

same-self : (p : Option ℕ) → same_put p p ≡ is_some p
same-self None = refl
same-self (Some n) = eq-eqb n n refl

or-left : (a b : Bool) → (a || b) ≡ false → a ≡ false
or-left true b e = e
or-left false b e = refl

or-right : (a b : Bool) → (a || b) ≡ false → b ≡ false
or-right true b e = absurd (true≢false e)
or-right false b e = e

eq-sym : (a b : ℕ) → (a == b) ≡ false → (b == a) ≡ false
eq-sym a b e = go (b == a) refl
  where
    go : (t : Bool) → (b == a) ≡ t → t ≡ false
    go true same = absurd (true≢false (sym (eq-eqb a b (sym (eqb-true b a same))) ∙ e))
    go false same = refl

-- a put that is none of these is not the one that is seen
others : (f : Slot → Bool) (m : ℕ) (ss : List Slot) (ps : List (Option ℕ)) (now : Option ℕ) → AreAlike ss ps → list_any (λ a. a == m) (somes (now ∷ ps)) ≡ false → same_put (put_by f ss ps now) (Some m) ≡ false
others f m [] ps None alike none = refl
others f m [] ps (Some n) alike none = or-left (n == m) (list_any (λ a. a == m) (somes ps)) none
others f m (s ∷ ss) [] now alike none = absurd alike
others f m (s ∷ ss) (p ∷ ps) now alike none = go (f s) p now none (λ k e. others f m ss ps k alike.1 e)
  where
    go : (t : Bool) (p now : Option ℕ) → list_any (λ a. a == m) (somes (now ∷ p ∷ ps)) ≡ false
        → ((k : Option ℕ) → list_any (λ a. a == m) (somes (k ∷ ps)) ≡ false → same_put (put_by f ss ps k) (Some m) ≡ false)
        → same_put (if t then p else put_by f ss ps now) (Some m) ≡ false
    go true None now e ih = refl
    go true (Some n) None e ih = or-left (n == m) (list_any (λ a. a == m) (somes ps)) e
    go true (Some n) (Some k) e ih = or-left (n == m) (list_any (λ a. a == m) (somes ps)) (or-right (k == m) (list_any (λ a. a == m) (n ∷ somes ps)) e)
    go false None None e ih = ih None e
    go false None (Some k) e ih = ih (Some k) e
    go false (Some n) None e ih = ih None (or-right (n == m) (list_any (λ a. a == m) (somes ps)) e)
    go false (Some n) (Some k) e ih =
        let first = or-left (k == m) (list_any (λ a. a == m) (n ∷ somes ps)) e in
        let rest = or-right (n == m) (list_any (λ a. a == m) (somes ps)) (or-right (k == m) (list_any (λ a. a == m) (n ∷ somes ps)) e) in
        ih (Some k) (ap (λ t. t || list_any (λ a. a == m) (somes ps)) first ∙ rest)

flip : (p q : Option ℕ) → same_put p q ≡ false → same_put q p ≡ false
flip None None e = refl
flip None (Some b) e = refl
flip (Some a) None e = refl
flip (Some a) (Some b) e = eq-sym a b e

-- one of the puts is not another that is seen
apart : (f : Slot → Bool) (p : Option ℕ) (ss : List Slot) (ps : List (Option ℕ)) (now : Option ℕ) → AreAlike ss ps → has_repeat (somes (now ∷ p ∷ ps)) ≡ false → same_put (put_by f ss ps now) p ≡ false
apart f None ss ps now alike once = none (put_by f ss ps now)
  where
    none : (q : Option ℕ) → same_put q None ≡ false
    none None = refl
    none (Some n) = refl
apart f (Some m) ss ps None alike once = others f m ss ps None alike (or-left (list_any (λ a. a == m) (somes ps)) (has_repeat (somes ps)) once)
apart f (Some m) ss ps (Some k) alike once =
    let first = or-left (m == k) (list_any (λ a. a == k) (somes ps)) (or-left (list_any (λ a. a == k) (m ∷ somes ps)) (has_repeat (m ∷ somes ps)) once) in
    let rest = or-left (list_any (λ a. a == m) (somes ps)) (has_repeat (somes ps)) (or-right (list_any (λ a. a == k) (m ∷ somes ps)) (has_repeat (m ∷ somes ps)) once) in
    others f m ss ps (Some k) alike (ap (λ t. t || list_any (λ a. a == m) (somes ps)) (eq-sym m k first) ∙ rest)

drop-second : (p : Option ℕ) (ps : List (Option ℕ)) (now : Option ℕ) → has_repeat (somes (now ∷ p ∷ ps)) ≡ false → has_repeat (somes (now ∷ ps)) ≡ false
drop-second None ps now once = drop-none now once
  where
    drop-none : (now : Option ℕ) → has_repeat (somes (now ∷ None ∷ ps)) ≡ false → has_repeat (somes (now ∷ ps)) ≡ false
    drop-none None e = e
    drop-none (Some k) e = e
drop-second (Some m) ps None once = or-right (list_any (λ a. a == m) (somes ps)) (has_repeat (somes ps)) once
drop-second (Some m) ps (Some k) once =
    let first = or-right (m == k) (list_any (λ a. a == k) (somes ps)) (or-left (list_any (λ a. a == k) (m ∷ somes ps)) (has_repeat (m ∷ somes ps)) once) in
    let rest = or-right (list_any (λ a. a == m) (somes ps)) (has_repeat (somes ps)) (or-right (list_any (λ a. a == k) (m ∷ somes ps)) (has_repeat (m ∷ somes ps)) once) in
    ap (λ t. t || has_repeat (somes ps)) first ∙ rest

-- the same put is seen where one version is
one-seen : (f g : Slot → Bool) (ss : List Slot) (ps : List (Option ℕ)) (held : Held) (now : Option ℕ) → is_some now ≡ is_some held → AreAlike ss ps → has_repeat (somes (now ∷ ps)) ≡ false
    → same_put (put_by f ss ps now) (put_by g ss ps now) ≡ is_one f g ss held
one-seen f g [] ps held now current alike once = same-self now ∙ current
one-seen f g (s ∷ ss) [] held now current alike once = absurd alike
one-seen f g (s ∷ ss) (p ∷ ps) held now current alike once = go (f s) (g s) (one-seen f g ss ps held now current alike.1 (drop-second p ps now once))
  where
    go : (t u : Bool) → same_put (put_by f ss ps now) (put_by g ss ps now) ≡ is_one f g ss held
        → same_put (if t then p else put_by f ss ps now) (if u then p else put_by g ss ps now)
        ≡ (if t then (if u then is_some s.held else false) else (if u then false else is_one f g ss held))
    go true true ih = same-self p ∙ alike.0
    go true false ih = flip (put_by g ss ps now) p (apart g p ss ps now alike.1 once)
    go false true ih = apart f p ss ps now alike.1 once
    go false false ih = ih

module _ (u : Versioned) (w : Writers) (by : WrittenBy u w) where
  put-seen : (one : Option ℕ) (block : ℕ) → IsSeenBy (ranges_of (get u.pins)) one block → put_of w one block ≡ put_by (stops (pinned_of u one)) (chain u block) (by.puts block) (w.now block)
  put-seen None block seen = now-is (stops None) (chain u block) (by.puts block) (w.now block) (λ s. refl)
  put-seen (Some pin) block seen = go (get u.pins pin) refl seen.0 seen.1 seen.2
    where
      go : (o : Option Pinned) → get u.pins pin ≡ o → (ranges : List Range) → ranges_of (get u.pins) pin ≡ Some ranges → denotes ranges block ≡ true
          → w.shown pin block ≡ put_by (stops (get u.pins pin)) (chain u block) (by.puts block) (w.now block)
      go None e ranges is den = absurd (none-some (sym (ap (option_map (λ (p : Pinned). p.ranges)) e) ∙ is))
        where
          none-some : None ≡ Some ranges → ⊥
          none-some h = true≢false (ap (λ (o : Option (List Range)). is_some o) (sym h))
      go (Some p) e ranges is den =
          let same : Some p.ranges ≡ Some ranges = sym (ap (option_map (λ (q : Pinned). q.ranges)) e) ∙ is in
          let covered : denotes p.ranges block ≡ true = ap (λ (o : Option (List Range)). denotes (ranges_or o) block) same ∙ den in
          by.shown pin p block e covered
          ∙ put-is (stops (Some p)) p.time (chain u block) (by.puts block) (w.now block) (λ s. refl)
          ∙ ap (λ (o : Option Pinned). put_by (stops o) (chain u block) (by.puts block) (w.now block)) (sym e)
        where
          ranges_or : Option (List Range) → List Range
          ranges_or None = []
          ranges_or (Some r) = r

pub shares_told : (u : Versioned) (w : Writers) → WrittenBy u w → AreShared u.current.blocks (ranges_of (get u.pins)) (shares_of u) w
shares_told u w by one other block low first second =
    let is = by.written block low in
    ap (λ p. same_put p (put_of w other block)) (put-seen u w by one block first)
    ∙ ap (λ p. same_put (put_by (stops (pinned_of u one)) (chain u block) (by.puts block) (w.now block)) p) (put-seen u w by other block second)
    ∙ one-seen (stops (pinned_of u one)) (stops (pinned_of u other)) (chain u block) (by.puts block) (holds u block) (w.now block) is.current is.earlier is.apart
