-- The needed versions are those that the tables of a unit keep
use Rattle.std.proofs.Common.{◌≡◌, ℕ, zero, suc, ◌+◌, ◌<◌, ◌≤◌, List, [], ◌∷◌, ◌++◌, length, refl, ap, sym, ◌∙◌, arith, true, false, Bool, inl, inr}
use Rattle.std.specs.Prelude.{Option, Some, None, ◌==◌, ◌&&◌, ◌||◌, ◌⊎◌, nat_le, nat_lt, map, slice_get, if◌then◌else◌}
use Rattle.std.proofs.lemmas.Bool.{cases_lt, eq-eqb}
use Rattle.std.proofs.lemmas.Bool.Decides.{nat_tests}
use Rattle.std.proofs.lemmas.List.Folds.{list_any-append}
use Rattle.lba_ranges.specs.declared.ranges.Range.{Range}
use Rattle.lba_ranges.specs.Denoted.{row, covers, denotes, is_within}
use Rattle.lba_ranges.specs.Versions.{Version, Writers, IsKept, AreKept, IsNew, same_version, is_listed}
use Rattle.cm_history.specs.Deeds.{Deed}
use Rattle.cm_history.specs.Tokens.{Token, tokens, tokens as made_tokens}
use Rattle.cm_history.proofs.PublicLaws.{and_first, and_second}
use Rattle.rod_store.specs.declared.kept.Kept.{Kept}
use Rattle.rod_store.specs.Kept.{value_at}
use Rattle.rod_store.specs.declared.pinned_rod.PinnedRod.{PinnedRod}
use Rattle.rod_store.specs.Pinning.{holder, ArePinned}
use Rattle.unit_core.specs.Versions.{Sight, Now, ByToken, writer_shown, writer_seen, sights, with_version, versions, seen_versions}
use Rattle.unit_core.specs.inner.Seen.{put_shown, AreWriters}
use Rattle.unit_core.proofs.Writers.{ArePlaced, seen-low}

-- ---- lists of versions

pub same-is : (a b : Version) → same_version a b ≡ true → a ≡ b
same-is a b e =
    let block : a.block ≡ b.block = (let t = and_first (a.block == b.block) (a.put == b.put) e in grind (arith, nat_tests)) in
    let put : a.put ≡ b.put = (let t = and_second (a.block == b.block) (a.put == b.put) e in grind (arith, nat_tests)) in
    ap (λ n. let v : Version = record { block = n; put = a.put } in v) block ∙ ap (λ n. let v : Version = record { block = b.block; put = n } in v) put

pub or-first : (a b : Bool) → a ≡ true → (a || b) ≡ true
or-first true b e = refl
or-first false b e = cc

pub or-second : (a b : Bool) → b ≡ true → (a || b) ≡ true
or-second true b e = refl
or-second false b e = e

or-split : (a b : Bool) → (a || b) ≡ true → (a ≡ true) ⊎ (b ≡ true)
or-split true b e = inl refl
or-split false b e = inr e

module _ (writer : ℕ → Option ℕ) where
  listed-more : (b : ℕ) (o : Option ℕ) (vs : List Version) (v : Version) → is_listed vs v ≡ true → is_listed (with_version b o vs) v ≡ true
  listed-more b None vs v e = e
  listed-more b (Some n) vs v e = or-second (same_version v (record { block = b; put = n })) (is_listed vs v) e

  listed-first : (b : ℕ) (vs : List Version) (v : Version) → b ≡ v.block → writer b ≡ Some v.put → is_listed (with_version b (writer b) vs) v ≡ true
  listed-first b vs v same put =
      let first : (v.block == b) ≡ true = grind (arith, nat_tests) in
      ap (λ o. is_listed (with_version b o vs) v) put
      ∙ ap (λ t. (t && (v.put == v.put)) || is_listed vs v) first
      ∙ ap (λ t. t || is_listed vs v) (eq-eqb v.put v.put refl)

  -- the version of a block of a row is listed
  pub row-listed : (lba count : ℕ) (v : Version) → lba ≤ v.block → v.block < lba + count → writer v.block ≡ Some v.put → is_listed (versions writer (row lba count)) v ≡ true
  row-listed lba zero v low high is = absurd (omega (arith, low, high))
  row-listed lba (suc count) v low high is = go (cases_lt lba v.block) (row-listed (suc lba) count v)
    where
      go : (lba < v.block) ⊎ (v.block ≤ lba) → (suc lba ≤ v.block → v.block < suc lba + count → writer v.block ≡ Some v.put → is_listed (versions writer (row (suc lba) count)) v ≡ true)
          → is_listed (with_version lba (writer lba) (versions writer (row (suc lba) count))) v ≡ true
      go (inl past) ih = listed-more lba (writer lba) (versions writer (row (suc lba) count)) v (ih (omega (arith, past)) (omega (arith, high)) is)
      go (inr at) ih = let same : lba ≡ v.block = omega (arith, at, low) in listed-first lba (versions writer (row (suc lba) count)) v same (ap writer same ∙ is)

  pub listed-row : (lba count : ℕ) (v : Version) → is_listed (versions writer (row lba count)) v ≡ true → (v.block < lba + count) × (writer v.block ≡ Some v.put)
  listed-row lba zero v e = cc
  listed-row lba (suc count) v e = go (writer lba) refl e (λ e. (let r = listed-row (suc lba) count v e in (omega (arith, r.0), r.1)))
    where
      go : (o : Option ℕ) → writer lba ≡ o → is_listed (with_version lba o (versions writer (row (suc lba) count))) v ≡ true
          → (is_listed (versions writer (row (suc lba) count)) v ≡ true → (v.block < lba + suc count) × (writer v.block ≡ Some v.put))
          → (v.block < lba + suc count) × (writer v.block ≡ Some v.put)
      go None put e ih = ih e
      go (Some n) put e ih = pick (or-split (same_version v (record { block = lba; put = n })) (is_listed (versions writer (row (suc lba) count)) v) e)
        where
          pick : (same_version v (record { block = lba; put = n }) ≡ true) ⊎ (is_listed (versions writer (row (suc lba) count)) v ≡ true) → (v.block < lba + suc count) × (writer v.block ≡ Some v.put)
          pick (inl here) =
              let same : v ≡ record { block = lba; put = n } = same-is v (record { block = lba; put = n }) here in
              let block : v.block ≡ lba = ap (λ (x : Version). x.block) same in
              (omega (arith, block), ap writer block ∙ put ∙ ap (λ (x : Version). Some x.put) (sym same))
          pick (inr later) = ih later

-- ---- the versions that some sight sees

pub record IsSeen (seen : Sight → ℕ → Option ℕ) (v : Version) : Type 0 where
  pub sight : Sight
  pub sees : seen sight v.block ≡ Some v.put

module _ (seen : Sight → ℕ → Option ℕ) (n : ℕ) where
  pub listed-seen : (ss : List Sight) (v : Version) → is_listed (seen_versions seen (row 0 n) ss) v ≡ true → (v.block < n) × IsSeen seen v
  listed-seen [] v e = cc
  listed-seen (s ∷ ss) v e =
      go (or-split (is_listed (versions (seen s) (row 0 n)) v) (is_listed (seen_versions seen (row 0 n) ss) v) (sym (list_any-append (same_version v) (versions (seen s) (row 0 n)) (seen_versions seen (row 0 n) ss)) ∙ e))
      (listed-seen ss v)
    where
      go : (is_listed (versions (seen s) (row 0 n)) v ≡ true) ⊎ (is_listed (seen_versions seen (row 0 n) ss) v ≡ true)
          → (is_listed (seen_versions seen (row 0 n) ss) v ≡ true → (v.block < n) × IsSeen seen v) → (v.block < n) × IsSeen seen v
      go (inl here) ih = let r = listed-row (seen s) 0 n v here in (omega (arith, r.0), record { sight = s; sees = r.1 })
      go (inr later) ih = ih later

  pub sight-listed : (before after : List Sight) (s : Sight) (v : Version) → v.block < n → seen s v.block ≡ Some v.put → is_listed (seen_versions seen (row 0 n) (before ++ s ∷ after)) v ≡ true
  sight-listed [] after s v low e =
      list_any-append (same_version v) (versions (seen s) (row 0 n)) (seen_versions seen (row 0 n) after)
      ∙ or-first (is_listed (versions (seen s) (row 0 n)) v) (is_listed (seen_versions seen (row 0 n) after) v) (row-listed (seen s) 0 n v (omega arith) (omega (arith, low)) e)
  sight-listed (x ∷ before) after s v low e =
      list_any-append (same_version v) (versions (seen x) (row 0 n)) (seen_versions seen (row 0 n) (before ++ s ∷ after))
      ∙ or-second (is_listed (versions (seen x) (row 0 n)) v) (is_listed (seen_versions seen (row 0 n) (before ++ s ∷ after)) v) (sight-listed before after s v low e)

-- the sight is one of these
record Among (s : Sight) (ss : List Sight) : Type 0 where
  before : List Sight
  after : List Sight
  is : ss ≡ before ++ s ∷ after

row-sight : (lba count s : ℕ) → lba ≤ s → s < lba + count → Among (ByToken s) (map ByToken (row lba count))
row-sight lba zero s low high = absurd (omega (arith, low, high))
row-sight lba (suc count) s low high = go (cases_lt lba s) (row-sight (suc lba) count s)
  where
    go : (lba < s) ⊎ (s ≤ lba) → (suc lba ≤ s → s < suc lba + count → Among (ByToken s) (map ByToken (row (suc lba) count))) → Among (ByToken s) (ByToken lba ∷ map ByToken (row (suc lba) count))
    go (inl past) ih = let r = ih (omega (arith, past)) (omega (arith, high)) in record { before = ByToken lba ∷ r.before; after = r.after; is = ap (λ l. ByToken lba ∷ l) r.is }
    go (inr at) ih = let same : lba ≡ s = omega (arith, at, low) in record { before = []; after = map ByToken (row (suc lba) count); is = ap (λ k. ByToken k ∷ map ByToken (row (suc lba) count)) same }

pub seen-made : (ts : List Token) (s block place : ℕ) → writer_shown (slice_get ts s) block ≡ Some place → s < length ts
seen-made [] s block place e = cc
seen-made (t ∷ ts) zero block place e = omega arith
seen-made (t ∷ ts) (suc s) block place e = let low = seen-made ts s block place e in omega (arith, low)

-- what a past makes any sight see is listed
pub seen-listed : (n : ℕ) (past : List Deed) (sight : Sight) (v : Version) → v.block < n → writer_seen past sight v.block ≡ Some v.put
    → is_listed (seen_versions (writer_seen past) (row 0 n) (sights (length (tokens past)))) v ≡ true
seen-listed n past Now v low e = sight-listed (writer_seen past) n [] (map ByToken (row 0 (length (tokens past)))) Now v low e
seen-listed n past (ByToken s) v low e =
    let made = seen-made (tokens past) s v.block v.put e in
    let r = row-sight 0 (length (tokens past)) s (omega arith) (omega (arith, made)) in
    ap (λ l. is_listed (seen_versions (writer_seen past) (row 0 n) (Now ∷ l)) v) r.is ∙ sight-listed (writer_seen past) n (Now ∷ r.before) r.after (ByToken s) v low e

-- ---- the versions that the tables keep

pub denoted-low : (n : ℕ) (ranges : List Range) (block : ℕ) → is_within n ranges ≡ true → denotes ranges block ≡ true → block < n
denoted-low n [] block inside den = cc
denoted-low n (r ∷ rs) block inside den = go (covers block r) refl den (denoted-low n rs block (and_second (nat_le (r.lba + r.count) n) (is_within n rs) inside))
  where
    first : r.lba + r.count ≤ n
    first = let e = and_first (nat_le (r.lba + r.count) n) (is_within n rs) inside in grind (arith, nat_tests)

    go : (t : Bool) → covers block r ≡ t → (t || denotes rs block) ≡ true → (denotes rs block ≡ true → block < n) → block < n
    go true e d ih =
        let high = and_second (nat_le r.lba block) (nat_lt block (r.lba + r.count)) e in
        let low : block < r.lba + r.count = grind (arith, nat_tests) in omega (arith, low, first)
    go false e d ih = ih d

module _ {P : Type 0} (number : P → ℕ) (blocks : ℕ) (pinned : ℕ → Option (List Range)) (written_by : Writers → Type 0) (tokens : List (Kept (PinnedRod P))) (past : List Deed)
    (pins : ArePinned number blocks pinned (holder None tokens)) (are : AreWriters number written_by tokens (writer_seen past)) where
  -- a version that is kept is seen
  pub kept-seen : (v : Version) → IsKept blocks pinned are.writers v → (v.block < blocks) × IsSeen (writer_seen past) v
  kept-seen v (inl current) = (current.0, record { sight = Now; sees = sym (are.same Now v.block) ∙ current.1 })
  kept-seen v (inr shown) =
      let held = pins.held shown.pin shown.ranges shown.live in
      go held.by held.rod held.held held.is
    where
      go : (by : Option ℕ) (rod : PinnedRod P) → holder None tokens by ≡ Some rod → number rod.pin ≡ shown.pin → (v.block < blocks) × IsSeen (writer_seen past) v
      go None rod e is = cc
      go (Some s) rod e is =
          let live : pinned (number rod.pin) ≡ Some shown.ranges = ap pinned is ∙ shown.live in
          let its : Some rod.ranges ≡ Some shown.ranges = sym (pins.live (Some s) rod e) ∙ live in
          let same : rod.ranges ≡ shown.ranges = cc in
          let den : denotes rod.ranges v.block ≡ true = ap (λ r. denotes r v.block) same ∙ shown.denoted in
          let sees : writer_seen past (ByToken s) v.block ≡ Some v.put =
          sym (are.same (ByToken s) v.block)
          ∙ ap (λ o. put_shown number are.writers o v.block) e
          ∙ ap (λ b. if b then are.writers.shown (number rod.pin) v.block else None) den
          ∙ ap (λ n. are.writers.shown n v.block) is
          ∙ shown.put in
          (denoted-low blocks rod.ranges v.block (pins.within (Some s) rod e) den, record { sight = ByToken s; sees = sees })

  seen-kept : (v : Version) → v.block < blocks → (sight : Sight) → writer_seen past sight v.block ≡ Some v.put → IsKept blocks pinned are.writers v
  seen-kept v low Now e = inl (low, are.same Now v.block ∙ e)
  seen-kept v low (ByToken s) e = go (value_at s tokens) refl (are.same (ByToken s) v.block ∙ e)
    where
      go : (o : Option (PinnedRod P)) → value_at s tokens ≡ o → put_shown number are.writers o v.block ≡ Some v.put → IsKept blocks pinned are.writers v
      go None found e = cc
      go (Some rod) found e = covered (denotes rod.ranges v.block) refl e
        where
          covered : (t : Bool) → denotes rod.ranges v.block ≡ t → (if t then are.writers.shown (number rod.pin) v.block else None) ≡ Some v.put → IsKept blocks pinned are.writers v
          covered true den e = inr (record { pin = number rod.pin; ranges = rod.ranges; live = pins.live (Some s) rod found; denoted = den; put = e })
          covered false den e = cc

  -- the versions that are needed are those that are kept
  pub needed-kept : (n : ℕ) → blocks ≡ n → AreKept blocks pinned are.writers (seen_versions (writer_seen past) (row 0 n) (sights (length (made_tokens past))))
  needed-kept n count = record {
    all = λ v kept. (let r = kept-seen v kept in seen-listed n past r.1.sight v (omega (arith, r.0, count)) r.1.sees);
    only = λ v e. (let r = listed-seen (writer_seen past) n (sights (length (made_tokens past))) v e in seen-kept v (omega (arith, r.0, count)) r.1.sight r.1.sees);
  }

  -- the next deed's place is new
  pub next-new : ArePlaced past → IsNew blocks pinned are.writers (length past)
  next-new placed block kept =
      let r = kept-seen (record { block = block; put = length past }) kept in
      let low = seen-low past r.1.sight block (length past) placed r.1.sees in
      omega (arith, low)
