-- Which of the versions that are seen are the same, as tables show it and as a past tells it
use Rattle.std.proofs.Common.{◌≡◌, ℕ, zero, suc, ◌+◌, ◌<◌, ◌≤◌, List, [], ◌∷◌, length, refl, ap, sym, ◌∙◌, arith, true, false, Bool, inl, inr}
use Rattle.std.specs.Prelude.{Option, Some, None, ◌⊎◌, map, slice_get, if◌then◌else◌}
use Rattle.std.proofs.lemmas.Bool.{cases_lt, eq-eqb}
use Rattle.std.proofs.lemmas.Bool.Decides.{nat_tests}
use Rattle.lba_ranges.specs.declared.ranges.Range.{Range}
use Rattle.lba_ranges.specs.Denoted.{row, denotes}
use Rattle.lba_ranges.specs.Versions.{Writers}
use Rattle.lba_ranges.specs.Writings.{Writing}
use Rattle.cm_history.specs.Deeds.{Deed}
use Rattle.cm_history.specs.Tokens.{Token, tokens as made_tokens}
use Rattle.cm_history.proofs.PublicLaws.{In, map-same}
use Rattle.rod_store.specs.declared.kept.Kept.{Kept}
use Rattle.rod_store.specs.Kept.{value_at}
use Rattle.rod_store.specs.declared.pinned_rod.PinnedRod.{PinnedRod}
use Rattle.rod_store.specs.Pinning.{holder, ArePinned}
use Rattle.unit_core.specs.Versions.{Sight, Now, ByToken, writer_shown, writer_seen, sights, same_put, shares, shares_table}
use Rattle.unit_core.specs.Sharing.{AreShared, IsSeenBy, put_of}
use Rattle.unit_core.specs.inner.Seen.{Origin, Nothing, Put, Before, origin, put_from, seen_after, put_shown, put_seen, pin_shown, pin_seen, if_both, shares_shown, AreWriters}
use Rattle.unit_core.proofs.Writers.{ArePlaced, seen-low}

-- ---- one more act

-- what is seen of the first blocks shares its versions as the other does
abbrev pub ShareAlike : ℕ → (Sight → ℕ → Option ℕ) → (Sight → ℕ → Option ℕ) → Type 0
ShareAlike n f g = (one other : Sight) (block : ℕ) → block < n → shares f one other block ≡ shares g one other block

-- the put wrote nothing that is seen
abbrev pub IsUnseen : ℕ → (Sight → ℕ → Option ℕ) → Type 0
IsUnseen put f = (sight : Sight) (block : ℕ) → same_put (f sight block) (Some put) ≡ false

none-right : (p : Option ℕ) → same_put p None ≡ false
none-right None = refl
none-right (Some n) = refl

turned : (p q : Option ℕ) → same_put p q ≡ false → same_put q p ≡ false
turned None None e = refl
turned None (Some b) e = refl
turned (Some a) None e = refl
turned (Some a) (Some b) e = grind (arith, nat_tests)

-- an act of which the same is seen after both leaves them alike
pub alike-after : (n p q : ℕ) (ws : List Writing) (made : Option (List Range)) (serial : ℕ) (lives : ℕ → Bool) (f g : Sight → ℕ → Option ℕ) → ShareAlike n f g → IsUnseen p f → IsUnseen q g
    → ShareAlike n (seen_after p ws made serial lives f) (seen_after q ws made serial lives g)
alike-after n p q ws made serial lives f g alike fresh new one other block low = go (origin ws made serial lives one block) (origin ws made serial lives other block)
  where
    go : (x y : Origin) → same_put (put_from p f block x) (put_from p f block y) ≡ same_put (put_from q g block x) (put_from q g block y)
    go Nothing y = refl
    go Put Nothing = refl
    go Put Put = eq-eqb p p refl ∙ sym (eq-eqb q q refl)
    go Put (Before s) = turned (f s block) (Some p) (fresh s block) ∙ sym (turned (g s block) (Some q) (new s block))
    go (Before s) Nothing = none-right (f s block) ∙ sym (none-right (g s block))
    go (Before s) Put = fresh s block ∙ sym (new s block)
    go (Before s) (Before r) = alike s r block low

-- the next deed's place is new
pub next-unseen : (past : List Deed) → ArePlaced past → IsUnseen (length past) (writer_seen past)
next-unseen past are sight block = go (writer_seen past sight block) refl
  where
    go : (o : Option ℕ) → writer_seen past sight block ≡ o → same_put o (Some (length past)) ≡ false
    go None e = refl
    go (Some n) e = let low = seen-low past sight block n are e in grind (arith, nat_tests)

pub alike-same : (n : ℕ) (f f' g g' : Sight → ℕ → Option ℕ) → ((s : Sight) (b : ℕ) → f' s b ≡ f s b) → ((s : Sight) (b : ℕ) → g' s b ≡ g s b) → ShareAlike n f g → ShareAlike n f' g'
alike-same n f f' g g' fs gs alike one other block low =
    ap (λ p. same_put p (f' other block)) (fs one block) ∙ ap (same_put (f one block)) (fs other block) ∙ alike one other block low
    ∙ sym (ap (λ p. same_put p (g' other block)) (gs one block) ∙ ap (same_put (g one block)) (gs other block))

-- ---- tables of what is shared

map-at : {X Y : Type 0} (f g : X → Y) (xs : List X) (x : X) → map f xs ≡ map g xs → In x xs → f x ≡ g x
map-at f g [] x e i = absurd i
map-at f g (y ∷ ys) x e (inl same) = let here : f y ≡ g y = cc in ap f (sym same) ∙ here ∙ ap g same
map-at f g (y ∷ ys) x e (inr i) = let rest : map f ys ≡ map g ys = cc in map-at f g ys x rest i

in-row : (lba count b : ℕ) → lba ≤ b → b < lba + count → In b (row lba count)
in-row lba zero b low high = absurd (omega (arith, low, high))
in-row lba (suc count) b low high = go (cases_lt lba b) (in-row (suc lba) count b)
  where
    go : (lba < b) ⊎ (b ≤ lba) → (suc lba ≤ b → b < suc lba + count → In b (row (suc lba) count)) → In b (row lba (suc count))
    go (inl past) ih = inr (ih (omega (arith, past)) (omega (arith, high)))
    go (inr at) ih = inl (omega (arith, at, low))

row-in : (lba count b : ℕ) → In b (row lba count) → b < lba + count
row-in lba zero b i = absurd i
row-in lba (suc count) b (inl same) = omega (arith, same)
row-in lba (suc count) b (inr i) = let low = row-in (suc lba) count b i in omega (arith, low)

token-in : (lba count s : ℕ) → In s (row lba count) → In (ByToken s) (map ByToken (row lba count))
token-in lba zero s i = absurd i
token-in lba (suc count) s (inl same) = inl (ap ByToken same)
token-in lba (suc count) s (inr i) = inr (token-in (suc lba) count s i)

-- tables of the same are the same
pub table-same : (n made : ℕ) (f g : Sight → Sight → ℕ → Bool) → ((one other : Sight) (block : ℕ) → block < n → f one other block ≡ g one other block) → shares_table n made f ≡ shares_table n made g
table-same n made f g same =
    map-same (λ one. map (λ other. map (f one other) (row 0 n)) (sights made)) (λ one. map (λ other. map (g one other) (row 0 n)) (sights made)) (sights made)
    (λ one i. map-same (λ other. map (f one other) (row 0 n)) (λ other. map (g one other) (row 0 n)) (sights made)
    (λ other j. map-same (f one other) (g one other) (row 0 n) (λ b k. (let low = row-in 0 n b k in same one other b (omega (arith, low))))))

table-at : (n made : ℕ) (f g : Sight → Sight → ℕ → Bool) → shares_table n made f ≡ shares_table n made g → (one other : Sight) (block : ℕ) → In one (sights made) → In other (sights made) → block < n
    → f one other block ≡ g one other block
table-at n made f g same one other block i j low =
    let first = map-at (λ x. map (λ y. map (f x y) (row 0 n)) (sights made)) (λ x. map (λ y. map (g x y) (row 0 n)) (sights made)) (sights made) one same i in
    let second = map-at (λ y. map (f one y) (row 0 n)) (λ y. map (g one y) (row 0 n)) (sights made) other first j in
    map-at (f one other) (g one other) (row 0 n) block second (in-row 0 n block (omega arith) (omega (arith, low)))

-- past the tokens that were made nothing is seen
shown-none : (ts : List Token) (s block : ℕ) → length ts ≤ s → writer_shown (slice_get ts s) block ≡ None
shown-none [] s block high = refl
shown-none (t ∷ ts) zero block high = absurd (omega (arith, high))
shown-none (t ∷ ts) (suc s) block high = shown-none ts s block (omega (arith, high))

ranked : (past : List Deed) (made : ℕ) → length (made_tokens past) ≡ made → (s : Sight) → In s (sights made) ⊎ ((block : ℕ) → writer_seen past s block ≡ None)
ranked past made count Now = inl (inl refl)
ranked past made count (ByToken s) = go (cases_lt s made)
  where
    go : (s < made) ⊎ (made ≤ s) → In (ByToken s) (sights made) ⊎ ((block : ℕ) → writer_seen past (ByToken s) block ≡ None)
    go (inl low) = inl (inr (token-in 0 made s (in-row 0 made s (omega arith) (omega (arith, low)))))
    go (inr high) = inr (λ block. shown-none (made_tokens past) s block (omega (arith, high, count)))

-- pasts with one table are alike
pub table-alike : (n made : ℕ) (past other : List Deed) → length (made_tokens past) ≡ made → length (made_tokens other) ≡ made
    → shares_table n made (shares (writer_seen past)) ≡ shares_table n made (shares (writer_seen other)) → ShareAlike n (writer_seen past) (writer_seen other)
table-alike n made past other here there same one two block low = go (ranked past made here one) (ranked past made here two) (ranked other made there one) (ranked other made there two)
  where
    go : In one (sights made) ⊎ ((block : ℕ) → writer_seen past one block ≡ None) → In two (sights made) ⊎ ((block : ℕ) → writer_seen past two block ≡ None)
        → In one (sights made) ⊎ ((block : ℕ) → writer_seen other one block ≡ None) → In two (sights made) ⊎ ((block : ℕ) → writer_seen other two block ≡ None)
        → same_put (writer_seen past one block) (writer_seen past two block) ≡ same_put (writer_seen other one block) (writer_seen other two block)
    go (inl i) (inl j) a b = table-at n made (shares (writer_seen past)) (shares (writer_seen other)) same one two block i j low
    go (inr x) j (inl i) (inl k) = table-at n made (shares (writer_seen past)) (shares (writer_seen other)) same one two block i k low
    go (inr x) j (inr y) b = ap (λ o. same_put o (writer_seen past two block)) (x block) ∙ sym (ap (λ o. same_put o (writer_seen other two block)) (y block))
    go (inr x) j a (inr z) =
        ap (λ o. same_put o (writer_seen past two block)) (x block) ∙ sym (ap (same_put (writer_seen other one block)) (z block) ∙ none-right (writer_seen other one block))
    go (inl i) (inr x) a (inl k) = table-at n made (shares (writer_seen past)) (shares (writer_seen other)) same one two block i k low
    go (inl i) (inr x) a (inr z) =
        ap (same_put (writer_seen past one block)) (x block) ∙ none-right (writer_seen past one block)
        ∙ sym (ap (same_put (writer_seen other one block)) (z block) ∙ none-right (writer_seen other one block))

-- ---- what tables show

module _ {P : Type 0} (number : P → ℕ) (blocks : ℕ) (pinned : ℕ → Option (List Range)) (written_by : Writers → Type 0) (tokens : List (Kept (PinnedRod P))) (past : List Deed)
    (pins : ArePinned number blocks pinned (holder None tokens)) (are : AreWriters number written_by tokens (writer_seen past)) where
  -- a sight sees what is current, or what a pin shows
  abbrev Seeing : Sight → ℕ → Type 0
  Seeing sight block = (by : Option ℕ) × (pin_seen number tokens sight block ≡ Some by) × (put_seen number are.writers tokens sight block ≡ put_of are.writers by block) × IsSeenBy pinned by block

  -- or nothing
  abbrev Blind : Sight → ℕ → Type 0
  Blind sight block = (pin_seen number tokens sight block ≡ None) × (put_seen number are.writers tokens sight block ≡ None)

  look : (sight : Sight) (block : ℕ) → Seeing sight block ⊎ Blind sight block
  look Now block = inl (None, refl, refl, tt)
  look (ByToken s) block = go (value_at s tokens) refl
    where
      go : (o : Option (PinnedRod P)) → value_at s tokens ≡ o
          → ((by : Option ℕ) × (pin_shown number (value_at s tokens) block ≡ Some by) × (put_shown number are.writers (value_at s tokens) block ≡ put_of are.writers by block) × IsSeenBy pinned by block)
          ⊎ ((pin_shown number (value_at s tokens) block ≡ None) × (put_shown number are.writers (value_at s tokens) block ≡ None))
      go None e = inr (ap (λ o. pin_shown number o block) e, ap (λ o. put_shown number are.writers o block) e)
      go (Some rod) e = covered (denotes rod.ranges block) refl
        where
          pin : (t : Bool) → denotes rod.ranges block ≡ t → pin_shown number (value_at s tokens) block ≡ (if t then Some (Some (number rod.pin)) else None)
          pin t den = ap (λ o. pin_shown number o block) e ∙ ap (λ b. if b then Some (Some (number rod.pin)) else None) den

          put : (t : Bool) → denotes rod.ranges block ≡ t → put_shown number are.writers (value_at s tokens) block ≡ (if t then are.writers.shown (number rod.pin) block else None)
          put t den = ap (λ o. put_shown number are.writers o block) e ∙ ap (λ b. if b then are.writers.shown (number rod.pin) block else None) den

          covered : (t : Bool) → denotes rod.ranges block ≡ t
              → ((by : Option ℕ) × (pin_shown number (value_at s tokens) block ≡ Some by) × (put_shown number are.writers (value_at s tokens) block ≡ put_of are.writers by block) × IsSeenBy pinned by block)
              ⊎ ((pin_shown number (value_at s tokens) block ≡ None) × (put_shown number are.writers (value_at s tokens) block ≡ None))
          covered true den = inl (Some (number rod.pin), pin true den, put true den, (rod.ranges, pins.live (Some s) rod e, den))
          covered false den = inr (pin false den, put false den)

  both-none : (shared : Option ℕ → Option ℕ → Bool) (o : Option (Option ℕ)) → if_both shared o None ≡ false
  both-none shared None = refl
  both-none shared (Some p) = refl

  -- the tables show which of the versions that the deeds wrote are the same
  pub shares-are : (shared : Option ℕ → Option ℕ → ℕ → Bool) → AreShared blocks pinned shared are.writers
      → (one other : Sight) (block : ℕ) → block < blocks → shares_shown number shared tokens one other block ≡ shares (writer_seen past) one other block
  shares-are shared told one other block low = go (look one block) (look other block) ∙ by-puts
    where
      by-puts : same_put (put_seen number are.writers tokens one block) (put_seen number are.writers tokens other block) ≡ shares (writer_seen past) one other block
      by-puts =
          ap (λ p. same_put p (put_seen number are.writers tokens other block)) (are.same one block)
          ∙ ap (same_put (writer_seen past one block)) (are.same other block)

      go : ((by : Option ℕ) × (pin_seen number tokens one block ≡ Some by) × (put_seen number are.writers tokens one block ≡ put_of are.writers by block) × IsSeenBy pinned by block)
          ⊎ ((pin_seen number tokens one block ≡ None) × (put_seen number are.writers tokens one block ≡ None))
          → ((by : Option ℕ) × (pin_seen number tokens other block ≡ Some by) × (put_seen number are.writers tokens other block ≡ put_of are.writers by block) × IsSeenBy pinned by block)
          ⊎ ((pin_seen number tokens other block ≡ None) × (put_seen number are.writers tokens other block ≡ None))
          → shares_shown number shared tokens one other block ≡ same_put (put_seen number are.writers tokens one block) (put_seen number are.writers tokens other block)
      go (inl a) (inl b) =
          ap (λ p. if_both (λ x y. shared x y block) p (pin_seen number tokens other block)) a.1
          ∙ ap (if_both (λ x y. shared x y block) (Some a.0)) b.1
          ∙ sym (told a.0 b.0 block low a.3 b.3)
          ∙ sym (ap (λ p. same_put p (put_seen number are.writers tokens other block)) a.2 ∙ ap (same_put (put_of are.writers a.0 block)) b.2)
      go (inl a) (inr b) =
          ap (if_both (λ x y. shared x y block) (pin_seen number tokens one block)) b.0 ∙ both-none (λ x y. shared x y block) (pin_seen number tokens one block)
          ∙ sym (ap (same_put (put_seen number are.writers tokens one block)) b.1 ∙ none-right (put_seen number are.writers tokens one block))
      go (inr a) b =
          ap (λ p. if_both (λ x y. shared x y block) p (pin_seen number tokens other block)) a.0
          ∙ sym (ap (λ p. same_put p (put_seen number are.writers tokens other block)) a.1)
