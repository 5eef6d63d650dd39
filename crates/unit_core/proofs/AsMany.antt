-- After each past whose versions are shared alike as many are needed
use Rattle.std.proofs.Common.{◌≡◌, ℕ, suc, ◌<◌, ◌≤◌, List, [], ◌∷◌, length, refl, ap, sym, ◌∙◌, subst, arith, true, false, Bool}
use Rattle.std.specs.Prelude.{Option, Some, None, ◌==◌, ◌&&◌, ◌||◌, if◌then◌else◌}
use Rattle.std.proofs.lemmas.Bool.{eq-eqb}
use Rattle.cm_base.specs.declared.config.UnitConfig.{UnitConfig}
use Rattle.lba_ranges.specs.Denoted.{row}
use Rattle.lba_ranges.specs.Versions.{Version, same_version, is_listed, without_repeats}
use Rattle.cm_history.specs.Deeds.{Deed}
use Rattle.cm_history.specs.Tokens.{tokens}
use Rattle.unit_core.specs.Versions.{Sight, writer_seen, sights, seen_versions, needed, same_put}
use Rattle.unit_core.proofs.Alike.{ShareAlike}
use Rattle.unit_core.proofs.Needed.{same-is, or-second, listed-seen, seen-listed}

same-self : (a : Version) → same_version a a ≡ true
same-self a = ap (λ t. t && (a.put == a.put)) (eq-eqb a.block a.block refl) ∙ eq-eqb a.put a.put refl

same-sym : (a b : Version) → same_version a b ≡ false → same_version b a ≡ false
same-sym a b e = go (same_version b a) refl
  where
    go : (t : Bool) → same_version b a ≡ t → t ≡ false
    go true is = let no = sym (ap (same_version a) (same-is b a is) ∙ same-self a) ∙ e in cc
    go false is = refl

abbrev without : Version → List Version → List Version
without v [] = []
without v (x ∷ xs) = if same_version v x then without v xs else x ∷ without v xs

without-other : (v x : Version) (xs : List Version) → same_version v x ≡ false → is_listed (without v xs) x ≡ is_listed xs x
without-other v x [] other = refl
without-other v x (y ∷ ys) other = go (same_version v y) refl (without-other v x ys other)
  where
    go : (t : Bool) → same_version v y ≡ t → is_listed (without v ys) x ≡ is_listed ys x → is_listed (if t then without v ys else y ∷ without v ys) x ≡ (same_version x y || is_listed ys x)
    go true is ih = ih ∙ sym (ap (λ t. t || is_listed ys x) (sym (ap (same_version x) (same-is v y is)) ∙ same-sym v x other))
    go false is ih = ap (λ t. same_version x y || t) ih

or-false : (a b : Bool) → (a || b) ≡ false → (a ≡ false) × (b ≡ false)
or-false true b e = cc
or-false false b e = (refl, e)

or-later : (a b : Bool) → (a || b) ≡ true → a ≡ false → b ≡ true
or-later true b e off = cc
or-later false b e off = e

without-none : (v : Version) (xs : List Version) → is_listed xs v ≡ false → without v xs ≡ xs
without-none v [] none = refl
without-none v (y ∷ ys) none =
    let both = or-false (same_version v y) (is_listed ys v) none in
    ap (λ t. if t then without v ys else y ∷ without v ys) both.0 ∙ ap (λ l. y ∷ l) (without-none v ys both.1)

-- without one of them there is one less
one-less : (v : Version) (xs : List Version) → is_listed xs v ≡ true → length (without_repeats xs) ≡ suc (length (without_repeats (without v xs)))
one-less v [] e = cc
one-less v (y ∷ ys) e = go (same_version v y) refl (is_listed ys y) refl (one-less v ys)
  where
    go : (t : Bool) → same_version v y ≡ t → (u : Bool) → is_listed ys y ≡ u
        → (is_listed ys v ≡ true → length (without_repeats ys) ≡ suc (length (without_repeats (without v ys))))
        → length (if is_listed ys y then without_repeats ys else y ∷ without_repeats ys) ≡ suc (length (without_repeats (if same_version v y then without v ys else y ∷ without v ys)))
    go true is true again ih =
        ap (λ u. length (if u then without_repeats ys else y ∷ without_repeats ys)) again
        ∙ ih (ap (is_listed ys) (same-is v y is) ∙ again)
        ∙ sym (ap (λ t. suc (length (without_repeats (if t then without v ys else y ∷ without v ys)))) is)
    go true is false fresh ih =
        ap (λ u. length (if u then without_repeats ys else y ∷ without_repeats ys)) fresh
        ∙ ap (λ l. suc (length (without_repeats l))) (sym (without-none v ys (ap (is_listed ys) (same-is v y is) ∙ fresh)))
        ∙ sym (ap (λ t. suc (length (without_repeats (if t then without v ys else y ∷ without v ys)))) is)
    go false is true again ih =
        ap (λ u. length (if u then without_repeats ys else y ∷ without_repeats ys)) again
        ∙ ih (or-later (same_version v y) (is_listed ys v) e is)
        ∙ sym (ap (λ u. suc (length (if u then without_repeats (without v ys) else y ∷ without_repeats (without v ys)))) (without-other v y ys is ∙ again))
        ∙ sym (ap (λ t. suc (length (without_repeats (if t then without v ys else y ∷ without v ys)))) is)
    go false is false fresh ih =
        ap (λ u. length (if u then without_repeats ys else y ∷ without_repeats ys)) fresh
        ∙ ap suc (ih (or-later (same_version v y) (is_listed ys v) e is))
        ∙ sym (ap (λ u. suc (length (if u then without_repeats (without v ys) else y ∷ without_repeats (without v ys)))) (without-other v y ys is ∙ fresh))
        ∙ sym (ap (λ t. suc (length (without_repeats (if t then without v ys else y ∷ without v ys)))) is)

pub record Matched (R : Version → Version → Type 0) (vs : List Version) (u : Version) : Type 0 where
  pub version : Version
  pub listed : is_listed vs version ≡ true
  pub related : R u version

-- where each is matched by one of the others, and no two by one, they are no more
no-more : (R : Version → Version → Type 0) (us vs : List Version) → ((u : Version) → is_listed us u ≡ true → Matched R vs u) → ((u u' v : Version) → R u v → R u' v → u ≡ u')
    → length (without_repeats us) ≤ length (without_repeats vs)
no-more R [] vs matched one = omega arith
no-more R (u ∷ us) vs matched one = go (is_listed us u) refl (no-more R us)
  where
    other : is_listed us u ≡ false → (m : Matched R vs u) → (x : Version) → is_listed us x ≡ true → (n : Matched R vs x) → (t : Bool) → same_version m.version n.version ≡ t → Matched R (without m.version vs) x
    other fresh m x e n true is =
        let same : u ≡ x = one u x n.version (subst (R u) (same-is m.version n.version is) m.related) n.related in
        let no = sym (ap (is_listed us) same ∙ e) ∙ fresh in cc
    other fresh m x e n false is = record { version = n.version; listed = without-other m.version n.version vs is ∙ n.listed; related = n.related }

    go : (t : Bool) → is_listed us u ≡ t
        → ((ws : List Version) → ((x : Version) → is_listed us x ≡ true → Matched R ws x) → ((x x' v : Version) → R x v → R x' v → x ≡ x') → length (without_repeats us) ≤ length (without_repeats ws))
        → length (if t then without_repeats us else u ∷ without_repeats us) ≤ length (without_repeats vs)
    go true again ih = ih vs (λ x e. matched x (or-second (same_version x u) (is_listed us x) e)) one
    go false fresh ih =
        let m : Matched R vs u = matched u (ap (λ t. t || is_listed us u) (same-self u)) in
        let rest = ih (without m.version vs)
        (λ x e. (let n : Matched R vs x = matched x (or-second (same_version x u) (is_listed us x) e) in other fresh m x e n (same_version m.version n.version) refl)) one in
        let less = one-less m.version vs m.listed in
        omega (arith, rest, less)

-- ---- pasts whose versions are shared alike

-- both versions are of one block, and are what one sight sees after the one past and after the other
record IsBoth (n : ℕ) (past other : List Deed) (u v : Version) : Type 0 where
  block : u.block ≡ v.block
  low : v.block < n
  sight : Sight
  here : writer_seen past sight u.block ≡ Some u.put
  there : writer_seen other sight v.block ≡ Some v.put

both-one : (n : ℕ) (past other : List Deed) → ShareAlike n (writer_seen past) (writer_seen other) → (u u' v : Version) → IsBoth n past other u v → IsBoth n past other u' v → u ≡ u'
both-one n past other alike u u' v a b =
    let block : u.block ≡ u'.block = a.block ∙ sym b.block in
    let low : u.block < n = subst (λ k. k < n) (sym a.block) a.low in
    let there : same_put (writer_seen other a.sight u.block) (writer_seen other b.sight u.block) ≡ true =
    ap (λ k. same_put (writer_seen other a.sight k) (writer_seen other b.sight k)) a.block
    ∙ ap (λ p. same_put p (writer_seen other b.sight v.block)) a.there ∙ ap (same_put (Some v.put)) b.there ∙ eq-eqb v.put v.put refl in
    let here = alike a.sight b.sight u.block low ∙ there in
    let puts : (u.put == u'.put) ≡ true =
    sym (ap (λ p. same_put p (writer_seen past b.sight u.block)) a.here ∙ ap (same_put (Some u.put)) (ap (writer_seen past b.sight) block ∙ b.here)) ∙ here in
    same-is u u' (ap (λ t. t && (u.put == u'.put)) (eq-eqb u.block u'.block block) ∙ puts)

put-there : (o : Option ℕ) → same_put o o ≡ true → (n : ℕ) × (o ≡ Some n)
put-there None e = cc
put-there (Some n) e = (n, refl)

abbrev all_versions : ℕ → List Deed → List Version
all_versions n past = seen_versions (writer_seen past) (row 0 n) (sights (length (tokens past)))

matched : (n : ℕ) (past other : List Deed) → ShareAlike n (writer_seen past) (writer_seen other) → (u : Version) → is_listed (all_versions n past) u ≡ true → Matched (IsBoth n past other) (all_versions n other) u
matched n past other alike u e =
    let r = listed-seen (writer_seen past) n (sights (length (tokens past))) u e in
    let s = r.1.sight in
    let mine : same_put (writer_seen past s u.block) (writer_seen past s u.block) ≡ true = ap (λ p. same_put p p) r.1.sees ∙ eq-eqb u.put u.put refl in
    let its = put-there (writer_seen other s u.block) (sym (alike s s u.block r.0) ∙ mine) in
    let v : Version = record { block = u.block; put = its.0 } in
    record { version = v; listed = seen-listed n other s v r.0 its.1; related = record { block = refl; low = r.0; sight = s; here = r.1.sees; there = its.1 } }

pub as-many-needed : (unit : UnitConfig) (past other : List Deed) → ShareAlike unit.blocks (writer_seen past) (writer_seen other) → length (needed unit past) ≡ length (needed unit other)
as-many-needed unit past other alike =
    let n = unit.blocks in
    let up = no-more (IsBoth n past other) (all_versions n past) (all_versions n other) (matched n past other alike) (both-one n past other alike) in
    let back : ShareAlike n (writer_seen other) (writer_seen past) = λ one two block low. sym (alike one two block low) in
    let down = no-more (IsBoth n other past) (all_versions n other) (all_versions n past) (matched n other past back) (both-one n other past back) in
    omega (arith, up, down)
