-- What a store keeps stays so through each change
use Rattle.std.proofs.Common.{◌≡◌, ℕ, suc, Bool, cond, ◌+◌, ◌<◌, ◌≤◌, ◌^◌, List, [], ◌∷◌, ◌++◌, map, length, set, refl, ap, sym, ◌∙◌, subst, arith, true, false, not, slice_get, Some, None, get_or, true≢false, ◌≢◌, ◌⊎◌, inl, inr}
use Rattle.std.specs.Prelude.{◌==◌, filter, Option, IsSome, is_some}
use Rattle.std.proofs.lemmas.Option.{get_or_from_slice_get}
use Rattle.std.specs.List.{list_any}
use Rattle.std.proofs.lemmas.List.{length-append, length-map}
use Rattle.std.proofs.lemmas.List.Folds.{list_any-append}
use Rattle.std.proofs.lemmas.Bool.Decides.{nat_tests}
use Rattle.cm_history.specs.Bounds.{live_tokens}
use Rattle.rod_store.specs.declared.kept.Kept.{Kept}
use Rattle.rod_store.specs.declared.kept.TokenState.{TokenState}
use Rattle.rod_store.specs.Kept.{IsPlaced, is_live, is_over, is_over_at, live, value_of, value_in, value_at, end_at, use_at, with_use, used}
use Rattle.rod_store.specs.inner.Store.{serials, is_used_before, is_used_before_at, AreApart, IsStored}
use Rattle.rod_store.proofs.Places.{same_or_not, map-same, placed-push, placed-map, placed-front, map-set_at, any-set, any-implies}
use Rattle.rod_store.proofs.Endings.{live-value, ended-not_over, not_over-earlier, ended-not_before, not_before-earlier, end_at-is, end_at-ended, end_at-other, end_at-serial, serials-end, fewer-end, use_at-is, use_at-other, use_at-serial, serials-used, live-push, serials-push}

module _ {T : Type 0} where
  none-earlier : (now earlier : ℕ) → earlier ≤ now → (tokens : List (Kept T)) → list_any (is_over_at now) tokens ≡ false → list_any (is_over_at earlier) tokens ≡ false
  none-earlier now earlier low tokens none = any-implies (is_over_at now) (is_over_at earlier) (λ x e. not_over-earlier now earlier low x.state e) tokens none

  none-before : (now earlier : ℕ) → earlier ≤ now → (tokens : List (Kept T)) → list_any (is_used_before_at now) tokens ≡ false → list_any (is_used_before_at earlier) tokens ≡ false
  none-before now earlier low tokens none = any-implies (is_used_before_at now) (is_used_before_at earlier) (λ x e. not_before-earlier now earlier low x.state e) tokens none

  -- ---- the token of a serial

  -- a live token of the serial
  pub record LivesAt (tokens : List (Kept T)) (serial : ℕ) : Type 0 where
    pub token : Kept T
    pub found : slice_get tokens serial ≡ Some token
    pub lives : is_live token.state ≡ true

  pub lives_at : (tokens : List (Kept T)) (serial : ℕ) → IsSome (value_at serial tokens) → LivesAt tokens serial
  lives_at tokens serial some = go (slice_get tokens serial) refl some
    where
      go : (o : Option (Kept T)) → slice_get tokens serial ≡ o → IsSome (value_in o) → LivesAt tokens serial
      go None e present = absurd (true≢false (sym present))
      go (Some t) e present = record { token = t; found = e; lives = sym (live-value t.state) ∙ present }

  pub value-at : (tokens : List (Kept T)) (serial : ℕ) (t : Kept T) → slice_get tokens serial ≡ Some t → value_at serial tokens ≡ value_of t.state
  value-at tokens serial t found = ap value_in found

  -- what is read at the serial
  pub token-is : (tokens : List (Kept T)) (serial : ℕ) (t d : Kept T) → slice_get tokens serial ≡ Some t → d ≡ get_or tokens serial d → t ≡ d
  token-is tokens serial t d found read = sym (get_or_from_slice_get tokens serial t d found) ∙ sym read

  -- ---- one more token

  pub stored-push : (tokens : List (Kept T)) (own_serials : List ℕ) (own_moment own_use less before : ℕ) (y : Kept T) → IsStored tokens own_serials own_moment own_use
      → length (live tokens) < live_tokens → y.serial ≡ length tokens → length tokens < 2 ^ 48 → is_live y.state ≡ true → less ≤ own_moment → is_over less y.state ≡ false
      → before ≤ own_use → is_used_before before y.state ≡ false → IsStored (tokens ++ y ∷ []) (own_serials ++ y.serial ∷ []) less before
  stored-push tokens own_serials own_moment own_use less before y is few serial count lives low within low_use within_use = record {
    placed = placed-push 0 tokens y is.placed (let e : length tokens ≡ 0 + length tokens = omega arith in serial ∙ e);
    count = omega (arith, length-append tokens (y ∷ []));
    live_serials = ap (λ l. l ++ y.serial ∷ []) is.live_serials ∙ sym (serials-push tokens y lives);
    few = subst (λ l. length l ≤ live_tokens) (sym (live-push tokens y lives)) (omega (arith, length-append (live tokens) (y ∷ [])));
    next_expiry = list_any-append (is_over_at less) tokens (y ∷ []) ∙ rw (none-earlier own_moment less low tokens is.next_expiry, within) refl;
    least_use = list_any-append (is_used_before_at before) tokens (y ∷ []) ∙ rw (none-before own_use before low_use tokens is.least_use, within_use) refl;
  }

  -- ---- a token ends

  -- the one write is the map
  pub end-set : (tokens : List (Kept T)) → IsPlaced 0 tokens → (ending : TokenState T) (serial : ℕ) (t : Kept T) → slice_get tokens serial ≡ Some t → is_live t.state ≡ true
      → set tokens serial (record t { state = ending }) ≡ map (end_at ending serial) tokens
  end-set tokens placed ending serial t found lives =
      let at : t.serial ≡ serial = placed-front tokens placed serial t found in
      let step : end_at ending serial t ≡ record t { state = ending } = end_at-is ending serial t lives at in
      ap (set tokens serial) (sym step) ∙ map-set_at (end_at ending serial) serial (end_at-other ending serial) 0 tokens placed serial t (omega arith) found

  pub stored-end : (tokens : List (Kept T)) (own_serials : List ℕ) (own_moment own_use : ℕ) → IsStored tokens own_serials own_moment own_use
      → (ending : TokenState T) → is_live ending ≡ false → (serial : ℕ) (t : Kept T) → slice_get tokens serial ≡ Some t → is_live t.state ≡ true
      → IsStored (map (end_at ending serial) tokens) (filter (λ other. not (other == serial)) own_serials) own_moment own_use
  stored-end tokens own_serials own_moment own_use is ending ends serial t found lives =
      let fewer = fewer-end ending ends serial 0 tokens is.placed serial t (omega arith) found lives in
      let most = is.few in
      record {
        placed = placed-map (end_at ending serial) (end_at-serial ending serial) 0 tokens is.placed;
        count = subst (λ n. n ≤ 2 ^ 48) (sym (length-map tokens (end_at ending serial))) is.count;
        live_serials = ap (filter (λ other. not (other == serial))) is.live_serials ∙ serials-end ending ends serial tokens;
        few = omega arith;
        next_expiry = ap (list_any (is_over_at own_moment)) (sym (end-set tokens is.placed ending serial t found lives))
            ∙ any-set (is_over_at own_moment) tokens serial (record t { state = ending }) is.next_expiry (ended-not_over own_moment ending ends);
        least_use = ap (list_any (is_used_before_at own_use)) (sym (end-set tokens is.placed ending serial t found lives))
            ∙ any-set (is_used_before_at own_use) tokens serial (record t { state = ending }) is.least_use (ended-not_before own_use ending ends);
      }

  -- nothing ends where the serial has no live token
  pub end-none : (tokens : List (Kept T)) → IsPlaced 0 tokens → (ending : TokenState T) (serial : ℕ) → is_some (value_at serial tokens) ≡ false → map (end_at ending serial) tokens ≡ tokens
  end-none tokens placed ending serial none = map-same (end_at ending serial) tokens (λ k x found. go k x found (same_or_not k serial))
    where
      go : (k : ℕ) (x : Kept T) → slice_get tokens k ≡ Some x → (k ≡ serial) ⊎ (k ≢ serial) → end_at ending serial x ≡ x
      go k x found (inl e) =
          let read : value_at serial tokens ≡ value_of x.state = ap value_in (subst (λ j. slice_get tokens j ≡ Some x) e found) in
          end_at-ended ending serial x (sym (live-value x.state) ∙ sym (ap is_some read) ∙ none)
      go k x found (inr ne) =
          let here : x.serial ≡ k = placed-front tokens placed k x found in
          end_at-other ending serial x (λ e. ne (sym here ∙ e))

  -- ---- a token is used

  pub use-set : (tokens : List (Kept T)) → IsPlaced 0 tokens → (serial moment : ℕ) (t : Kept T) → slice_get tokens serial ≡ Some t → is_live t.state ≡ true
      → set tokens serial (record t { state = with_use moment t.state }) ≡ used serial moment tokens
  use-set tokens placed serial moment t found lives =
      let at : t.serial ≡ serial = placed-front tokens placed serial t found in
      let step : use_at serial moment t ≡ record t { state = with_use moment t.state } = use_at-is serial moment t lives at in
      ap (set tokens serial) (sym step) ∙ map-set_at (use_at serial moment) serial (use_at-other serial moment) 0 tokens placed serial t (omega arith) found

  pub stored-use : (tokens : List (Kept T)) (own_serials : List ℕ) (own_moment own_use less before : ℕ) → IsStored tokens own_serials own_moment own_use
      → (serial moment : ℕ) (t : Kept T) → slice_get tokens serial ≡ Some t → is_live t.state ≡ true → less ≤ own_moment → is_over less (with_use moment t.state) ≡ false
      → before ≤ own_use → is_used_before before (with_use moment t.state) ≡ false → IsStored (used serial moment tokens) own_serials less before
  stored-use tokens own_serials own_moment own_use less before is serial moment t found lives low within low_use within_use =
      let same : serials (live (used serial moment tokens)) ≡ serials (live tokens) = serials-used serial moment tokens in
      let many : length (live (used serial moment tokens)) ≡ length (live tokens) =
      sym (length-map (live (used serial moment tokens)) (λ (x : Kept T). x.serial)) ∙ ap length same ∙ length-map (live tokens) (λ (x : Kept T). x.serial) in
      record {
        placed = placed-map (use_at serial moment) (use_at-serial serial moment) 0 tokens is.placed;
        count = subst (λ n. n ≤ 2 ^ 48) (sym (length-map tokens (use_at serial moment))) is.count;
        live_serials = is.live_serials ∙ sym same;
        few = subst (λ n. n ≤ live_tokens) (sym many) is.few;
        next_expiry = ap (list_any (is_over_at less)) (sym (use-set tokens is.placed serial moment t found lives))
            ∙ any-set (is_over_at less) tokens serial (record t { state = with_use moment t.state }) (none-earlier own_moment less low tokens is.next_expiry) within;
        least_use = ap (list_any (is_used_before_at before)) (sym (use-set tokens is.placed serial moment t found lives))
            ∙ any-set (is_used_before_at before) tokens serial (record t { state = with_use moment t.state }) (none-before own_use before low_use tokens is.least_use) within_use;
      }

  -- ---- the serials of the live tokens

  none-lower : (low n : ℕ) (tokens : List (Kept T)) → IsPlaced n tokens → low < n → list_any (λ other. other == low) (serials (live tokens)) ≡ false
  none-lower low n [] placed less = refl
  none-lower low n (x ∷ xs) placed less = go (is_live x.state) (none-lower low (suc n) xs placed.1 (omega arith))
    where
      other : (x.serial == low) ≡ false
      other = let here : x.serial ≡ n = placed.0 in grind (arith, nat_tests)

      go : (b : Bool) → list_any (λ other. other == low) (serials (live xs)) ≡ false → list_any (λ other. other == low) (serials (cond b (x ∷ live xs) (live xs))) ≡ false
      go true rest = rw (other, rest) refl
      go false rest = rest

  pub serials-apart : (n : ℕ) (tokens : List (Kept T)) → IsPlaced n tokens → AreApart (serials (live tokens))
  serials-apart n [] placed = tt
  serials-apart n (x ∷ xs) placed = go (is_live x.state) (serials-apart (suc n) xs placed.1)
    where
      go : (b : Bool) → AreApart (serials (live xs)) → AreApart (serials (cond b (x ∷ live xs) (live xs)))
      go true rest = let here : x.serial ≡ n = placed.0 in (none-lower x.serial (suc n) xs placed.1 (omega arith), rest)
      go false rest = rest
