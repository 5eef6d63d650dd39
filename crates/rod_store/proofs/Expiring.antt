-- The first token that is over, and a store where none is
use Rattle.std.proofs.Common.{◌≡◌, ℕ, ◌+◌, ◌≤◌, List, map, refl, ap, sym, ◌∙◌, subst, arith, false, slice_get, Some, None}
use Rattle.std.specs.Prelude.{Option, IsSome, is_some}
use Rattle.std.specs.List.{list_any}
use Rattle.rod_store.specs.declared.kept.Kept.{Kept}
use Rattle.rod_store.specs.declared.kept.TokenState.TheVariants.{Expired}
use Rattle.rod_store.specs.Kept.{IsPlaced, is_over_at, value_of, value_in, value_at, end_at, first, first_value, expired, expire_first}
use Rattle.rod_store.specs.inner.Store.{serial_in}
use Rattle.rod_store.proofs.Places.{first-at, any-implies}
use Rattle.rod_store.proofs.Endings.{over-live, live-value, not_over-earlier, expire_first-end, expire_first-none, expired-none, expired-first, first-any, any-first}

module _ {T : Type 0} where
  -- the token of this serial is the first that is over
  pub record ExpiresAt (tokens : List (Kept T)) (now serial : ℕ) : Type 0 where
    pub lives : IsSome (value_at serial tokens)
    pub value : first_value (is_over_at now) tokens ≡ value_at serial tokens
    pub ends : map (end_at Expired serial) tokens ≡ expire_first now tokens
    pub same : expired now (map (end_at Expired serial) tokens) ≡ expired now tokens

  pub expires_at : (tokens : List (Kept T)) (now serial : ℕ) → IsPlaced 0 tokens → Some serial ≡ serial_in (first (is_over_at now) tokens) → ExpiresAt tokens now serial
  expires_at tokens now serial placed is = go (first (is_over_at now) tokens) refl is
    where
      go : (o : Option (Kept T)) → first (is_over_at now) tokens ≡ o → Some serial ≡ serial_in o → ExpiresAt tokens now serial
      go None e f = absurd (grind arith)
      go (Some t) e f =
          let mine : t.serial ≡ serial = grind arith in
          let at = first-at (is_over_at now) 0 tokens placed t e in
          let place : t.serial ≡ 0 + at.0 = at.1 in
          let same : at.0 ≡ serial = omega arith in
          let found : slice_get tokens serial ≡ Some t = subst (λ k. slice_get tokens k ≡ Some t) same at.2 in
          let read : value_at serial tokens ≡ value_of t.state = ap value_in found in
          let ends : map (end_at Expired serial) tokens ≡ expire_first now tokens = subst (λ s. map (end_at Expired s) tokens ≡ expire_first now tokens) mine (expire_first-end now 0 tokens placed t e) in
          record {
            lives = ap is_some read ∙ live-value t.state ∙ over-live now t.state at.3;
            value = ap value_in e ∙ sym read;
            ends = ends;
            same = ap (expired now) ends ∙ expired-first now tokens;
          }

  -- none is over
  pub record NoneExpires (tokens : List (Kept T)) (now : ℕ) : Type 0 where
    pub value : None ≡ first_value (is_over_at now) tokens
    pub ends : tokens ≡ expire_first now tokens
    pub none : expired now tokens ≡ tokens

  pub none_expires : (tokens : List (Kept T)) (now : ℕ) → list_any (is_over_at now) tokens ≡ false → NoneExpires tokens now
  none_expires tokens now none = record {
    value = sym (ap value_in (first-any (is_over_at now) tokens none));
    ends = sym (expire_first-none now tokens none);
    none = expired-none now tokens none;
  }

  pub none_earlier : (tokens : List (Kept T)) (later now : ℕ) → now ≤ later → list_any (is_over_at later) tokens ≡ false → NoneExpires tokens now
  none_earlier tokens later now low none = none_expires tokens now (any-implies (is_over_at later) (is_over_at now) (λ x e. not_over-earlier later now low x.state e) tokens none)

  pub none_found : (tokens : List (Kept T)) (now : ℕ) → None ≡ serial_in (first (is_over_at now) tokens) → NoneExpires tokens now
  none_found tokens now is = none_expires tokens now (any-first (is_over_at now) tokens (go (first (is_over_at now) tokens) is))
    where
      go : (o : Option (Kept T)) → None ≡ serial_in o → o ≡ None
      go None e = refl
      go (Some t) e = absurd (grind arith)
