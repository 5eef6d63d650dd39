-- Which token of a store ends where tokens expire, make room or are deleted
use Rattle.std.proofs.Common.{◌≡◌, ℕ, zero, suc, ◌+◌, List, [], ◌∷◌, ◌++◌, length, refl, ap, sym, ◌∙◌, arith, true, false, Bool}
use Rattle.std.specs.Prelude.{Option, Some, None, ◌==◌, ◌&&◌, ◌||◌, map, slice_get, nat_lt, nat_le, if◌then◌else◌}
use Rattle.std.specs.Option.{option_map}
use Rattle.std.specs.List.{list_all}
use Rattle.std.proofs.lemmas.Bool.Decides.{nat_tests}
use Rattle.cm_history.specs.Bounds.{live_tokens}
use Rattle.rod_store.specs.declared.kept.Kept.{Kept}
use Rattle.rod_store.specs.declared.kept.TokenState.{TokenState}
use Rattle.rod_store.specs.declared.kept.TokenState.TheVariants.{Live, Expired, Evicted, Deleted}
use Rattle.rod_store.specs.Kept.{is_live, is_over, is_over_at, used_last, value_of, live, IsPlaced, value_in, value_at, first, first_value, expire_first, is_older, gives_way, evict_if, evicted_value, end_at, deleted, with_use, use_at, used}

older-both : (a s b t : ℕ) → (nat_lt a b || (a == b && nat_le s t)) ≡ true → (nat_lt b a || (b == a && nat_le t s)) ≡ true → s ≡ t
older-both a s b t e f = grind (arith, nat_tests)

module _ {V : Type 0} where
  -- the token of one serial ended, which stood for the value, and no other
  pub record Ends (tokens now : List (Kept V)) (value : V) : Type 0 where
    pub serial : ℕ
    pub was : value_at serial tokens ≡ Some value
    pub gone : value_at serial now ≡ None
    pub others : (s : ℕ) → (s ≡ serial → ⊥) → value_at s now ≡ value_at s tokens

  -- ---- one that is over

  pub expire-ends : (moment : ℕ) (tokens : List (Kept V)) (value : V) → first_value (is_over_at moment) tokens ≡ Some value → Ends tokens (expire_first moment tokens) value
  expire-ends moment [] value e = cc
  expire-ends moment (t ∷ ts) value e = go (is_over moment t.state) (λ rest. expire-ends moment ts value rest) e
    where
      behind : (s : ℕ) → (s ≡ 0 → ⊥) → (x : Kept V) → value_at s (x ∷ ts) ≡ value_at s (t ∷ ts)
      behind zero ne x = absurd (ne refl)
      behind (suc s) ne x = refl

      go : (b : Bool) → (value_in (first (is_over_at moment) ts) ≡ Some value → Ends ts (expire_first moment ts) value)
          → value_in (if b then Some t else first (is_over_at moment) ts) ≡ Some value
          → Ends (t ∷ ts) (if b then (if b then record t { state = Expired } else t) ∷ ts else t ∷ expire_first moment ts) value
      go true ih found = record { serial = 0; was = found; gone = refl; others = λ s ne. behind s ne (record t { state = Expired }) }
      go false ih found =
          let later = ih found in
          record { serial = suc later.serial; was = later.was; gone = later.gone; others = λ s ne. rest later s ne }
        where
          rest : (later : Ends ts (expire_first moment ts) value) (s : ℕ) → (s ≡ suc later.serial → ⊥) → value_at s (t ∷ expire_first moment ts) ≡ value_at s (t ∷ ts)
          rest later zero ne = refl
          rest later (suc s) ne = later.others s (λ same. ne (ap suc same))

  -- ---- one of a serial

  found-map : (f : Kept V → Kept V) (tokens : List (Kept V)) (s : ℕ) → slice_get (map f tokens) s ≡ option_map f (slice_get tokens s)
  found-map f [] s = refl
  found-map f (t ∷ ts) zero = refl
  found-map f (t ∷ ts) (suc s) = found-map f ts s

  pub value-same : (f : Kept V → Kept V) (tokens : List (Kept V)) (s : ℕ) → ((x : Kept V) → slice_get tokens s ≡ Some x → value_of (f x).state ≡ value_of x.state)
      → value_at s (map f tokens) ≡ value_at s tokens
  value-same f tokens s same = ap value_in (found-map f tokens s) ∙ go (slice_get tokens s) refl
    where
      go : (o : Option (Kept V)) → slice_get tokens s ≡ o → value_in (option_map f o) ≡ value_in o
      go None e = refl
      go (Some x) e = same x e

  value-gone : (f : Kept V → Kept V) (tokens : List (Kept V)) (s : ℕ) → ((x : Kept V) → slice_get tokens s ≡ Some x → value_of (f x).state ≡ None) → value_at s (map f tokens) ≡ None
  value-gone f tokens s none = ap value_in (found-map f tokens s) ∙ go (slice_get tokens s) refl
    where
      go : (o : Option (Kept V)) → slice_get tokens s ≡ o → value_in (option_map f o) ≡ None
      go None e = refl
      go (Some x) e = none x e

  placed : (place : ℕ) (tokens : List (Kept V)) → IsPlaced place tokens → (s : ℕ) (x : Kept V) → slice_get tokens s ≡ Some x → x.serial ≡ place + s
  placed place [] is s x e = cc
  placed place (t ∷ ts) is zero x e = let same : t ≡ x = cc in let at : t.serial ≡ place = is.0 in let mine : x.serial ≡ place = ap (λ (k : Kept V). k.serial) (sym same) ∙ at in omega (arith, mine)
  placed place (t ∷ ts) is (suc s) x e = let behind = placed (suc place) ts is.1 s x e in omega (arith, behind)

  pub at-serial : (tokens : List (Kept V)) → IsPlaced 0 tokens → (s : ℕ) (x : Kept V) → slice_get tokens s ≡ Some x → x.serial ≡ s
  at-serial tokens is s x e = let at = placed 0 tokens is s x e in omega (arith, at)

  ended-value : (ending : TokenState V) → is_live ending ≡ false → value_of ending ≡ None
  ended-value (Live timeout last_use value) e = cc
  ended-value Expired e = refl
  ended-value Evicted e = refl
  ended-value Deleted e = refl

  pub delete-ends : (tokens : List (Kept V)) (serial : ℕ) (value : V) → IsPlaced 0 tokens → value_at serial tokens ≡ Some value → Ends tokens (deleted serial tokens) value
  delete-ends tokens serial value is found = record {
    serial = serial;
    was = found;
    gone = value-gone (end_at Deleted serial) tokens serial (λ x e. ended x (at-serial tokens is serial x e));
    others = λ s ne. value-same (end_at Deleted serial) tokens s (λ x e. other x (λ same. ne (sym (at-serial tokens is s x e) ∙ same)));
  }
    where
      ended : (x : Kept V) → x.serial ≡ serial → value_of (end_at Deleted serial x).state ≡ None
      ended x same = let t : (x.serial == serial) ≡ true = grind (arith, nat_tests) in rw t (go x.state refl)
        where
          go : (st : TokenState V) → x.state ≡ st → value_of (if is_live x.state && true then record x { state = Deleted } else x).state ≡ None
          go (Live timeout last_use v) e = rw e refl
          go Expired e = rw e refl
          go Evicted e = rw e refl
          go Deleted e = rw e refl

      other : (x : Kept V) → (x.serial ≡ serial → ⊥) → value_of (end_at Deleted serial x).state ≡ value_of x.state
      other x ne = let t : (x.serial == serial) ≡ false = grind (arith, nat_tests) in rw t (go (is_live x.state))
        where
          go : (b : Bool) → value_of (if b && false then record x { state = Deleted } else x).state ≡ value_of x.state
          go true = refl
          go false = refl

  -- ---- one that makes room

  all-live : (p : Kept V → Bool) (tokens : List (Kept V)) → list_all p (live tokens) ≡ true → (s : ℕ) (x : Kept V) → slice_get tokens s ≡ Some x → is_live x.state ≡ true → p x ≡ true
  all-live p [] all s x e lives = cc
  all-live p (t ∷ ts) all zero x e lives =
      let same : t ≡ x = cc in
      let live-t : is_live t.state ≡ true = ap (λ (k : Kept V). is_live k.state) same ∙ lives in
      ap p (sym same) ∙ go (is_live t.state) live-t all
    where
      go : (b : Bool) → b ≡ true → list_all p (if b then t ∷ live ts else live ts) ≡ true → p t ≡ true
      go true e f = head (p t) f
        where
          head : (c : Bool) → (c && list_all p (live ts)) ≡ true → c ≡ true
          head true h = refl
          head false h = cc
      go false e f = cc
  all-live p (t ∷ ts) all (suc s) x e lives = all-live p ts (go (is_live t.state) all) s x e lives
    where
      go : (b : Bool) → list_all p (if b then t ∷ live ts else live ts) ≡ true → list_all p (live ts) ≡ true
      go true f = tail (p t) f
        where
          tail : (c : Bool) → (c && list_all p (live ts)) ≡ true → list_all p (live ts) ≡ true
          tail true h = h
          tail false h = cc
      go false f = f

  -- the first that passes a test which only live ones pass
  pub record FirstAt (test : Kept V → Bool) (tokens : List (Kept V)) (value : V) : Type 0 where
    pub serial : ℕ
    pub token : Kept V
    pub found : slice_get tokens serial ≡ Some token
    pub passes : test token ≡ true
    pub is : value_of token.state ≡ Some value

  first-at : (test : Kept V → Bool) (tokens : List (Kept V)) (value : V) → first_value test tokens ≡ Some value → FirstAt test tokens value
  first-at test [] value e = cc
  first-at test (t ∷ ts) value e = go (test t) refl (λ rest. first-at test ts value rest) e
    where
      go : (b : Bool) → test t ≡ b → (value_in (first test ts) ≡ Some value → FirstAt test ts value) → value_in (if b then Some t else first test ts) ≡ Some value → FirstAt test (t ∷ ts) value
      go true passes ih found = record { serial = 0; token = t; found = refl; passes = passes; is = found }
      go false passes ih found = let later = ih found in record { serial = suc later.serial; token = later.token; found = later.found; passes = later.passes; is = later.is }

  none-passes : (test : Kept V → Bool) (tokens : List (Kept V)) → ((x : Kept V) → test x ≡ true → is_live x.state ≡ true) → first_value test tokens ≡ None
      → (s : ℕ) (x : Kept V) → slice_get tokens s ≡ Some x → test x ≡ false
  none-passes test [] lives none s x e = cc
  none-passes test (t ∷ ts) lives none s x e = go (test t) refl (λ out k found. none-passes test ts lives out k x found) none s e
    where
      never : (st : TokenState V) → is_live st ≡ true → value_of st ≡ None → ⊥
      never (Live timeout last_use v) e f = cc
      never Expired e f = cc
      never Evicted e f = cc
      never Deleted e f = cc

      go : (b : Bool) → test t ≡ b → (value_in (first test ts) ≡ None → (k : ℕ) → slice_get ts k ≡ Some x → test x ≡ false)
          → value_in (if b then Some t else first test ts) ≡ None → (s : ℕ) → slice_get (t ∷ ts) s ≡ Some x → test x ≡ false
      go true passes later out s e = absurd (never t.state (lives t passes) out)
      go false passes later out zero e = let same : t ≡ x = cc in ap test (sym same) ∙ passes
      go false passes later out (suc s) e = later out s e

  way-live : (tokens : List (Kept V)) (x : Kept V) → gives_way tokens x ≡ true → is_live x.state ≡ true
  way-live tokens x e = go (is_live x.state) e
    where
      go : (b : Bool) → (b && ((length (live tokens) == live_tokens) && list_all (is_older x) (live tokens))) ≡ true → b ≡ true
      go true h = refl
      go false h = cc

  way-oldest : (tokens : List (Kept V)) (x : Kept V) → gives_way tokens x ≡ true → list_all (is_older x) (live tokens) ≡ true
  way-oldest tokens x e = go (is_live x.state) (length (live tokens) == live_tokens) (list_all (is_older x) (live tokens)) e
    where
      go : (a b c : Bool) → (a && (b && c)) ≡ true → c ≡ true
      go true true true h = refl
      go true true false h = cc
      go true false c h = cc
      go false b c h = cc

  evicted-none : (tokens : List (Kept V)) (x : Kept V) → gives_way tokens x ≡ false → value_of (evict_if tokens x).state ≡ value_of x.state
  evicted-none tokens x e = rw e refl

  evicted-gone : (tokens : List (Kept V)) (x : Kept V) → gives_way tokens x ≡ true → value_of (evict_if tokens x).state ≡ None
  evicted-gone tokens x e = rw e refl

  pub evict-ends : (tokens : List (Kept V)) (value : V) → IsPlaced 0 tokens → evicted_value tokens ≡ Some value → Ends tokens (map (evict_if tokens) tokens) value
  evict-ends tokens value is found =
      let one = first-at (gives_way tokens) tokens value found in
      record {
        serial = one.serial;
        was = ap value_in one.found ∙ one.is;
        gone = value-gone (evict_if tokens) tokens one.serial (λ x e. let same : one.token ≡ x = let f = one.found in cc in evicted-gone tokens x (ap (gives_way tokens) (sym same) ∙ one.passes));
        others = λ s ne. value-same (evict_if tokens) tokens s (λ x e. evicted-none tokens x (stays one s x e ne (gives_way tokens x) refl));
      }
    where
      stays : (one : FirstAt (gives_way tokens) tokens value) (s : ℕ) (x : Kept V) → slice_get tokens s ≡ Some x → (s ≡ one.serial → ⊥) → (b : Bool) → gives_way tokens x ≡ b → b ≡ false
      stays one s x e ne false way = refl
      stays one s x e ne true way =
          let before = all-live (is_older x) tokens (way-oldest tokens x way) one.serial one.token one.found (way-live tokens one.token one.passes) in
          let behind = all-live (is_older one.token) tokens (way-oldest tokens one.token one.passes) s x e (way-live tokens x way) in
          let same = older-both (used_last x.state) x.serial (used_last one.token.state) one.token.serial before behind in
          absurd (ne (sym (at-serial tokens is s x e) ∙ same ∙ at-serial tokens is one.serial one.token one.found))

  pub evict-same : (tokens : List (Kept V)) → evicted_value tokens ≡ None → (s : ℕ) → value_at s (map (evict_if tokens) tokens) ≡ value_at s tokens
  evict-same tokens none s = value-same (evict_if tokens) tokens s (λ x e. evicted-none tokens x (none-passes (gives_way tokens) tokens (way-live tokens) none s x e))

  -- ---- one more

  pub append-last : (tokens : List (Kept V)) (t : Kept V) → value_at (length tokens) (tokens ++ t ∷ []) ≡ value_of t.state
  append-last [] t = refl
  append-last (x ∷ xs) t = append-last xs t

  pub append-before : (tokens : List (Kept V)) → value_at (length tokens) tokens ≡ None
  append-before [] = refl
  append-before (x ∷ xs) = append-before xs

  pub append-others : (tokens : List (Kept V)) (t : Kept V) (s : ℕ) → (s ≡ length tokens → ⊥) → value_at s (tokens ++ t ∷ []) ≡ value_at s tokens
  append-others [] t zero ne = absurd (ne refl)
  append-others [] t (suc s) ne = refl
  append-others (x ∷ xs) t zero ne = refl
  append-others (x ∷ xs) t (suc s) ne = append-others xs t s (λ same. ne (ap suc same))

  -- ---- a use

  pub used-same : (serial moment : ℕ) (tokens : List (Kept V)) (s : ℕ) → value_at s (used serial moment tokens) ≡ value_at s tokens
  used-same serial moment tokens s = value-same (use_at serial moment) tokens s (λ x e. go x (is_live x.state && (x.serial == serial)))
    where
      same-use : (st : TokenState V) → value_of (with_use moment st) ≡ value_of st
      same-use (Live timeout last_use value) = refl
      same-use Expired = refl
      same-use Evicted = refl
      same-use Deleted = refl

      go : (x : Kept V) (b : Bool) → value_of (if b then record x { state = with_use moment x.state } else x).state ≡ value_of x.state
      go x true = same-use x.state
      go x false = refl
