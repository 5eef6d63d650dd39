-- How often numbers stand in lists, and places in lists
use Rattle.std.proofs.Common.{◌≡◌, ◌≤◌, ◌<◌, ℕ, zero, suc, ◌+◌, List, [], ◌∷◌, ◌++◌, length, refl, ap, sym, ◌∙◌, arith, true, false, Bool, inl, inr}
use Rattle.std.specs.Prelude.{◌==◌, Some, slice_get, if◌then◌else◌}
use Rattle.std.proofs.lemmas.Bool.{eqb-true}
use Rattle.cm_history.proofs.PublicLaws.{Each, In}
use Rattle.cm_server.specs.inner.Sessions.{Start, EndedSession, nexuses, numbers, starts_of, times}

-- a number that is this one counts once, and any other counts not
count-same : (n k : ℕ) → n ≡ k → ◌≡◌ {A = ℕ} (if n == k then 1 else 0) 1
count-same n k same = grind (arith, same)

count-other : (n k : ℕ) → (n ≡ k → ⊥) → ◌≡◌ {A = ℕ} (if n == k then 1 else 0) 0
count-other n k other = go (n == k) refl
  where
    go : (b : Bool) → (n == k) ≡ b → ◌≡◌ {A = ℕ} (if b then 1 else 0) 0
    go true is = absurd (other (eqb-true n k is))
    go false is = refl

pub times-more : (n k : ℕ) (ns : List ℕ) → times k ns ≤ times k (n ∷ ns)
times-more n k ns = omega arith

-- a number that does not stand in the list is not its first, and does not stand behind it
pub times-later : (n k : ℕ) (ns : List ℕ) → times k (n ∷ ns) ≡ 0 → (n ≡ k → ⊥) × (times k ns ≡ 0)
times-later n k ns none =
    ((λ same. (let one = count-same n k same in absurd (omega (arith, one, none)))), (let more = times-more n k ns in omega (arith, more, none)))

-- a number that stands in it once at most does not stand behind itself
pub times-once : (n : ℕ) (ns : List ℕ) → times n (n ∷ ns) ≤ 1 → times n ns ≡ 0
times-once n ns once = let one = count-same n n refl in omega (arith, one, once)

pub times-append : (k : ℕ) (ns ms : List ℕ) → times k (ns ++ ms) ≡ times k ns + times k ms
times-append k [] ms = omega arith
times-append k (n ∷ ns) ms = let later = times-append k ns ms in omega (arith, later)

-- a number that stands in the list is none that does not
pub times-other : (n k : ℕ) (ns : List ℕ) → times n ns ≡ 0 → In k ns → n ≡ k → ⊥
times-other n k [] none i same = i
times-other n k (m ∷ ns) none (inl here) same = (times-later m n ns none).0 (here ∙ sym same)
times-other n k (m ∷ ns) none (inr i) same = times-other n k ns (times-later m n ns none).1 i same

-- the nexus of a session stands among those of all
pub In-nexus : (ss : List EndedSession) (s : EndedSession) → In s ss → In s.start.nexus (nexuses (starts_of ss))
In-nexus [] s i = i
In-nexus (x ∷ ss) s (inl here) = inl (ap (λ (t : EndedSession). t.start.nexus) here)
In-nexus (x ∷ ss) s (inr i) = inr (In-nexus ss s i)

pub times-one : (k n : ℕ) → times k (n ∷ []) ≤ 1
times-one k n = go (n == k)
  where
    go : (b : Bool) → (if b then 1 else 0) + 0 ≤ 1
    go true = omega arith
    go false = omega arith

pub times-not : (k n : ℕ) → (n ≡ k → ⊥) → times k (n ∷ []) ≡ 0
times-not k n other = let none = count-other n k other in omega (arith, none)

-- numbers below a limit are not the limit
pub times-below : (k : ℕ) (ns : List ℕ) → Each (λ n. n < k) ns → times k ns ≡ 0
times-below k [] all = refl
times-below k (n ∷ ns) all =
    let here = count-other n k (λ same. (let low = all.0 in absurd (omega (arith, low, same)))) in
    let later = times-below k ns all.1 in omega (arith, here, later)

pub nexuses-append : (ss ts : List Start) → nexuses (ss ++ ts) ≡ nexuses ss ++ nexuses ts
nexuses-append [] ts = refl
nexuses-append (s ∷ ss) ts = ap (λ l. s.nexus ∷ l) (nexuses-append ss ts)

-- one number more
numbers-next : (first n : ℕ) → numbers first (suc n) ≡ numbers first n ++ (first + n) ∷ []
numbers-next first zero = let same : first ≡ first + 0 = omega arith in ap (λ k. k ∷ []) same
numbers-next first (suc n) =
    let same : suc first + n ≡ first + suc n = omega arith in
    ap (λ l. first ∷ l) (numbers-next (suc first) n ∙ ap (λ k. numbers (suc first) n ++ k ∷ []) same)

pub numbers-last : (first n : ℕ) → numbers first (n + 1) ≡ numbers first n ++ (first + n) ∷ []
numbers-last first n = let same : n + 1 ≡ suc n = omega arith in ap (numbers first) same ∙ numbers-next first n

-- ---- places

pub get-before : {X : Type 0} (xs ys : List X) (i : ℕ) (x : X) → slice_get xs i ≡ Some x → slice_get (xs ++ ys) i ≡ Some x
get-before [] ys i x at = cc
get-before (y ∷ xs) ys zero x at = at
get-before (y ∷ xs) ys (suc i) x at = get-before xs ys i x at

pub get-last : {X : Type 0} (xs : List X) (x : X) → slice_get (xs ++ x ∷ []) (length xs) ≡ Some x
get-last [] x = refl
get-last (y ∷ xs) x = get-last xs x

pub get-next : {X : Type 0} (xs : List X) (x : X) (ys : List X) → slice_get (xs ++ x ∷ ys) (length xs) ≡ Some x
get-next [] x ys = refl
get-next (y ∷ xs) x ys = get-next xs x ys

pub get-low : {X : Type 0} (xs : List X) (i : ℕ) (x : X) → slice_get xs i ≡ Some x → i < length xs
get-low [] i x at = cc
get-low (y ∷ xs) zero x at = omega arith
get-low (y ∷ xs) (suc i) x at = let low = get-low xs i x at in omega (arith, low)
