-- How many links are out
use Rattle.std.proofs.Common.{◌≡◌, ◌≤◌, ℕ, suc, ◌+◌, ◌-◌, refl, ap, sym, ◌∙◌, subst, arith}
use Rattle.std.specs.Prelude.{Option, Some, None, option_map}
use Rattle.cm_server.specs.inner.Links.{AreOut, StayOut}

-- ---- beside those that stay out

pub out-same : (out : Option ℕ) (number : ℕ) → StayOut out out number number
out-same out number = λ stay is. is

pub out-then : (a b c : Option ℕ) (k l m : ℕ) → StayOut a b k l → StayOut b c l m → StayOut a c k m
out-then a b c k l m one two = λ stay is. two stay (one stay is)

-- one was given back
pub out-less : (before after : Option ℕ) (k : ℕ) → after ≡ option_map (λ n. n - 1) before → StayOut before after (suc k) k
out-less before after k less = λ stay is. less ∙ ap (option_map (λ n. n - 1)) is ∙ one stay
  where
    one : (o : Option ℕ) → option_map (λ n. n - 1) (option_map (λ n. n + suc k) o) ≡ option_map (λ n. n + k) o
    one None = refl
    one (Some n) = ap Some (omega arith)

pub out-as : (before after : Option ℕ) (j k l m : ℕ) → j ≡ k → l ≡ m → StayOut before after j l → StayOut before after k m
out-as before after j k l m first last stay = subst (λ n. StayOut before after n m) first (subst (StayOut before after j) last stay)

-- ---- so many at least

pub are-as : (out : Option ℕ) (j k : ℕ) → j ≡ k → AreOut out j → AreOut out k
are-as out j k same most = subst (AreOut out) same most

pub out-one : (out : Option ℕ) (k : ℕ) → AreOut out (suc k) → AreOut out 1
out-one None k most = tt
out-one (Some n) k most = omega (arith, most)

pub out-after : (before after : Option ℕ) (number left : ℕ) → AreOut before number → StayOut before after number left → AreOut after left
out-after None after number left most stay = subst (λ o. AreOut o left) (sym (stay None refl)) tt
out-after (Some n) after number left most stay =
    let same : n ≡ (n - number) + number = omega (arith, most) in
    let low : left ≤ (n - number) + left = omega arith in
    subst (λ o. AreOut o left) (sym (stay (Some (n - number)) (ap Some same))) low

-- ---- from those that were out at the beginning

pub out-none : (held : Option ℕ) (k : ℕ) → k ≡ 0 → held ≡ option_map (λ n. n + k) held
out-none None k none = refl
out-none (Some n) k none = ap Some (omega (arith, none))

pub out-from : (held now : Option ℕ) (k : ℕ) → now ≡ option_map (λ n. n + k) held → AreOut now k
out-from None now k is = subst (λ o. AreOut o k) (sym is) tt
out-from (Some n) now k is = let low : k ≤ n + k = omega arith in subst (λ o. AreOut o k) (sym is) low

-- one more was accepted
pub out-more : (held now next : Option ℕ) (k m : ℕ) → now ≡ option_map (λ n. n + k) held → next ≡ option_map suc now → m ≡ k + 1 → next ≡ option_map (λ n. n + m) held
out-more None now next k m is more long = more ∙ ap (option_map suc) is
out-more (Some n) now next k m is more long = more ∙ ap (option_map suc) is ∙ ap Some (omega (arith, long))

-- and is in hand
pub out-hand : (held now next : Option ℕ) (k hand : ℕ) → now ≡ option_map (λ n. n + k) held → next ≡ option_map (λ n. n + hand) now
    → next ≡ option_map (λ n. n + (k + hand)) held
out-hand None now next k hand is more = more ∙ ap (option_map (λ n. n + hand)) is
out-hand (Some n) now next k hand is more = more ∙ ap (option_map (λ n. n + hand)) is ∙ ap Some (omega arith)

-- and none is in hand
pub out-bare : (held now : Option ℕ) (k hand : ℕ) → now ≡ option_map (λ n. n + k) held → hand ≡ 0 → now ≡ option_map (λ n. n + (k + hand)) held
out-bare None now k hand is none = is
out-bare (Some n) now k hand is none = is ∙ ap Some (omega (arith, none))

-- those that were open were given back
pub out-ended : (held between after : Option ℕ) (k hand : ℕ) → between ≡ option_map (λ n. n + (k + hand)) held → StayOut between after k 0
    → after ≡ option_map (λ n. n + hand) held
out-ended held between after k hand is stay = stay (option_map (λ n. n + hand) held) (is ∙ split held) ∙ none held
  where
    split : (o : Option ℕ) → option_map (λ n. n + (k + hand)) o ≡ option_map (λ n. n + k) (option_map (λ n. n + hand) o)
    split None = refl
    split (Some n) = ap Some (omega arith)

    none : (o : Option ℕ) → option_map (λ n. n + 0) (option_map (λ n. n + hand) o) ≡ option_map (λ n. n + hand) o
    none None = refl
    none (Some n) = ap Some (omega arith)

pub out-back : (held after : Option ℕ) (hand : ℕ) → after ≡ option_map (λ n. n + hand) held → hand ≡ 0 → after ≡ held
out-back None after hand is none = is
out-back (Some n) after hand is none = is ∙ ap Some (omega (arith, none))

-- those that are open are out
pub out-open : (held now : Option ℕ) (k hand : ℕ) → now ≡ option_map (λ n. n + (k + hand)) held → AreOut now k
out-open None now k hand is = subst (λ o. AreOut o k) (sym is) tt
out-open (Some n) now k hand is = let low : k ≤ n + (k + hand) = omega arith in subst (λ o. AreOut o k) (sym is) low
