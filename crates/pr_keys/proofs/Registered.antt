-- Who is registered once some were left out, were given another key, or were added
use Rattle.std.proofs.Common.{◌≡◌, ℕ, ◌≤◌, List, [], ◌∷◌, ◌++◌, length, refl, ap, sym, ◌∙◌, arith, true, false, Bool}
use Rattle.std.specs.Prelude.{Option, Some, None, is_some, ◌==◌, ◌&&◌, not, map, filter, find, cond, if◌then◌else◌}
use Rattle.std.specs.Option.{option_map}
use Rattle.std.specs.List.{list_all}
use Rattle.std.proofs.lemmas.Bool.Decides.{nat_tests}
use Rattle.pr_keys.specs.declared.registrants.Registrant.{Registrant}
use Rattle.pr_keys.specs.Reservations.{key_of}
use Rattle.pr_keys.specs.Actions.{rekey}
use Rattle.pr_keys.specs.Sound.{NexusesApart}

abbrev is_nexus : ℕ → Registrant → Bool
is_nexus nexus r = r.nexus == nexus

-- ---- some are left out

module _ (p : Registrant → Bool) where
  pub few-filter : (rs : List Registrant) → length (filter p rs) ≤ length rs
  few-filter [] = omega arith
  few-filter (r ∷ rs) = go (p r) (few-filter rs)
    where
      go : (t : Bool) → length (filter p rs) ≤ length rs → length (cond t (r ∷ filter p rs) (filter p rs)) ≤ length (r ∷ rs)
      go true few = omega arith
      go false few = omega arith

  pub all-filter : (q : Registrant → Bool) (rs : List Registrant) → list_all q rs ≡ true → list_all q (filter p rs) ≡ true
  all-filter q [] e = refl
  all-filter q (r ∷ rs) e = go (q r) refl (p r) e (all-filter q rs)
    where
      go : (a : Bool) → q r ≡ a → (t : Bool) → (a && list_all q rs) ≡ true → (list_all q rs ≡ true → list_all q (filter p rs) ≡ true)
          → list_all q (cond t (r ∷ filter p rs) (filter p rs)) ≡ true
      go true k true all ih = ap (λ b. b && list_all q (filter p rs)) k ∙ ih all
      go true k false all ih = ih all
      go false k t all ih = cc

  -- who is found and stays is found still
  find-filter : (q : Registrant → Bool) (rs : List Registrant) (r : Registrant) → find q rs ≡ Some r → p r ≡ true → find q (filter p rs) ≡ Some r
  find-filter q [] r e stays = cc
  find-filter q (x ∷ rs) r e stays = go (q x) refl (p x) refl e (λ f. find-filter q rs r f stays)
    where
      go : (a : Bool) → q x ≡ a → (t : Bool) → p x ≡ t → cond a (Some x) (find q rs) ≡ Some r → (find q rs ≡ Some r → find q (filter p rs) ≡ Some r)
          → find q (cond t (x ∷ filter p rs) (filter p rs)) ≡ Some r
      go true k true l f ih = ap (λ b. cond b (Some x) (find q (filter p rs))) k ∙ f
      go true k false l f ih = let same : x ≡ r = cc in let no = sym l ∙ ap p same ∙ stays in cc
      go false k true l f ih = ap (λ b. cond b (Some x) (find q (filter p rs))) k ∙ ih f
      go false k false l f ih = ih f

  none-filter : (q : Registrant → Bool) (rs : List Registrant) → find q rs ≡ None → find q (filter p rs) ≡ None
  none-filter q [] e = refl
  none-filter q (x ∷ rs) e = go (q x) refl (p x) e (none-filter q rs)
    where
      go : (a : Bool) → q x ≡ a → (t : Bool) → cond a (Some x) (find q rs) ≡ None → (find q rs ≡ None → find q (filter p rs) ≡ None)
          → find q (cond t (x ∷ filter p rs) (filter p rs)) ≡ None
      go true k t f ih = cc
      go false k true f ih = ap (λ b. cond b (Some x) (find q (filter p rs))) k ∙ ih f
      go false k false f ih = ih f

  pub apart-filter : (rs : List Registrant) → NexusesApart rs → NexusesApart (filter p rs)
  apart-filter [] apart = tt
  apart-filter (r ∷ rs) apart = go (p r) (apart-filter rs apart.1)
    where
      none : key_of r.nexus (filter p rs) ≡ None
      none = ap (option_map (λ (x : Registrant). x.key)) (none-filter (is_nexus r.nexus) rs (none-is (find (is_nexus r.nexus) rs) apart.0))
        where
          none-is : (o : Option Registrant) → option_map (λ (x : Registrant). x.key) o ≡ None → o ≡ None
          none-is None e = refl
          none-is (Some x) e = cc

      go : (t : Bool) → NexusesApart (filter p rs) → NexusesApart (cond t (r ∷ filter p rs) (filter p rs))
      go true rest = (none, rest)
      go false rest = rest

  -- a nexus that stays is registered still
  pub still-filter : (nexus : ℕ) (rs : List Registrant) → is_some (key_of nexus rs) ≡ true
      → ((r : Registrant) → find (is_nexus nexus) rs ≡ Some r → p r ≡ true) → is_some (key_of nexus (filter p rs)) ≡ true
  still-filter nexus rs there stays = go (find (is_nexus nexus) rs) refl there
    where
      go : (o : Option Registrant) → find (is_nexus nexus) rs ≡ o → is_some (option_map (λ (x : Registrant). x.key) o) ≡ true → is_some (key_of nexus (filter p rs)) ≡ true
      go None e some = cc
      go (Some r) e some = ap (λ f. is_some (option_map (λ (x : Registrant). x.key) f)) (find-filter (is_nexus nexus) rs r e (stays r e))

-- who is found has the nexus
pub found-nexus : (nexus : ℕ) (rs : List Registrant) (r : Registrant) → find (is_nexus nexus) rs ≡ Some r → r.nexus ≡ nexus
found-nexus nexus [] r e = cc
found-nexus nexus (x ∷ rs) r e = go (x.nexus == nexus) refl e (found-nexus nexus rs r)
  where
    go : (t : Bool) → (x.nexus == nexus) ≡ t → cond t (Some x) (find (is_nexus nexus) rs) ≡ Some r → (find (is_nexus nexus) rs ≡ Some r → r.nexus ≡ nexus) → r.nexus ≡ nexus
    go true k f ih = let same : x ≡ r = cc in let here : x.nexus ≡ nexus = grind (arith, nat_tests) in ap (λ (y : Registrant). y.nexus) (sym same) ∙ here
    go false k f ih = ih f

-- ---- one has another key

module _ (nexus key : ℕ) where
  rekey-nexus : (r : Registrant) → (rekey nexus key r).nexus ≡ r.nexus
  rekey-nexus r = go (r.nexus == nexus)
    where
      go : (t : Bool) → (if t then record r { key = key } else r).nexus ≡ r.nexus
      go true = refl
      go false = refl

  pub some-rekey : (n : ℕ) (rs : List Registrant) → is_some (key_of n (map (rekey nexus key) rs)) ≡ is_some (key_of n rs)
  some-rekey n [] = refl
  some-rekey n (r ∷ rs) = rw (rekey-nexus r) (go (r.nexus == n) (some-rekey n rs))
    where
      go : (t : Bool) → is_some (key_of n (map (rekey nexus key) rs)) ≡ is_some (key_of n rs)
          → is_some (option_map (λ (x : Registrant). x.key) (cond t (Some (rekey nexus key r)) (find (is_nexus n) (map (rekey nexus key) rs))))
          ≡ is_some (option_map (λ (x : Registrant). x.key) (cond t (Some r) (find (is_nexus n) rs)))
      go true ih = refl
      go false ih = ih

  none-rekey : (n : ℕ) (rs : List Registrant) → key_of n rs ≡ None → key_of n (map (rekey nexus key) rs) ≡ None
  none-rekey n rs e = go (key_of n (map (rekey nexus key) rs)) (some-rekey n rs ∙ ap is_some e)
    where
      go : (o : Option ℕ) → is_some o ≡ false → o ≡ None
      go None f = refl
      go (Some k) f = cc

  pub apart-rekey : (rs : List Registrant) → NexusesApart rs → NexusesApart (map (rekey nexus key) rs)
  apart-rekey [] apart = tt
  apart-rekey (r ∷ rs) apart = (ap (λ n. key_of n (map (rekey nexus key) rs)) (rekey-nexus r) ∙ none-rekey r.nexus rs apart.0, apart-rekey rs apart.1)

  pub keyed-rekey : (rs : List Registrant) → (key == 0) ≡ false → list_all (λ (r : Registrant). not (r.key == 0)) rs ≡ true
      → list_all (λ (r : Registrant). not (r.key == 0)) (map (rekey nexus key) rs) ≡ true
  keyed-rekey [] new e = refl
  keyed-rekey (r ∷ rs) new e = go (r.nexus == nexus) (r.key == 0) refl e (keyed-rekey rs new)
    where
      go : (t a : Bool) → (r.key == 0) ≡ a → (not a && list_all (λ (x : Registrant). not (x.key == 0)) rs) ≡ true
          → (list_all (λ (x : Registrant). not (x.key == 0)) rs ≡ true → list_all (λ (x : Registrant). not (x.key == 0)) (map (rekey nexus key) rs) ≡ true)
          → (not ((if t then record r { key = key } else r).key == 0) && list_all (λ (x : Registrant). not (x.key == 0)) (map (rekey nexus key) rs)) ≡ true
      go t true k all ih = cc
      go true false k all ih = rw new (ih all)
      go false false k all ih = rw k (ih all)

-- ---- one more

pub some-push : (n : ℕ) (rs : List Registrant) (new : Registrant) → is_some (key_of n rs) ≡ true → is_some (key_of n (rs ++ new ∷ [])) ≡ true
some-push n [] new e = cc
some-push n (r ∷ rs) new e = go (r.nexus == n) e (some-push n rs new)
  where
    go : (t : Bool) → is_some (option_map (λ (x : Registrant). x.key) (cond t (Some r) (find (is_nexus n) rs))) ≡ true → (is_some (key_of n rs) ≡ true → is_some (key_of n (rs ++ new ∷ [])) ≡ true)
        → is_some (option_map (λ (x : Registrant). x.key) (cond t (Some r) (find (is_nexus n) (rs ++ new ∷ [])))) ≡ true
    go true f ih = refl
    go false f ih = ih f

none-push : (n : ℕ) (rs : List Registrant) (new : Registrant) → key_of n rs ≡ None → (new.nexus == n) ≡ false → key_of n (rs ++ new ∷ []) ≡ None
none-push n [] new e other = ap (λ t. option_map (λ (x : Registrant). x.key) (cond t (Some new) None)) other
none-push n (r ∷ rs) new e other = go (r.nexus == n) e (λ f. none-push n rs new f other)
  where
    go : (t : Bool) → option_map (λ (x : Registrant). x.key) (cond t (Some r) (find (is_nexus n) rs)) ≡ None → (key_of n rs ≡ None → key_of n (rs ++ new ∷ []) ≡ None)
        → option_map (λ (x : Registrant). x.key) (cond t (Some r) (find (is_nexus n) (rs ++ new ∷ []))) ≡ None
    go true f ih = cc
    go false f ih = ih f

pub apart-push : (rs : List Registrant) (new : Registrant) → NexusesApart rs → key_of new.nexus rs ≡ None → NexusesApart (rs ++ new ∷ [])
apart-push [] new apart none = (refl, tt)
apart-push (r ∷ rs) new apart none = go (r.nexus == new.nexus) refl none (apart-push rs new apart.1)
  where
    go : (t : Bool) → (r.nexus == new.nexus) ≡ t → option_map (λ (x : Registrant). x.key) (cond t (Some r) (find (is_nexus new.nexus) rs)) ≡ None
        → (key_of new.nexus rs ≡ None → NexusesApart (rs ++ new ∷ [])) → (key_of r.nexus (rs ++ new ∷ []) ≡ None) × NexusesApart (rs ++ new ∷ [])
    go true k f ih = cc
    go false k f ih =
        let other : (new.nexus == r.nexus) ≡ false = grind (arith, nat_tests) in
        (none-push r.nexus rs new apart.0 other, ih f)

pub keyed-push : (rs : List Registrant) (new : Registrant) → list_all (λ (r : Registrant). not (r.key == 0)) rs ≡ true → (new.key == 0) ≡ false
    → list_all (λ (r : Registrant). not (r.key == 0)) (rs ++ new ∷ []) ≡ true
keyed-push [] new e key = rw key refl
keyed-push (r ∷ rs) new e key = go (r.key == 0) e (λ f. keyed-push rs new f key)
  where
    go : (a : Bool) → (not a && list_all (λ (x : Registrant). not (x.key == 0)) rs) ≡ true
        → (list_all (λ (x : Registrant). not (x.key == 0)) rs ≡ true → list_all (λ (x : Registrant). not (x.key == 0)) (rs ++ new ∷ []) ≡ true) → (not a && list_all (λ (x : Registrant). not (x.key == 0)) (rs ++ new ∷ [])) ≡ true
    go true f ih = cc
    go false f ih = ih f
