-- Two keys that are the same
use Rattle.std.proofs.Common.{◌≡◌, ℕ, List, [], ◌∷◌, refl, ap, ◌∙◌, arith, true, false, Bool}
use Rattle.std.specs.Prelude.{◌==◌, ◌&&◌, not, filter}
use Rattle.std.specs.List.{list_any}
use Rattle.std.proofs.lemmas.Bool.Decides.{nat_tests}
use Rattle.copy_jobs.specs.declared.key.Key.{Key}
use Rattle.copy_jobs.specs.declared.job.Job.{Job}
use Rattle.copy_jobs.specs.Keys.{same_kind, same_key}
use Rattle.copy_jobs.specs.Jobs.{has_key, has_ended}
use Rattle.copy_jobs.specs.Keeping.{is_other}
use Rattle.copy_jobs.proofs.Lists.{or_first, or_later}
use Rattle.cm_history.proofs.PublicLaws.{and_second as and_later, and_first}

pub same-sym : (a b : ℕ) → (a == b) ≡ (b == a)
same-sym a b = grind (arith, nat_tests)

same_kind-sym : (a b : Bool) → same_kind a b ≡ same_kind b a
same_kind-sym true true = refl
same_kind-sym true false = refl
same_kind-sym false true = refl
same_kind-sym false false = refl

same_kind-refl : (a : Bool) → same_kind a a ≡ true
same_kind-refl true = refl
same_kind-refl false = refl

same_kind-is : (a b : Bool) → same_kind a b ≡ true → a ≡ b
same_kind-is true true e = refl
same_kind-is true false e = cc
same_kind-is false true e = cc
same_kind-is false false e = refl

pub same_key-sym : (a b : Key) → same_key a b ≡ same_key b a
same_key-sym a b = rw (same-sym a.actor b.actor, same_kind-sym a.copy b.copy, same-sym a.id b.id) refl

pub same_key-refl : (a : Key) → same_key a a ≡ true
same_key-refl a =
    let actor : (a.actor == a.actor) ≡ true = grind (arith, nat_tests) in
    let id : (a.id == a.id) ≡ true = grind (arith, nat_tests) in
    rw (actor, same_kind-refl a.copy, id) refl

-- two keys that are the same are of one kind
pub same_copy : (a b : Key) → same_key a b ≡ true → a.copy ≡ b.copy
same_copy a b e = same_kind-is a.copy b.copy (and_later (a.actor == b.actor) (same_kind a.copy b.copy) (and_first ((a.actor == b.actor) && same_kind a.copy b.copy) (a.id == b.id) e))

-- two keys that are the same are one
pub same_key-is : (a b : Key) → same_key a b ≡ true → a ≡ b
same_key-is a b e =
    let first : ((a.actor == b.actor) && same_kind a.copy b.copy) ≡ true = and_first ((a.actor == b.actor) && same_kind a.copy b.copy) (a.id == b.id) e in
    let actors : (a.actor == b.actor) ≡ true = and_first (a.actor == b.actor) (same_kind a.copy b.copy) first in
    let ids : (a.id == b.id) ≡ true = and_later ((a.actor == b.actor) && same_kind a.copy b.copy) (a.id == b.id) e in
    let actor : a.actor ≡ b.actor = grind (arith, nat_tests) in
    let copy : a.copy ≡ b.copy = same_copy a b e in
    let id : a.id ≡ b.id = grind (arith, nat_tests) in
    ap (λ n. let key : Key = record { actor = n; copy = a.copy; id = a.id } in key) actor
    ∙ ap (λ c. let key : Key = record { actor = b.actor; copy = c; id = a.id } in key) copy
    ∙ ap (λ n. let key : Key = record { actor = b.actor; copy = b.copy; id = n } in key) id

pub any-alike : (a b : Key) (xs : List Job) → same_key a b ≡ true → list_any (has_key b) xs ≡ false → list_any (has_key a) xs ≡ false
any-alike a b xs e none = rw (same_key-is a b e) none

-- where none has the key, all stay
pub same-all : (key : Key) (xs : List Job) → list_any (has_key key) xs ≡ false → filter (is_other key) xs ≡ xs
same-all key [] none = refl
same-all key (x ∷ xs) none =
    let off : has_key key x ≡ false = or_first (has_key key x) (list_any (has_key key) xs) none in
    let rest : filter (is_other key) xs ≡ xs = same-all key xs (or_later (has_key key x) (list_any (has_key key) xs) none) in
    let stays : is_other key x ≡ true = ap not (ap (λ t. has_ended x && t) off ∙ and-none (has_ended x)) in
    rw (stays, rest) refl
  where
    and-none : (a : Bool) → (a && false) ≡ false
    and-none true = refl
    and-none false = refl
