-- Kept entries that are recorded from the first on
use Rattle.std.proofs.Common.{◌≡◌, ℕ, zero, suc, ◌+◌, ◌≤◌, List, [], ◌∷◌, ◌++◌, length, drop, take, refl, ap, sym, ◌∙◌, arith, append_assoc, append-nil, inl, inr, true}
use Rattle.std.specs.Prelude.{All, Option, Some, None, get_or, slice_get, is_some, ◌&&◌, nat_le, ◌==◌, not}
use Rattle.std.proofs.lemmas.Bool.{leb-true}
use Rattle.std.specs.List.{list_all}
use Rattle.std.proofs.lemmas.List.{take_at}
use Rattle.std.proofs.lemmas.List.Sums.{sum_by-cons}
use Rattle.cm_base.specs.Configuration.{Configuration}
use Rattle.lba_ranges.specs.Denoted.{total, is_overlapping}
use Rattle.cm_history.specs.declared.act.Act.{Act}
use Rattle.cm_history.specs.declared.act.Entry.{Entry}
use Rattle.cm_history.specs.Bounds.{piece_blocks}
use Rattle.cm_history.specs.Limits.{within_limits, fits_unit}
use Rattle.cm_history.specs.Room.{bytes_in}
use Rattle.cm_history.proofs.PublicLaws.{and_first, and_second}
use Rattle.recorder.specs.Recording.{with_more, Rose, FirstFits}
use Rattle.recorder.specs.Text.{HasShortLists}
use Rattle.unit_core.specs.inner.Agreeing.{payload_in}

-- ---- what a recorder is owed

-- an act within its limits has short lists
pub short : (config : Configuration) (unit : ℕ) (act : Act) → within_limits config unit act ≡ true → HasShortLists act
short config unit (Act.Write lba list) e =
    let few = leb-true (length list.items) 2048 (and_first (nat_le (length list.items) 2048) (list_all is_some list.items) (and_first (nat_le (length list.items) 2048 && list_all is_some list.items) (fits_unit config unit list) e)) in
    omega (arith, few)
short config unit (Act.Put lba list) e =
    let few = leb-true (length list.items) piece_blocks (and_first (nat_le (length list.items) piece_blocks) (fits_unit config unit list) e) in
    omega (arith, few)
short config unit (Act.Start id background ranges rod) e =
    let first = and_first (not (is_overlapping ranges) && (total ranges == length rod.items) && nat_le (length rod.items) 1_048_576) (fits_unit config unit rod) e in
    leb-true (length rod.items) 1_048_576 (and_second (not (is_overlapping ranges) && (total ranges == length rod.items)) (nat_le (length rod.items) 1_048_576) first)
short config unit _ e = tt

pub all-short : (config : Configuration) (unit : ℕ) (entries : List Entry) → All (λ (e : Entry). within_limits config unit e.act ≡ true) entries
    → All (λ (e : Entry). HasShortLists e.act) entries
all-short config unit entries all = λ k d low. short config unit (get_or entries k d).act (all k d low)

-- ---- the loop

-- the first entries went from a record to a recorder
abbrev pub Moved : List Entry → List Entry → Option (List Entry) → Option (List Entry) → Type 0
Moved old new told told' = (done : List Entry) × (done ++ new ≡ old) × (told' ≡ with_more told done)

pub moved-start : (es : List Entry) (told : Option (List Entry)) → Moved es es told told
moved-start es None = ([], refl, refl)
moved-start es (Some xs) = ([], refl, ap Some (sym (append-nil xs)))

pub moved-more : (old new : List Entry) (e : Entry) (told mid told' : Option (List Entry)) → Moved old (e ∷ new) told mid → told' ≡ with_more mid (e ∷ []) → Moved old new told told'
moved-more old new e None mid told' m t = (m.0 ++ e ∷ [], append_assoc m.0 (e ∷ []) new ∙ m.1, t ∙ ap (λ o. with_more o (e ∷ [])) m.2)
moved-more old new e (Some xs) mid told' m t =
    (m.0 ++ e ∷ [], append_assoc m.0 (e ∷ []) new ∙ m.1, t ∙ ap (λ o. with_more o (e ∷ [])) m.2 ∙ ap Some (append_assoc xs m.0 (e ∷ [])))

pub rose-later : (first mid last : ℕ) → first ≤ mid → Rose mid last → Rose first last
rose-later first mid last low (inl h) = inl (omega (arith, low, h))
rose-later first mid last low (inr e) = inr e

pub front : (es : List Entry) (e : Entry) → slice_get es 0 ≡ Some e → es ≡ e ∷ drop 1 es
front [] e h = cc
front (x ∷ es) e h = let same : x ≡ e = cc in ap (λ y. y ∷ es) same

pub first-any : (fits : Entry → Type 0) (es : List Entry) → ((e : Entry) → fits e) → FirstFits fits es
first-any fits [] all = all
first-any fits (e ∷ es) all = all e

-- the first of the entries, which has its bytes and may be recorded
pub record IsFront (fits : Entry → Type 0) (es : List Entry) (e : Entry) : Type 0 where
  pub is : es ≡ e ∷ drop 1 es
  pub bytes : payload_in es ≡ bytes_in e.act + payload_in (drop 1 es)
  pub fit : fits e
  pub short : HasShortLists e.act
  pub rest : All (λ (x : Entry). HasShortLists x.act) (drop 1 es)

pub is-front : (fits : Entry → Type 0) (es : List Entry) (e : Entry) → slice_get es 0 ≡ Some e → FirstFits fits es → All (λ (x : Entry). HasShortLists x.act) es → IsFront fits es e
is-front fits [] e h first all = cc
is-front fits (x ∷ es) e h first all =
    let same : x ≡ e = cc in
    rw (← same) (record { is = refl; bytes = sum_by-cons (λ (y : Entry). bytes_in y.act) x es; fit = first; short = all 0 x (omega arith); rest = λ k d low. all (suc k) d (omega (arith, low)) })

-- ---- what was recorded

take-done : (n : ℕ) (es done left : List Entry) → drop n es ≡ done ++ left → take (n + length done) es ≡ take n es ++ done
take-done zero es done left e = let s : 0 + length done ≡ length done = omega arith in rw (s, e) (take_at done left (length done) refl)
take-done (suc n) [] [] left e = let s : suc n + 0 ≡ suc n = omega arith in rw s refl
take-done (suc n) [] (x ∷ done) left e = cc
take-done (suc n) (x ∷ es) done left e = let s : suc n + length done ≡ suc (n + length done) = omega arith in rw s (ap (λ l. x ∷ l) (take-done n es done left e))

more-twice : (start : Option (List Entry)) (a b : List Entry) → with_more (with_more start a) b ≡ with_more start (a ++ b)
more-twice None a b = refl
more-twice (Some xs) a b = ap Some (append_assoc xs a b)

-- what was recorded is the first entries, as many as were dropped
pub told-fold : (h done left kept : List Entry) (folded : ℕ) (start told told' : Option (List Entry)) → drop folded h ≡ kept → done ++ left ≡ kept → told' ≡ with_more told done
    → told ≡ with_more start (take folded h) → told' ≡ with_more start (take (folded + length done) h)
told-fold h done left kept folded start told told' is parts more before =
    more ∙ ap (λ o. with_more o done) before ∙ more-twice start (take folded h) done
    ∙ ap (with_more start) (sym (take-done folded h done left (is ∙ sym parts)))
