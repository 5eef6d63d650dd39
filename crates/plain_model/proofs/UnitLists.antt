-- Units that have done their parts of the same entries
use Rattle.std.proofs.Common.{◌≡◌, ℕ, zero, suc, ◌<◌, ◌≤◌, ◌^◌, List, [], ◌∷◌, ◌++◌, length, refl, ap, sym, ◌∙◌, subst, arith, Bool, inl, inr, slice_set}
use Rattle.std.specs.Prelude.{◌⊎◌, Some, slice_get, slice_index_or}
use Rattle.std.proofs.lemmas.Bool.{cases_eq}
use Rattle.std.proofs.lemmas.List.{length-set}
use Rattle.std.proofs.lemmas.Option.{slice_get_read}
use Rattle.cm_base.specs.Configuration.{Configuration}
use Rattle.cm_base.specs.declared.config.UnitConfig.{UnitConfig}
use Rattle.cm_base.specs.Units.{unit_of}
use Rattle.cm_history.specs.declared.act.Act.{Act}
use Rattle.cm_history.specs.declared.act.Actor.{Actor}
use Rattle.cm_history.specs.declared.act.Entry.{Entry}
use Rattle.cm_history.specs.declared.answer.Answer.{Answer}
use Rattle.cm_history.specs.Answers.{answer_after, deed}
use Rattle.cm_history.specs.Deeds.{Deed}
use Rattle.cm_history.specs.Forms.{HasForm}
use Rattle.cm_history.specs.History.{answer, past_of}
use Rattle.cm_history.specs.Room.{is_full}
use Rattle.cm_history.proofs.PublicLaws.{past-is}
use Rattle.plain_model.specs.inner.Fitting.{Fits, AllFit}
use Rattle.plain_model.specs.inner.Holds.{MayFollow}
use Rattle.plain_model.specs.inner.Pasts.{IsPlayed, HavePlayed}
use Rattle.plain_model.proofs.Forms.{after-formed}
use Rattle.plain_model.proofs.Steps.{fit-mine, fit-other, follows, played-mine, played-other}

-- ---- one item of a list is another

get-set : {X : Type 0} (xs : List X) (i : ℕ) (v was : X) → slice_get xs i ≡ Some was → slice_get (slice_set xs i v) i ≡ Some v
get-set [] i v was e = cc
get-set (x ∷ xs) zero v was e = refl
get-set (x ∷ xs) (suc i) v was e = get-set xs i v was e

get-set_other : {X : Type 0} (xs : List X) (i j : ℕ) (v : X) → (i ≡ j → ⊥) → slice_get (slice_set xs i v) j ≡ slice_get xs j
get-set_other [] i j v e = refl
get-set_other (x ∷ xs) zero zero v e = absurd (e refl)
get-set_other (x ∷ xs) zero (suc j) v e = refl
get-set_other (x ∷ xs) (suc i) zero v e = refl
get-set_other (x ∷ xs) (suc i) (suc j) v e = get-set_other xs i j v (λ same. e (ap suc same))

-- ---- one of the units

-- units, of which one was found at a place
pub record IsFound (config : Configuration) (entries : List Entry) (units : List (List Deed)) (u place : ℕ) (past : List Deed) : Type 0 where
  pub have : HavePlayed config entries units
  pub configured : u < length config.units
  pub here : place ≡ u
  pub value : past ≡ slice_index_or units place past

unit-at : (config : Configuration) (entries : List Entry) (units : List (List Deed)) (u place : ℕ) (past : List Deed) → IsFound config entries units u place past
    → slice_get units u ≡ Some past
unit-at config entries units u place past f =
    let within : u < length units = omega (arith, f.have.count, f.configured) in
    slice_get_read units (length units) u past refl within (f.value ∙ ap (λ i. slice_index_or units i past) f.here)

past-at : (config : Configuration) (entries : List Entry) (units : List (List Deed)) (u place : ℕ) (past : List Deed) → IsFound config entries units u place past
    → IsPlayed config u entries past
past-at config entries units u place past f = f.have.each u past (unit-at config entries units u place past f)

-- whether the unit that was found has no room
pub full-at : (config : Configuration) (entries : List Entry) (units : List (List Deed)) (u place : ℕ) (past : List Deed) (told : UnitConfig) (n : ℕ) (actor : Actor) (act : Act) (full : Bool)
    → IsFound config entries units u place past → told ≡ unit_of config u → n ≡ length entries → full ≡ is_full told 0 past actor n act
    → full ≡ is_full (unit_of config u) 0 (past_of config u entries) actor (length entries) act
full-at config entries units u place past told n actor act full f is count e =
    e ∙ ap (λ t. is_full t 0 past actor n act) is ∙ ap (λ p. is_full (unit_of config u) 0 p actor n act) (past-at config entries units u place past f).is
    ∙ ap (λ k. is_full (unit_of config u) 0 (past_of config u entries) actor k act) count

pub answer-at : (config : Configuration) (entries : List Entry) (units : List (List Deed)) (u place : ℕ) (past : List Deed) (actor : Actor) (now : ℕ) (act : Act) (found : Answer)
    → IsFound config entries units u place past → found ≡ answer_after config u past actor now act → found ≡ answer config entries u actor now act
answer-at config entries units u place past actor now act found f e =
    e ∙ ap (λ p. answer_after config u p actor now act) (past-at config entries units u place past f).is

pub form-at : (config : Configuration) (entries : List Entry) (units : List (List Deed)) (u : ℕ) (actor : Actor) (now : ℕ) (act : Act) (found : Answer)
    → HavePlayed config entries units → found ≡ answer config entries u actor now act → HasForm config u act found
form-at config entries units u actor now act found have e =
    subst (HasForm config u act) (sym e) (after-formed config u (past_of config u entries) actor now act (past-is config u entries) (have.fits u))

-- the deed of the next entry may follow
pub follows-at : (config : Configuration) (entries : List Entry) (units : List (List Deed)) (u place : ℕ) (past : List Deed) (e : Entry)
    → IsFound config entries units u place past → (unit_of config u).blocks ≤ 2 ^ 64 → Fits config u e.act → MayFollow past (deed config u past e)
follows-at config entries units u place past e f few fits = follows config u entries e past few (f.have.fits u) (past-at config entries units u place past f).is fits

-- one more entry was done
pub grown-at : (config : Configuration) (entries : List Entry) (units : List (List Deed)) (u place : ℕ) (past next : List Deed) (e : Entry)
    → IsFound config entries units u place past → e.unit ≡ u → Fits config u e.act → next ≡ deed config u past e ∷ past
    → HavePlayed config (entries ++ e ∷ []) (slice_set units place next)
grown-at config entries units u place past next e f mine fits is = subst (λ i. HavePlayed config (entries ++ e ∷ []) (slice_set units i next)) (sym f.here) (record {
  count = length-set units u next ∙ f.have.count;
  each = λ v q got. each v q got (cases_eq u v);
  fits = λ v. fit v (cases_eq u v);
})
  where
    each : (v : ℕ) (q : List Deed) → slice_get (slice_set units u next) v ≡ Some q → (u ≡ v) ⊎ (u ≡ v → ⊥) → IsPlayed config v (entries ++ e ∷ []) q
    each v q got (inl same) =
        let put : slice_get (slice_set units u next) u ≡ Some next = get-set units u next past (unit-at config entries units u place past f) in
        let here : slice_get (slice_set units u next) u ≡ Some q = ap (slice_get (slice_set units u next)) same ∙ got in
        let it : next ≡ q = cc in
        subst (λ k. IsPlayed config k (entries ++ e ∷ []) q) same
        (played-mine config u entries e past q (f.have.fits u) (past-at config entries units u place past f) mine fits (sym it ∙ is))
    each v q got (inr other) =
        played-other config v entries e q (f.have.each v q (sym (get-set_other units u v next other) ∙ got)) (λ k. other (sym mine ∙ k))

    fit : (v : ℕ) → (u ≡ v) ⊎ (u ≡ v → ⊥) → AllFit config v (past_of config v (entries ++ e ∷ []))
    fit v (inl same) = subst (λ k. AllFit config k (past_of config k (entries ++ e ∷ []))) same (fit-mine config u entries e (f.have.fits u) mine fits)
    fit v (inr other) = fit-other config v entries e (f.have.fits v) (λ k. other (sym mine ∙ k))

-- ---- before the first entry

pub none-yet : (config : Configuration) (units : List (List Deed)) → length units ≡ length config.units → ((u : ℕ) (past : List Deed) → slice_get units u ≡ Some past → past ≡ [])
    → HavePlayed config [] units
none-yet config units count empty = record {
  count = count;
  each = λ u past got. let none = empty u past got in record { is = none; sized = rw none tt };
  fits = λ u. tt;
}

-- one more unit that has done nothing
pub one-more : (units : List (List Deed)) (new : List Deed) → new ≡ [] → ((u : ℕ) (past : List Deed) → slice_get units u ≡ Some past → past ≡ [])
    → (u : ℕ) (past : List Deed) → slice_get (units ++ new ∷ []) u ≡ Some past → past ≡ []
one-more [] new is all zero past e = let same : new ≡ past = cc in sym same ∙ is
one-more [] new is all (suc u) past e = cc
one-more (x ∷ units) new is all zero past e = all 0 past e
one-more (x ∷ units) new is all (suc u) past e = one-more units new is (λ k q h. all (suc k) q h) u past e
