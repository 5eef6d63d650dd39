-- The operations that are ended when a unit goes on with a history
use Rattle.std.proofs.Common.{◌≡◌, ℕ, ◌+◌, ◌-◌, ◌^◌, ◌<◌, List, [], ◌∷◌, ◌++◌, refl, ap, sym, ◌∙◌, subst, arith, append_assoc, append-nil, true, false, Bool, inl, inr, true≢false}
use Rattle.std.specs.Prelude.{◌⊎◌, ◌==◌, ◌&&◌, ◌||◌, not, map, filter, find, cond, Option, Some, None, option_map, max, if◌then◌else◌}
use Rattle.std.proofs.lemmas.Bool.{eq-eqb}
use Rattle.std.proofs.lemmas.Bool.Decides.{nat_tests}
use Rattle.cm_base.specs.Configuration.{Configuration}
use Rattle.cm_history.specs.declared.act.Act.{Act}
use Rattle.cm_history.specs.declared.act.Actor.{Actor}
use Rattle.cm_history.specs.declared.act.Entry.{Entry}
use Rattle.cm_history.specs.Answers.{deed}
use Rattle.cm_history.specs.Deeds.{Deed, is_answered, moment, last_stamp, same_actor}
use Rattle.cm_history.specs.History.{past_of}
use Rattle.cm_history.specs.Operations.{Operation, Form, OfToken, OfCopy, form_of, id_of, same_form, same_key, has_key, fits, would_serve, kept, operations, operation_after, serves, is_running, is_running_as, is_running_state, is_running_copy, is_foreground, is_background, was_ended, is_ending, state_of, result_of, result_or, is_making, keep, made_operation, makes_operation}
use Rattle.cm_history.proofs.PublicLaws.{Each, Each-by, Each-in, In, IsPast, KeysApart, keys-apart, kept_in, running_kept, find-filter, served-or-not, past-is, past_of-mine, same_actor-self, same_form-self, left-running, and_first, and_second}
use Rattle.unit_core.specs.Unended.{is_by_initiator}
use Rattle.unit_gate.specs.Opening.{all_unended, ending_act, ending, endings, opening_entries}

-- ---- the operations that are to be ended, among those that are kept

abbrev is_open : Operation → Bool
is_open o = is_running o && is_by_initiator o

filter-both : {X : Type 0} (p q : X → Bool) (xs : List X) → filter q (filter p xs) ≡ filter (λ x. p x && q x) xs
filter-both p q [] = refl
filter-both p q (x ∷ xs) = go (p x) (filter-both p q xs)
  where
    go : (t : Bool) → filter q (filter p xs) ≡ filter (λ x. p x && q x) xs
        → filter q (cond t (x ∷ filter p xs) (filter p xs)) ≡ cond (t && q x) (x ∷ filter (λ x. p x && q x) xs) (filter (λ x. p x && q x) xs)
    go true ih = ap (λ l. cond (q x) (x ∷ l) l) ih
    go false ih = ih

pub all-kept : (config : Configuration) (unit : ℕ) (past : List Deed) → IsPast config unit past → all_unended past ≡ filter is_open (kept past)
all-kept config unit past is = ap (filter is_by_initiator) (running_kept config unit past is) ∙ filter-both is_running is_by_initiator (kept past)

-- the act that ends the operation
abbrev pub end_of : Operation → Act
end_of o = ending_act (form_of o.made.entry.act) (id_of o.made.entry.act)

-- an operation of which the act could be the end is its initiator's to end
foreground-own : (act : Act) → is_foreground act ≡ true → not (is_background act) ≡ true
foreground-own (Act.Start id true ranges rod) e = cc
foreground-own (Act.Start id false ranges rod) e = refl
foreground-own _ e = cc

copy-own : (act : Act) (form : Form) → form_of act ≡ form → same_form form OfCopy ≡ true → not (is_background act) ≡ true
copy-own (Act.Open id) form is e = refl
copy-own (Act.Start id background ranges rod) OfToken is e = cc
copy-own (Act.Start id background ranges rod) OfCopy is e = cc
copy-own _ form is e = refl

fits-own : (actor : Actor) (form : Form) (id : ℕ) (x : Operation) → fits actor (ending_act form id) x ≡ true → is_by_initiator x ≡ true
fits-own actor OfToken id x e = foreground-own x.made.entry.act (and_second (has_key actor OfToken id x) (is_foreground x.made.entry.act) e)
fits-own actor OfCopy id x e =
    let keyed = and_first (same_actor x.made.entry.actor actor && same_form (form_of x.made.entry.act) OfCopy) (id_of x.made.entry.act == id) e in
    copy-own x.made.entry.act (form_of x.made.entry.act) refl (and_second (same_actor x.made.entry.actor actor) (same_form (form_of x.made.entry.act) OfCopy) keyed)

-- a token operation that runs, and no pump writes it, is in the foreground
foreground-runs : (o : Operation) (act : Act) → is_running_state (state_of o act) ≡ true → not (is_background act) ≡ true → is_foreground act ≡ true
foreground-runs o (Act.Start id true ranges rod) runs own = cc
foreground-runs o (Act.Start id false ranges rod) runs own = refl
foreground-runs o _ runs own = cc

self-key : (actor : Actor) (form : Form) (id : ℕ) → (same_actor actor actor && same_form form form && (id == id)) ≡ true
self-key actor form id = let a : same_actor actor actor ≡ true = same_actor-self actor in let f : same_form form form ≡ true = same_form-self form in let i : (id == id) ≡ true = eq-eqb id id refl in rw (a, f, i) refl

pub fits-end : (o : Operation) → is_running o ≡ true → is_by_initiator o ≡ true → fits o.made.entry.actor (end_of o) o ≡ true
fits-end o runs own = go (form_of o.made.entry.act) refl runs
  where
    act : Act
    act = o.made.entry.act

    go : (form : Form) → form_of o.made.entry.act ≡ form → is_running_as o form ≡ true → fits o.made.entry.actor (ending_act form (id_of o.made.entry.act)) o ≡ true
    go OfToken is runs =
        let keyed : has_key o.made.entry.actor OfToken (id_of o.made.entry.act) o ≡ true =
        ap (λ f. same_actor o.made.entry.actor o.made.entry.actor && same_form f OfToken && (id_of o.made.entry.act == id_of o.made.entry.act)) is ∙ self-key o.made.entry.actor OfToken (id_of o.made.entry.act) in
        let front = foreground-runs o o.made.entry.act runs own in
        rw (keyed, front) refl
    go OfCopy is runs =
        ap (λ f. same_actor o.made.entry.actor o.made.entry.actor && same_form f OfCopy && (id_of o.made.entry.act == id_of o.made.entry.act)) is ∙ self-key o.made.entry.actor OfCopy (id_of o.made.entry.act)

-- ---- it is the first that the act serves

first-open : (o : Operation) (os xs : List Operation) → filter is_open xs ≡ o ∷ os → is_open o ≡ true
first-open o os [] e = cc
first-open o os (x ∷ xs) e = go (is_open x) refl e (first-open o os xs)
  where
    go : (t : Bool) → is_open x ≡ t → cond t (x ∷ filter is_open xs) (filter is_open xs) ≡ o ∷ os → (filter is_open xs ≡ o ∷ os → is_open o ≡ true) → is_open o ≡ true
    go true h e later = let same : x ≡ o = cc in subst (λ y. is_open y ≡ true) same h
    go false h e later = later e

not-open : (actor : Actor) (form : Form) (id : ℕ) (x : Operation) → is_open x ≡ false → (is_running x && fits actor (ending_act form id) x) ≡ false
not-open actor form id x e = go (is_running x) (fits actor (ending_act form id) x) refl refl
  where
    go : (r f : Bool) → is_running x ≡ r → fits actor (ending_act form id) x ≡ f → (r && f) ≡ false
    go true true runs fit =
        let own = fits-own actor form id x fit in
        let on : (is_running x && is_by_initiator x) ≡ true = rw (runs, own) refl in
        sym on ∙ e
    go true false runs fit = refl
    go false f runs fit = refl

found-first : (o : Operation) (os xs : List Operation) → filter is_open xs ≡ o ∷ os → find (λ (x : Operation). is_running x && fits o.made.entry.actor (end_of o) x) xs ≡ Some o
found-first o os [] e = cc
found-first o os (x ∷ xs) e = go (is_open x) refl e (found-first o os xs)
  where
    go : (t : Bool) → is_open x ≡ t → cond t (x ∷ filter is_open xs) (filter is_open xs) ≡ o ∷ os
        → (filter is_open xs ≡ o ∷ os → find (λ (x : Operation). is_running x && fits o.made.entry.actor (end_of o) x) xs ≡ Some o)
        → cond (is_running x && fits o.made.entry.actor (end_of o) x) (Some x) (find (λ (x : Operation). is_running x && fits o.made.entry.actor (end_of o) x) xs) ≡ Some o
    go true h e later =
        let same : x ≡ o = cc in
        let runs : is_running o ≡ true = and_first (is_running o) (is_by_initiator o) (subst (λ y. is_open y ≡ true) same h) in
        let own : is_by_initiator o ≡ true = and_second (is_running o) (is_by_initiator o) (subst (λ y. is_open y ≡ true) same h) in
        let fit = fits-end o runs own in
        rw (same, runs, fit) refl
    go false h e later =
        let off = not-open o.made.entry.actor (form_of o.made.entry.act) (id_of o.made.entry.act) x h in
        rw off (later e)

pub serves-first : (config : Configuration) (unit : ℕ) (past : List Deed) (o : Operation) (os : List Operation) → IsPast config unit past → all_unended past ≡ o ∷ os → would_serve past o.made.entry.actor (end_of o) ≡ Some o
serves-first config unit past o os is first =
    ap (find (fits o.made.entry.actor (end_of o))) (running_kept config unit past is) ∙ find-filter is_running (fits o.made.entry.actor (end_of o)) (kept past)
    ∙ found-first o os (kept past) (sym (all-kept config unit past is) ∙ first)

-- ---- and behind it the others are left

-- the operation is ended
ended-state : (o : Operation) (d : Deed) (act : Act) → is_ending d.entry.act ≡ true → is_running_state (state_of (record o { servers = d ∷ o.servers }) act) ≡ false
ended-state o d act ends = go (is_running_state (state_of (record o { servers = d ∷ o.servers }) act)) refl
  where
    go : (t : Bool) → is_running_state (state_of (record o { servers = d ∷ o.servers }) act) ≡ t → t ≡ false
    go false e = refl
    go true e =
        let left = left-running (record o { servers = d ∷ o.servers }) act e in
        let off : (is_ending d.entry.act || was_ended o.servers) ≡ false = left.1 in
        let on : (is_ending d.entry.act || was_ended o.servers) ≡ true = rw ends refl in
        sym on ∙ off

ended-runs : (o : Operation) (d : Deed) → d.entry.act ≡ end_of o → is_running (record o { servers = d ∷ o.servers }) ≡ false
ended-runs o d is = go (form_of o.made.entry.act) is
  where
    go : (form : Form) → d.entry.act ≡ ending_act form (id_of o.made.entry.act) → is_running_as (record o { servers = d ∷ o.servers }) form ≡ false
    go OfToken e = ended-state o d o.made.entry.act (ap is_ending e)
    go OfCopy e = ap (λ a. is_running_copy (result_or (result_of o.servers) a).state) e

never-again : (o : Operation) (others : List Operation) → Each (λ (other : Operation). same_key other o ≡ false) others → In o others → ⊥
never-again o others apart there =
    let off : same_key o o ≡ false = Each-in (λ (other : Operation). same_key other o ≡ false) others o apart there in
    true≢false (sym (self-key o.made.entry.actor (form_of o.made.entry.act) (id_of o.made.entry.act)) ∙ off)

module _ (d : Deed) (o : Operation) (ends : d.entry.act ≡ end_of o) where
  abbrev Served : Operation → Type 0
  Served x = (operation_after d x ≡ x) ⊎ ((x ≡ o) × (operation_after d x ≡ record x { servers = d ∷ x.servers }))

  -- the others stay as they are
  rest-stays : (xs : List Operation) → Each Served xs → (In o xs → ⊥) → filter is_open (map (operation_after d) xs) ≡ filter is_open xs
  rest-stays [] all none = refl
  rest-stays (x ∷ xs) all none =
      let same : operation_after d x ≡ x = other all.0 in
      ap (λ y. cond (is_open y) (y ∷ filter is_open (map (operation_after d) xs)) (filter is_open (map (operation_after d) xs))) same
      ∙ ap (λ l. cond (is_open x) (x ∷ l) l) (rest-stays xs all.1 (λ i. none (inr i)))
    where
      other : Served x → operation_after d x ≡ x
      other (inl same) = same
      other (inr this) = absurd (none (inl this.0))

  -- the first is ended, and the others are left
  first-ends : (os xs : List Operation) → Each Served xs → KeysApart xs → operation_after d o ≡ record o { servers = d ∷ o.servers } → filter is_open xs ≡ o ∷ os → filter is_open (map (operation_after d) xs) ≡ os
  first-ends os [] all apart served e = cc
  first-ends os (x ∷ xs) all apart served e = go (is_open x) refl e (first-ends os xs all.1 apart.1 served)
    where
      go : (t : Bool) → is_open x ≡ t → cond t (x ∷ filter is_open xs) (filter is_open xs) ≡ o ∷ os
          → (filter is_open xs ≡ o ∷ os → filter is_open (map (operation_after d) xs) ≡ os)
          → cond (is_open (operation_after d x)) (operation_after d x ∷ filter is_open (map (operation_after d) xs)) (filter is_open (map (operation_after d) xs)) ≡ os
      go true h e later =
          let same : x ≡ o = cc in
          let rest : filter is_open xs ≡ os = cc in
          let after : operation_after d x ≡ record o { servers = d ∷ o.servers } = ap (operation_after d) same ∙ served in
          let off : is_open (record o { servers = d ∷ o.servers }) ≡ false = ap (λ t. t && is_by_initiator o) (ended-runs o d ends) in
          let alone = never-again o xs (subst (λ y. Each (λ (other : Operation). same_key other y ≡ false) xs) same apart.0) in
          rw (after, off) (rest-stays xs all.1 alone ∙ rest)
      go false h e later =
          let stays : operation_after d x ≡ x = other all.0 in
          rw (stays, h) (later e)
        where
          other : Served x → operation_after d x ≡ x
          other (inl same) = same
          other (inr this) =
              let on : is_open x ≡ true = subst (λ y. is_open y ≡ true) (sym this.0) (first-open o os xs e) in
              absurd (true≢false (sym on ∙ h))

-- ---- one more entry, which ends the first

makes-none : (form : Form) (id : ℕ) → is_making (ending_act form id) ≡ false
makes-none OfToken id = refl
makes-none OfCopy id = refl

module _ (config : Configuration) (unit : ℕ) (past : List Deed) (d : Deed) (o : Operation) (os : List Operation)
    (is : IsPast config unit past) (made : d ≡ deed config unit past d.entry) (who : d.entry.actor ≡ o.made.entry.actor) (ends : d.entry.act ≡ end_of o) (first : all_unended past ≡ o ∷ os) where
  serves-it : would_serve past d.entry.actor d.entry.act ≡ Some o
  serves-it = ap (λ a. would_serve past a d.entry.act) who ∙ ap (would_serve past o.made.entry.actor) ends ∙ serves-first config unit past o os is first

  served-each : (xs : List Operation) → ((x : Operation) → In x xs → In x (operations past)) → Each (Served d o ends) xs
  served-each xs there = Each-by (Served d o ends) xs (λ x i. go x (served-or-not config unit past d x is made (there x i)))
    where
      go : (x : Operation) → (operation_after d x ≡ x) ⊎ ((would_serve past d.entry.actor d.entry.act ≡ Some x) × (operation_after d x ≡ record x { servers = d ∷ x.servers })) → Served d o ends x
      go x (inl same) = inl same
      go x (inr served) = let same : Some x ≡ Some o = sym served.0 ∙ serves-it in let alike : x ≡ o = cc in inr (alike, served.1)

  served-first : operation_after d o ≡ record o { servers = d ∷ o.servers }
  served-first =
      let place : d.served ≡ Some o.made.place = ap (λ (x : Deed). x.served) made ∙ ap (option_map (λ (x : Operation). x.made.place)) serves-it in
      let same : (o.made.place == o.made.place) ≡ true = eq-eqb o.made.place o.made.place refl in
      ap (λ (s : Option ℕ). if serves s o then record o { servers = d ∷ o.servers } else o) place ∙ rw same refl

  pub left-behind : IsPast config unit (d ∷ past) → all_unended (d ∷ past) ≡ os
  left-behind now =
      let none : makes_operation d ≡ false = ap (λ a. is_making a && is_answered d) ends ∙ ap (λ t. t && is_answered d) (makes-none (form_of o.made.entry.act) (id_of o.made.entry.act)) in
      all-kept config unit (d ∷ past) now
      ∙ ap (λ t. filter is_open (if t then keep (kept past) (made_operation d) else map (operation_after d) (kept past))) none
      ∙ first-ends d o ends os (kept past) (served-each (kept past) (λ x i. kept_in config unit past x is i)) (keys-apart config unit past is) served-first (sym (all-kept config unit past is) ∙ first)

-- the history with the end of the first has the same opening entries
pub opening-step : (config : Configuration) (unit : ℕ) (h : List Entry) (o : Operation) (os : List Operation) → all_unended (past_of config unit h) ≡ o ∷ os → last_stamp (past_of config unit h) < 2 ^ 64 - 1
    → opening_entries config unit (h ++ ending unit (moment (past_of config unit h)) (last_stamp (past_of config unit h) + 1) o ∷ []) ≡ opening_entries config unit h
opening-step config unit h o os first low =
    let past = past_of config unit h in
    let at = moment past in
    let last = last_stamp past in
    let e = ending unit at (last + 1) o in
    let d = deed config unit past e in
    let more : past_of config unit (h ++ e ∷ []) ≡ d ∷ past = past_of-mine config unit h e refl in
    let rest : all_unended (past_of config unit (h ++ e ∷ [])) ≡ os =
    ap all_unended more ∙ left-behind config unit past d o os (past-is config unit h) refl refl refl first (subst (IsPast config unit) more (past-is config unit (h ++ e ∷ []))) in
    let now : moment (past_of config unit (h ++ e ∷ [])) ≡ at = ap moment more ∙ (let m : max at at ≡ at = omega arith in m) in
    let stamp : last_stamp (past_of config unit (h ++ e ∷ [])) ≡ last + 1 = ap last_stamp more in
    let room : (last == 2 ^ 64 - 1) ≡ false = grind (arith, nat_tests, low) in
    ap (λ l. (h ++ e ∷ []) ++ endings unit l (last_stamp (past_of config unit (h ++ e ∷ []))) (all_unended (past_of config unit (h ++ e ∷ [])))) now
    ∙ ap (λ n. (h ++ e ∷ []) ++ endings unit at n (all_unended (past_of config unit (h ++ e ∷ [])))) stamp
    ∙ ap (λ l. (h ++ e ∷ []) ++ endings unit at (last + 1) l) rest
    ∙ append_assoc h (e ∷ []) (endings unit at (last + 1) os)
    ∙ ap (λ t. h ++ (if t then [] else e ∷ endings unit at (last + 1) os)) (sym room)
    ∙ ap (λ l. h ++ endings unit at last l) (sym first)

-- where nothing is to be ended, or no stamp is left, the history is all
pub opening-none : (config : Configuration) (unit : ℕ) (h : List Entry) → all_unended (past_of config unit h) ≡ [] → opening_entries config unit h ≡ h
opening-none config unit h none = ap (λ l. h ++ endings unit (moment (past_of config unit h)) (last_stamp (past_of config unit h)) l) none ∙ append-nil h

endings-none : (unit at last : ℕ) (os : List Operation) → last ≡ 2 ^ 64 - 1 → endings unit at last os ≡ []
endings-none unit at last [] full = refl
endings-none unit at last (o ∷ os) full =
    let on : (last == 2 ^ 64 - 1) ≡ true = eq-eqb last (2 ^ 64 - 1) full in
    rw on refl

pub opening-full : (config : Configuration) (unit : ℕ) (h : List Entry) → last_stamp (past_of config unit h) ≡ 2 ^ 64 - 1 → opening_entries config unit h ≡ h
opening-full config unit h full = ap (λ l. h ++ l) (endings-none unit (moment (past_of config unit h)) (last_stamp (past_of config unit h)) (all_unended (past_of config unit h)) full) ∙ append-nil h

-- ---- the first, and all

pub found-all : {X : Type 0} (p : X → Bool) (xs : List X) (x : X) → find p xs ≡ Some x → (rest : List X) × (filter p xs ≡ x ∷ rest)
found-all p [] x e = cc
found-all p (y ∷ ys) x e = go (p y) e (found-all p ys x)
  where
    go : (t : Bool) → cond t (Some y) (find p ys) ≡ Some x → (find p ys ≡ Some x → (rest : List _) × (filter p ys ≡ x ∷ rest)) → (rest : List _) × (cond t (y ∷ filter p ys) (filter p ys) ≡ x ∷ rest)
    go true e later = let same : y ≡ x = cc in (filter p ys, ap (λ z. z ∷ filter p ys) same)
    go false e later = later e

pub found-none : {X : Type 0} (p : X → Bool) (xs : List X) → find p xs ≡ None → filter p xs ≡ []
found-none p [] e = refl
found-none p (y ∷ ys) e = go (p y) e (found-none p ys)
  where
    go : (t : Bool) → cond t (Some y) (find p ys) ≡ None → (find p ys ≡ None → filter p ys ≡ []) → cond t (y ∷ filter p ys) (filter p ys) ≡ []
    go true e later = cc
    go false e later = later e
