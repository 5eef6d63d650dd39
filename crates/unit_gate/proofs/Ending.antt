-- A unit goes on with a history: the operations of which it has still the ends to make are ended
use Rattle.std.proofs.Common.{◌≡◌, ◌<◌, ℕ, ◌+◌, ◌-◌, ◌^◌, List, [], ◌∷◌, ◌++◌, length, take, refl, ap, sym, ◌∙◌, subst, arith, take_at, true, false, Bool, inl}
use Rattle.std.specs.Prelude.{◌==◌, fold, filter, max, is_some, Option, Some, None, option_map, IfSome, if◌then◌else◌}
use Rattle.std.proofs.lemmas.Bool.{eq-eqb}
use Rattle.cm_base.specs.Configuration.{Configuration}
use Rattle.cm_history.specs.declared.act.Act.{Act}
use Rattle.cm_history.specs.declared.act.Actor.{Actor}
use Rattle.cm_history.specs.declared.act.Actor.TheVariants.{Nexus, Pump}
use Rattle.cm_history.specs.declared.act.Entry.{Entry}
use Rattle.cm_history.specs.Deeds.{Deed, last_stamp, moment}
use Rattle.cm_history.specs.Ends.{ends_operation}
use Rattle.cm_history.specs.History.{on, one_more, past_of}
use Rattle.cm_history.specs.Operations.{Operation, Form, OfToken, OfCopy, form_of, id_of, is_running, operations, running, would_serve}
use Rattle.cm_history.proofs.PublicLaws.{Each, Each-in, In, In-filter, past-is}
use Rattle.copy_jobs.specs.declared.key.Key.{Key}
use Rattle.merged_history.specs.Own.{Rises}
use Rattle.unit_core.specs.Acting.{entry_at, moment_at}
use Rattle.unit_core.specs.Keys.{number_of, is_copy, key_made}
use Rattle.unit_core.specs.Unended.{is_by_initiator, unended, unended_at}
use Rattle.unit_core.specs.UnitState.{UnitState, Stands}
use Rattle.unit_core.proofs.PublicLaws.{IsMadeBy, IsNexus, all-made_by, maker-nexus}
use Rattle.unit_gate.specs.Opening.{IsGiven, all_unended, ending_act, ending, endings, opening_entries}
use Rattle.unit_gate.specs.Recorded.{HasRecorded}
use Rattle.unit_gate.proofs.Endings.{end_of, serves-first, opening-step, opening-none, opening-full, found-all, found-none}
use Rattle.unit_gate.proofs.Replaying.{last-shown}
use Rattle.unit_gate.proofs.Stamps.{last-push}

-- ---- the operation of a key

abbrev pub form_by : Bool → Form
form_by true = OfCopy
form_by false = OfToken

form-back : (form : Form) → form_by (is_copy form) ≡ form
form-back OfToken = refl
form-back OfCopy = refl

nexus-is : (actor : Actor) → IsNexus actor → actor ≡ Nexus (number_of actor)
nexus-is (Nexus n) is = refl
nexus-is (Pump u) is = absurd is

-- it is the first that is to be ended
record IsFirst (s : UnitState) (h : List Entry) (key : Key) : Type 0 where
  operation : Operation
  rest : List Operation
  first : all_unended (past_of s.config s.unit h) ≡ operation ∷ rest
  key_is : key_made operation ≡ key
  actor : operation.made.entry.actor ≡ Nexus key.actor

first-in : (p : Operation → Bool) (xs ys : List Operation) (x : Operation) → filter p xs ≡ x ∷ ys → In x (filter p xs)
first-in p xs ys x is = subst (In x) (sym is) (inl refl)

first-is : (s : UnitState) (h : List Entry) (key : Key) → Stands s h → unended_at s h ≡ Some key → IsFirst s h key
first-is s h key stands is = go (unended past) refl
  where
    past : List Deed
    past = past_of s.config s.unit h

    go : (o : Option Operation) → unended past ≡ o → IsFirst s h key
    go None none = let clash : None ≡ Some key = ap (option_map key_made) (sym none) ∙ is in cc
    go (Some o) found =
        let all = found-all is_by_initiator (running past) o found in
        let same : Some (key_made o) ≡ Some key = ap (option_map key_made) (sym found) ∙ is in
        let key_is : key_made o ≡ key = cc in
        let there : In o (operations past) = In-filter is_running (operations past) o (In-filter is_by_initiator (running past) o (first-in is_by_initiator (running past) all.0 o all.1)) in
        let made : IsMadeBy s.config s.unit o.made = Each-in (λ (x : Operation). IsMadeBy s.config s.unit x.made) (operations past) o (all-made_by s.config s.unit past (past-is s.config s.unit h) stands.asked) there in
        let nexus = nexus-is o.made.entry.actor (maker-nexus s.unit o.made.entry.actor o.made.entry.act made.asked.asked made.makes) in
        record { operation = o; rest = all.0; first = all.1; key_is = key_is; actor = nexus ∙ ap (λ (k : Key). Nexus k.actor) key_is }

-- ---- it is ended

ends-serving : (past : List Deed) (actor : Actor) (form : Form) (id : ℕ) → ends_operation past actor (ending_act form id) ≡ is_some (would_serve past actor (ending_act form id))
ends-serving past actor OfToken id = refl
ends-serving past actor OfCopy id = refl

module _ (s : UnitState) (key : Key) (first : (h : List Entry) → Stands s h → unended_at s h ≡ Some key) (act : Act) (act_is : act ≡ ending_act (form_by key.copy) key.id) where
  act-ends : (h : List Entry) (stands : Stands s h) → act ≡ end_of (first-is s h key stands (first h stands)).operation
  act-ends h stands =
      let it = first-is s h key stands (first h stands) in
      act_is ∙ ap (λ (k : Key). ending_act (form_by k.copy) k.id) (sym it.key_is)
      ∙ ap (λ f. ending_act f (id_of it.operation.made.entry.act)) (form-back (form_of it.operation.made.entry.act))

  pub ends-it : (h : List Entry) → Stands s h → ends_operation (past_of s.config s.unit h) (Nexus key.actor) act ≡ true
  ends-it h stands =
      let it = first-is s h key stands (first h stands) in
      let past = past_of s.config s.unit h in
      let o = it.operation in
      ap (λ a. ends_operation past a act) (sym it.actor)
      ∙ ap (ends_operation past o.made.entry.actor) (act-ends h stands)
      ∙ ends-serving past o.made.entry.actor (form_of o.made.entry.act) (id_of o.made.entry.act)
      ∙ ap is_some (serves-first s.config s.unit past o it.rest (past-is s.config s.unit h) it.first)

  module _ (at : ℕ) (moment_is : (h : List Entry) → Stands s h → at ≡ moment_at s h) (low : s.image.last_stamp < 2 ^ 64 - 1) (new : UnitState)
      (stands : (h : List Entry) → Stands s h → Stands new (h ++ entry_at s (Nexus key.actor) 0 0 at act ∷ [])) where
    entry-is : (h : List Entry) (is : Stands s h)
        → entry_at s (Nexus key.actor) 0 0 at act ≡ ending s.unit (moment (past_of s.config s.unit h)) (last_stamp (past_of s.config s.unit h) + 1) (first-is s h key is (first h is)).operation
    entry-is h is =
        let it = first-is s h key is (first h is) in
        let last = last-shown s h is in
        let stamp : max 0 s.image.last_stamp + 1 ≡ last_stamp (past_of s.config s.unit h) + 1 = omega (arith, last) in
        ap (λ (n : ℕ). record { stamp = n; unit = s.unit; actor = Nexus key.actor; seq = 0; moment = at; act = act }) stamp
        ∙ ap (λ (n : ℕ). record { stamp = last_stamp (past_of s.config s.unit h) + 1; unit = s.unit; actor = Nexus key.actor; seq = 0; moment = n; act = act }) (moment_is h is)
        ∙ ap (λ (a : Actor). record { stamp = last_stamp (past_of s.config s.unit h) + 1; unit = s.unit; actor = a; seq = 0; moment = moment (past_of s.config s.unit h); act = act }) (sym it.actor)
        ∙ ap (λ (a : Act). record { stamp = last_stamp (past_of s.config s.unit h) + 1; unit = s.unit; actor = it.operation.made.entry.actor; seq = 0; moment = moment (past_of s.config s.unit h); act = a }) (act-ends h is)

    -- the opening entries stay the same
    pub stands-ended : (h : List Entry) → Stands s h → (x : List Entry) × Stands new x × (opening_entries s.config s.unit x ≡ opening_entries s.config s.unit h)
    stands-ended h is =
        let it = first-is s h key is (first h is) in
        let e = ending s.unit (moment (past_of s.config s.unit h)) (last_stamp (past_of s.config s.unit h) + 1) it.operation in
        let last = last-shown s h is in (
          h ++ e ∷ [],
          subst (λ x. Stands new (h ++ x ∷ [])) (entry-is h is) (stands h is),
          opening-step s.config s.unit h it.operation it.rest it.first (omega (arith, last, low)),
        )

    pub later-ended : new.config ≡ s.config → new.unit ≡ s.unit → (h : List Entry) → Stands s h → s.image.last_stamp < new.image.last_stamp
    later-ended config unit h is =
        let e = entry_at s (Nexus key.actor) 0 0 at act in
        let now = stands h is in
        let shown = last-shown new (h ++ e ∷ []) now in
        let last = last-push new.config new.unit h e now.own in
        let stamp : max 0 s.image.last_stamp + 1 ≡ s.image.last_stamp + 1 = omega arith in
        omega (arith, shown, last, stamp)

-- ---- one after the other

-- some operations were ended, and the opening entries are the same
pub record HasEnded (old told : UnitState) : Type 0 where
  pub some : (h : List Entry) × Stands told h
  pub stands : (h : List Entry) → Stands old h → (x : List Entry) × Stands told x × (opening_entries old.config old.unit x ≡ opening_entries old.config old.unit h)
  pub folded : told.folded ≡ old.folded
  pub config_is : told.config ≡ old.config
  pub unit_is : told.unit ≡ old.unit

pub ended-none : (s : UnitState) → ((h : List Entry) × Stands s h) → HasEnded s s
ended-none s some = record { some = some; stands = λ h is. (h, is, refl); folded = refl; config_is = refl; unit_is = refl }

pub ended-one : (old told new : UnitState) → HasEnded old told → ((h : List Entry) → Stands told h → (x : List Entry) × Stands new x × (opening_entries told.config told.unit x ≡ opening_entries told.config told.unit h))
    → new.folded ≡ told.folded → new.config ≡ told.config → new.unit ≡ told.unit → HasEnded old new
ended-one old told new is stands folded config unit =
    let first = stands is.some.0 is.some.1 in
    record {
      some = (first.0, first.1);
      stands = λ h before.
          let here = is.stands h before in
          let more = stands here.0 here.1 in
          let same : opening_entries old.config old.unit more.0 ≡ opening_entries old.config old.unit here.0 = rw (← is.config_is, ← is.unit_is) more.2 in
          (more.0, more.1, same ∙ here.2);
      folded = folded ∙ is.folded;
      config_is = config ∙ is.config_is;
      unit_is = unit ∙ is.unit_is;
    }

-- where all that it still stands for are opening entries
all-ended : (old told : UnitState) → HasEnded old told → ((x : List Entry) → Stands told x → opening_entries told.config told.unit x ≡ x)
    → (h : List Entry) → Stands old h → Stands told (opening_entries old.config old.unit h)
all-ended old told is done h before =
    let here = is.stands h before in
    let same : opening_entries old.config old.unit here.0 ≡ here.0 = rw (← is.config_is, ← is.unit_is) (done here.0 here.1) in
    subst (Stands told) (sym same ∙ here.2) here.1

-- no stamp is left
pub ended-full : (old told : UnitState) → HasEnded old told → told.image.last_stamp ≡ 2 ^ 64 - 1 → (h : List Entry) → Stands old h → Stands told (opening_entries old.config old.unit h)
ended-full old told is full = all-ended old told is (λ x stands. opening-full told.config told.unit x (sym (last-shown told x stands) ∙ full))

-- or no operation
pub ended-all : (old told : UnitState) → HasEnded old told → ((x : List Entry) → Stands told x → None ≡ unended_at told x) → (h : List Entry) → Stands old h → Stands told (opening_entries old.config old.unit h)
ended-all old told is none = all-ended old told is (λ x stands. opening-none told.config told.unit x (found-none is_by_initiator (running (past_of told.config told.unit x)) (no-key (unended (past_of told.config told.unit x)) (sym (none x stands)))))
  where
    no-key : (o : Option Operation) → option_map key_made o ≡ None → o ≡ None
    no-key None e = refl
    no-key (Some o) e = cc

-- ---- the stamps of the opening entries rise

rises-joined : (config : Configuration) (unit : ℕ) (xs ys : List Entry) (acc : List Deed) → Rises (last_stamp acc) xs → Rises (last_stamp (fold (one_more config unit) acc xs)) ys → Rises (last_stamp acc) (xs ++ ys)
rises-joined config unit [] ys acc first behind = behind
rises-joined config unit (x ∷ xs) ys acc first behind = (first.0, rises-joined config unit xs ys (one_more config unit acc x) first.1 behind)

endings-rise : (unit at last : ℕ) (os : List Operation) → Rises last (endings unit at last os)
endings-rise unit at last [] = tt
endings-rise unit at last (o ∷ os) = go (last == 2 ^ 64 - 1) (endings-rise unit at (last + 1) os)
  where
    go : (t : Bool) → Rises (last + 1) (endings unit at (last + 1) os) → Rises last (if t then [] else ending unit at (last + 1) o ∷ endings unit at (last + 1) os)
    go true rest = tt
    go false rest = (omega arith, rest)

pub opening-rises : (config : Configuration) (unit : ℕ) (h : List Entry) → on unit h ≡ h → Rises 0 h → Rises 0 (opening_entries config unit h)
opening-rises config unit h own rises =
    let past = past_of config unit h in
    rises-joined config unit h (endings unit (moment past) (last_stamp past) (all_unended past)) [] rises
    (subst (λ l. Rises (last_stamp (fold (one_more config unit) [] l)) (endings unit (moment past) (last_stamp past) (all_unended past))) own (endings-rise unit (moment past) (last_stamp past) (all_unended past)))

-- ---- what a recorder has recorded of them

pub own-on : (unit : ℕ) (h : List Entry) → Each (λ (e : Entry). e.unit ≡ unit) h → on unit h ≡ h
own-on unit [] own = refl
own-on unit (e ∷ es) own =
    let here : (e.unit == unit) ≡ true = eq-eqb e.unit unit own.0 in
    rw here (ap (λ l. e ∷ l) (own-on unit es own.1))

-- the unit stands for the opening entries, and the recorder has recorded the history
pub opening-recorded : (u : UnitState) (recorded : Option (List Entry)) (config : Configuration) (unit : ℕ) (h : List Entry) → IsGiven config unit h
    → Stands u (opening_entries config unit h) → u.folded ≡ length h → IfSome recorded (λ es. es ≡ h) → HasRecorded u recorded (opening_entries config unit h)
opening-recorded u recorded config unit h given stands folded first = record {
  unit_is = stands;
  rising = opening-rises config unit h (own-on unit h given.is_history.own) given.is_history.rising;
  first = go recorded first;
}
  where
    past : List Deed
    past = past_of config unit h

    go : (told : Option (List Entry)) → IfSome told (λ es. es ≡ h) → IfSome told (λ es. es ≡ take u.folded (opening_entries config unit h))
    go None same = tt
    go (Some es) same = same ∙ sym (take_at h (endings unit (moment past) (last_stamp past) (all_unended past)) (length h) refl) ∙ ap (λ n. take n (opening_entries config unit h)) (sym folded)
