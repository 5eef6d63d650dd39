-- Units that do one more act
use Rattle.std.proofs.Common.{◌≡◌, ℕ, zero, suc, ◌+◌, ◌-◌, ◌^◌, ◌<◌, ◌≤◌, List, [], ◌∷◌, ◌++◌, length, refl, ap, sym, ◌∙◌, subst, arith, true, false, Bool, inl, inr, append-nil, length-append, slice_set, Vec, Global}
use Rattle.std.specs.Prelude.{cond, ◌==◌, ◌⊎◌, ◌||◌, Option, Some, None, Result, Ok, Err, slice_get, slice_index, slice_index_or, fold, max}
use Rattle.std.proofs.lemmas.Bool.{cases_eq, eq-eqb, eqb-true}
use Rattle.std.proofs.lemmas.List.{length-set, get_or_read, get_or-set_same, get_or-set_other}
use Rattle.std.proofs.lemmas.List.Elements.{filter-append}
use Rattle.std.proofs.lemmas.List.Sums.{fold-append, sum_by-append, count_by-le-length}
use Rattle.std.proofs.lemmas.Option.{slice_get_read}
use Rattle.cm_base.specs.Configuration.{Configuration}
use Rattle.cm_base.specs.Units.{unit_of}
use Rattle.cm_history.specs.declared.act.Act.{Act}
use Rattle.cm_history.specs.declared.act.Actor.{Actor}
use Rattle.cm_history.specs.declared.act.Entry.{Entry}
use Rattle.cm_history.specs.declared.answer.Answer.{Answer}
use Rattle.cm_history.specs.Answers.{answer_after}
use Rattle.cm_history.specs.Forms.{HasForm}
use Rattle.cm_history.specs.Limits.{within_limits}
use Rattle.cm_history.specs.Legal.{may_ask}
use Rattle.cm_history.specs.Deeds.{last_stamp, same_actor}
use Rattle.cm_history.specs.Ends.{ends_operation}
use Rattle.cm_history.specs.History.{on, one_more, past_of, answer}
use Rattle.cm_history.specs.Room.{is_full}
use Rattle.cm_history.proofs.PublicLaws.{past_of-on}
use Rattle.cm_history.specs.declared.refused.ActRefused.{ActRefused}
use Rattle.unit_core.specs.UnitState as unit
use Rattle.unit_core.specs.Acting as whole
use Rattle.unit_core.specs.Unfolded as acting
use Rattle.unit_core.specs.Unfolded.{IsUnfolded, UnfoldedUnit, unfolded}
use Rattle.unit_core.proofs.PublicLaws.{unfolded-after, unfolded-entry, unfolded-full, unfolded-grown}
use Rattle.trace_replay.specs.declared.units.Units.{Units}
use Rattle.trace_replay.specs.ReplayState.{seq, new_entry, has_no_room, entries_after}
use Rattle.trace_replay.proofs.Legally.{legal-more, low-more}
use Rattle.trace_replay.specs.inner.Machines.{HaveDone, HavePumped, HaveCounted, Refuses, DoesAct}
use Rattle.copy_jobs.proofs.PublicLaws.{or_first as not-last}

-- ---- lists

get-set : {X : Type 0} (xs : List X) (i : ℕ) (v was : X) → slice_get xs i ≡ Some was → slice_get (slice_set xs i v) i ≡ Some v
get-set [] i v was e = cc
get-set (x ∷ xs) zero v was e = refl
get-set (x ∷ xs) (suc i) v was e = get-set xs i v was e

get-set_other : {X : Type 0} (xs : List X) (i j : ℕ) (v : X) → (i ≡ j → ⊥) → slice_get (slice_set xs i v) j ≡ slice_get xs j
get-set_other [] i j v e = refl
get-set_other (x ∷ xs) zero zero v e = absurd (e refl)
get-set_other (x ∷ xs) zero (suc j) v e = refl
get-set_other (x ∷ xs) (suc i) zero v e = refl
get-set_other (x ∷ xs) (suc i) (suc j) v e = get-set_other xs i j v (λ same. e (ap suc same))

set-same : {X : Type 0} (xs : List X) (i : ℕ) (v : X) → slice_get xs i ≡ Some v → slice_set xs i v ≡ xs
set-same [] i v e = refl
set-same (x ∷ xs) zero v e = let is : x ≡ v = cc in ap (λ y. y ∷ xs) (sym is)
set-same (x ∷ xs) (suc i) v e = ap (λ l. x ∷ l) (set-same xs i v e)

none-within : {X : Type 0} (xs : List X) (i : ℕ) → i < length xs → slice_get xs i ≡ None → ⊥
none-within [] i within e = omega (arith, within)
none-within (x ∷ xs) zero within e = cc
none-within (x ∷ xs) (suc i) within e = none-within xs i (omega (arith, within)) e

pub not-equal : (a b : ℕ) → (a ≡ b → ⊥) → (a == b) ≡ false
not-equal a b ne = go (a == b) refl
  where
    go : (t : Bool) → (a == b) ≡ t → (a == b) ≡ false
    go true k = absurd (ne (eqb-true a b k))
    go false k = k

-- ---- one more entry

on-same : (u : ℕ) (entries : List Entry) (e : Entry) → (e.unit == u) ≡ true → on u (entries ++ e ∷ []) ≡ on u entries ++ e ∷ []
on-same u entries e same = filter-append (λ (x : Entry). x.unit == u) entries (e ∷ []) ∙ rw same refl

on-other : (u : ℕ) (entries : List Entry) (e : Entry) → (e.unit == u) ≡ false → on u (entries ++ e ∷ []) ≡ on u entries
on-other u entries e other = filter-append (λ (x : Entry). x.unit == u) entries (e ∷ []) ∙ rw other (append-nil (on u entries))

pub stamps-more : (config : Configuration) (entries : List Entry) (e : Entry) (u : ℕ) → e.stamp ≤ length entries + 1
    → last_stamp (past_of config u entries) ≤ length entries → last_stamp (past_of config u (entries ++ e ∷ [])) ≤ length (entries ++ e ∷ [])
stamps-more config entries e u stamp before = go (e.unit == u) refl
  where
    len : length (entries ++ e ∷ []) ≡ length entries + 1
    len = length-append entries (e ∷ [])

    go : (t : Bool) → (e.unit == u) ≡ t → last_stamp (past_of config u (entries ++ e ∷ [])) ≤ length (entries ++ e ∷ [])
    go true same =
        let past : past_of config u (entries ++ e ∷ []) ≡ one_more config u (past_of config u entries) e =
        ap (fold (one_more config u) []) (on-same u entries e same) ∙ fold-append (one_more config u) [] (on u entries) (e ∷ []) in
        subst (λ p. last_stamp p ≤ length (entries ++ e ∷ [])) (sym past) (omega (arith, len, stamp))
    go false other =
        let past : past_of config u (entries ++ e ∷ []) ≡ past_of config u entries = ap (fold (one_more config u) []) (on-other u entries e other) in
        subst (λ p. last_stamp p ≤ length (entries ++ e ∷ [])) (sym past) (omega (arith, len, before))

seq-within : (actor : Actor) (entries : List Entry) → seq actor entries ≤ length entries
seq-within actor entries = count_by-le-length (λ (e : Entry). same_actor e.actor actor) entries

pub seq-same : (actor : Actor) (entries : List Entry) (e : Entry) → same_actor e.actor actor ≡ true → seq actor (entries ++ e ∷ []) ≡ seq actor entries + 1
seq-same actor entries e same =
    let last : cond {A = ℕ} (same_actor e.actor actor) 1 0 ≡ 1 = ap (λ b. cond {A = ℕ} b 1 0) same in
    omega (arith, last, sum_by-append (λ (x : Entry). cond (same_actor x.actor actor) 1 0) entries (e ∷ []))

pub seq-other : (actor : Actor) (entries : List Entry) (e : Entry) → same_actor e.actor actor ≡ false → seq actor (entries ++ e ∷ []) ≡ seq actor entries
seq-other actor entries e other =
    let last : cond {A = ℕ} (same_actor e.actor actor) 1 0 ≡ 0 = ap (λ b. cond {A = ℕ} b 1 0) other in
    omega (arith, last, sum_by-append (λ (x : Entry). cond (same_actor x.actor actor) 1 0) entries (e ∷ []))

-- ---- an act of one of the units

abbrev its : Configuration → List Entry → ℕ → UnfoldedUnit
its config entries u = record { config = config; unit = u; entries = on u entries }

same-past : (config : Configuration) (entries : List Entry) (u : ℕ) → acting.past (its config entries u) ≡ past_of config u entries
same-past config entries u = past_of-on config u entries

module _ (config : Configuration) (entries : List Entry) (units : Units) (u : ℕ) (value : unit.UnitState) (actor : Actor) (act : Act)
    (have : HaveDone config entries units) (at : slice_get units.units.items u ≡ Some value) where
  is-its : unfolded value ≡ its config entries u
  is-its = have.each u value at

  keeps : IsUnfolded value
  keeps = have.keeps u value at

  -- what is told after each list for which the unit stands
  abbrev Told : (List Entry → Type 0) → Type 0
  Told F = (h : List Entry) → unit.Stands value h → F h

  same-full : acting.is_full_at (unfolded value) actor units.stamp act ≡ has_no_room config entries actor u act
  same-full =
      ap (λ v. acting.is_full_at v actor units.stamp act) is-its
      ∙ ap (λ p. is_full (unit_of config u) 0 p actor units.stamp act) (same-past config entries u)
      ∙ ap (λ n. is_full (unit_of config u) 0 (past_of config u entries) actor n act) have.stamp

  pub room-left : Told (λ h. whole.is_full_at value h actor units.stamp act ≡ false) → has_no_room config entries actor u act ≡ false
  room-left told = sym same-full ∙ sym (unfolded-full value actor units.stamp act keeps) ∙ told value.kept keeps.stands

  pub stamp-fits : units.stamp < 2 ^ 64 → Told (λ h. whole.is_full_at value h actor units.stamp act ≡ false) → units.stamp < 2 ^ 64 - 1
  stamp-fits range room = go (cases_eq (max (length entries) (last_stamp (past_of config u entries))) (2 ^ 64 - 1))
    where
      go : ((max (length entries) (last_stamp (past_of config u entries)) ≡ 2 ^ 64 - 1) ⊎ (max (length entries) (last_stamp (past_of config u entries)) ≡ 2 ^ 64 - 1 → ⊥)) → units.stamp < 2 ^ 64 - 1
      go (inl last) =
          let test : (max (length entries) (last_stamp (past_of config u entries)) == 2 ^ 64 - 1) ≡ false = not-last _ _ (not-last _ _ (room-left room)) in
          let yes = eq-eqb (max (length entries) (last_stamp (past_of config u entries))) (2 ^ 64 - 1) last in
          cc
      go (inr other) = omega (arith, have.stamp, have.stamps u, range)

  pub answer-is : (moment : ℕ) (found : Answer) → Told (λ h. found ≡ answer value.config h value.unit actor moment act) → found ≡ answer config entries u actor moment act
  answer-is moment found told =
      told value.kept keeps.stands ∙ ap (λ (v : UnfoldedUnit). answer v.config v.entries v.unit actor moment act) is-its
      ∙ ap (λ p. answer_after config u p actor moment act) (same-past config entries u)

  pub form-is : (found : Answer) → HasForm value.config value.unit act found → HasForm config u act found
  form-is found has = subst (λ (v : UnfoldedUnit). HasForm v.config v.unit act found) is-its has

  pub refuses : (refused : ActRefused) → (refused ≡ ActRefused.Full → Told (λ h. whole.is_full_at value h actor units.stamp act ≡ true))
      → (refused ≡ ActRefused.OutOfMemory → Told (λ h. whole.ends_operation_at value h actor act ≡ false)) → Refuses config entries u actor act refused
  refuses ActRefused.Full full ends = sym same-full ∙ sym (unfolded-full value actor units.stamp act keeps) ∙ full refl value.kept keeps.stands
  refuses ActRefused.OutOfMemory full ends =
      sym (ap (λ p. ends_operation p actor act) (same-past config entries u)) ∙ sym (ap (λ v. ends_operation (acting.past v) actor act) is-its) ∙ ends refl value.kept keeps.stands

  -- the unit is as it was
  pub done-refused : (units' : Units) (value' : unit.UnitState) → units'.units.items ≡ slice_set units.units.items u value' → units'.stamp ≡ units.stamp
      → value' ≡ value → HaveDone config entries units'
  done-refused units' value' list stamp same =
      let all : units'.units.items ≡ units.units.items = list ∙ ap (slice_set units.units.items u) same ∙ set-same units.units.items u value at in
      record {
        limits = have.limits;
        count = ap length all ∙ have.count;
        each = λ v w e. have.each v w (ap (λ l. slice_get l v) (sym all) ∙ e);
        keeps = λ v w e. have.keeps v w (ap (λ l. slice_get l v) (sym all) ∙ e);
        stamp = stamp ∙ have.stamp;
        legal = have.legal;
        low = have.low;
        stamps = have.stamps;
      }

  -- the unit has one more entry
  pub done-more : (units' : Units) (value' : unit.UnitState) (n moment : ℕ) → units'.units.items ≡ slice_set units.units.items u value' → units'.stamp ≡ units.stamp + 1
      → Told (λ h. unit.Stands value' (h ++ whole.entry_at value actor n units.stamp moment act ∷ []))
      → value'.kept ≡ value.kept ++ whole.entry_at value actor n units.stamp moment act ∷ []
      → value'.folded ≡ value.folded → value'.config ≡ value.config → value'.unit ≡ value.unit
      → u < length config.units → within_limits config u act ≡ true → may_ask u actor act ≡ true
      → n ≡ seq actor entries → HaveDone config (entries ++ new_entry entries actor u moment act ∷ []) units'
  done-more units' value' n moment list stamp stands kept folded told number configured limits asked right = record {
    limits = have.limits;
    count = ap length list ∙ length-set units.units.items u value' ∙ have.count;
    each = λ v w e. each v w e (cases_eq u v);
    keeps = λ v w e. kept-all v w e (cases_eq u v);
    stamp = stamp ∙ omega (arith, have.stamp, length-append entries (new_entry entries actor u moment act ∷ []));
    legal = legal-more config entries actor u moment act have.low have.legal configured limits asked;
    low = low-more config entries actor u moment act have.low;
    stamps = λ v. stamps-more config entries (new_entry entries actor u moment act) v (omega arith) (have.stamps v);
  }
    where
      latest : max units.stamp (last_stamp (past_of config u entries)) ≡ length entries
      latest = omega (arith, have.stamp, have.stamps u)

      new : acting.entry_at (its config entries u) actor n units.stamp moment act ≡ new_entry entries actor u moment act
      new =
          let last : max units.stamp (last_stamp (acting.past (its config entries u))) ≡ length entries =
          ap (λ p. max units.stamp (last_stamp p)) (same-past config entries u) ∙ latest in
          rw (last, right) refl

      grown : unfolded value' ≡ record (unfolded value) { entries = value.kept ++ acting.entry_at (unfolded value) actor n units.stamp moment act ∷ [] }
      grown =
          unfolded-grown value value' (whole.entry_at value actor n units.stamp moment act) told number kept
          ∙ ap (λ e. record (unfolded value) { entries = value.kept ++ e ∷ [] }) (unfolded-entry value actor n units.stamp moment act keeps)

      grown-so : unfolded value' ≡ its config (entries ++ new_entry entries actor u moment act ∷ []) u
      grown-so =
          grown ∙ ap (λ (v : UnfoldedUnit). record v { entries = v.entries ++ acting.entry_at v actor n units.stamp moment act ∷ [] }) is-its
          ∙ ap (λ e. record (its config entries u) { entries = on u entries ++ e ∷ [] }) new
          ∙ ap (λ l. record (its config entries u) { entries = l }) (sym (on-same u entries (new_entry entries actor u moment act) (eq-eqb u u refl)))

      each : (v : ℕ) (w : unit.UnitState) → slice_get units'.units.items v ≡ Some w → ((u ≡ v) ⊎ (u ≡ v → ⊥))
          → unfolded w ≡ its config (entries ++ new_entry entries actor u moment act ∷ []) v
      each v w e (inl same) =
          let put : slice_get units'.units.items u ≡ Some value' = ap (λ l. slice_get l u) list ∙ get-set units.units.items u value' value at in
          let here : slice_get units'.units.items u ≡ Some w = ap (slice_get units'.units.items) same ∙ e in
          let is : w ≡ value' = cc in
          ap unfolded is ∙ grown-so ∙ ap (its config (entries ++ new_entry entries actor u moment act ∷ [])) same
      each v w e (inr other) =
          let kept : slice_get units.units.items v ≡ Some w = sym (ap (λ l. slice_get l v) list ∙ get-set_other units.units.items u v value' other) ∙ e in
          let test : (u == v) ≡ false = not-equal u v other in
          have.each v w kept ∙ ap (λ l. record (its config entries v) { entries = l }) (sym (on-other v entries (new_entry entries actor u moment act) test))

      kept-all : (v : ℕ) (w : unit.UnitState) → slice_get units'.units.items v ≡ Some w → ((u ≡ v) ⊎ (u ≡ v → ⊥)) → IsUnfolded w
      kept-all v w e (inl same) =
          let put : slice_get units'.units.items u ≡ Some value' = ap (λ l. slice_get l u) list ∙ get-set units.units.items u value' value at in
          let here : slice_get units'.units.items u ≡ Some w = ap (slice_get units'.units.items) same ∙ e in
          let is : w ≡ value' = cc in
          subst IsUnfolded (sym is) (unfolded-after value value' (whole.entry_at value actor n units.stamp moment act) keeps folded kept stands)
      kept-all v w e (inr other) =
          have.keeps v w (sym (ap (λ l. slice_get l v) list ∙ get-set_other units.units.items u v value' other) ∙ e)

pub seq-below : (actor : Actor) (entries : List Entry) (n stamp limit : ℕ) → n ≡ seq actor entries → stamp ≡ length entries → stamp < limit → n < limit
seq-below actor entries n stamp limit right is below = omega (arith, right, is, below, seq-within actor entries)

pub does-refused : (Have : List Entry → Type 0) (config : Configuration) (entries : List Entry) (u : ℕ) (actor : Actor) (n moment : ℕ) (act : Act) (r : Result Answer ActRefused) (refused : ActRefused)
    → r ≡ Err refused → Have entries → Refuses config entries u actor act refused → DoesAct Have config entries u actor n moment act r
does-refused Have config entries u actor n moment act r refused is have why = subst (DoesAct Have config entries u actor n moment act) (sym is) (have, why)

-- the unit that a look-up by index found
pub unit-at : (config : Configuration) (entries : List Entry) (units : Units) (u place : ℕ) (value : unit.UnitState) → HaveDone config entries units → u < length config.units
    → place ≡ u → value ≡ slice_index_or units.units.items place value → slice_get units.units.items u ≡ Some value
unit-at config entries units u place value have configured is found =
    let within : u < length units.units.items = omega (arith, have.count, configured) in
    slice_get_read units.units.items (length units.units.items) u value refl within (found ∙ ap (λ i. slice_index_or units.units.items i value) is)

-- ---- with the pumps

done-beside : (config : Configuration) (entries : List Entry) (units units' : Units) → units'.units.items ≡ units.units.items → units'.stamp ≡ units.stamp
    → HaveDone config entries units → HaveDone config entries units'
done-beside config entries units units' list stamp have = record {
  limits = have.limits;
  count = ap length list ∙ have.count;
  each = λ v w e. have.each v w (ap (λ l. slice_get l v) (sym list) ∙ e);
  keeps = λ v w e. have.keeps v w (ap (λ l. slice_get l v) (sym list) ∙ e);
  stamp = stamp ∙ have.stamp;
  legal = have.legal;
  low = have.low;
  stamps = have.stamps;
}

module _ (config : Configuration) (entries : List Entry) (units units' : Units) (pumped : HavePumped config entries units) where
  pumped-same : units'.pumps ≡ units.pumps → HavePumped config entries units'
  pumped-same same = subst (λ p. HavePumped config entries (record units' { pumps = p })) (sym same)
      (record { count = pumped.count; each = pumped.each })

  pumped-nexus : (e : Entry) (n : ℕ) → e.actor ≡ Actor.Nexus n → units'.pumps ≡ units.pumps → HavePumped config (entries ++ e ∷ []) units'
  pumped-nexus e n nexus same = record {
    count = ap (λ (p : Vec ℕ Global). length p.items) same ∙ pumped.count;
    each = λ v within.
        ap (λ (p : Vec ℕ Global). slice_index p.items v) same ∙ pumped.each v within
        ∙ sym (seq-other (Actor.Pump v) entries e (ap (λ a. same_actor a (Actor.Pump v)) nexus));
  }

  pub does-counted : (u n seq moment : ℕ) (act : Act) (r : Result Answer ActRefused) → units'.pumps ≡ units.pumps
      → DoesAct (λ es. HaveDone config es units') config entries u (Actor.Nexus n) seq moment act r
      → DoesAct (λ es. HaveCounted config es units') config entries u (Actor.Nexus n) seq moment act r
  does-counted u n seq moment act (Ok found) same does = (
    does.0,
    does.1,
    λ right. record { done = does.2 right; pumped = pumped-nexus (new_entry entries (Actor.Nexus n) u moment act) n refl same },
    does.3,
  )
  does-counted u n seq moment act (Err refused) same does = (record { done = does.0; pumped = pumped-same same }, does.1)

  -- the pump of a unit made one more entry
  pub counted-pump : (u place n moment : ℕ) (between : Units) → u < length config.units → place ≡ u → n ≡ slice_index_or units.pumps.items place n
      → between.pumps ≡ units.pumps → units'.units.items ≡ between.units.items → units'.stamp ≡ between.stamp
      → units'.pumps.items ≡ slice_set between.pumps.items place (n + 1)
      → (n ≡ seq (Actor.Pump u) entries → HaveDone config (entries ++ new_entry entries (Actor.Pump u) u moment Act.Pump ∷ []) between)
      → HaveCounted config (entries ++ new_entry entries (Actor.Pump u) u moment Act.Pump ∷ []) units'
  counted-pump u place n moment between configured is found same list stamp pumps does = record {
    done = done-beside config (entries ++ new_entry entries (Actor.Pump u) u moment Act.Pump ∷ []) between units' list stamp (does right);
    pumped = record { count = ap length all ∙ length-set units.pumps.items u (n + 1) ∙ pumped.count; each = λ v within. each v within (cases_eq u v) };
  }
    where
      here : u < length units.pumps.items
      here = omega (arith, configured, pumped.count)

      read : slice_index units.pumps.items u ≡ n
      read = sym (get_or_read units.pumps.items u n here (found ∙ ap (λ i. slice_index_or units.pumps.items i n) is) 0)

      right : n ≡ seq (Actor.Pump u) entries
      right = sym read ∙ pumped.each u configured

      all : units'.pumps.items ≡ slice_set units.pumps.items u (n + 1)
      all = pumps ∙ ap (λ (p : Vec ℕ Global). slice_set p.items place (n + 1)) same ∙ ap (λ i. slice_set units.pumps.items i (n + 1)) is

      each : (v : ℕ) → v < length config.units → ((u ≡ v) ⊎ (u ≡ v → ⊥))
          → slice_index units'.pumps.items v ≡ seq (Actor.Pump v) (entries ++ new_entry entries (Actor.Pump u) u moment Act.Pump ∷ [])
      each v within (inl e) =
          let put : slice_index units'.pumps.items u ≡ n + 1 = ap (λ l. slice_index l u) all ∙ get_or-set_same units.pumps.items u (n + 1) 0 here in
          let more : seq (Actor.Pump u) (entries ++ new_entry entries (Actor.Pump u) u moment Act.Pump ∷ []) ≡ n + 1 =
          seq-same (Actor.Pump u) entries (new_entry entries (Actor.Pump u) u moment Act.Pump) (eq-eqb u u refl) ∙ ap (λ k. k + 1) (sym right) in
          subst (λ w. slice_index units'.pumps.items w ≡ seq (Actor.Pump w) (entries ++ new_entry entries (Actor.Pump u) u moment Act.Pump ∷ [])) e (put ∙ sym more)
      each v within (inr other) =
          ap (λ l. slice_index l v) all ∙ get_or-set_other units.pumps.items u v (n + 1) 0 (λ e. other (sym e)) ∙ pumped.each v within
          ∙ sym (seq-other (Actor.Pump v) entries (new_entry entries (Actor.Pump u) u moment Act.Pump) (not-equal u v other))

  pub counted-same : HaveDone config entries units' → units'.pumps ≡ units.pumps → HaveCounted config entries units'
  counted-same done same = record { done = done; pumped = pumped-same same }

-- where there is no room nothing is done, and else the act is one more entry
pub after-full : (P : List Entry → Type 0) (config : Configuration) (entries : List Entry) (actor : Actor) (u moment : ℕ) (act : Act)
    → has_no_room config entries actor u act ≡ true → P entries → P (entries_after config entries actor u moment act)
after-full P config entries actor u moment act full have =
    subst (λ b. P (cond b entries (entries ++ new_entry entries actor u moment act ∷ []))) (sym full) have

pub after-done : (P : List Entry → Type 0) (config : Configuration) (entries : List Entry) (actor : Actor) (u moment : ℕ) (act : Act)
    → has_no_room config entries actor u act ≡ false → P (entries ++ new_entry entries actor u moment act ∷ []) → P (entries_after config entries actor u moment act)
after-done P config entries actor u moment act room have =
    subst (λ b. P (cond b entries (entries ++ new_entry entries actor u moment act ∷ []))) (sym room) have

-- units are told of one configuration
pub one-config : (config other : Configuration) (entries more : List Entry) (units : Units) (u : ℕ) → HaveDone config entries units → HaveDone other more units → u < length other.units
    → other ≡ config
one-config config other entries more units u have have' within = go (slice_get units.units.items u) refl
  where
    here : u < length units.units.items
    here = omega (arith, have'.count, within)

    go : (found : Option unit.UnitState) → slice_get units.units.items u ≡ found → other ≡ config
    go None e = absurd (none-within units.units.items u here e)
    go (Some value) e = ap (λ (v : UnfoldedUnit). v.config) (sym (have'.each u value e) ∙ have.each u value e)

-- ---- one more unit

pub pushed-each : {X : Type 0} (xs : List X) (x : X) (F : ℕ → X → Type 0) → ((u : ℕ) (v : X) → slice_get xs u ≡ Some v → F u v) → F (length xs) x
    → (u : ℕ) (v : X) → slice_get (xs ++ x ∷ []) u ≡ Some v → F u v
pushed-each [] x F h one zero v e = let is : x ≡ v = cc in subst (F 0) is one
pushed-each [] x F h one (suc u) v e = cc
pushed-each (y ∷ ys) x F h one zero v e = h zero v e
pushed-each (y ∷ ys) x F h one (suc u) v e = pushed-each ys x (λ n. F (suc n)) (λ n w. h (suc n) w) one u v e
