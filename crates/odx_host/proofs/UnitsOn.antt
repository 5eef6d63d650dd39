-- One more entry of a port's units
use Rattle.std.proofs.Common.{◌≡◌, ℕ, zero, suc, ◌+◌, ◌<◌, ◌≤◌, List, [], ◌∷◌, ◌++◌, length, refl, ap, sym, ◌∙◌, subst, arith, true, false, Bool, inl, inr, append-nil, slice_set, slice_get}
use Rattle.std.specs.Prelude.{cond, ◌==◌, ◌⊎◌, Some, None, Option, All, fold, slice_index, slice_index_or}
use Rattle.std.proofs.lemmas.Bool.{cases_eq, eq-eqb, eqb-true}
use Rattle.std.proofs.lemmas.List.{length-set, get_or-set_same, get_or-set_other}
use Rattle.std.proofs.lemmas.List.Elements.{All-push, filter-append}
use Rattle.std.proofs.lemmas.List.Sums.{fold-append, sum_by-append}
use Rattle.cm_base.specs.Configuration.{Configuration}
use Rattle.cm_history.specs.declared.act.Act.{Act}
use Rattle.cm_history.specs.declared.act.Actor.{Actor}
use Rattle.cm_history.specs.declared.act.Entry.{Entry}
use Rattle.cm_history.specs.Deeds.{last_stamp, same_actor}
use Rattle.cm_history.specs.History.{on, one_more, past_of}
use Rattle.cm_history.specs.Legal.{IsLegal, may_ask}
use Rattle.cm_history.specs.Limits.{within_limits}
use Rattle.cm_history.proofs.PublicLaws.{legal_push, same_actor-is}
use Rattle.cmd_program.specs.Conversations.{last_stamp_of}
use Rattle.cmd_program.specs.InHistory.{entries_by, is_by}
use Rattle.unit_core.specs.Unfolded.{UnfoldedUnit}
use Rattle.odx_host.specs.Units.{host, UnitsAt, seq, IsMadeHere, AreAfter}

-- ---- lists

pub not-equal : (a b : ℕ) → (a ≡ b → ⊥) → (a == b) ≡ false
not-equal a b ne = go (a == b) refl
  where
    go : (t : Bool) → (a == b) ≡ t → (a == b) ≡ false
    go true k = absurd (ne (eqb-true a b k))
    go false k = k

get-set : {X : Type 0} (xs : List X) (i : ℕ) (v was : X) → slice_get xs i ≡ Some was → slice_get (slice_set xs i v) i ≡ Some v
get-set [] i v was e = cc
get-set (x ∷ xs) zero v was e = refl
get-set (x ∷ xs) (suc i) v was e = get-set xs i v was e

get-set_other : {X : Type 0} (xs : List X) (i j : ℕ) (v : X) → (i ≡ j → ⊥) → slice_get (slice_set xs i v) j ≡ slice_get xs j
get-set_other [] i j v e = refl
get-set_other (x ∷ xs) zero zero v e = absurd (e refl)
get-set_other (x ∷ xs) zero (suc j) v e = refl
get-set_other (x ∷ xs) (suc i) zero v e = refl
get-set_other (x ∷ xs) (suc i) (suc j) v e = get-set_other xs i j v (λ same. e (ap suc same))

pub pump-unit : (unit u : ℕ) (act : Act) → may_ask unit (Actor.Pump u) act ≡ true → u ≡ unit
pump-unit unit u Act.Pump e = eqb-true u unit e
pump-unit unit u _ e = cc

-- ---- the history with one more entry

module _ (config : Configuration) (h : List Entry) (e : Entry) where
  abbrev more : List Entry
  more = h ++ e ∷ []

  pub on-same : (u : ℕ) → (e.unit == u) ≡ true → on u more ≡ on u h ++ e ∷ []
  on-same u same = filter-append (λ (x : Entry). x.unit == u) h (e ∷ []) ∙ rw same refl

  pub on-other : (u : ℕ) → (e.unit == u) ≡ false → on u more ≡ on u h
  on-other u other = filter-append (λ (x : Entry). x.unit == u) h (e ∷ []) ∙ rw other (append-nil (on u h))

  pub last-same : (u : ℕ) → (e.unit == u) ≡ true → last_stamp (past_of config u more) ≡ e.stamp
  last-same u same =
      let past : past_of config u more ≡ one_more config u (past_of config u h) e =
      ap (fold (one_more config u) []) (on-same u same) ∙ fold-append (one_more config u) [] (on u h) (e ∷ []) in
      ap last_stamp past

  pub last-other : (u : ℕ) → (e.unit == u) ≡ false → last_stamp (past_of config u more) ≡ last_stamp (past_of config u h)
  last-other u other = ap (λ l. last_stamp (fold (one_more config u) [] l)) (on-other u other)

  pub seq-same : (actor : Actor) → same_actor e.actor actor ≡ true → seq actor more ≡ seq actor h + 1
  seq-same actor same =
      let last : cond {A = ℕ} (same_actor e.actor actor) 1 0 ≡ 1 = ap (λ b. cond {A = ℕ} b 1 0) same in
      omega (arith, last, sum_by-append (λ (x : Entry). cond (same_actor x.actor actor) 1 0) h (e ∷ []))

  pub seq-other : (actor : Actor) → same_actor e.actor actor ≡ false → seq actor more ≡ seq actor h
  seq-other actor other =
      let last : cond {A = ℕ} (same_actor e.actor actor) 1 0 ≡ 0 = ap (λ b. cond {A = ℕ} b 1 0) other in
      omega (arith, last, sum_by-append (λ (x : Entry). cond (same_actor x.actor actor) 1 0) h (e ∷ []))

  pub by-same : (n : ℕ) → is_by n e ≡ true → entries_by n more ≡ entries_by n h ++ e ∷ []
  by-same n same = filter-append (is_by n) h (e ∷ []) ∙ rw same refl

  pub by-other : (n : ℕ) → is_by n e ≡ false → entries_by n more ≡ entries_by n h
  by-other n other = filter-append (is_by n) h (e ∷ []) ∙ rw other (append-nil (entries_by n h))

-- the stamp of the last one
last-pushed : (xs : List Entry) (e : Entry) → last_stamp_of (xs ++ e ∷ []) ≡ e.stamp
last-pushed [] e = refl
last-pushed (x ∷ []) e = refl
last-pushed (x ∷ y ∷ ys) e = last-pushed (y ∷ ys) e

-- ---- one more entry of the units

-- an entry that may come next
pub record MayCome (config : Configuration) (h : List Entry) (e : Entry) : Type 0 where
  pub configured : e.unit < length config.units
  pub limits : within_limits config e.unit e.act ≡ true
  pub asked : may_ask e.unit e.actor e.act ≡ true
  pub late : last_stamp (past_of config e.unit h) < e.stamp
  pub later : All (λ (x : Entry). same_actor x.actor e.actor ≡ true → x.stamp < e.stamp) h
  pub counted : e.seq ≡ seq e.actor h
  pub moment : e.moment ≡ 0

module _ (config : Configuration) (h : List Entry) (s v : UnitsAt) (e : Entry) (x : UnfoldedUnit) (after : AreAfter config h s) (may : MayCome config h e)
    (at : slice_get s.units e.unit ≡ Some x) (list : v.units ≡ slice_set s.units e.unit (record x { entries = x.entries ++ e ∷ [] })) where
  abbrev longer : List Entry
  longer = h ++ e ∷ []

  legal : IsLegal config longer
  legal = legal_push config h e after.legal (record {
    configured = may.configured;
    limits = may.limits;
    asked = may.asked;
    rising = λ i d low same.
        let most = after.latest i d low in
        let here : last_stamp (past_of config (slice_index_or h i d).unit h) ≡ last_stamp (past_of config e.unit h) = ap (λ u. last_stamp (past_of config u h)) same in
        omega (arith, most, here, may.late);
    later = may.later;
    counted = may.counted;
  })

  count : length v.units ≡ length config.units
  count = ap length list ∙ length-set s.units e.unit (record x { entries = x.entries ++ e ∷ [] }) ∙ after.count

  new : record x { entries = x.entries ++ e ∷ [] } ≡ record { config = config; unit = e.unit; entries = on e.unit longer }
  new =
      let is : x ≡ record { config = config; unit = e.unit; entries = on e.unit h } = after.each e.unit x at in
      ap (λ (y : UnfoldedUnit). record y { entries = y.entries ++ e ∷ [] }) is
      ∙ ap (λ (l : List Entry). record { config = config; unit = e.unit; entries = l }) (sym (on-same config h e e.unit (eq-eqb e.unit e.unit refl)))

  each : (u : ℕ) (w : UnfoldedUnit) → slice_get v.units u ≡ Some w → w ≡ record { config = config; unit = u; entries = on u longer }
  each u w found = go (cases_eq e.unit u)
    where
      go : ((e.unit ≡ u) ⊎ (e.unit ≡ u → ⊥)) → w ≡ record { config = config; unit = u; entries = on u longer }
      go (inl same) =
          let put : slice_get v.units e.unit ≡ Some (record x { entries = x.entries ++ e ∷ [] }) =
          ap (λ l. slice_get l e.unit) list ∙ get-set s.units e.unit (record x { entries = x.entries ++ e ∷ [] }) x at in
          let here : slice_get v.units e.unit ≡ Some w = ap (slice_get v.units) same ∙ found in
          let is : w ≡ record x { entries = x.entries ++ e ∷ [] } = cc in
          is ∙ new ∙ ap (λ n. record { config = config; unit = n; entries = on n longer }) same
      go (inr other) =
          let kept : slice_get s.units u ≡ Some w = sym (ap (λ l. slice_get l u) list ∙ get-set_other s.units e.unit u (record x { entries = x.entries ++ e ∷ [] }) other) ∙ found in
          after.each u w kept ∙ ap (λ (l : List Entry). record { config = config; unit = u; entries = l }) (sym (on-other config h e u (not-equal e.unit u other)))

  -- a stamp of a unit that stays below the latest does so
  low-more : (u n : ℕ) → n ≤ last_stamp (past_of config u h) → n ≤ last_stamp (past_of config u longer)
  low-more u n low = go (e.unit == u) refl
    where
      go : (t : Bool) → (e.unit == u) ≡ t → n ≤ last_stamp (past_of config u longer)
      go true same =
          let here : last_stamp (past_of config e.unit h) ≡ last_stamp (past_of config u h) = ap (λ k. last_stamp (past_of config k h)) (eqb-true e.unit u same) in
          let now = last-same config h e u same in
          omega (arith, low, here, may.late, now)
      go false other = let now = last-other config h e u other in omega (arith, low, now)

  latest : All (λ (y : Entry). y.stamp ≤ last_stamp (past_of config y.unit longer)) longer
  latest = All-push (λ (y : Entry). y.stamp ≤ last_stamp (past_of config y.unit longer)) h e
      (λ i d low. low-more (slice_index_or h i d).unit (slice_index_or h i d).stamp (after.latest i d low))
      (let now = last-same config h e e.unit (eq-eqb e.unit e.unit refl) in omega (arith, now))

  -- the nexus did it
  pub after-nexus : e.actor ≡ Actor.Nexus host → s.stamp < e.stamp → v.stamp ≡ e.stamp → v.asked ≡ s.asked + 1 → v.pumped ≡ s.pumped → AreAfter config longer v
  after-nexus actor late stamp asked pumped = record {
    count = count;
    each = each;
    legal = legal;
    made = All-push IsMadeHere h e after.made (may.moment, inl actor);
    latest = latest;
    own = All-push (λ (y : Entry). same_actor y.actor (Actor.Nexus host) ≡ true → y.stamp ≤ v.stamp) h e
        (λ i d low same. let had = after.own i d low same in omega (arith, had, late, stamp))
        (λ same. omega (arith, stamp));
    stamp = stamp ∙ sym (last-pushed (entries_by host h) e) ∙ ap last_stamp_of (sym (by-same config h e host own));
    asked = asked ∙ ap (λ n. n + 1) after.asked ∙ sym (seq-same config h e (Actor.Nexus host) own);
    few_asked = omega (arith, after.few_asked, late, stamp, asked);
    pumps = ap length pumped ∙ after.pumps;
    pumped = λ u within. ap (λ l. slice_index l u) pumped ∙ after.pumped u within ∙ sym (seq-other config h e (Actor.Pump u) (other u));
    few_pumped = λ u. subst (λ n. n ≤ last_stamp (past_of config u longer)) (sym (seq-other config h e (Actor.Pump u) (other u))) (low-more u (seq (Actor.Pump u) h) (after.few_pumped u));
  }
    where
      own : same_actor e.actor (Actor.Nexus host) ≡ true
      own = ap (λ a. same_actor a (Actor.Nexus host)) actor

      other : (u : ℕ) → same_actor e.actor (Actor.Pump u) ≡ false
      other u = ap (λ a. same_actor a (Actor.Pump u)) actor

  -- the unit's pump did it
  pub after-pump : e.actor ≡ Actor.Pump e.unit → v.stamp ≡ s.stamp → v.asked ≡ s.asked → v.pumped ≡ slice_set s.pumped e.unit (e.seq + 1) → AreAfter config longer v
  after-pump actor stamp asked pumped = record {
    count = count;
    each = each;
    legal = legal;
    made = All-push IsMadeHere h e after.made (may.moment, inr actor);
    latest = latest;
    own = All-push (λ (y : Entry). same_actor y.actor (Actor.Nexus host) ≡ true → y.stamp ≤ v.stamp) h e
        (λ i d low same. let had = after.own i d low same in omega (arith, had, stamp))
        (λ same. let no : same_actor e.actor (Actor.Nexus host) ≡ false = not-own in cc);
    stamp = stamp ∙ after.stamp ∙ ap last_stamp_of (sym (by-other config h e host not-own));
    asked = asked ∙ after.asked ∙ sym (seq-other config h e (Actor.Nexus host) not-own);
    few_asked = omega (arith, after.few_asked, stamp, asked);
    pumps = ap length pumped ∙ length-set s.pumped e.unit (e.seq + 1) ∙ after.pumps;
    pumped = λ u within. counts u within (cases_eq e.unit u);
    few_pumped = λ u. few u (cases_eq e.unit u);
  }
    where
      not-own : same_actor e.actor (Actor.Nexus host) ≡ false
      not-own = ap (λ a. same_actor a (Actor.Nexus host)) actor

      its : same_actor e.actor (Actor.Pump e.unit) ≡ true
      its = ap (λ a. same_actor a (Actor.Pump e.unit)) actor ∙ eq-eqb e.unit e.unit refl

      other : (u : ℕ) → (e.unit ≡ u → ⊥) → same_actor e.actor (Actor.Pump u) ≡ false
      other u ne = ap (λ a. same_actor a (Actor.Pump u)) actor ∙ not-equal e.unit u ne

      mine : e.seq ≡ seq (Actor.Pump e.unit) h
      mine = may.counted ∙ ap (λ a. seq a h) actor

      counts : (u : ℕ) → u < length config.units → ((e.unit ≡ u) ⊎ (e.unit ≡ u → ⊥)) → slice_index v.pumped u ≡ seq (Actor.Pump u) longer
      counts u within (inl same) =
          let put : slice_index v.pumped e.unit ≡ e.seq + 1 = ap (λ l. slice_index l e.unit) pumped
          ∙ get_or-set_same s.pumped e.unit (e.seq + 1) 0 (omega (arith, may.configured, after.pumps)) in
          let here : slice_index v.pumped e.unit ≡ seq (Actor.Pump e.unit) longer = put ∙ ap (λ n. n + 1) mine ∙ sym (seq-same config h e (Actor.Pump e.unit) its) in
          subst (λ n. slice_index v.pumped n ≡ seq (Actor.Pump n) longer) same here
      counts u within (inr ne) =
          ap (λ l. slice_index l u) pumped ∙ get_or-set_other s.pumped e.unit u (e.seq + 1) 0 (λ same. ne (sym same)) ∙ after.pumped u within
          ∙ sym (seq-other config h e (Actor.Pump u) (other u ne))

      few : (u : ℕ) → ((e.unit ≡ u) ⊎ (e.unit ≡ u → ⊥)) → seq (Actor.Pump u) longer ≤ last_stamp (past_of config u longer)
      few u (inl same) =
          let now = last-same config h e e.unit (eq-eqb e.unit e.unit refl) in
          let one = seq-same config h e (Actor.Pump e.unit) its in
          let was = after.few_pumped e.unit in
          subst (λ n. seq (Actor.Pump n) longer ≤ last_stamp (past_of config n longer)) same (omega (arith, now, one, was, may.late))
      few u (inr ne) = subst (λ n. n ≤ last_stamp (past_of config u longer)) (sym (seq-other config h e (Actor.Pump u) (other u ne))) (low-more u (seq (Actor.Pump u) h) (after.few_pumped u))

-- nothing was done
pub after-same : (config : Configuration) (h : List Entry) (s v : UnitsAt) → v ≡ s → AreAfter config h s → AreAfter config h v
after-same config h s v same after = subst (AreAfter config h) (sym same) after

-- an earlier entry of a unit's pump has a lower stamp than what comes behind all of the unit
pub pump-later : (config : Configuration) (h : List Entry) (s : UnitsAt) (e : Entry) → AreAfter config h s → e.actor ≡ Actor.Pump e.unit
    → last_stamp (past_of config e.unit h) < e.stamp → All (λ (x : Entry). same_actor x.actor e.actor ≡ true → x.stamp < e.stamp) h
pump-later config h s e after actor late = λ i d low same.
    let x = slice_index_or h i d in
    let by : x.actor ≡ Actor.Pump e.unit = same_actor-is x.actor e.actor same ∙ actor in
    let here : e.unit ≡ x.unit = pump-unit x.unit e.unit x.act (ap (λ a. may_ask x.unit a x.act) (sym by) ∙ after.legal.asked i d low) in
    let most = after.latest i d low in
    let there : last_stamp (past_of config e.unit h) ≡ last_stamp (past_of config x.unit h) = ap (λ u. last_stamp (past_of config u h)) here in
    omega (arith, most, there, late)

-- units are told of one configuration
pub one-config : (config other : Configuration) (h g : List Entry) (s : UnitsAt) (u : ℕ) → AreAfter config h s → AreAfter other g s → u < length config.units → config ≡ other
one-config config other h g s u a b within = go (slice_get s.units u) refl
  where
    none-within : {X : Type 0} (xs : List X) (i : ℕ) → i < length xs → slice_get xs i ≡ None → ⊥
    none-within [] i low e = omega (arith, low)
    none-within (x ∷ xs) zero low e = cc
    none-within (x ∷ xs) (suc i) low e = none-within xs i (omega (arith, low)) e

    go : (found : Option UnfoldedUnit) → slice_get s.units u ≡ found → config ≡ other
    go None e = absurd (none-within s.units u (omega (arith, within, a.count)) e)
    go (Some x) e = ap (λ (y : UnfoldedUnit). y.config) (sym (a.each u x e) ∙ b.each u x e)
