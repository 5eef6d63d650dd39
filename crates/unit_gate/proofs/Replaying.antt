-- A unit goes on with a history: its entries are done again
use Rattle.std.proofs.Common.{◌≡◌, ◌<◌, ◌≤◌, ℕ, zero, suc, ◌+◌, ◌-◌, ◌^◌, List, [], ◌∷◌, ◌++◌, length, take, drop, slice_get, refl, ap, sym, ◌∙◌, subst, arith, take_all, true, false, Bool}
use Rattle.std.specs.Prelude.{◌==◌, ◌&&◌, ◌||◌, fold, max, nat_lt, Some, None, if◌then◌else◌}
use Rattle.std.proofs.lemmas.Bool.Decides.{nat_tests}
use Rattle.cm_base.specs.Configuration.{Configuration}
use Rattle.cm_base.specs.Units.{unit_of}
use Rattle.cm_base.specs.declared.config.UnitConfig.{UnitConfig}
use Rattle.cm_history.specs.declared.act.Act.{Act}
use Rattle.cm_history.specs.declared.act.Actor.{Actor}
use Rattle.cm_history.specs.declared.act.Entry.{Entry}
use Rattle.cm_history.specs.Deeds.{Deed, last_stamp}
use Rattle.cm_history.specs.History.{one_more, past_of}
use Rattle.cm_history.specs.Image.{Image}
use Rattle.cm_history.specs.Legal.{may_ask}
use Rattle.cm_history.specs.Limits.{within_limits}
use Rattle.cm_history.specs.Room.{is_full, is_write, bytes_in, payload, need, kept_free}
use Rattle.cm_history.proofs.PublicLaws.{Each-in, get-in}
use Rattle.merged_history.specs.Own.{IsAsked, Rises}
use Rattle.unit_core.specs.Acting.{entry_at, is_full_at}
use Rattle.unit_core.specs.UnitState.{UnitState, Stands}
use Rattle.unit_gate.specs.Opening.{IsGiven, has_late_number, is_bad_behind, first_bad, bad_entry}
use Rattle.unit_gate.proofs.Lists.{length-parts}

-- ---- one entry

-- a unit that keeps nothing has dropped all
pub folded-all : (s : UnitState) (h : List Entry) → Stands s h → s.kept ≡ [] → s.folded ≡ length h
folded-all s h is none = let long = length-parts s.folded h s.kept is.keeps is.few in let short = ap length none in omega (arith, long, short)

-- the stamp before one that is above the last leaves the same room as none
full-alike : (unit : UnitConfig) (folded : ℕ) (past : List Deed) (actor : Actor) (stamp : ℕ) (act : Act) → last_stamp past < stamp → stamp < 2 ^ 64
    → is_full unit folded past actor (stamp - 1) act ≡ is_full unit folded past actor 0 act
full-alike unit folded past actor stamp act low below =
    let here : (max (stamp - 1) (last_stamp past) == 2 ^ 64 - 1) ≡ false = grind (arith, nat_tests, low, below) in
    let there : (max 0 (last_stamp past) == 2 ^ 64 - 1) ≡ false = grind (arith, nat_tests, low, below) in
    ap (λ t. t || nat_lt unit.entries (length past - folded + kept_free past + need past actor act) || (is_write act && nat_lt unit.payload (payload folded past + bytes_in act))) (here ∙ sym there)

-- the last stamp of a unit is that of its image
pub last-shown : (s : UnitState) (h : List Entry) → Stands s h → s.image.last_stamp ≡ last_stamp (past_of s.config s.unit h)
last-shown s h is = ap (λ (j : Image). j.last_stamp) (sym is.image)

-- where the number is not too great, the entry is bad exactly where the record has no room for its act
bad-room : (s : UnitState) (h : List Entry) (e : Entry) → Stands s h → s.kept ≡ [] → s.image.last_stamp < e.stamp → e.stamp < 2 ^ 64 → has_late_number e.actor ≡ false
    → is_bad_behind s.config s.unit h e ≡ is_full_at s h e.actor (e.stamp - 1) e.act
bad-room s h e is none low below early =
    let past = past_of s.config s.unit h in
    let last = last-shown s h is in
    ap (λ t. t || is_full (unit_of s.config s.unit) (length h) past e.actor 0 e.act) early
    ∙ ap (λ n. is_full (unit_of s.config s.unit) n past e.actor 0 e.act) (sym (folded-all s h is none))
    ∙ sym (full-alike (unit_of s.config s.unit) s.folded past e.actor e.stamp e.act (omega (arith, low, last)) below)

-- the act of the entry makes it again
pub entry-again : (s : UnitState) (e : Entry) → e.unit ≡ s.unit → s.image.last_stamp < e.stamp → entry_at s e.actor e.seq (e.stamp - 1) e.moment e.act ≡ e
entry-again s e unit low =
    let stamp : max (e.stamp - 1) s.image.last_stamp + 1 ≡ e.stamp = omega (arith, low) in
    ap (λ (n : ℕ). record { stamp = n; unit = s.unit; actor = e.actor; seq = e.seq; moment = e.moment; act = e.act }) stamp
    ∙ ap (λ (u : ℕ). record { stamp = e.stamp; unit = u; actor = e.actor; seq = e.seq; moment = e.moment; act = e.act }) (sym unit)

module _ (s : UnitState) (e : Entry) (unit : e.unit ≡ s.unit) (none : s.kept ≡ []) (low : s.image.last_stamp < e.stamp) (below : e.stamp < 2 ^ 64) (early : has_late_number e.actor ≡ false) where
  pub stands-again : (new : UnitState) → ((h : List Entry) → Stands s h → Stands new (h ++ entry_at s e.actor e.seq (e.stamp - 1) e.moment e.act ∷ []))
      → (h : List Entry) → Stands s h → Stands new (h ++ e ∷ [])
  stands-again new stands h is = subst (λ x. Stands new (h ++ x ∷ [])) (entry-again s e unit low) (stands h is)

  pub good-again : ((h : List Entry) → Stands s h → is_full_at s h e.actor (e.stamp - 1) e.act ≡ false) → (h : List Entry) → Stands s h → is_bad_behind s.config s.unit h e ≡ false
  good-again room h is = bad-room s h e is none low below early ∙ room h is

  pub full-again : ((h : List Entry) → Stands s h → is_full_at s h e.actor (e.stamp - 1) e.act ≡ true) → (h : List Entry) → Stands s h → is_bad_behind s.config s.unit h e ≡ true
  full-again full h is = bad-room s h e is none low below early ∙ full h is

-- too great a number is bad
pub late-again : (config : Configuration) (unit : ℕ) (h : List Entry) (e : Entry) → has_late_number e.actor ≡ true → is_bad_behind config unit h e ≡ true
late-again config unit h e late = ap (λ t. t || is_full (unit_of config unit) (length h) (past_of config unit h) e.actor 0 e.act) late

-- ---- one after the other

drop-get : (xs : List Entry) (n : ℕ) (e : Entry) → slice_get xs n ≡ Some e → drop n xs ≡ e ∷ drop (n + 1) xs
drop-get [] n e is = cc
drop-get (x ∷ xs) zero e is = let same : x ≡ e = cc in ap (λ y. y ∷ xs) same
drop-get (x ∷ xs) (suc n) e is = let next : suc n + 1 ≡ suc (n + 1) = omega arith in drop-get xs n e is ∙ ap (λ k. e ∷ drop k (x ∷ xs)) (sym next)

take-get : (xs : List Entry) (n : ℕ) (e : Entry) → slice_get xs n ≡ Some e → take (n + 1) xs ≡ take n xs ++ e ∷ []
take-get [] n e is = cc
take-get (x ∷ xs) zero e is = let same : x ≡ e = cc in ap (λ y. y ∷ []) same
take-get (x ∷ xs) (suc n) e is = let next : suc n + 1 ≡ suc (n + 1) = omega arith in ap (λ k. take k (x ∷ xs)) next ∙ ap (λ l. x ∷ l) (take-get xs n e is)

take-long : (xs : List Entry) (n : ℕ) (e : Entry) → slice_get xs n ≡ Some e → length (take n xs) ≡ n
take-long [] n e is = cc
take-long (x ∷ xs) zero e is = refl
take-long (x ∷ xs) (suc n) e is = ap suc (take-long xs n e is)

last-under : (config : Configuration) (unit : ℕ) (xs : List Entry) (n : ℕ) (e : Entry) (acc : List Deed) → Rises (last_stamp acc) xs → slice_get xs n ≡ Some e → last_stamp (fold (one_more config unit) acc (take n xs)) < e.stamp
last-under config unit [] n e acc rises at = cc
last-under config unit (x ∷ xs) zero e acc rises at = let same : x ≡ e = cc in subst (λ (y : Entry). last_stamp acc < y.stamp) same rises.0
last-under config unit (x ∷ xs) (suc n) e acc rises at = last-under config unit xs n e (one_more config unit acc x) rises.1 at

module _ (config : Configuration) (unit : ℕ) (h : List Entry) where
  -- so many entries were done again and dropped, and none of them is bad
  pub record HasReplayed (told : UnitState) (place : ℕ) : Type 0 where
    pub stands : Stands told (take place h)
    pub none : told.kept ≡ []
    pub config_is : told.config ≡ config
    pub unit_is : told.unit ≡ unit
    pub bad : first_bad config unit (take place h) (drop place h) ≡ bad_entry config unit h

  pub replayed-first : (told : UnitState) → Stands told [] → told.kept ≡ [] → told.config ≡ config → told.unit ≡ unit → HasReplayed told 0
  replayed-first told stands none config_is unit_is = record { stands = stands; none = none; config_is = config_is; unit_is = unit_is; bad = refl }

  module _ (given : IsGiven config unit h) (told : UnitState) (place : ℕ) (e : Entry) (is : HasReplayed told place) (at : slice_get h place ≡ Some e) where
    own-unit : e.unit ≡ unit
    own-unit = Each-in (λ (x : Entry). x.unit ≡ unit) h e given.is_history.own (get-in h place e at)

    asked-at : IsAsked config e
    asked-at = Each-in (IsAsked config) h e given.asked (get-in h place e at)

    pub its-unit : e.unit ≡ told.unit
    its-unit = own-unit ∙ sym is.unit_is

    pub its-limits : within_limits told.config told.unit e.act ≡ true
    its-limits = ap (λ c. within_limits c told.unit e.act) is.config_is ∙ ap (λ u. within_limits config u e.act) (sym its-unit) ∙ asked-at.limits

    pub its-asker : may_ask told.unit e.actor e.act ≡ true
    its-asker = ap (λ u. may_ask u e.actor e.act) (sym its-unit) ∙ asked-at.asked

    pub its-stamp : told.image.last_stamp < e.stamp
    its-stamp =
        let last = last-shown told (take place h) is.stands in
        let under = last-under told.config told.unit h place e [] given.is_history.rising at in
        let here : last_stamp (past_of told.config told.unit (take place h)) < e.stamp = subst (λ l. last_stamp (fold (one_more told.config told.unit) [] l) < e.stamp) (sym is.stands.own) under in
        omega (arith, last, here)

    -- the test of this entry
    test-is : is_bad_behind told.config told.unit (take place h) e ≡ is_bad_behind config unit (take place h) e
    test-is = ap (λ c. is_bad_behind c told.unit (take place h) e) is.config_is ∙ ap (λ u. is_bad_behind config u (take place h) e) is.unit_is

    tested : (t : Bool) → is_bad_behind told.config told.unit (take place h) e ≡ t
        → first_bad config unit (take place h) (drop place h) ≡ (if t then Some (length (take place h)) else first_bad config unit (take place h ++ e ∷ []) (drop (place + 1) h))
    tested t test =
        ap (first_bad config unit (take place h)) (drop-get h place e at)
        ∙ ap (λ b. if b then Some (length (take place h)) else first_bad config unit (take place h ++ e ∷ []) (drop (place + 1) h)) (sym test-is ∙ test)

    pub replayed-one : (new : UnitState) → ((h : List Entry) → Stands told h → Stands new (h ++ e ∷ [])) → new.kept ≡ [] → new.config ≡ told.config → new.unit ≡ told.unit
        → ((h : List Entry) → Stands told h → is_bad_behind told.config told.unit h e ≡ false) → HasReplayed new (place + 1)
    replayed-one new stands none config_is unit_is good = record {
      stands = subst (Stands new) (sym (take-get h place e at)) (stands (take place h) is.stands);
      none = none;
      config_is = config_is ∙ is.config_is;
      unit_is = unit_is ∙ is.unit_is;
      bad = ap (λ l. first_bad config unit l (drop (place + 1) h)) (take-get h place e at) ∙ sym (tested false (good (take place h) is.stands)) ∙ is.bad;
    }

    pub found-bad : ((h : List Entry) → Stands told h → is_bad_behind told.config told.unit h e ≡ true) → bad_entry config unit h ≡ Some place
    found-bad bad = sym is.bad ∙ tested true (bad (take place h) is.stands) ∙ ap Some (take-long h place e at)

  -- all were
  pub replayed-all : (told : UnitState) (place : ℕ) → HasReplayed told place → length h ≤ place → Stands told h × (bad_entry config unit h ≡ None)
  replayed-all told place is long =
      let all : take place h ≡ h = take_all place h long in
      let rest : drop place h ≡ [] = drop-none h place long in (
        subst (Stands told) all is.stands,
        sym is.bad ∙ ap (first_bad config unit (take place h)) rest,
      )
    where
      drop-none : (xs : List Entry) (n : ℕ) → length xs ≤ n → drop n xs ≡ []
      drop-none [] zero long = refl
      drop-none [] (suc n) long = refl
      drop-none (x ∷ xs) zero long = absurd (omega (arith, long))
      drop-none (x ∷ xs) (suc n) long = drop-none xs n (omega (arith, long))
