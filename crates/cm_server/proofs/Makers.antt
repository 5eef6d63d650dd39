-- Who made the entries of a world that was closed
use Rattle.std.proofs.Common.{◌≡◌, ◌<◌, ◌≤◌, ℕ, suc, ◌+◌, ◌-◌, ◌^◌, List, [], ◌∷◌, ◌++◌, length, refl, ap, sym, ◌∙◌, subst, arith, false, inl, inr, append-nil}
use Rattle.std.specs.Prelude.{◌⊎◌, ◌==◌, All, AllPairs, Contains}
use Rattle.std.proofs.lemmas.Bool.{cases_eq, eqb-true}
use Rattle.std.proofs.lemmas.List.Elements.{recursion_from_All, All-head, All-tail}
use Rattle.std.proofs.lemmas.List.Kept.{AllPairs-filter}
use mathlib.Core.List.{IsPrefix}
use Rattle.cm_history.specs.Deeds.{Deed, last_stamp}
use Rattle.cm_history.specs.History.{on, past_of}
use Rattle.cm_history.specs.declared.act.Actor.{Actor}
use Rattle.cm_history.specs.declared.act.Actor.TheVariants.{Nexus, Pump}
use Rattle.cm_history.specs.declared.act.Entry.{Entry}
use Rattle.cm_history.proofs.PublicLaws.{Each, Each-all, Each-by, Each-in, In, In-filter, filter-passes, past_of-on}
use Rattle.cmd_program.specs.Exchanges.{calls_of}
use Rattle.cmd_program.specs.Running.{Call}
use Rattle.cm_server.specs.Served.{works_behind, IsIdle}
use Rattle.cm_server.specs.inner.Links.{LinkState}
use Rattle.cm_server.specs.inner.Pumping.{IsSomePump, IsLast, AreLast}
use Rattle.cm_server.specs.inner.Sessions.{EndedSession, IsStart, IsSession, AreSessions}
use Rattle.cm_server.proofs.Closed.{IsClosedWorld, IsMaker, SeesIn, Place, IsOfSession, AtSession, AtWorker, AtLast, all_passes, maker, opening-on, passes_of, place-of}
use Rattle.cm_server.proofs.Passing.{prefix-in, led-ticket, led-stands, led-shown}
use Rattle.merged_history.proofs.PublicLaws.{In-append, in-contains}
use Rattle.merged_history.specs.Merged.{all_of}
use Rattle.merged_history.specs.PassRules.{AreLonger, AreSeen}
use Rattle.merged_history.specs.Passes.{of_unit}
use Rattle.nexus.specs.Roots.{RootView}
use Rattle.nexus.specs.Worlds.{WorldView, PassView}
use Rattle.merged_history.specs.declared.known.Ticket.{Ticket}

-- ---- lists

pub all-each : {X : Type 0} (P : X → Type 0) (xs : List X) → All P xs → Each P xs
all-each P [] all = tt
all-each P (x ∷ xs) all = (All-head P x xs all, all-each P xs (All-tail P x xs all))

in-middle : {X : Type 0} (xs ys : List X) (x : X) → In x (xs ++ x ∷ ys)
in-middle [] ys x = inl refl
in-middle (y ∷ xs) ys x = inr (in-middle xs ys x)

In-append_right : {X : Type 0} (xs ys : List X) (x : X) → In x ys → In x (xs ++ ys)
In-append_right [] ys x i = i
In-append_right (y ∷ xs) ys x i = inr (In-append_right xs ys x i)

-- what holds of each two in order holds of each element before this one
pairs-before : {X : Type 0} (R : X → X → Type 0) (xs ys : List X) (x : X) → AllPairs R (xs ++ x ∷ ys) → Each (λ y. R y x) xs
pairs-before R [] ys x all = tt
pairs-before R (y ∷ xs) ys x all = (
  Each-in (R y) (xs ++ x ∷ ys) x (all-each (R y) (xs ++ x ∷ ys) (λ k d low. all 0 (suc k) d (omega arith) (omega (arith, low)))) (in-middle xs ys x),
  pairs-before R xs ys x (λ i j d lt low. all (suc i) (suc j) d (omega (arith, lt)) (omega (arith, low))),
)

-- of one unit stamps rise
abbrev InOrder : Entry → Entry → Type 0
InOrder a b = a.unit ≡ b.unit → a.stamp < b.stamp

-- a beginning that has each element is all of the list
whole-front : (xs more ys : List Entry) → xs ++ more ≡ ys → AllPairs InOrder ys → Each (λ (e : Entry). In e xs) ys → xs ≡ ys
whole-front xs [] ys is order all = sym (append-nil xs) ∙ is
whole-front xs (x ∷ more) ys is order all =
    let here : In x xs = Each-in (λ (e : Entry). In e xs) ys x all (subst (In x) is (in-middle xs more x)) in
    let before : Each (λ (y : Entry). InOrder y x) xs = pairs-before InOrder xs more x (subst (AllPairs InOrder) (sym is) order) in
    let lower : x.stamp < x.stamp = Each-in (λ (y : Entry). InOrder y x) xs x before here refl in
    absurd (omega (arith, lower))

-- ---- sessions by their passes

module _ (world : WorldView) (root : RootView) (Shows : ℕ → Type 0) where
  -- a session, by its pass
  pub record IsSessionOf (ss : List EndedSession) (p : PassView) : Type 0 where
    pub session : EndedSession
    pub among : In session ss
    pub pass : session.pass ≡ p

  pub session-of : (ss : List EndedSession) (p : PassView) → In p (passes_of ss) → IsSessionOf ss p
  session-of [] p i = absurd i
  session-of (s ∷ ss) p (inl here) = record { session = s; among = inl refl; pass = here }
  session-of (s ∷ ss) p (inr i) = let later = session-of ss p i in record { session = later.session; among = inr later.among; pass = later.pass }

  -- how it was begun, and its fact
  pub start-of : (first : ℕ) (links : List LinkState) (ss : List EndedSession) (s : EndedSession) → AreSessions world root Shows first links ss → In s ss
      → IsStart world root first links s.start
  start-of first links ss s are i = Each-in (λ (x : EndedSession). IsStart world root first links x.start) ss s are.begun i

  pub fact-of : (first : ℕ) (links : List LinkState) (ss : List EndedSession) (s : EndedSession) → AreSessions world root Shows first links ss → In s ss
      → IsSession world.config Shows s
  fact-of first links ss s are i = Each-in (IsSession world.config Shows) ss s are.facts i

  pub session-actor : (first : ℕ) (links : List LinkState) (s : EndedSession) → IsStart world root first links s.start → IsSession world.config Shows s
      → s.pass.ticket.actor ≡ Nexus s.start.nexus
  session-actor first links s start fact =
      ap (λ (t : Ticket). t.actor) (led-ticket s.start.pass (calls_of fact.spoken.exchanges) s.pass fact.spoken.made) ∙ start.pass.is

  pub session-stands : (first : ℕ) (links : List LinkState) (s : EndedSession) → IsStart world root first links s.start → IsSession world.config Shows s
      → AreSeen s.pass.seen s.pass.own
  session-stands first links s start fact =
      led-stands s.start.pass (calls_of fact.spoken.exchanges) s.pass fact.spoken.made (subst (AreSeen s.start.pass.seen) (sym start.pass.none) tt)

  pub session-shown : (first : ℕ) (links : List LinkState) (s : EndedSession) → IsStart world root first links s.start → IsSession world.config Shows s
      → Each (λ (e : Entry). Shows e.moment) s.pass.own
  session-shown first links s start fact =
      led-shown Shows s.start.pass (calls_of fact.spoken.exchanges) s.pass
      (recursion_from_All (λ (c : Call). Shows c.moment) (calls_of fact.spoken.exchanges) fact.spoken.shown) fact.spoken.made
      (subst (Each (λ (e : Entry). Shows e.moment)) (sym start.pass.none) tt)

-- ---- last passes by their units

module _ (world : WorldView) (Shows : ℕ → Type 0) (seen : List (List Entry)) where
  pub last-of : (n : ℕ) (ps : List PassView) (p : PassView) → AreLast world Shows seen n ps → In p ps → (unit : ℕ) × (n ≤ unit) × IsLast world Shows seen unit p
  last-of n [] p are i = absurd i
  last-of n (x ∷ xs) p are (inl same) = (n, omega arith, subst (IsLast world Shows seen n) same are.0)
  last-of n (x ∷ xs) p are (inr i) = let later = last-of (suc n) xs p are.1 i in let a = later.1 in (later.0, omega (arith, a), later.2)

  pub last-at : (n : ℕ) (ps : List PassView) (unit : ℕ) → AreLast world Shows seen n ps → n ≤ unit → unit < n + length ps → (p : PassView) × In p ps × IsLast world Shows seen unit p
  last-at n [] unit are low high = absurd (omega (arith, low, high))
  last-at n (x ∷ xs) unit are low high = go (cases_eq n unit) (λ above. last-at (suc n) xs unit are.1 above (omega (arith, high)))
    where
      go : (n ≡ unit) ⊎ (n ≡ unit → ⊥) → (suc n ≤ unit → (p : PassView) × In p xs × IsLast world Shows seen unit p) → (p : PassView) × In p (x ∷ xs) × IsLast world Shows seen unit p
      go (inl same) later = (x, inl refl, subst (λ u. IsLast world Shows seen u x) same are.0)
      go (inr other) later = let found = later (omega (arith, low, other)) in (found.0, inr found.1, found.2)

  one-unit : (p : PassView) (u v : ℕ) → p.ticket.actor ≡ Pump u → p.ticket.actor ≡ Pump v → u ≡ v
  one-unit p u v a b = let same : Pump u ≡ Pump v = sym a ∙ b in cc

  -- no two last passes are of one unit
  pub last-same : (n : ℕ) (ps : List PassView) (p q : PassView) (unit : ℕ) → AreLast world Shows seen n ps → In p ps → In q ps
      → p.ticket.actor ≡ Pump unit → q.ticket.actor ≡ Pump unit → p ≡ q
  last-same n [] p q unit are i j a b = absurd i
  last-same n (x ∷ xs) p q unit are (inl s) (inl t) a b = sym s ∙ t
  last-same n (x ∷ xs) p q unit are (inl s) (inr j) a b =
      let later = last-of (suc n) xs q are.1 j in
      let here : n ≡ unit = one-unit p n unit (subst (λ (y : PassView). y.ticket.actor ≡ Pump n) s are.0.pump.actor) a in
      let there : later.0 ≡ unit = one-unit q later.0 unit later.2.pump.actor b in
      let above = later.1 in absurd (omega (arith, here, there, above))
  last-same n (x ∷ xs) p q unit are (inr i) (inl t) a b =
      let later = last-of (suc n) xs p are.1 i in
      let here : n ≡ unit = one-unit q n unit (subst (λ (y : PassView). y.ticket.actor ≡ Pump n) t are.0.pump.actor) b in
      let there : later.0 ≡ unit = one-unit p later.0 unit later.2.pump.actor a in
      let above = later.1 in absurd (omega (arith, here, there, above))
  last-same n (x ∷ xs) p q unit are (inr i) (inr j) a b = last-same (suc n) xs p q unit are.1 i j a b

-- ---- all entries

module _ (world : WorldView) (root : RootView) (Shows : ℕ → Type 0) (first : ℕ) (links : List LinkState) (opening seen : List (List Entry)) (entries : List Entry) (high : List (List ℕ))
    (sessions : List EndedSession) (workers lasts : List PassView)
    (is : IsClosedWorld world root Shows first links opening seen entries high sessions workers lasts) where
  abbrev Stood : PassView → Type 0
  Stood p = Place world root Shows first links opening seen entries high sessions workers lasts is p

  -- each pass has the moments of its entries from the clock
  shown-at : (p : PassView) → Stood p → Each (λ (e : Entry). Shows e.moment) p.own
  shown-at p (AtSession i) =
      let s = session-of world root Shows sessions p i in
      subst (λ (x : PassView). Each (λ (e : Entry). Shows e.moment) x.own) s.pass
      (session-shown world root Shows first links s.session (start-of world root Shows first links sessions s.session is.are s.among)
      (fact-of world root Shows first links sessions s.session is.are s.among))
  shown-at p (AtWorker i) = (Each-in (IsSomePump world Shows) workers p is.workers_are i).1.shown
  shown-at p (AtLast i) = (last-of world Shows seen 0 lasts p is.lasts_are i).2.pump.shown

  placed : (p : PassView) → In p (all_passes sessions workers lasts) → Stood p
  placed p i = place-of world root Shows first links opening seen entries high sessions workers lasts is p i

  abbrev Made : Entry → PassView → Type 0
  Made e p = IsMaker world root Shows first links opening seen entries high sessions workers lasts is e p

  made-by : (e : Entry) → In e entries → In e (all_of opening) ⊎ ((p : PassView) × Made e p)
  made-by e i = maker world root Shows first links opening seen entries high sessions workers lasts is e i

  -- what is so of each entry that a pass made
  each-made : (P : Entry → Type 0) → ((e : Entry) (p : PassView) → Made e p → P e) → Each (λ (e : Entry). Contains (all_of opening) e ⊎ P e) entries
  each-made P all = Each-by (λ (e : Entry). Contains (all_of opening) e ⊎ P e) entries (λ e i. go e (made-by e i))
    where
      go : (e : Entry) → In e (all_of opening) ⊎ ((p : PassView) × Made e p) → Contains (all_of opening) e ⊎ P e
      go e (inl there) = inl (in-contains (all_of opening) e there)
      go e (inr m) = inr (all e m.0 m.1)

  -- each entry was there at the opening, or has a moment that the clock shows
  pub all-shown : All (λ (e : Entry). Contains (all_of opening) e ⊎ Shows e.moment) entries
  all-shown =
      Each-all (λ (e : Entry). Contains (all_of opening) e ⊎ Shows e.moment) entries
      (each-made (λ e. Shows e.moment) (λ e p m. Each-in (λ (x : Entry). Shows x.moment) p.own e (shown-at p (placed p m.0)) m.2))

  abbrev IsOfServed : Actor → Type 0
  IsOfServed actor = IsOfSession sessions actor

  of-served : (p : PassView) → Stood p → (e : Entry) → In e p.own → IsOfServed p.ticket.actor
  of-served p (AtSession i) e j =
      let s = session-of world root Shows sessions p i in
      let actor = session-actor world root Shows first links s.session (start-of world root Shows first links sessions s.session is.are s.among)
      (fact-of world root Shows first links sessions s.session is.are s.among) in
      subst IsOfServed (sym actor ∙ ap (λ (x : PassView). x.ticket.actor) s.pass) (s.session, s.among, refl)
  of-served p (AtWorker i) e j = subst IsOfServed (sym (Each-in (IsSomePump world Shows) workers p is.workers_are i).1.actor) tt
  of-served p (AtLast i) e j = subst IsOfServed (sym (last-of world Shows seen 0 lasts p is.lasts_are i).2.pump.actor) tt

  -- each entry was there at the opening, or is a pump's or a session's
  pub all-served : Each (λ (e : Entry). Contains (all_of opening) e ⊎ IsOfSession sessions e.actor) entries
  all-served = each-made (λ e. IsOfServed e.actor) (λ e p m. subst IsOfServed m.1 (of-served p (placed p m.0) e m.2))

  -- ---- each unit is idle

  -- what stood in what was seen of a unit before stands in what its last pass has seen
  stood-in : (unit : ℕ) (p q : PassView) (e : Entry) → IsLast world Shows seen unit p → AreLonger q.seen seen → AreSeen q.seen q.own → In e q.own → e.unit ≡ unit → In e (of_unit p.seen unit)
  stood-in unit p q e last longer stands i here =
      let was : In e (of_unit q.seen unit) = subst (λ u. In e (of_unit q.seen u)) here (Each-in (λ (x : Entry). In x (of_unit q.seen x.unit)) q.own e stands i) in
      prefix-in (of_unit seen unit) (of_unit p.seen unit) e (last.longer unit) (prefix-in (of_unit q.seen unit) (of_unit seen unit) e (longer unit) was)

  front-longer : (q : PassView) → In q (passes_of sessions ++ workers) → AreLonger q.seen seen
  front-longer q i = Each-in (λ (x : PassView). AreLonger x.seen seen) (passes_of sessions ++ workers) q is.earlier i

  last-has : (unit : ℕ) (p q : PassView) (e : Entry) → In p lasts → IsLast world Shows seen unit p → Stood q → In e q.own → e.unit ≡ unit → In e (of_unit p.seen unit)
  last-has unit p q e at last (AtSession j) i here =
      let s = session-of world root Shows sessions q j in
      let stands = subst (λ (x : PassView). AreSeen x.seen x.own) s.pass
      (session-stands world root Shows first links s.session (start-of world root Shows first links sessions s.session is.are s.among)
      (fact-of world root Shows first links sessions s.session is.are s.among)) in
      let there = In-append (passes_of sessions) workers q j in
      stood-in unit p q e last (front-longer q there) stands i here
  last-has unit p q e at last (AtWorker j) i here =
      let w = Each-in (IsSomePump world Shows) workers q is.workers_are j in
      stood-in unit p q e last (front-longer q (In-append_right (passes_of sessions) workers q j)) w.1.stands i here
  last-has unit p q e at last (AtLast j) i here =
      let l = last-of world Shows seen 0 lasts q is.lasts_are j in
      let one : l.0 ≡ unit = sym (Each-in (λ (x : Entry). x.unit ≡ l.0) q.own e l.2.pump.on_unit i) ∙ here in
      let same : q ≡ p = last-same world Shows seen 0 lasts q p unit is.lasts_are j at (l.2.pump.actor ∙ ap Pump one) last.pump.actor in
      let has : In e (of_unit q.seen unit) = subst (λ u. In e (of_unit q.seen u)) here (Each-in (λ (x : Entry). In x (of_unit q.seen x.unit)) q.own e l.2.pump.stands i) in
      subst (λ (x : PassView). In e (of_unit x.seen unit)) same has

  -- so did what was there at the opening
  opening-in : (unit : ℕ) (p : PassView) (e : Entry) → IsLast world Shows seen unit p → In e (all_of opening) → e.unit ≡ unit → In e (of_unit p.seen unit)
  opening-in unit p e last i here =
      let was = subst (λ u. In e (of_unit opening u)) here (opening-on world root Shows first links opening seen entries high sessions workers lasts is e i) in
      prefix-in (of_unit seen unit) (of_unit p.seen unit) e (last.longer unit) (prefix-in (of_unit opening unit) (of_unit seen unit) e (is.begins unit) was)

  -- no entry of a unit came behind what its last pass has seen
  pub last-sees : (unit : ℕ) (p : PassView) → In p lasts → IsLast world Shows seen unit p → of_unit p.seen unit ≡ on unit entries
  last-sees unit p at last =
      let begins : IsPrefix (of_unit p.seen unit) (on unit entries) =
      Each-in (SeesIn entries) (all_passes sessions workers lasts) p is.seen_in (In-append_right (passes_of sessions ++ workers) lasts p at) unit in
      whole-front (of_unit p.seen unit) begins.0 (on unit entries) begins.1 (AllPairs-filter InOrder (λ (e : Entry). e.unit == unit) entries is.ordered.rising)
      (Each-by (λ (e : Entry). In e (of_unit p.seen unit)) (on unit entries)
      (λ e i. (let there = In-filter (λ (x : Entry). x.unit == unit) entries e i in
      let here : e.unit ≡ unit = eqb-true e.unit unit (filter-passes (λ (x : Entry). x.unit == unit) entries e i) in
      seen-by e here (made-by e there))))
    where
      seen-by : (e : Entry) → e.unit ≡ unit → In e (all_of opening) ⊎ ((q : PassView) × Made e q) → In e (of_unit p.seen unit)
      seen-by e here (inl there) = opening-in unit p e last there here
      seen-by e here (inr m) = last-has unit p m.0 e at last (placed m.0 m.1.0) m.1.2 here

  -- the past of a unit that is idle
  abbrev Idles : List Deed → Type 0
  Idles past = (works_behind past ≡ false) ⊎ (last_stamp past ≡ 2 ^ 64 - 1)

  -- at the end each unit is idle
  pub all-idle : (unit : ℕ) → unit < length world.config.units → IsIdle world.config entries unit
  all-idle unit low =
      let count = is.each_unit in
      let l = last-at world Shows seen 0 lasts unit is.lasts_are (omega arith) (omega (arith, low, count)) in
      subst Idles (ap (past_of world.config unit) (last-sees unit l.0 l.1 l.2) ∙ past_of-on world.config unit entries) l.2.idle
