-- The history of a world that was served and closed
use Rattle.std.proofs.Common.{◌≡◌, ◌≢◌, ◌≤◌, ℕ, suc, List, [], ◌∷◌, ◌++◌, length, take, refl, ap, sym, ◌∙◌, subst, arith, inl, inr}
use Rattle.std.specs.Prelude.{◌⊎◌, ◌==◌, map}
use Rattle.std.proofs.lemmas.Bool.{eqb-true}
use Rattle.std.proofs.lemmas.List.{take_at}
use mathlib.Core.List.{IsPrefix}
use Rattle.cm_history.specs.History.{on}
use Rattle.cm_history.specs.declared.act.Actor.{Actor}
use Rattle.cm_history.specs.declared.act.Actor.TheVariants.{Nexus, Pump}
use Rattle.cm_history.specs.declared.act.Entry.{Entry}
use Rattle.cm_history.proofs.PublicLaws.{Each, Each-by, Each-in, In, filter-passes}
use Rattle.cm_server.specs.inner.Links.{LinkState}
use Rattle.cm_server.specs.inner.Opened.{IsOlder}
use Rattle.cm_server.specs.inner.Passes.{Knows, HasJoined, joined_of}
use Rattle.cm_server.specs.inner.Pumping.{IsSomePump, AreLast}
use Rattle.cm_server.specs.inner.Sessions.{EndedSession, AreSessions}
use Rattle.cm_server.proofs.Joined.{joined-then, own-in}
use Rattle.cm_server.proofs.Passing.{prefix-in, prefix-then}
use Rattle.merged_history.proofs.PublicLaws.{In-split}
use Rattle.merged_history.specs.Merged.{IsSorted, RiseBehind, all_of, fronts, merged}
use Rattle.merged_history.specs.Own.{by}
use Rattle.merged_history.specs.PassRules.{AreLonger}
use Rattle.merged_history.specs.Passes.{of_unit}
use Rattle.merged_history.specs.Resumed.{IsNewTo, IsOrdered, IsResumed}
use Rattle.nexus.specs.Roots.{RootView, AreAtMost}
use Rattle.nexus.specs.Worlds.{WorldView, PassView}
use Rattle.merged_history.specs.Seats.{own_of}

-- ---- lists

pub each-split : {X : Type 0} (P : X → Type 0) (xs ys : List X) → Each P (xs ++ ys) → Each P xs × Each P ys
each-split P [] ys all = (tt, all)
each-split P (x ∷ xs) ys all = let rest = each-split P xs ys all.1 in ((all.0, rest.0), rest.1)

-- an entry of all lists stands in one of them
in-some : (hs : List (List Entry)) (e : Entry) → In e (all_of hs) → (k : ℕ) × In e (of_unit hs k)
in-some [] e i = absurd i
in-some (h ∷ hs) e i = go (In-split h (all_of hs) e i) (in-some hs e)
  where
    go : In e h ⊎ In e (all_of hs) → (In e (all_of hs) → (k : ℕ) × In e (of_unit hs k)) → (k : ℕ) × In e (of_unit (h ∷ hs) k)
    go (inl j) later = (0, j)
    go (inr j) later = let found = later j in (suc found.0, found.1)

-- ---- the world

-- the passes of ended sessions
abbrev pub passes_of : List EndedSession → List PassView
passes_of sessions = map (λ (s : EndedSession). s.pass) sessions

-- what is seen of each unit begins its entries
abbrev pub SeesIn : List Entry → PassView → Type 0
SeesIn entries p = (u : ℕ) → IsPrefix (of_unit p.seen u) (on u entries)

abbrev pub IsBelow : List (List ℕ) → PassView → Type 0
IsBelow high p = AreAtMost p.marks high

-- all passes that were joined
abbrev pub all_passes : List EndedSession → List PassView → List PassView → List PassView
all_passes sessions workers lasts = (passes_of sessions ++ workers) ++ lasts

-- the actor is a pump, or the nexus of one of the sessions
abbrev pub IsOfSession : List EndedSession → Actor → Type 0
IsOfSession sessions (Pump unit) = Unit {0}
IsOfSession sessions (Nexus n) = (s : EndedSession) × In s sessions × (s.start.nexus ≡ n)

-- one history of all units, and the passes that made it behind what the units had at the opening
pub record IsClosedWorld (world : WorldView) (root : RootView) (Shows : ℕ → Type 0) (first : ℕ) (links : List LinkState) (opening seen : List (List Entry)) (entries : List Entry) (high : List (List ℕ))
    (sessions : List EndedSession) (workers lasts : List PassView) : Type 0 where
  pub are : AreSessions world root Shows first links sessions
  pub workers_are : Each (IsSomePump world Shows) workers
  pub lasts_are : AreLast world Shows seen 0 lasts
  pub each_unit : length lasts ≡ length world.config.units
  pub earlier : Each (λ (p : PassView). AreLonger p.seen seen) (passes_of sessions ++ workers)
  pub seen_in : Each (SeesIn entries) (all_passes sessions workers lasts)
  pub below : Each (IsBelow high) (all_passes sessions workers lasts)
  pub begins : AreLonger opening seen
  pub opening_in : (u : ℕ) → IsPrefix (of_unit opening u) (on u entries)
  pub made : Each (λ (e : Entry). In e (all_of opening) ⊎ In e (own_of e.actor (map joined_of (all_passes sessions workers lasts)))) entries
  pub actors : (n : ℕ) → first ≤ n → by (Nexus n) entries ≡ own_of (Nexus n) (map joined_of (all_passes sessions workers lasts))
  pub ordered : IsOrdered world.config entries
  pub sorted : IsSorted entries
  pub apart : RiseBehind (all_of opening) entries

-- what was there at the opening are the first entries
pub fronts-are : (opening hs : List (List Entry)) → length opening ≡ length hs → AreLonger opening hs → fronts (map (λ (es : List Entry). length es) opening) hs ≡ opening
fronts-are [] hs long longer = refl
fronts-are (o ∷ os) [] long longer = absurd (omega (arith, long))
fronts-are (o ∷ os) (h ∷ hs) long longer =
    let first = longer 0 in
    let here : take (length o) h ≡ o = ap (take (length o)) (sym first.1) ∙ take_at o first.0 (length o) refl in
    ap (λ l. l ∷ fronts (map (λ (es : List Entry). length es) os) hs) here ∙ ap (λ l. o ∷ l) (fronts-are os hs (omega (arith, long)) (λ u. longer (suc u)))

-- a nexus from this number on is new where each entry is older
new-to : (first n : ℕ) (es : List Entry) → first ≤ n → Each (IsOlder first) es → IsNewTo es (Nexus n)
new-to first n es low older = Each-by (λ (e : Entry). e.actor ≢ Nexus n) es (λ e i is. (let less = Each-in (IsOlder first) es e older i n is in absurd (omega (arith, low, less))))

-- what was served and settled, and then closed
pub closes : (world : WorldView) (Shows : ℕ → Type 0) (first : ℕ) (links : List LinkState) (made : ℕ) (zero one two : RootView) (histories : List (List Entry)) (high : List (List ℕ))
    (sessions : List EndedSession) (workers lasts : List PassView)
    → AreSessions world zero Shows first links sessions → Each (IsSomePump world Shows) workers
    → AreLast world Shows one.seen 0 lasts → length lasts ≡ length world.config.units
    → HasJoined zero one made (passes_of sessions ++ workers) → HasJoined one two (length lasts) lasts → zero.joined ≡ [] → two.config ≡ world.config
    → zero.openings ≡ map (λ (es : List Entry). length es) zero.seen → length zero.seen ≡ length histories → Each (IsOlder first) (all_of zero.seen)
    → AreLonger two.seen histories → IsResumed two.config two.openings histories two.joined → AreAtMost two.marks high
    → IsClosedWorld world zero Shows first links zero.seen one.seen (merged histories) high sessions workers lasts
closes world Shows first links made zero one two histories high sessions workers lasts are works last units served settled none config opens long older longer resumed marks =
    let front = passes_of sessions ++ workers in
    let all = front ++ lasts in
    let both = joined-then zero one two made (length lasts) front lasts served settled in
    let joined : two.joined ≡ map joined_of all = both.joined ∙ ap (λ l. l ++ map joined_of all) none in
    let begins : AreLonger zero.seen histories = λ u. prefix-then (of_unit zero.seen u) (of_unit two.seen u) (of_unit histories u) (both.known.longer u) (longer u) in
    let first-ones : fronts two.openings histories ≡ zero.seen = ap (λ ns. fronts ns histories) (both.openings ∙ opens) ∙ fronts-are zero.seen histories long begins in
    record {
      are = are;
      workers_are = works;
      lasts_are = last;
      each_unit = units;
      earlier = Each-by (λ (p : PassView). AreLonger p.seen one.seen) front (λ p i. (Each-in (Knows one) front p served.each i).longer);
      seen_in = Each-by (SeesIn (merged histories)) all
          (λ p i. λ u. subst (λ l. IsPrefix (of_unit p.seen u) l) (sym (resumed.parts u))
          (prefix-then (of_unit p.seen u) (of_unit two.seen u) (of_unit histories u) ((Each-in (Knows two) all p both.each i).longer u) (longer u)));
      below = Each-by (IsBelow high) all (λ p i. λ u k. (let x = (Each-in (Knows two) all p both.each i).above u k in let y = marks u k in omega arith));
      begins = served.known.longer;
      opening_in = λ u. subst (λ l. IsPrefix (of_unit zero.seen u) l) (sym (resumed.parts u)) (begins u);
      made = subst (λ os. Each (λ (e : Entry). In e (all_of os) ⊎ In e (own_of e.actor (map joined_of all))) (merged histories)) first-ones
          (subst (λ js. Each (λ (e : Entry). In e (all_of (fronts two.openings histories)) ⊎ In e (own_of e.actor js)) (merged histories)) joined resumed.made);
      actors = λ n low. resumed.new (Nexus n) (subst (λ os. IsNewTo (all_of os) (Nexus n)) (sym first-ones) (new-to first n (all_of zero.seen) low older)) ∙ ap (own_of (Nexus n)) joined;
      ordered = subst (λ k. IsOrdered k (merged histories)) config resumed.ordered;
      sorted = resumed.sorted;
      apart = subst (λ os. RiseBehind (all_of os) (merged histories)) first-ones resumed.apart;
    }

module _ (world : WorldView) (root : RootView) (Shows : ℕ → Type 0) (first : ℕ) (links : List LinkState) (opening seen : List (List Entry)) (entries : List Entry) (high : List (List ℕ))
    (sessions : List EndedSession) (workers lasts : List PassView)
    (is : IsClosedWorld world root Shows first links opening seen entries high sessions workers lasts) where
  abbrev all : List PassView
  all = all_passes sessions workers lasts

  -- the pass that made an entry
  abbrev pub IsMaker : Entry → PassView → Type 0
  IsMaker e p = In p all × (p.ticket.actor ≡ e.actor) × In e p.own

  -- who made an entry, if it was not there at the opening
  pub maker : (e : Entry) → In e entries → In e (all_of opening) ⊎ ((p : PassView) × IsMaker e p)
  maker e i = go (Each-in (λ (x : Entry). In x (all_of opening) ⊎ In x (own_of x.actor (map joined_of all))) entries e is.made i)
    where
      go : In e (all_of opening) ⊎ In e (own_of e.actor (map joined_of all)) → In e (all_of opening) ⊎ ((p : PassView) × IsMaker e p)
      go (inl there) = inl there
      go (inr mine) = let o = own-in e.actor all e mine in inr (o.0, (o.1, o.2, o.3))

  -- an entry of the opening stands in its unit's
  pub opening-on : (e : Entry) → In e (all_of opening) → In e (of_unit opening e.unit)
  opening-on e i =
      let at = in-some opening e i in
      let there : In e (on at.0 entries) = prefix-in (of_unit opening at.0) (on at.0 entries) e (is.opening_in at.0) at.1 in
      let here : e.unit ≡ at.0 = eqb-true e.unit at.0 (filter-passes (λ (x : Entry). x.unit == at.0) entries e there) in
      subst (λ k. In e (of_unit opening k)) (sym here) at.1

  -- where a pass stands in the list
  pub data Place (p : PassView) : Type 0 where
    AtSession : In p (passes_of sessions) → Place p
    AtWorker : In p workers → Place p
    AtLast : In p lasts → Place p

  pub place-of : (p : PassView) → In p all → Place p
  place-of p i = behind (In-split (passes_of sessions ++ workers) lasts p i)
    where
      front : In p (passes_of sessions) ⊎ In p workers → Place p
      front (inl j) = AtSession j
      front (inr j) = AtWorker j

      behind : In p (passes_of sessions ++ workers) ⊎ In p lasts → Place p
      behind (inl j) = front (In-split (passes_of sessions) workers p j)
      behind (inr j) = AtLast j
