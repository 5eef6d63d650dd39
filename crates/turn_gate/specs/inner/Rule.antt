-- The rule of a gate's table: word 0 is the length of the history, word 1 the turn, and the slot has the value or None
use Rattle.std.specs.Prelude.{◌≡◌, ◌≢◌, ℕ, ◌+◌, ◌≤◌, List, [], ◌∷◌, ◌++◌, length, Bool, true, false, not, Option, Some, None, MatchOption, MatchBool, ◌⊎◌, ◌==◌}
use Rattle.std.specs.List.{All}
use mathlib.Core.Option.{none, some}
use mathlib.Core.List.{IsPrefix}
use lib.ListN.{get_elem?}
use Rattle.atomic_table.specs.Table.{State, Me}
use Rattle.turn_gate.specs.declared.view.Joined.{Joined}
use Rattle.turn_gate.specs.declared.view.View.{View}
use Rattle.turn_gate.specs.Marks.{AtMost, greatest}
use Rattle.turn_gate.specs.Places.{one_if, inside, tally}
use Rattle.turn_gate.specs.inner.Seats.{blank, unopened}

abbrev pub total : {A : Type 0} → (A → ℕ) → List A → ℕ
total f [] = 0
total f (x ∷ xs) = f x + total f xs

-- 1 of a seat that is neither the first nor spent
abbrev pub other_if : {K : Type 0} → Option K → Bool → ℕ
other_if None first = 0
other_if (Some k) first = one_if (not first)

module _ {E K : Type 0} where
  abbrev pub counts_other : View E K → ℕ
  counts_other v = other_if v.kin v.first

  abbrev pub tally_of : ℕ → View E K → ℕ
  tally_of p v = tally p v.own v.joined

  -- a view is spent, or carries the gate's kin and has seen a beginning of the history
  abbrev pub Fits : K → List E → View E K → Type 0
  Fits k history v = MatchOption v.kin (v ≡ blank) (λ has. (has ≡ k) × IsPrefix v.seen history × All (λ j. IsPrefix j.seen history) v.joined)

  -- the seat, or one that was joined into it, has seen the whole history
  abbrev pub HasSeen : List E → View E K → Type 0
  HasSeen history v = (v.seen ≡ history) ⊎ ((i : ℕ) × (j : Joined E) × (get_elem? v.joined i ≡ some j) × (j.seen ≡ history))

  -- the first seat knows how many others there are. Each place from its opening on stands in one own list
  pub record IsFirst (history : List E) (views : List (View E K)) (v : View E K) : Type 0 where
    pub others : total counts_other views + length v.joined ≡ v.made
    pub opens : v.opening ≤ length history
    pub once : (p : ℕ) → total (tally_of p) views ≡ inside v.opening (length history) p

  pub record AllFit (k : K) (history : List E) (first : ℕ) (views : List (View E K)) : Type 0 where
    pub fits : (by : ℕ) (v : View E K) → get_elem? views by ≡ some v → Fits k history v
    pub only : (by : ℕ) (v : View E K) → get_elem? views by ≡ some v → v.first ≡ true → by ≡ first
    pub firsts : (by : ℕ) (v : View E K) → get_elem? views by ≡ some v → v.first ≡ true → IsFirst history views v
    pub whole : (by : ℕ) × (v : View E K) × (get_elem? views by ≡ some v) × HasSeen history v

  -- the holder, which has made one entry
  abbrev pub counted : View E K → E → View E K
  counted v e = record v { seen = v.seen ++ e ∷ []; own = v.own ++ (record { place = length v.seen; entry = e }) ∷ [] }

  abbrev pub missed : View E K → View E K
  missed v = record v { misses = v.misses + 1 }

  abbrev pub claimed : View E K → List E → List ℕ → View E K
  claimed v history marks = record v { seen = history; holds = true; marks = marks }

  abbrev pub given_back : View E K → List ℕ → View E K
  given_back v marks = record v { holds = false; marks = marks }

  abbrev pub loaded : View E K → List E → View E K
  loaded v history = record v { seen = history }

  -- the first seat, of which another is split off
  abbrev pub with_split : View E K → View E K
  with_split v = record v { made = v.made + 1 }

  abbrev pub newcomer : View E K → View E K
  newcomer v = record blank { seen = v.seen; marks = v.marks; kin = v.kin }

  -- the first seat, into which another is joined
  abbrev pub with_joined : View E K → View E K → View E K
  with_joined v w = record v { joined = v.joined ++ (record { own = w.own; seen = w.seen }) ∷ []; marks = greatest v.marks w.marks }

  -- what a claim tells where the turn is taken: a first seat has others
  abbrev pub NotAlone : View E K → Type 0
  NotAlone v = v.first ≡ true → length v.joined ≢ v.made

  module _ {V : Type 0} where
    -- the count says how long the history is. A seat that holds the turn had seen it all
    pub record Loads (me : Me (Option V) (View E K)) (found : ℕ) (after : Me (Option V) (View E K)) : Type 0 where
      pub history : List E
      pub found_is : found ≡ length history
      pub longer : IsPrefix me.0.seen history
      pub parts : All (λ j. IsPrefix j.seen history) me.0.joined
      pub whole : me.0.holds ≡ true → history ≡ me.0.seen
      pub fewer : me.0.first ≡ true → length me.0.joined ≤ me.0.made
      pub is : after ≡ (loaded me.0 history, me.1)

    -- one entry is added, where there is one
    abbrev pub Counts : Option E → Me (Option V) (View E K) → Me (Option V) (View E K) → Type 0
    Counts None me after = after ≡ me
    Counts (Some e) me after = after ≡ (counted me.0 e, me.1)

module _ {V E K : Type 0} (stands_for : V → List E → Type 0) (kin : V → K) (marks : V → List ℕ) where
  -- the turn word is 0, the value is home and nobody holds the turn
  pub record IsFree (s : State (Option V) (View E K)) (k : K) (history : List E) : Type 0 where
    pub words : s.words ≡ length history ∷ 0 ∷ []
    pub value : V
    pub homes : s.homes ≡ some (Some value) ∷ []
    pub stands : stands_for value history
    pub same : kin value ≡ k
    pub none_holds : (by : ℕ) (v : View E K) → get_elem? s.views by ≡ some v → v.holds ≡ false
    pub below : (by : ℕ) (v : View E K) → get_elem? s.views by ≡ some v → AtMost v.marks (marks value)

  -- it is 1, the value is out and one seat holds the turn, which has seen the whole history
  pub record IsHeld (s : State (Option V) (View E K)) (history : List E) : Type 0 where
    pub words : s.words ≡ length history ∷ 1 ∷ []
    pub homes : s.homes ≡ none ∷ []
    pub owner : ℕ
    pub holder : View E K
    pub has : get_elem? s.views owner ≡ some holder
    pub holds : holder.holds ≡ true
    pub seen : holder.seen ≡ history
    pub others : (by : ℕ) (v : View E K) → by ≢ owner → get_elem? s.views by ≡ some v → v.holds ≡ false
    pub below : (by : ℕ) (v : View E K) → get_elem? s.views by ≡ some v → AtMost v.marks holder.marks

  pub record IsOpen (k : K) (s : State (Option V) (View E K)) : Type 0 where
    pub history : List E
    pub first : ℕ
    pub all : AllFit k history first s.views
    pub state : IsFree s k history ⊎ IsHeld s history

  -- the table was made for the value `key`, which is not in yet
  pub record IsUnopened (key : V) (s : State (Option V) (View E K)) : Type 0 where
    pub size : ℕ
    pub words : s.words ≡ size ∷ 1 ∷ []
    pub homes : s.homes ≡ some None ∷ []
    pub views : s.views ≡ unopened ∷ []
    pub sized : (history : List E) → stands_for key history → length history ≡ size

  abbrev pub IsKept : V → State (Option V) (View E K) → Type 0
  IsKept key s = IsUnopened key s ⊎ IsOpen (kin key) s

  -- a seat takes the turn, with the value and its whole history
  pub record Takes (me after : Me (Option V) (View E K)) : Type 0 where
    pub history : List E
    pub value : V
    pub stands : stands_for value history
    pub same : me.0.kin ≡ Some (kin value)
    pub longer : IsPrefix me.0.seen history
    pub above : AtMost me.0.marks (marks value)
    pub is : after ≡ (claimed me.0 history (marks value), (0, Some value) ∷ [])

  pub record Misses (me after : Me (Option V) (View E K)) : Type 0 where
    pub others : NotAlone me.0
    pub is : after ≡ (missed me.0, me.1)

  abbrev pub Claims : Me (Option V) (View E K) → ℕ → Me (Option V) (View E K) → Type 0
  Claims me found after = MatchBool (found == 0) (Takes me after) (Misses me after)

  -- the marks of the value that is given back
  abbrev pub marks_or : Option V → List ℕ
  marks_or None = []
  marks_or (Some value) = marks value

  abbrev pub marks_in : List (ℕ × Option V) → List ℕ
  marks_in [] = []
  marks_in (x ∷ xs) = marks_or x.1

  abbrev pub GivesBack : Me (Option V) (View E K) → Me (Option V) (View E K) → Type 0
  GivesBack me after = after ≡ (given_back me.0 (marks_in me.1), [])
