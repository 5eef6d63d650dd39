-- Lists of entries that are merged from their heads on
use Rattle.std.specs.Prelude.{◌≡◌, ℕ, ◌<◌, List, [], ◌∷◌, ◌++◌, length, slice_get, slice_index, slice_index_or, Option, Some, None, Bool, true}
use Rattle.cm_history.specs.declared.act.Entry.{Entry}
use Rattle.merged_history.specs.Merged.{is_earlier, merged, rests}

-- the first entry that is left of a list
abbrev pub head : List (List Entry) → List ℕ → ℕ → Option Entry
head hs at unit = slice_get (slice_index_or hs unit []) (slice_index at unit)

-- an entry comes before what was found first so far
abbrev pub precedes : Entry → Option Entry → Bool
precedes e None = true
precedes e (Some first) = is_earlier e first

-- of the first n lists no entry is left
abbrev pub AreDone : List (List Entry) → List ℕ → ℕ → Type 0
AreDone hs at n = (unit : ℕ) → unit < n → head hs at unit ≡ None

-- of the first n lists, `best` has the first entry that is left
pub record IsLeast (hs : List (List Entry)) (at : List ℕ) (n best : ℕ) (first : Entry) : Type 0 where
  pub low : best < n
  pub has : head hs at best ≡ Some first
  pub least : (unit : ℕ) (e : Entry) → unit < n → head hs at unit ≡ Some e → is_earlier first e ≡ true

-- what was found of the first n lists
abbrev pub Found : List (List Entry) → List ℕ → ℕ → ℕ → Option Entry → Type 0
Found hs at n best None = AreDone hs at n
Found hs at n best (Some first) = IsLeast hs at n best first

-- the list of a unit that has the first entry, where there is one
abbrev pub IsNext : List (List Entry) → List ℕ → ℕ → Option ℕ → Type 0
IsNext hs at n None = AreDone hs at n
IsNext hs at n (Some unit) = (first : Entry) × IsLeast hs at n unit first

-- so many entries were taken of each list, and these are they, merged
pub record IsSoFar (hs : List (List Entry)) (at : List ℕ) (taken : List Entry) : Type 0 where
  pub size : length at ≡ length hs
  pub so_far : taken ++ merged (rests at hs) ≡ merged hs
