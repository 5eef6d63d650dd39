-- The words that the program knows
use Rattle.std.specs.Prelude.{◌≢◌, ℕ, ◌≤◌, List, [], ◌∷◌, codes, decimal}
use Rattle.copymgr.specs.declared.order.Order.{Order}

-- the one word `replay`
abbrev pub replay_words : List (List ℕ)
replay_words = codes "replay" ∷ []

-- the one word `check`
abbrev pub check_words : List (List ℕ)
check_words = codes "check" ∷ []

-- the one word `copy`
abbrev pub copy_words : List (List ℕ)
copy_words = codes "copy" ∷ []

-- the word `gen`, and a number without a sign or a leading zero
abbrev pub gen_words : ℕ → List (List ℕ)
gen_words rounds = codes "gen" ∷ decimal rounds ∷ []

abbrev pub words_of : Order → List (List ℕ)
words_of Order.Replay = replay_words
words_of Order.Check = check_words
words_of Order.Copy = copy_words
words_of (Order.Generate rounds) = gen_words rounds

-- rounds that may be asked for
abbrev pub AreRounds : ℕ → Type 0
AreRounds rounds = (1 ≤ rounds) × (rounds ≤ 4096)

abbrev pub IsOrder : Order → Type 0
IsOrder Order.Replay = Unit {0}
IsOrder Order.Check = Unit {0}
IsOrder Order.Copy = Unit {0}
IsOrder (Order.Generate rounds) = AreRounds rounds

-- neither `replay`, `check`, `copy` nor `gen` with such a number
abbrev pub AreUnknown : List (List ℕ) → Type 0
AreUnknown words = (words ≢ replay_words) × (words ≢ check_words) × (words ≢ copy_words) × ((rounds : ℕ) → AreRounds rounds → words ≢ gen_words rounds)
