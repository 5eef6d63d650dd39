-- How much deeds wrote, as far as a number of 64 bits tells it
use Rattle.std.specs.Prelude.{ℕ, ◌+◌, ◌-◌, ◌^◌, ◌≤◌, List, [], ◌∷◌, length, min, is_some, if◌then◌else◌}
use Rattle.lba_ranges.specs.Writings.{Writing}
use Rattle.cm_history.specs.declared.act.Act.{Act}
use Rattle.cm_history.specs.Deeds.{Deed}

-- the number, or the greatest that 64 bits hold
abbrev pub capped : ℕ → ℕ
capped n = min n (2 ^ 64 - 1)

-- how many writings leave their block mapped
abbrev pub mapping : List Writing → ℕ
mapping [] = 0
mapping (w ∷ ws) = (if is_some w.held then 1 else 0) + mapping ws

-- how many writings of the deeds left their block mapped
abbrev pub mappings : List Deed → ℕ
mappings [] = 0
mappings (d ∷ past) = mappings past + mapping d.wrote

-- an act that writes no more blocks than a token has
abbrev pub IsShortAct : Act → Type 0
IsShortAct (Act.Start id background ranges rod) = length rod.items ≤ 1_048_576
IsShortAct _ = Unit {0}
