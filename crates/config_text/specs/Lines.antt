-- The lines of a text
use Rattle.std.specs.Prelude.{ℕ, suc, ◌≤◌, List, [], ◌∷◌, ◌==◌, if◌then◌else◌}

-- the number of the line at which a text ends, counted from 1
abbrev pub last_line : List ℕ → ℕ
last_line [] = 1
last_line (byte ∷ bytes) = if byte == 10 then suc (last_line bytes) else last_line bytes

-- it is the number of one of the lines of a text
abbrev pub IsLine : List ℕ → ℕ → Type 0
IsLine text line = (1 ≤ line) × (line ≤ last_line text)
