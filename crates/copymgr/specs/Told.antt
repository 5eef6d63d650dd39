-- What is printed of a replay
use Rattle.std.specs.Prelude.{ℕ, List, ◌++◌, codes, decimal}
use Rattle.trace_replay.specs.declared.summary.Summary.{Summary}

-- a name, a space, the number and a line feed
abbrev pub line : List ℕ → ℕ → List ℕ
line name number = name ++ codes " " ++ decimal number ++ codes "\n"

-- the eight counts, each in a line
abbrev pub summary_text : Summary → List ℕ
summary_text s =
    line (codes "records") s.records ++ line (codes "replies") s.replies
    ++ line (codes "good") s.good ++ line (codes "check") s.check ++ line (codes "busy") s.busy ++ line (codes "full") s.full
    ++ line (codes "steps") s.steps ++ line (codes "bytes") s.bytes
