-- What a Start or an Advance may be answered
use Rattle.cm_history.specs.declared.answer.Answer.{Answer}

-- how far the operation has come, or why it goes no further
abbrev pub IsProgress : Answer → Type 0
IsProgress (Answer.Progress state count) = Unit {0}
IsProgress (Answer.Refused sense) = Unit {0}
IsProgress Answer.Conflict = Unit {0}
IsProgress _ = ⊥
