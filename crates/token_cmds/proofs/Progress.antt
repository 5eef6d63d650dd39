-- The answers to a Start and to an Advance
use Rattle.std.specs.Prelude.{ℕ, List, Bool}
use Rattle.lba_ranges.specs.declared.ranges.Range.{Range}
use Rattle.lba_ranges.specs.HeldBlocks.{HeldBlocks}
use Rattle.cm_history.specs.declared.act.Act.{Act}
use Rattle.cm_history.specs.declared.answer.Answer.{Answer}
use Rattle.cm_history.specs.Forms.{HasKind}
use Rattle.token_cmds.specs.inner.Progress.{IsProgress}

pub start-progress : (id : ℕ) (background : Bool) (ranges : List Range) (rod : HeldBlocks) (a : Answer) → HasKind (Act.Start id background ranges rod) a → IsProgress a
start-progress id background ranges rod (Answer.Progress state count) kind = tt
start-progress id background ranges rod (Answer.Refused sense) kind = tt
start-progress id background ranges rod Answer.Conflict kind = tt
start-progress id background ranges rod _ kind = absurd kind

pub advance-progress : (id : ℕ) (a : Answer) → HasKind (Act.Advance id) a → IsProgress a
advance-progress id (Answer.Progress state count) kind = tt
advance-progress id (Answer.Refused sense) kind = tt
advance-progress id Answer.Conflict kind = cc
advance-progress id _ kind = absurd kind
