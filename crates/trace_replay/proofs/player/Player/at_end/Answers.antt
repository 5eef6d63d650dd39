use Rattle.std.proofs.Common.{refl}
use Rattle.trace_replay.proofs.Playing.{ends-torn, is-some}
use Rattle.trace_replay.proofs.player.Player.at_end.Goals as goal

pub returns-else-is_empty-clause-found : goal.returns-else-is_empty-clause-found
returns-else-is_empty-clause-found c = λ left rest taken given is needs end none.
    ends-torn left rest taken given is.config is.s _ _ _ _ is.loop none needs end (is-some _ _ refl c.if-is_empty.ensures)
