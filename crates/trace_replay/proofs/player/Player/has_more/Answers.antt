use Rattle.std.proofs.Common.{refl}
use Rattle.trace_replay.proofs.Playing.{more-pulled, none-needs, is-none}
use Rattle.trace_replay.proofs.player.Player.has_more.Goals as goal

pub returns-clause-more : goal.returns-clause-more
returns-clause-more g c = λ left taken is.
    let none = is-none _ _ refl c.if-not-is_empty.ensures in
    more-pulled left _ taken _ _ _ c.pull.result (c.pull.ensures.pulled left taken is (none-needs _ _ none)) c.pull.ensures.grows none
