use Rattle.std.proofs.Common.{refl, ◌∙◌}
use Rattle.trace_replay.proofs.Playing.{begins-so}
use Rattle.trace_replay.proofs.player.Player.new.Goals as goal

pub returns : goal.returns
returns c = λ left rest given consumed header.
    begins-so left rest given c.args.config c.args.input c.args.used _ consumed header c.in_ok-new.ensures c.none.ensures (c.new-2.ensures ∙ c.consume.ensures) refl c.new-3.ensures
