use Rattle.std.proofs.Common.{◌∙◌, arith}
use Rattle.std.specs.Prelude.{None}
use Rattle.trace_replay.proofs.Playing.{any-player, ends-done}
use Rattle.trace_replay.proofs.player.Player.play_all.Goals as goal

pub returns-then-not-branch-clause-played : goal.returns-then-not-branch-clause-played
returns-then-not-branch-clause-played g c = λ left taken is.
    let t = c.in_ok-turn.ensures.turned left taken (c.loop-self.invariant.0 left taken is) in
    let e = t.ended c.if-not-branch.true in
    rw t.is.summary (ends-done left _ taken _ t.is.config t.is.s _ _ _ _ t.is.loop e.2 e.0 e.1)

pub loop-self-preserved : goal.loop-self-preserved
loop-self-preserved g c =
    let t = c.in_ok-turn.ensures.turned None None (any-player None None (g.I.Source.left c.loop-self.input) (g.O.Sink.taken c.loop-self.output) c.loop-self.self c.loop-self.invariant.1) in
    let more = c.in_ok-turn.ensures.records c.if-not-branch.false in (
      λ left taken is. (c.in_ok-turn.ensures.turned left taken (c.loop-self.invariant.0 left taken is)).is,
      any-player (g.I.Source.left c.turn.new.input) (g.O.Sink.taken c.turn.new.output) None None c.turn.new.self t.is,
      c.in_ok-turn.ensures.counted.0 ∙ c.loop-self.invariant.2,
      c.in_ok-turn.ensures.counted.1 ∙ c.loop-self.invariant.3,
      omega (arith, more, c.loop-self-test.true),
    )

pub returns-clause-played : goal.returns-clause-played
returns-clause-played g c = λ left taken is. c.end.ensures.played left taken (c.loop-self.invariant.0 left taken is)
