use Rattle.std.proofs.Common.{◌∙◌, subst}
use Rattle.std.specs.Prelude.{None}
use Rattle.std.proofs.lemmas.Result.{err_from_is_err_and}
use Rattle.trace_replay.specs.inner.Players.{IsFound}
use Rattle.trace_replay.proofs.Playing.{any-player, counts-later}
use Rattle.trace_replay.proofs.player.Player.turn.Goals as goal

pub play-requires-clause-playing : goal.play-requires-clause-playing
play-requires-clause-playing g c =
    let f = c.in_ok-found.ensures.found None None (any-player None None (g.I.Source.left c.args.input.now) (g.O.Sink.taken c.args.output.now) c.args.self.now c.requires.playing) in
    any-player (g.I.Source.left c.next_item.new.input) (g.O.Sink.taken c.next_item.new.output) None None c.next_item.new.self f.is

pub play-requires-clause-found : goal.play-requires-clause-found
play-requires-clause-found g c =
    let f = c.in_ok-found.ensures.found None None (any-player None None (g.I.Source.left c.args.input.now) (g.O.Sink.taken c.args.output.now) c.args.self.now c.requires.playing) in
    subst (IsFound (g.I.Source.left c.next_item.new.input) c.next_item.new.self) c.in-Some.is f.found_so

pub returns-in_err-play-in-Some-clause-counted : goal.returns-in_err-play-in-Some-clause-counted
returns-in_err-play-in-Some-clause-counted g c =
    let p = err_from_is_err_and c.from_residual-in_err-play-in-Some.result c.from_residual-in_err-play-in-Some.ensures.1 in
    rw (p.1, p.2) (counts-later _ _ _ _ _ _ c.in_err-play-in-Some.field-0.0 c.in_ok-found.ensures.counted.0 c.in_ok-found.ensures.counted.1 (c.in_err-play-in-Some.ensures.counted _))

pub returns-in_ok-play-in-Some-clause-counted : goal.returns-in_ok-play-in-Some-clause-counted
returns-in_ok-play-in-Some-clause-counted g c =
    (c.in_ok-found.ensures.counted.0, (c.in_ok-play-in-Some.ensures.counted 0).1 ∙ c.in_ok-found.ensures.counted.1)

pub returns-in-None-clause-turned : goal.returns-in-None-clause-turned
returns-in-None-clause-turned g c = λ left taken is.
    let f = c.in_ok-found.ensures.found left taken is in
    record { is = f.is; ended = λ _. subst (IsFound _ c.next_item.new.self) c.in-None.is f.found_so }
