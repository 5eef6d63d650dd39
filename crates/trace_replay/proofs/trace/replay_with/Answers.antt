use Rattle.std.proofs.Common.{refl, subst}
use Rattle.std.proofs.lemmas.Result.{err_from_is_err_and}
use Rattle.trace_replay.specs.Replayed.{IsCounted}
use Rattle.trace_replay.proofs.Playing.{header-memory, header-within-bytes}
use Rattle.trace_replay.proofs.trace.replay_with.Goals as goal

pub returns-in_err-config-clause-counted : goal.returns-in_err-config-clause-counted
returns-in_err-config-clause-counted g c =
    let p = err_from_is_err_and c.from_residual.result c.from_residual.ensures.1 in
    rw (p.1, p.2) (c.in_err-config.ensures.counted _)

pub new-requires : goal.new-requires
new-requires g c = header-within-bytes _ _ _ c.in_ok-config.ensures.pulled.1

pub returns-in_err-player-clause-played : goal.returns-in_err-player-clause-played
returns-in_err-player-clause-played g c =
    let p = err_from_is_err_and c.from_residual-in_err-player.result c.from_residual-in_err-player.ensures.1 in
    rw (p.1, p.2) (header-memory _ _ _ _ c.in_ok-config.ensures.pulled.0)

pub returns-in_err-player-clause-counted : goal.returns-in_err-player-clause-counted
returns-in_err-player-clause-counted g c =
    let p = err_from_is_err_and c.from_residual-in_err-player.result c.from_residual-in_err-player.ensures.1 in
    rw (p.1, p.2) ((c.in_ok-config.ensures.counted 0).0, refl)

pub returns-clause-counted : goal.returns-clause-counted
returns-clause-counted g c =
    subst (λ n. IsCounted n (g.I.Source.read_faults c.play_all.new.input) (g.O.Sink.write_faults c.args.output.now) (g.O.Sink.write_faults c.play_all.new.output) c.play_all.result) (c.in_ok-config.ensures.counted 0).0 c.play_all.ensures.counted

pub returns-clause-played : goal.returns-clause-played
returns-clause-played g c =
    c.play_all.ensures.played (g.I.Source.left c.args.input.now) (g.O.Sink.taken c.args.output.now)
    (c.in_ok-player.ensures (g.I.Source.left c.args.input.now) (g.I.Source.left c.pull_header.new.input) (g.O.Sink.taken c.args.output.now) c.in_ok-config.ensures.pulled.0 c.in_ok-config.ensures.pulled.1).0
