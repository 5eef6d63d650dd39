use Rattle.std.proofs.Common.{◌∙◌, sym, arith}
use Rattle.trace_check.proofs.Plays.{header-place}
use Rattle.trace_check.proofs.playing.play.Goals as goal

pub overflow_add-result : goal.overflow_add-result
overflow_add-result c =
    let low = header-place c.args.trace.now c.in-Bad.place (sym c.in_ok-config.ensures.value ∙ c.in-Bad.is) in
    omega (arith, low)
