use Rattle.std.proofs.Common.{◌+◌, ◌-◌, take, length-take-le}
use Rattle.std.proofs.lemmas.Result.{err_from_is_err_and}
use Rattle.cm_base.proofs.Windows.{grown_vec, kept_vec}
use Rattle.cm_base.proofs.window.Window.pull.Goals as goal

pub returns-in_err-count-clause-err : goal.returns-in_err-count-clause-err
returns-in_err-count-clause-err g c =
    let w = c.args.self.now in
    let p = err_from_is_err_and c.from_residual.result c.from_residual.ensures.1 in
    rw p.1
    (kept_vec w.bytes _ c.pull.new.into w.start w.end (w.end + c.min-room.result - w.end) c.deref_mut.ensures.value c.pull.auto.into w.ordered w.within)

pub returns-clause-ok : goal.returns-clause-ok
returns-clause-ok g c =
    let w = c.args.self.now in
    let n = c.in_ok-count.count in
    let r = c.in_ok-count.ensures in
    let held = grown_vec w.bytes _ c.pull.new.into w.start w.end (w.end + c.min-room.result - w.end) n c.deref_mut.ensures.value c.pull.auto.into w.ordered w.within r.within in
    (take n c.pull.new.into, length-take-le n _ r.within, held, r.taken)
