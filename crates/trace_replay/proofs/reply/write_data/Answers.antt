use Rattle.std.proofs.Common.{refl, inl, ◌∙◌}
use Rattle.std.proofs.lemmas.Result.{err_from_is_err_and}
use Rattle.trace_replay.proofs.Written.{begun-more, begun-passing, written-passed}
use Rattle.trace_replay.proofs.reply.write_data.Goals as goal

pub returns-in_err-flush-clause-written : goal.returns-in_err-flush-clause-written
returns-in_err-flush-clause-written g c = λ taken bytes w.
    let p = err_from_is_err_and c.from_residual.result c.from_residual.ensures.1 in
    let h = c.in_err-flush.ensures.written taken bytes w in
    rw (p.1, p.2) (begun-more taken _ bytes c.args.part.now h.0, inl h.1)

pub returns-in_err-flush-clause-counted : goal.returns-in_err-flush-clause-counted
returns-in_err-flush-clause-counted g c = λ reads.
    let p = err_from_is_err_and c.from_residual.result c.from_residual.ensures.1 in
    rw (p.1, p.2) (c.in_err-flush.ensures.counted reads)

pub returns-in_err-push_all-clause-written : goal.returns-in_err-push_all-clause-written
returns-in_err-push_all-clause-written g c = λ taken bytes w.
    let p = err_from_is_err_and c.from_residual-in_err-push_all.result c.from_residual-in_err-push_all.ensures.1 in
    let h = c.in_ok-flush.ensures.written taken bytes w in
    let b = c.in_err-push_all.ensures.begun in
    rw (p.1, p.2) (begun-passing taken _ _ _ bytes b.0 c.args.part.now h.1 (b.1.rest, b.1.whole) h.0 b.2, inl refl)

pub returns-in_err-push_all-clause-counted : goal.returns-in_err-push_all-clause-counted
returns-in_err-push_all-clause-counted g c = λ reads.
    let p = err_from_is_err_and c.from_residual-in_err-push_all.result c.from_residual-in_err-push_all.ensures.1 in
    rw (p.1, p.2) (refl, rw (c.in_ok-flush.ensures.counted 0).1 at c.in_err-push_all.ensures.faulted)

pub returns-clause-written : goal.returns-clause-written
returns-clause-written g c = λ taken bytes w.
    let h = c.in_ok-flush.ensures.written taken bytes w in
    written-passed taken _ _ _ bytes c.args.part.now h.1 h.0 c.in_ok-push_all.ensures.grown

pub returns-clause-counted : goal.returns-clause-counted
returns-clause-counted g c = λ reads. (refl, c.in_ok-push_all.ensures.sound ∙ (c.in_ok-flush.ensures.counted 0).1)
