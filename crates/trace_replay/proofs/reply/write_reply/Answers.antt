use Rattle.std.proofs.Common.{refl}
use Rattle.std.proofs.lemmas.Result.{err_from_is_err_and}
use Rattle.trace_replay.proofs.Written.{head-first, data-few, written-headed, writes-record, counted-later}
use Rattle.trace_replay.proofs.reply.write_reply.Goals as goal

pub returns-in_err-write_tail-clause-written : goal.returns-in_err-write_tail-clause-written
returns-in_err-write_tail-clause-written g c = λ taken bytes w.
    let p = err_from_is_err_and c.from_residual-in_err-write_tail.result c.from_residual-in_err-write_tail.ensures.1 in
    let headed = written-headed taken _ bytes _ _ _ _ _ c.args.initiator c.args.reply.now c.in_ok-gather.ensures.ok c.in_ok-gather-2.ensures.ok c.to_be_bytes.ensures (head-first c.reply_head.result c.args.reply.now c.reply_head.type_inv.1.0.1 c.reply_head.ensures) w in
    writes-record _ taken _ _ bytes c.args.initiator c.args.reply.now (rw (p.1, p.2) (c.in_err-write_tail.ensures.written taken _ headed))

pub returns-in_err-write_tail-clause-counted : goal.returns-in_err-write_tail-clause-counted
returns-in_err-write_tail-clause-counted g c = λ reads.
    let p = err_from_is_err_and c.from_residual-in_err-write_tail.result c.from_residual-in_err-write_tail.ensures.1 in
    rw (p.1, p.2) (c.in_err-write_tail.ensures.counted reads)

pub returns-clause-written : goal.returns-clause-written
returns-clause-written g c = λ taken bytes w.
    let headed = written-headed taken _ bytes _ _ _ _ _ c.args.initiator c.args.reply.now c.in_ok-gather.ensures.ok c.in_ok-gather-2.ensures.ok c.to_be_bytes.ensures (head-first c.reply_head.result c.args.reply.now c.reply_head.type_inv.1.0.1 c.reply_head.ensures) w in
    writes-record _ taken _ _ bytes c.args.initiator c.args.reply.now (c.flush_long.ensures.written taken _ (c.in_ok-write_tail.ensures.written taken _ headed))

pub returns-clause-counted : goal.returns-clause-counted
returns-clause-counted g c = λ reads.
    counted-later c.flush_long.result reads reads reads _ _ _ refl (c.in_ok-write_tail.ensures.counted reads).1 (c.flush_long.ensures.counted reads)

pub reply_head-requires : goal.reply_head-requires
reply_head-requires g c = data-few c.args.reply.now c.requires
