use Rattle.std.proofs.Common.{inl, inr, ap, refl}
use Rattle.std.specs.Prelude.{Some}
use Rattle.std.proofs.lemmas.Result.{IfOk-weaker}
use Rattle.unit_core.proofs.inner.Core.plan_unbarred.Goals as goal

pub returns-in-Read-clause-planned : goal.returns-in-Read-clause-planned
returns-in-Read-clause-planned g c = IfOk-weaker c.plan_read.result _ _ (λ p f h a free. f h a c.args.actor c.args.moment c.args.act.now c.in-Read.is free) c.plan_read.ensures

pub returns-in-Write-clause-planned : goal.returns-in-Write-clause-planned
returns-in-Write-clause-planned g c = IfOk-weaker c.plan_write.result _ _ (λ p f h a free. f h a c.args.actor c.args.moment c.args.act.now c.in-Write.is free) c.plan_write.ensures

pub returns-in-Advance-clause-planned : goal.returns-in-Advance-clause-planned
returns-in-Advance-clause-planned g c =
    IfOk-weaker c.plan_piece.result _ _ (λ p f h a free. f h a c.args.actor c.args.moment c.args.act.now
    (c.requires.asked, inl (record { id = c.in-Advance.id; act = c.in-Advance.is; key_is = ap Some c.token_key.ensures; none = c.no_such_operation.ensures }))) c.plan_piece.ensures

pub returns-in-Pump-clause-planned : goal.returns-in-Pump-clause-planned
returns-in-Pump-clause-planned g c =
    IfOk-weaker c.plan_piece-in-Pump.result _ _ (λ p f h a free. f h a c.args.actor c.args.moment c.args.act.now
    (c.requires.asked, inr (record { act = c.in-Pump.is; key_is = refl; none = refl }))) c.plan_piece-in-Pump.ensures

pub returns-in-Unmap-clause-planned : goal.returns-in-Unmap-clause-planned
returns-in-Unmap-clause-planned g c = λ h a free.
    let unbarred = rw c.in-Unmap.is at free in
    rw c.in-Unmap.is (c.plan_unmap.ensures h a c.args.actor c.args.moment unbarred)

pub returns-in-MapStatus-clause-planned : goal.returns-in-MapStatus-clause-planned
returns-in-MapStatus-clause-planned g c = rw c.in-MapStatus.is (IfOk-weaker c.plan_status.result _ _ (λ p f h a. f h a c.args.actor c.args.moment) c.plan_status.ensures)

pub returns-in-Populate-clause-planned : goal.returns-in-Populate-clause-planned
returns-in-Populate-clause-planned g c = rw c.in-Populate.is (IfOk-weaker c.plan_populate.result _ _ (λ p f h a. f h a c.args.moment) c.plan_populate.ensures)

pub returns-in-Redeem-clause-planned : goal.returns-in-Redeem-clause-planned
returns-in-Redeem-clause-planned g c = rw (c.in-Redeem.is, ← c.bytes.ensures) (IfOk-weaker c.plan_redeem.result _ _ (λ p f h a free. f h a c.args.actor) c.plan_redeem.ensures)

pub returns-in-Start-clause-planned : goal.returns-in-Start-clause-planned
returns-in-Start-clause-planned g c = rw (c.in-Start.is, ← c.list.ensures) (IfOk-weaker c.plan_start.result _ _ (λ p f h a. f h a c.args.moment) c.plan_start.ensures)

pub returns-in-Delete-clause-planned : goal.returns-in-Delete-clause-planned
returns-in-Delete-clause-planned g c = λ h a free. rw c.in-Delete.is (c.plan_delete.ensures h a c.args.actor c.args.moment)

pub returns-in-End-clause-planned : goal.returns-in-End-clause-planned
returns-in-End-clause-planned g c = λ h a free. rw c.in-End.is (c.plan_end.ensures h a c.args.moment)

pub returns-in-Abort-clause-planned : goal.returns-in-Abort-clause-planned
returns-in-Abort-clause-planned g c = λ h a free. rw c.in-Abort.is (c.plan_abort.ensures h a c.args.moment)

pub returns-in-Report-clause-planned : goal.returns-in-Report-clause-planned
returns-in-Report-clause-planned g c = λ h a free. rw c.in-Report.is (c.plan_report.ensures h a c.args.moment)

pub returns-in-Open-clause-planned : goal.returns-in-Open-clause-planned
returns-in-Open-clause-planned g c = λ h a free. rw c.in-Open.is (c.plan_open.ensures h a c.args.moment)

pub returns-in-Close-clause-planned : goal.returns-in-Close-clause-planned
returns-in-Close-clause-planned g c = λ h a free. rw c.in-Close.is (c.plan_close.ensures h a c.args.moment)

pub returns-in-Recall-clause-planned : goal.returns-in-Recall-clause-planned
returns-in-Recall-clause-planned g c = λ h a free. rw c.in-Recall.is (c.plan_recall.ensures h a c.args.moment)

pub returns-in-PrOut-clause-planned : goal.returns-in-PrOut-clause-planned
returns-in-PrOut-clause-planned g c = rw c.in-PrOut.is (IfOk-weaker c.plan_out.result _ _ (λ p f h a free. f h a c.args.moment) c.plan_out.ensures)

pub returns-in-PrKeys-clause-planned : goal.returns-in-PrKeys-clause-planned
returns-in-PrKeys-clause-planned g c = rw c.in-PrKeys.is (IfOk-weaker c.plan_keys.result _ _ (λ p f h a free. f h a c.args.actor c.args.moment) c.plan_keys.ensures)

pub returns-in-PrHolder-clause-planned : goal.returns-in-PrHolder-clause-planned
returns-in-PrHolder-clause-planned g c = λ h a free. rw c.in-PrHolder.is (c.plan_holder.ensures h a c.args.actor c.args.moment)
