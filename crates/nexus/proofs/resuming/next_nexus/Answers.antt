use Rattle.std.proofs.Common.{◌<◌, ap, sym, ◌∙◌, arith, length, map}
use Rattle.std.specs.Prelude.{max}
use Rattle.unit_gate.specs.Recorded.{facts}
use Rattle.nexus.specs.Opening.{numbers_after, stored}
use Rattle.nexus.proofs.Resumed.{get-mapped, nexus-more}
use Rattle.nexus.proofs.resuming.next_nexus.Goals as goal

pub loop-index-preserved : goal.loop-index-preserved
loop-index-preserved g c =
    let store_of = stored (facts g.R.Recorder.recorded g.R.Recorder.record_faults g.R.Recorder.absent g.R.Recorder.front) in
    let low : c.loop-index.index < length c.args.stores.now.items = omega arith in
    c.max-next.ensures
    ∙ ap (λ n. max n c.loop-index.next) c.numbers_after.ensures
    ∙ ap (max (numbers_after c.index.result.now.history.entries)) c.loop-index.invariant
    ∙ sym (nexus-more (map store_of c.args.stores.now.items) c.loop-index.index (store_of c.index.result.now) (get-mapped store_of c.args.stores.now.items c.loop-index.index c.index.result.now low c.index.ensures))
