use Rattle.std.proofs.Common.{◌≡◌, ◌∙◌, ap, sym, true, false, refl, List}
use Rattle.std.specs.Prelude.{find, filter, ◌&&◌}
use Rattle.cm_history.specs.Operations.{Operation, operations, is_running, fits}
use Rattle.plain_model.proofs.OneByOne.{served-found, served-missed}
use Rattle.plain_model.proofs.unit.PlainUnit.would_serve.Goals as goal
use Rattle.plain_model.proofs.unit.PlainUnit.would_serve.Goals.{else-is_running-via-then-is_running+else-fits, else-is_running-via-else-is_running}

pub returns-then-fits : goal.returns-then-fits
returns-then-fits c =
    let items : List Operation = c.deref-operation-items.result.now in
    let same : items ≡ operations c.args.self.now = cc in
    let o = c.operation-item.result in
    let first : is_running o ≡ true = sym c.is_running.ensures ∙ c.if-is_running.true in
    let second : fits c.args.actor c.args.act.now o ≡ true = sym c.fits.ensures ∙ c.if-fits.true in
    served-found is_running (fits c.args.actor c.args.act.now) items c.loop-operation.operation-index o c.loop-operation-test.true c.operation-item.is c.loop-operation.invariant first second
    ∙ ap (λ (os : List Operation). find (fits c.args.actor c.args.act.now) (filter is_running os)) same

pub loop-operation-preserved : goal.loop-operation-preserved
loop-operation-preserved c =
    let items : List Operation = c.deref-operation-items.result.now in
    let o = c.operation-item.result in
    let misses : is_running o && fits c.args.actor c.args.act.now o ≡ false =
    elim c.else-is_running.branch [
      | else-is_running-via-then-is_running+else-fits w ↦
          let first : is_running o ≡ true = sym c.is_running.ensures ∙ w.if-is_running.true in
          let second : fits c.args.actor c.args.act.now o ≡ false = sym w.fits.ensures ∙ w.if-fits.false in
          rw (first, second) refl
      | else-is_running-via-else-is_running w ↦ let first : is_running o ≡ false = sym c.is_running.ensures ∙ w.if-is_running.false in rw first refl
    ] in
    served-missed is_running (fits c.args.actor c.args.act.now) items c.loop-operation.operation-index o c.loop-operation-test.true c.operation-item.is c.loop-operation.invariant misses
