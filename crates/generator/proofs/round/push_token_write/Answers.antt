use Rattle.std.proofs.Common.{◌≡◌, ℕ, List, ◌++◌, ◌∷◌, [], ap, ◌∙◌}
use Rattle.cm_frame.specs.declared.item.TraceItem.{TraceItem}
use Rattle.scsi_cdb.specs.declared.cdb.Cdb.{Cdb}
use Rattle.generator.specs.Rounds.{command, run_of, write_list}
use Rattle.generator.proofs.Spelled.{spelled, goes_on, grows, one}
use Rattle.generator.proofs.round.push_token_write.Goals as goal

pub returns : goal.returns
returns c =
    let r = c.args.round in
    let asked = command r 1 (Cdb.WriteUsingToken r 552) (write_list r) in
    let list : c.as_slice.result.now ≡ write_list r = c.as_slice.ensures ∙ c.in_ok-list.ensures in
    let write = ap (λ (out : List ℕ). c.args.trace.now ++ spelled (command r 1 (Cdb.WriteUsingToken r 552) out)) list in
    let ran = goes_on c.args.trace.now c.push_command.new.trace c.push_run.new.trace asked (run_of r ∷ [])
    (c.in_ok-push_command.ensures ∙ write) (c.in_ok-push_run.ensures ∙ ap (λ (l : List ℕ). c.push_command.new.trace ++ l) (one (run_of r))) in
    grows c.push_pump.result c.args.trace.now c.push_run.new.trace c.push_pump.new.trace (asked ++ run_of r ∷ []) (TraceItem.Pump 1 r ∷ []) _
    (one (TraceItem.Pump 1 r)) ran c.push_pump.ensures
