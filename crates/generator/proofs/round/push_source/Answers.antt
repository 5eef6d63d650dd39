use Rattle.std.proofs.Common.{◌≡◌, ℕ, List, ◌++◌, ◌∷◌, [], ap, ap₂, ◌∙◌}
use Rattle.lba_ranges.specs.declared.ranges.Range.{Range}
use Rattle.scsi_cdb.specs.declared.cdb.Cdb.{Cdb}
use Rattle.block_params.specs.ListsWritten.{populate_written}
use Rattle.generator.specs.Rounds.{command, source, written, populate_list}
use Rattle.generator.proofs.Spelled.{spelled, grows}
use Rattle.generator.proofs.round.push_source.Goals as goal

pub returns : goal.returns
returns c =
    let r = c.args.round in
    let write = ap₂ (λ (range : Range) (out : List ℕ). c.args.trace.now ++ spelled (command r 0 (Cdb.Write range.lba 8) out))
    c.source-range.ensures c.data.ensures in
    let list : c.populate_list.result ≡ populate_list r =
    c.populate_list.ensures ∙ ap (λ (range : Range). populate_written (record { timeout = 0; ranges = range ∷ [] })) c.source-range.ensures in
    grows c.push_command-2.result c.args.trace.now c.push_command.new.trace c.push_command-2.new.trace
    (command r 0 (Cdb.Write (source r).lba 8) (written r)) (command r 0 (Cdb.PopulateToken r 32) (populate_list r)) _
    (ap (λ (out : List ℕ). spelled (command r 0 (Cdb.PopulateToken r 32) out)) list)
    (c.in_ok-push_command.ensures ∙ write) c.push_command-2.ensures
