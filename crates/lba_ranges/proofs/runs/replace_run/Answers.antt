use Rattle.std.specs.Prelude.{slice_set}
use Rattle.std.proofs.lemmas.List.{length-set}
use Rattle.smallvec.proofs.SmallVecLemmas.{items-with_items}
use Rattle.lba_ranges.proofs.runs.replace_run.Goals as goal

pub returns : goal.returns
returns c =
    let runs = c.args.runs.now in
    rw c.deref_mut.ensures.value (items-with_items runs (slice_set runs.items c.args.index c.args.run) (length-set runs.items c.args.index c.args.run))
