use Rattle.std.proofs.Common.{◌≡◌, ◌≤◌, ◌<◌, ◌^◌, length, true}
use Rattle.std.specs.Prelude.{All}
use Rattle.cm_history.specs.declared.act.Entry.{Entry}
use Rattle.recorder.specs.Recording.{FirstFits}
use Rattle.recorder.specs.Text.{HasShortLists}
use Rattle.unit_core.specs.inner.Agreeing.{payload_in}
use Rattle.unit_core.proofs.Folds.{Moved}
use Rattle.unit_core.proofs.folding.record_all.Given as goal

abbrev pub invariant-loop-history : goal.invariant-loop-history
invariant-loop-history g l =
    FirstFits (g.R.Recorder.fits l.recorder) l.history.entries
    × All (λ (e : Entry). HasShortLists e.act) l.history.entries
    × (l.payload ≡ payload_in l.history.entries)
    × Moved l.initial.history.entries l.history.entries (g.R.Recorder.recorded l.initial.recorder) (g.R.Recorder.recorded l.recorder)
    × (l.history.spare ≡ l.initial.history.spare)
    × (g.R.Recorder.absent l.recorder ≡ g.R.Recorder.absent l.initial.recorder)
    × (g.R.Recorder.record_faults l.initial.recorder ≤ g.R.Recorder.record_faults l.recorder)
    × (g.R.Recorder.absent l.initial.recorder ≡ true → l.history.entries ≡ l.initial.history.entries)
    × (payload_in l.history.entries < 2 ^ 64)
    × (g.R.Recorder.front l.recorder ≡ g.R.Recorder.front l.initial.recorder)

abbrev pub decreases-loop-history : goal.decreases-loop-history
decreases-loop-history g l = length l.history.entries
