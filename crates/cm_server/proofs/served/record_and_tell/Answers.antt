use Rattle.cm_server.specs.inner.Recording.{finals}
use Rattle.cm_server.proofs.Back.{all-same}
use Rattle.cm_server.proofs.Left.{if-reported}
use Rattle.cm_server.proofs.Ran.{unless-not}
use Rattle.unit_gate.specs.Recorded.{facts}
use Rattle.cm_server.proofs.served.record_and_tell.Goals as goal

pub record_all-requires : goal.record_all-requires
record_all-requires g c = unless-not c.args.left.now.ran.end _ c.in_default.not-OutOfMemory c.requires.writable

pub returns-in-OutOfMemory-clause-back : goal.returns-in-OutOfMemory-clause-back
returns-in-OutOfMemory-clause-back g c =
    all-same (finals (facts g.R.Recorder.recorded g.R.Recorder.record_faults g.R.Recorder.absent g.R.Recorder.front) c.args.left.now.units.items)

pub returns-clause-told : goal.returns-clause-told
returns-clause-told g c = λ term asked ends ran.
    if-reported c.tell.result _ _ (λ told. (c.in-Ok.kept, c.in-Ok.ensures.recorded, told)) (c.tell.ensures.told term asked ends ran)
