use Rattle.std.proofs.Common.{refl}
use Rattle.cm_history.specs.declared.answer.Answer.{Answer}
use Rattle.xcopy_exec.specs.Meaning.{given, tally, move, later}
use Rattle.xcopy_exec.proofs.Putting.{captured-blocks, first-piece}
use Rattle.xcopy_exec.proofs.list_copy.ListCopy.putting.Goals as goal

pub returns-clause-program : goal.returns-clause-program
returns-clause-program c =
    let copy = c.args.self in
    λ config. rw (c.from.ensures)
    (captured-blocks (given copy) (move config copy c.args.segment) (later config copy) (tally copy.counted) c.args.blocks (Answer.Blocks c.args.blocks) refl c.requires)

pub returns-clause-sound : goal.returns-clause-sound
returns-clause-sound c =
    λ config within are. rw (c.from.ensures)
    (first-piece config c.args.self c.args.segment c.args.blocks within are)
