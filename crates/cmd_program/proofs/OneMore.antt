-- One more outcome moves the program once more
use Rattle.std.proofs.Common.{◌≡◌, List, [], ◌∷◌, ◌++◌, refl}
use Rattle.cm_base.specs.Configuration.{Configuration}
use Rattle.cm_frame.specs.declared.frame.Request.{Request}
use Rattle.cmd_program.specs.declared.step.Outcome.{Outcome}
use Rattle.cmd_program.specs.Program.{Program, moved}
use Rattle.cmd_program.specs.Judging.{program, program_after}
use Rattle.std.specs.Prelude.{fold}

fold_one_more : (p : Program) (os : List Outcome) (o : Outcome) → fold moved p (os ++ o ∷ []) ≡ moved (fold moved p os) o
fold_one_more p [] o = refl
fold_one_more p (x ∷ os) o = fold_one_more (moved p x) os o

pub one_more : (config : Configuration) (r : Request) (os : List Outcome) (o : Outcome)
    → program_after config r (os ++ o ∷ []) ≡ moved (program_after config r os) o
one_more config r os o = fold_one_more (program config r) os o
