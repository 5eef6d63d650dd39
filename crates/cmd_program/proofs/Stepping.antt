-- What drives a command asks of it: its next step, from the request and the outcomes so far
use Rattle.std.specs.Prelude.{◌≡◌, ℕ, List, ◌∷◌, ◌++◌, false}
use Rattle.cm_base.specs.Configuration.{Configuration}
use Rattle.cm_frame.specs.declared.frame.Request.{Request}
use Rattle.cm_frame.specs.declared.frame.Reply.{Reply}
use Rattle.cmd_program.specs.declared.step.Outcome.{Outcome}
use Rattle.cmd_program.specs.declared.step.Outcome.TheVariants.{NoMemory}
use Rattle.cmd_program.specs.declared.step.Step.{Step}
use Rattle.cmd_program.specs.Stepping.{Stepping, gave_up}

-- the command goes on, or ends BUSY
abbrev pub IsBusyAtEnd : Step → Type 0
IsBusyAtEnd (Step.Do unit act) = Unit {0}
IsBusyAtEnd (Step.Done reply) = reply ≡ Reply.Busy

-- A command that gave up for want of memory ends BUSY, whatever comes of its last act.
abbrev pub EndsBusy : Stepping → Type 0
EndsBusy step = (config : Configuration) (nexus : ℕ) (request : Request) (before after : List Outcome)
    → gave_up before ≡ false → IsBusyAtEnd (step config nexus request (before ++ NoMemory ∷ after))
