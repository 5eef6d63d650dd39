use Rattle.trace_check.proofs.machine.Machine.play.Goals as goal

pub returns-in-Begin : goal.returns-in-Begin
returns-in-Begin c = λ config s is. rw c.in-Begin.is (c.begin.ensures config s c.in-Begin.moment is)

pub returns-in-Run : goal.returns-in-Run
returns-in-Run c = λ config s is. rw c.in-Run.is (c.run.ensures config s is)

pub returns-in-Pump : goal.returns-in-Pump
returns-in-Pump c = λ config s is. rw c.in-Pump.is (c.pump.ensures config s is)
