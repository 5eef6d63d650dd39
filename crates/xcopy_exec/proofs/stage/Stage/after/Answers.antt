use Rattle.xcopy_exec.proofs.stage.Stage.after.Goals as goal

pub returns-in-Closing-clause-sound : goal.returns-in-Closing-clause-sound
returns-in-Closing-clause-sound c = c.closed.ensures.sound c.args.config.now
