use Rattle.cm_server.proofs.by_pass.ByPassRuns.settle.Goals as goal

pub replies-requires : goal.replies-requires
replies-requires g c = λ safe. c.safe.ensures (c.told.ensures safe)
