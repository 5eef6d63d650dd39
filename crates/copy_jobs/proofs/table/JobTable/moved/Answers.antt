use Rattle.copy_jobs.proofs.Next.{told-busy}
use Rattle.copy_jobs.proofs.table.JobTable.moved.Goals as goal

pub change-requires-clause-busy : goal.change-requires-clause-busy
change-requires-clause-busy c = told-busy c.args.key c.args.self.now c.args.blocks c.requires.piece
