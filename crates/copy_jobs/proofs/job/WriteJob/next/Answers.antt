use Rattle.std.proofs.Common.{arith, refl}
use Rattle.std.proofs.lemmas.Bool.Decides.{nat_tests}
use Rattle.copy_jobs.proofs.Cuts.{piece-is}
use Rattle.copy_jobs.proofs.job.WriteJob.next.Goals as goal

pub returns-clause-piece : goal.returns-clause-piece
returns-clause-piece c =
    piece-is c.args.self.now _ c.min-count.result c.requires.job c.requires.left (omega arith)
    (grind arith) (grind arith) c.in_ok-ranges.ensures.within refl (grind (arith, nat_tests))
