use Rattle.journal_disk.proofs.Good.{append-stays}
use Rattle.journal_disk.proofs.journal.Journal.append.Goals as goal

pub returns-clause-good : goal.returns-clause-good
returns-clause-good g c = λ config unit es tried journal may.
    append-stays g.D.Disk.reads g.D.Disk.may_leave config unit g.D.Disk.moment g.D.Disk.left_since g.met.D.Disk.counts_now c.record_entry.result es tried c.args.entry.now c.args.self.now c.record_entry.new.self
    (c.record_entry.ensures.recorded config unit es tried journal may) (c.record_entry.ensures.kept config unit es tried journal may) (c.record_entry.ensures.any_moment config unit es tried journal may)
