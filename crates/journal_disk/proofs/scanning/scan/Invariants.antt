use Rattle.std.proofs.Common.{◌≡◌, ◌<◌, ◌-◌, ℕ, List, [], Some, length, drop, IfSome}
use Rattle.journal_disk.specs.Journal.{AreInOrder, last_stamp}
use Rattle.journal_disk.specs.Opened.{begins_open}
use Rattle.journal_disk.specs.Disk.{OnlyReads}
use Rattle.journal_disk.specs.inner.Scanning.{IsScanned}
use Rattle.journal_disk.proofs.scanning.scan.Given as goal

abbrev pub invariant-loop-opens : goal.invariant-loop-opens
invariant-loop-opens g l = record {
  within : l.gate < l.size;
  reads : OnlyReads g.D.Disk.reads g.D.Disk.may_leave g.D.Disk.moment g.D.Disk.left_since g.D.Disk.disk_faults l.fn.disk l.disk;
  size : IfSome (g.D.Disk.reads l.disk) (λ file. l.size ≡ length file);
  scanned : (file : List ℕ) → g.D.Disk.reads l.fn.disk ≡ Some file → IsScanned l.config l.unit file l.start 0 [] → IsScanned l.config l.unit file l.gate l.last l.history.entries;
  order : AreInOrder l.config l.unit 0 l.history.entries;
  stamp : l.last ≡ last_stamp 0 l.history.entries;
  opens : IfSome (g.D.Disk.reads l.fn.disk) (λ file. l.opens ≡ begins_open (drop l.gate file));
}

abbrev pub decreases-loop-opens : goal.decreases-loop-opens
decreases-loop-opens g l = l.size - l.gate
