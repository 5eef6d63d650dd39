use Rattle.std.proofs.Common.{List, map, subst}
use Rattle.cm_server.specs.Stored.{AreAsGiven, HaveFailed, IsBadHistory, IsBadOn}
use Rattle.cm_server.proofs.Left.{of-store}
use Rattle.cm_server.proofs.stored.serve_stored_at.Goals as goal

pub returns-in_default-clause-bad : goal.returns-in_default-clause-bad
returns-in_default-clause-bad g c = λ n place asked bad. c.in_default.ensures.other n asked

pub returns-clause-asked : goal.returns-clause-asked
returns-clause-asked g c = λ none. absurd (none c.in-Some.count c.in-Some.ensures.asked)

pub returns-clause-bad_journal : goal.returns-clause-bad_journal
returns-clause-bad_journal g c = λ unit place is. (
  c.in-Ok.config,
  c.in-Ok.ensures.whole,
  subst (IsBadOn g.D.Disk.reads c.in-Ok.config unit place) c.into_vec-disks.ensures (c.serve_disks.ensures.bad unit place is),
)

pub returns-clause-disk : goal.returns-clause-disk
returns-clause-disk g c = λ is.
    subst (λ (l : List g.row.D.Denot). HaveFailed (map g.D.Disk.disk_faults l) (map g.D.Disk.disk_faults c.serve_disks.result.disks)) c.into_vec-disks.ensures (c.serve_disks.ensures.failed is)

pub returns-clause-bad_history : goal.returns-clause-bad_history
returns-clause-bad_history g c = λ unit entry is. (
  c.in-Ok.config,
  c.in-Ok.ensures.whole,
  subst (IsBadHistory g.D.Disk.reads c.in-Ok.config unit entry) c.into_vec-disks.ensures (c.serve_disks.ensures.history unit entry is),
)

pub returns-clause-untouched : goal.returns-clause-untouched
returns-clause-untouched g c =
    of-store c.serve_disks.result.status _ _
    (λ are. (
      c.in-Ok.config,
      c.in-Ok.ensures.whole,
      subst (λ (l : List g.row.D.Denot). AreAsGiven g.D.Disk.may_leave g.D.Disk.moment g.D.Disk.left_since g.D.Disk.reads c.in-Ok.config 0 l c.serve_disks.result.disks) c.into_vec-disks.ensures are,
    )) c.serve_disks.ensures.like

pub returns-clause-kept : goal.returns-clause-kept
returns-clause-kept g c = λ is. absurd (c.serve_disks.ensures.known is)

pub returns-clause-kept_unread : goal.returns-clause-kept_unread
returns-clause-kept_unread g c = λ place is. absurd (c.serve_disks.ensures.good place is)
