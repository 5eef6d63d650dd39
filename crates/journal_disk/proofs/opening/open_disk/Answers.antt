use Rattle.std.proofs.Common.{◌≡◌, ◌∙◌, sym, subst}
use Rattle.journal_disk.specs.Opened.{opened}
use Rattle.journal_disk.specs.Disk.{IsSyncedFirst}
use Rattle.journal_disk.proofs.FileReads.{reads-call, reads-then}
use Rattle.journal_disk.proofs.Openings.{syncs-first, synced-first}
use Rattle.journal_disk.proofs.Told.{on-ok, ok-then, err-then}
use Rattle.journal_disk.proofs.opening.open_disk.Goals as goal

pub returns-clause-bad : goal.returns-clause-bad
returns-clause-bad g c = λ file told. c.open_synced.ensures.bad file (c.sync.ensures.kept ∙ told)

pub returns-clause-synced : goal.returns-clause-synced
returns-clause-synced g c = λ file told.
    on-ok c.open_synced.result
    (syncs-first c.args.config.now c.args.unit g.D.Disk.reads g.D.Disk.may_leave g.D.Disk.moment g.D.Disk.left_since g.met.D.Disk.only_now c.args.disk.now c.sync.new.self c.open_synced.new.disk
    (λ x. opened c.args.config.now c.args.unit x ≡ opened c.args.config.now c.args.unit file) c.sync.ensures.kept c.sync.ensures.crash c.sync.ensures.time c.in_ok-sync.ensures.synced
    (c.open_synced.ensures.moments file (c.sync.ensures.kept ∙ told) c.in_ok-sync.ensures.synced))

pub returns-clause-first : goal.returns-clause-first
returns-clause-first g c =
    ok-then c.open_synced.result (λ r is. subst (λ (d : _). IsSyncedFirst g.D.Disk.reads g.D.Disk.may_leave g.D.Disk.moment g.D.Disk.left_since c.args.disk.now d) (sym is)
    (synced-first c.args.config.now c.args.unit g.D.Disk.reads g.D.Disk.may_leave g.D.Disk.moment g.D.Disk.left_since g.met.D.Disk.only_now c.args.disk.now c.sync.new.self c.sync.ensures.kept c.sync.ensures.crash c.sync.ensures.time
    c.in_ok-sync.ensures.synced)) c.open_synced.ensures.began

pub returns-clause-untouched : goal.returns-clause-untouched
returns-clause-untouched g c =
    err-then c.open_synced.result (λ e to place is. reads-then g.D.Disk.reads g.D.Disk.may_leave g.D.Disk.moment g.D.Disk.left_since g.D.Disk.disk_faults c.args.disk.now c.sync.new.self c.open_synced.new.disk
    (reads-call g.D.Disk.reads g.D.Disk.may_leave g.D.Disk.moment g.D.Disk.left_since g.D.Disk.disk_faults g.met.D.Disk.only_now c.args.disk.now c.sync.new.self c.sync.ensures.kept c.sync.ensures.crash c.sync.ensures.time c.sync.ensures.counts)
    (to place is)) c.open_synced.ensures.untouched
