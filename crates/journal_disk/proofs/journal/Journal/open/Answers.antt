use Rattle.std.proofs.Common.{◌≡◌, ◌∙◌, ◌∷◌, None, Some, false, inl, inr, sym, subst, ap, length}
use Rattle.journal_disk.specs.Opened.{front_bytes, opened}
use Rattle.journal_disk.specs.Journal.{IsJournal, IsLikeGiven, StaysGood, SyncsFirst}
use Rattle.journal_disk.specs.Recording.{recorded_in, life_in, IsFit}
use Rattle.journal_disk.specs.declared.log.Log.{Log}
use Rattle.journal_disk.proofs.Good.{open-stays, refused-stays, never-bad}
use Rattle.journal_disk.proofs.Openings.{told-or-not, journal-fits, journal-recorded}
use Rattle.journal_disk.proofs.Since.{like-given}
use Rattle.journal_disk.proofs.Told.{kept-life}
use Rattle.journal_disk.proofs.journal.Journal.open.Goals as goal

pub returns-in-Ok-clause-recorded : goal.returns-in-Ok-clause-recorded
returns-in-Ok-clause-recorded g c = λ file told.
    let found = c.in-Ok.found in
    subst (λ (l : Log _). recorded_in l.start l.gate (g.D.Disk.reads l.disk) ≡ Some found.history.entries) (sym c.over.ensures)
    (journal-recorded c.args.config.now c.args.unit g.D.Disk.reads g.D.Disk.may_leave g.met.D.Disk.reads_left found.history.entries None
    (record { disk = c.open_disk.new.disk; start = found.start; gate = found.gate; begun = false; opening = found.opening }) (c.in-Ok.ensures.kept file told).journal)

pub returns-in-Ok-clause-front : goal.returns-in-Ok-clause-front
returns-in-Ok-clause-front g c = λ file told.
    let found = c.in-Ok.found in
    let begun = c.in-Ok.ensures.kept file told in
    let front = front_bytes c.args.config.now c.args.unit in
    subst (λ (l : Log _). life_in (g.D.Disk.moment l.opening.synced.value) l.opening.entries.value l.start (g.D.Disk.reads l.disk) ≡ Some (g.D.Disk.moment l.opening.synced.value ∷ length found.history.entries ∷ front)) (sym c.over.ensures)
    (kept-life g.D.Disk.reads g.D.Disk.may_leave g.met.D.Disk.reads_left (g.D.Disk.moment found.opening.synced.value) found.opening.entries.value front begun.journal.payloads begun.journal.begun
    (record { disk = c.open_disk.new.disk; start = found.start; gate = found.gate; begun = false; opening = found.opening }) begun.journal.kept begun.journal.start
    ∙ ap (λ n. Some (g.D.Disk.moment found.opening.synced.value ∷ n ∷ front)) begun.count)

pub returns-in-Ok-clause-fits : goal.returns-in-Ok-clause-fits
returns-in-Ok-clause-fits g c = λ e.
    let found = c.in-Ok.found in
    subst (λ (l : Log _). IsFit g.D.Disk.reads g.D.Disk.may_leave g.D.Disk.moment g.D.Disk.left_since l e) (sym c.over.ensures)
    (elim (told-or-not (g.D.Disk.reads c.args.disk)) [
      | inl none ↦ inl (c.open_disk.ensures.untold none)
      | inr told ↦ journal-fits c.args.config.now c.args.unit g.D.Disk.reads g.D.Disk.may_leave g.D.Disk.moment g.D.Disk.left_since found.history.entries (record { disk = c.open_disk.new.disk; start = found.start; gate = found.gate; begun = false; opening = found.opening }) e (c.in-Ok.ensures.kept told.0 told.1)
    ])

pub returns-in-Ok-clause-any_moment : goal.returns-in-Ok-clause-any_moment
returns-in-Ok-clause-any_moment g c = λ file told.
    subst (λ (l : Log _). SyncsFirst g.D.Disk.reads g.D.Disk.may_leave g.D.Disk.moment g.D.Disk.left_since c.args.disk l.disk (λ x. opened c.args.config.now c.args.unit x ≡ opened c.args.config.now c.args.unit file)) (sym c.over.ensures)
    (c.in-Ok.ensures.synced file told)

pub returns-in-Ok-clause-good : goal.returns-in-Ok-clause-good
returns-in-Ok-clause-good g c = λ good.
    subst (λ (l : Log _). StaysGood g.D.Disk.reads g.D.Disk.may_leave g.D.Disk.moment g.D.Disk.left_since c.args.config.now c.args.unit c.args.disk l.disk) (sym c.over.ensures)
    (open-stays g.D.Disk.reads g.D.Disk.may_leave c.args.config.now c.args.unit g.D.Disk.moment g.D.Disk.left_since g.met.D.Disk.reads_left g.met.D.Disk.counts_now c.args.disk good
    c.open_disk.new.disk (c.open_disk.ensures.told good.told) (c.in-Ok.ensures.synced good.told.0 good.told.1))

pub returns-in-Err-clause-good_refused : goal.returns-in-Err-clause-good_refused
returns-in-Err-clause-good_refused g c = λ good.
    refused-stays g.D.Disk.reads g.D.Disk.may_leave c.args.config.now c.args.unit g.D.Disk.moment g.D.Disk.left_since g.met.D.Disk.reads_left g.met.D.Disk.counts_now c.args.disk good
    c.open_disk.new.disk (c.open_disk.ensures.told good.told) (c.in-Err.ensures.refused good.told.0 good.told.1)

pub returns-in-Err-clause-never_bad : goal.returns-in-Err-clause-never_bad
returns-in-Err-clause-never_bad g c = λ good.
    never-bad g.D.Disk.reads g.D.Disk.may_leave c.args.config.now c.args.unit g.D.Disk.moment g.D.Disk.left_since g.met.D.Disk.reads_left g.met.D.Disk.counts_now c.args.disk good
    c.in-Err.fault (c.in-Err.ensures.bad good.told.0 good.told.1)

pub returns-in-Ok-clause-kept : goal.returns-in-Ok-clause-kept
returns-in-Ok-clause-kept g c = λ file told.
    subst (λ (l : Log _). IsJournal g.D.Disk.reads g.D.Disk.may_leave c.args.config.now c.args.unit c.in-Ok.found.history.entries None l) (sym c.over.ensures) (c.in-Ok.ensures.kept file told).journal

pub returns-in-Ok-clause-like_given : goal.returns-in-Ok-clause-like_given
returns-in-Ok-clause-like_given g c = λ file told.
    subst (λ (l : Log _). IsLikeGiven g.D.Disk.may_leave g.D.Disk.moment g.D.Disk.left_since c.args.config.now c.args.unit file c.args.disk l.disk) (sym c.over.ensures)
    (like-given c.args.config.now c.args.unit g.D.Disk.reads g.D.Disk.may_leave g.D.Disk.moment g.D.Disk.left_since c.args.disk c.open_disk.new.disk file (inr (c.in-Ok.ensures.synced file told)))

pub returns-in-Err-clause-like_given_refused : goal.returns-in-Err-clause-like_given_refused
returns-in-Err-clause-like_given_refused g c = λ file told.
    like-given c.args.config.now c.args.unit g.D.Disk.reads g.D.Disk.may_leave g.D.Disk.moment g.D.Disk.left_since c.args.disk c.open_disk.new.disk file (c.in-Err.ensures.refused file told)
