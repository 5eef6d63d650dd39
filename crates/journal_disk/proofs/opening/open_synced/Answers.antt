use Rattle.std.proofs.Common.{◌≡◌, ◌∙◌, ◌-◌, ◌∷◌, [], ℕ, List, Ok, length, drop, sym, ap, subst, arith, length-append, length-drop, take_all}
use Rattle.std.proofs.lemmas.Result.{err_from_is_err_and}
use Rattle.journal_disk.specs.Opened.{front_bytes, mark_bytes, opened}
use Rattle.journal_disk.specs.Log.{IsTold}
use Rattle.journal_disk.specs.inner.NewFile.{MayMake}
use Rattle.journal_disk.specs.inner.Scanning.{IsOfShape, IsScanned}
use Rattle.journal_disk.specs.declared.judging.Shape.{Shape}
use Rattle.journal_disk.proofs.Moments.{started, joined}
use Rattle.journal_disk.proofs.FileReads.{reads-then}
use Rattle.journal_disk.proofs.Found.{unmade-is}
use Rattle.journal_disk.proofs.Scans.{found-opens}
use Rattle.journal_disk.proofs.Openings.{made-begun, found-begun, reading-moments, making-moments}
use Rattle.journal_disk.proofs.opening.open_synced.Goals as goal

pub returns-in_err-new-clause-moments : goal.returns-in_err-new-clause-moments
returns-in_err-new-clause-moments g c = λ file told synced.
    started g.D.Disk.moment g.D.Disk.left_since c.args.disk.now (λ x. opened c.args.config.now c.args.unit x ≡ opened c.args.config.now c.args.unit file)
    (λ x left. ap (opened c.args.config.now c.args.unit) (synced file told x (g.met.D.Disk.only_now c.args.disk.now x left)))

pub returns-in_err-closes-clause-bad : goal.returns-in_err-closes-clause-bad
returns-in_err-closes-clause-bad g c = λ file told.
    let p = err_from_is_err_and c.from_residual-in_err-closes.result c.from_residual-in_err-closes.ensures.1 in
    rw (p.1, p.2) (c.in_err-closes.ensures.bad c.args.config.now c.args.unit file (c.deref.ensures.value ∙ c.in_ok-new.ensures.told) told)

pub returns-in_err-closes-clause-moments : goal.returns-in_err-closes-clause-moments
returns-in_err-closes-clause-moments g c = λ file told synced.
    reading-moments c.args.config.now c.args.unit g.D.Disk.reads g.D.Disk.may_leave g.D.Disk.moment g.D.Disk.left_since c.args.disk.now c.judge.new.disk file told synced c.judge.ensures.reads.moments

pub returns-in_err-make_new-in-Unmade-clause-moments : goal.returns-in_err-make_new-in-Unmade-clause-moments
returns-in_err-make_new-in-Unmade-clause-moments g c = λ file told synced.
    let config = c.args.config.now in
    let unit = c.args.unit in
    let shape = subst (λ (s : Shape). IsOfShape config unit file s) c.in-Unmade.is (c.in_ok-closes.ensures.shape config unit file (c.deref.ensures.value ∙ c.in_ok-new.ensures.told) told) in
    let all = c.deref-in-Unmade.result.now in
    let rest = take_all (length all - 1) (drop 1 all) (omega (arith, length-drop 1 all)) ∙ ap (λ (l : List ℕ). drop 1 l) (c.deref-in-Unmade.ensures.value ∙ c.in_ok-new.ensures.told) in
    joined g.D.Disk.moment g.D.Disk.left_since c.args.disk.now c.judge.new.disk c.make_new.new.disk (λ x. opened config unit x ≡ opened config unit file)
    (reading-moments config unit g.D.Disk.reads g.D.Disk.may_leave g.D.Disk.moment g.D.Disk.left_since c.args.disk.now c.judge.new.disk file told synced c.judge.ensures.reads.moments)
    (making-moments config unit g.D.Disk.reads g.D.Disk.may_leave g.D.Disk.moment g.D.Disk.left_since c.judge.new.disk c.make_new.new.disk file shape.1
    (c.make_new.ensures.moments (mark_bytes config unit) rest (file, c.judge.ensures.reads.kept ∙ told)
    (λ x now. subst (λ (l : List ℕ). MayMake c.in-Unmade.closes (mark_bytes config unit) l) (sym (synced file told x (c.judge.ensures.reads.images x now))) shape.0)))

pub returns-in-Unmade-clause-opened : goal.returns-in-Unmade-clause-opened
returns-in-Unmade-clause-opened g c = λ file told synced.
    let config = c.args.config.now in
    let unit = c.args.unit in
    let shape = subst (λ (s : Shape). IsOfShape config unit file s) c.in-Unmade.is (c.in_ok-closes.ensures.shape config unit file (c.deref.ensures.value ∙ c.in_ok-new.ensures.told) told) in
    unmade-is config unit (front_bytes config unit) file shape.1 ∙ ap (λ h. Ok h.entries) (sym c.empty.ensures)

pub returns-in-Unmade-clause-kept : goal.returns-in-Unmade-clause-kept
returns-in-Unmade-clause-kept g c = λ file told synced.
    let config = c.args.config.now in
    let unit = c.args.unit in
    let shape = subst (λ (s : Shape). IsOfShape config unit file s) c.in-Unmade.is (c.in_ok-closes.ensures.shape config unit file (c.deref.ensures.value ∙ c.in_ok-new.ensures.told) told) in
    let all = c.deref-in-Unmade.result.now in
    let rest = take_all (length all - 1) (drop 1 all) (omega (arith, length-drop 1 all)) ∙ ap (λ (l : List ℕ). drop 1 l) (c.deref-in-Unmade.ensures.value ∙ c.in_ok-new.ensures.told) in
    let read : IsTold (g.D.Disk.reads c.judge.new.disk) = (file, c.judge.ensures.reads.kept ∙ told) in
    let start : c.len.result - 1 ≡ length (front_bytes config unit) = omega (arith, c.len.ensures, ap length c.in_ok-new.ensures.told, length-append (front_bytes config unit) (0 ∷ [])) in
    let same : c.len.result - 1 ≡ c.len.result - 1 = omega arith in
    let may : (x : List ℕ) → g.D.Disk.may_leave c.judge.new.disk x → MayMake c.in-Unmade.closes (mark_bytes config unit) x = λ x now.
    subst (λ (l : List ℕ). MayMake c.in-Unmade.closes (mark_bytes config unit) l) (sym (synced file told x (c.judge.ensures.reads.images x now))) shape.0 in
    made-begun config unit g.D.Disk.reads g.D.Disk.may_leave g.D.Disk.moment g.D.Disk.left_since c.args.disk.now c.judge.new.disk c.make_new.new.disk c.opening_of.result file (c.len.result - 1) (c.len.result - 1) _ told synced
    shape.1 c.judge.ensures.reads.moments (c.make_new.ensures.moments (mark_bytes config unit) rest read may) (c.make_new.ensures.told read) start same
    (c.in_ok-make_new-in-Unmade.ensures.made (mark_bytes config unit) rest read may) (ap (λ s. s.value) c.opening_of.ensures.synced ∙ c.of-synced.ensures) c.opening_of.ensures.entries (ap (λ h. h.entries) c.empty.ensures)

pub returns-in-Unmade-clause-moments : goal.returns-in-Unmade-clause-moments
returns-in-Unmade-clause-moments g c = λ file told synced.
    let config = c.args.config.now in
    let unit = c.args.unit in
    let shape = subst (λ (s : Shape). IsOfShape config unit file s) c.in-Unmade.is (c.in_ok-closes.ensures.shape config unit file (c.deref.ensures.value ∙ c.in_ok-new.ensures.told) told) in
    let all = c.deref-in-Unmade.result.now in
    let rest = take_all (length all - 1) (drop 1 all) (omega (arith, length-drop 1 all)) ∙ ap (λ (l : List ℕ). drop 1 l) (c.deref-in-Unmade.ensures.value ∙ c.in_ok-new.ensures.told) in
    joined g.D.Disk.moment g.D.Disk.left_since c.args.disk.now c.judge.new.disk c.make_new.new.disk (λ x. opened config unit x ≡ opened config unit file)
    (reading-moments config unit g.D.Disk.reads g.D.Disk.may_leave g.D.Disk.moment g.D.Disk.left_since c.args.disk.now c.judge.new.disk file told synced c.judge.ensures.reads.moments)
    (making-moments config unit g.D.Disk.reads g.D.Disk.may_leave g.D.Disk.moment g.D.Disk.left_since c.judge.new.disk c.make_new.new.disk file shape.1
    (c.make_new.ensures.moments (mark_bytes config unit) rest (file, c.judge.ensures.reads.kept ∙ told)
    (λ x now. subst (λ (l : List ℕ). MayMake c.in-Unmade.closes (mark_bytes config unit) l) (sym (synced file told x (c.judge.ensures.reads.images x now))) shape.0)))

pub returns-in_err-history-in-Made-clause-bad : goal.returns-in_err-history-in-Made-clause-bad
returns-in_err-history-in-Made-clause-bad g c = λ file told.
    let config = c.args.config.now in
    let unit = c.args.unit in
    let shape = subst (λ (s : Shape). IsOfShape config unit file s) c.in-Made.is (c.in_ok-closes.ensures.shape config unit file (c.deref.ensures.value ∙ c.in_ok-new.ensures.told) told) in
    let start : c.len.result - 1 ≡ length (front_bytes config unit) = omega (arith, c.len.ensures, ap length c.in_ok-new.ensures.told, length-append (front_bytes config unit) (0 ∷ [])) in
    let scanned = subst (λ k. IsScanned config unit file k 0 []) (sym start) shape.1 in
    let p = err_from_is_err_and c.from_residual-in_err-history-in-Made.result c.from_residual-in_err-history-in-Made.ensures.1 in
    rw (p.1, p.2) (c.in_err-history-in-Made.ensures.bad file (c.judge.ensures.reads.kept ∙ told) scanned)

pub returns-in_err-history-in-Made-clause-moments : goal.returns-in_err-history-in-Made-clause-moments
returns-in_err-history-in-Made-clause-moments g c = λ file told synced.
    let both = reads-then g.D.Disk.reads g.D.Disk.may_leave g.D.Disk.moment g.D.Disk.left_since g.D.Disk.disk_faults c.args.disk.now c.judge.new.disk c.scan.new.disk c.judge.ensures.reads c.scan.ensures.reads in
    reading-moments c.args.config.now c.args.unit g.D.Disk.reads g.D.Disk.may_leave g.D.Disk.moment g.D.Disk.left_since c.args.disk.now c.scan.new.disk file told synced both.moments

pub returns-clause-opened : goal.returns-clause-opened
returns-clause-opened g c = λ file told synced.
    let config = c.args.config.now in
    let unit = c.args.unit in
    let shape = subst (λ (s : Shape). IsOfShape config unit file s) c.in-Made.is (c.in_ok-closes.ensures.shape config unit file (c.deref.ensures.value ∙ c.in_ok-new.ensures.told) told) in
    let start : c.len.result - 1 ≡ length (front_bytes config unit) = omega (arith, c.len.ensures, ap length c.in_ok-new.ensures.told, length-append (front_bytes config unit) (0 ∷ [])) in
    let scanned = subst (λ k. IsScanned config unit file k 0 []) (sym start) shape.1 in
    found-opens config unit file _ _ (c.in_ok-history-in-Made.ensures.found file (c.judge.ensures.reads.kept ∙ told) scanned)

pub returns-clause-kept : goal.returns-clause-kept
returns-clause-kept g c = λ file told synced.
    let config = c.args.config.now in
    let unit = c.args.unit in
    let shape = subst (λ (s : Shape). IsOfShape config unit file s) c.in-Made.is (c.in_ok-closes.ensures.shape config unit file (c.deref.ensures.value ∙ c.in_ok-new.ensures.told) told) in
    let start : c.len.result - 1 ≡ length (front_bytes config unit) = omega (arith, c.len.ensures, ap length c.in_ok-new.ensures.told, length-append (front_bytes config unit) (0 ∷ [])) in
    let scanned = subst (λ k. IsScanned config unit file k 0 []) (sym start) shape.1 in
    let both = reads-then g.D.Disk.reads g.D.Disk.may_leave g.D.Disk.moment g.D.Disk.left_since g.D.Disk.disk_faults c.args.disk.now c.judge.new.disk c.scan.new.disk c.judge.ensures.reads c.scan.ensures.reads in
    found-begun config unit g.D.Disk.reads g.D.Disk.may_leave g.D.Disk.moment g.D.Disk.left_since c.args.disk.now c.scan.new.disk c.opening_of-in-Made.result file (c.len.result - 1) _ _ told synced both.kept both.images both.moments start
    (c.in_ok-history-in-Made.ensures.found file (c.judge.ensures.reads.kept ∙ told) scanned) (ap (λ s. s.value) c.opening_of-in-Made.ensures.synced ∙ c.of-synced.ensures) (c.opening_of-in-Made.ensures.entries ∙ c.len-entries.ensures)

pub returns-clause-moments : goal.returns-clause-moments
returns-clause-moments g c = λ file told synced.
    let both = reads-then g.D.Disk.reads g.D.Disk.may_leave g.D.Disk.moment g.D.Disk.left_since g.D.Disk.disk_faults c.args.disk.now c.judge.new.disk c.scan.new.disk c.judge.ensures.reads c.scan.ensures.reads in
    reading-moments c.args.config.now c.args.unit g.D.Disk.reads g.D.Disk.may_leave g.D.Disk.moment g.D.Disk.left_since c.args.disk.now c.scan.new.disk file told synced both.moments
