use Rattle.std.proofs.Common.{◌≡◌, ◌<◌, ◌^◌, ℕ, List, ◌++◌, ◌∷◌, [], length, None, Some, OnOk, OnErr, Option, ap, subst, sym, ◌∙◌}
use Rattle.recorder.specs.Text.{entry_bytes}
use Rattle.journal_disk.specs.Opened.{front_bytes, entry_in}
use Rattle.journal_disk.specs.Disk.{LeavesOnly}
use Rattle.journal_disk.specs.Log.{IsTried, IsKept, HoldsOrOneMore}
use Rattle.journal_disk.specs.inner.Texts.{HasText, HoldsOrThis}
use Rattle.journal_disk.specs.Journal.{OpensAsOrOneMore}
use Rattle.journal_disk.specs.declared.log.Log.{Log}
use Rattle.journal_disk.proofs.Moments.{started, weaker}
use Rattle.journal_disk.proofs.Since.{behind-this, this-of}
use Rattle.journal_disk.proofs.Told.{on-ok, on-ok-then, on-err-then, tried-by}
use Rattle.journal_disk.proofs.Entries.{read-in, one-more, or-one-more, journal-grown, journal-kept}
use Rattle.journal_disk.proofs.journal.Journal.record_entry.Goals as goal

pub returns-in_err-text-clause-any_moment : goal.returns-in_err-text-clause-any_moment
returns-in_err-text-clause-any_moment g c = λ config unit es tried journal may.
    started g.D.Disk.moment g.D.Disk.left_since c.args.self.now.disk (OpensAsOrOneMore config unit es tried c.args.entry.now)
    (λ x left. or-one-more config unit es tried c.args.entry.now x (journal.opens x (g.met.D.Disk.only_now c.args.self.now.disk x left)))

pub returns-clause-text : goal.returns-clause-text
returns-clause-text g c =
    let e = c.args.entry.now in
    let text : c.as_slice.result.now ≡ entry_bytes e = c.as_slice.ensures ∙ c.in_ok-text.ensures.written in
    let short : length (entry_bytes e) < 2 ^ 64 = subst (λ (t : List ℕ). length t < 2 ^ 64) text c.append.ensures.short in
    let has : HasText e = (short, subst (λ (t : List ℕ). entry_in t ≡ Some e) c.in_ok-text.ensures.written (read-in _ e c.in_ok-text.ensures.read_back)) in
    on-ok c.append.result has

pub returns-clause-grown_records : goal.returns-clause-grown_records
returns-clause-grown_records g c = λ front ps last kept.
    let text : c.as_slice.result.now ≡ entry_bytes c.args.entry.now = c.as_slice.ensures ∙ c.in_ok-text.ensures.written in
    subst (λ (t : List ℕ). OnOk c.append.result (IsKept g.D.Disk.reads g.D.Disk.may_leave front (ps ++ (t ∷ [])) None c.append.new.self)) text
    (c.append.ensures.grown front ps last (subst (λ (l : Log _). IsKept g.D.Disk.reads g.D.Disk.may_leave front ps last l) (sym c.self.view_is) kept))

pub returns-clause-kept_records : goal.returns-clause-kept_records
returns-clause-kept_records g c = λ front ps last kept.
    let e = c.args.entry.now in
    let text : c.as_slice.result.now ≡ entry_bytes e = c.as_slice.ensures ∙ c.in_ok-text.ensures.written in
    let short : length (entry_bytes e) < 2 ^ 64 = subst (λ (t : List ℕ). length t < 2 ^ 64) text c.append.ensures.short in
    let has : HasText e = (short, subst (λ (t : List ℕ). entry_in t ≡ Some e) c.in_ok-text.ensures.written (read-in _ e c.in_ok-text.ensures.read_back)) in
    on-err-then c.append.result
    (λ after. (after.0, tried-by last e after.0 has after.1, after.2))
    (subst (λ (t : List ℕ). OnErr c.append.result ((next : Option (List ℕ)) × IsTried last t next × IsKept g.D.Disk.reads g.D.Disk.may_leave front ps next c.append.new.self)) text
    (c.append.ensures.kept front ps last (subst (λ (l : Log _). IsKept g.D.Disk.reads g.D.Disk.may_leave front ps last l) (sym c.self.view_is) kept)))

pub returns-clause-recorded : goal.returns-clause-recorded
returns-clause-recorded g c = λ config unit es tried journal may.
    let e = c.args.entry.now in
    let text : c.as_slice.result.now ≡ entry_bytes e = c.as_slice.ensures ∙ c.in_ok-text.ensures.written in
    let short : length (entry_bytes e) < 2 ^ 64 = subst (λ (t : List ℕ). length t < 2 ^ 64) text c.append.ensures.short in
    let read = subst (λ (t : List ℕ). entry_in t ≡ Some e) c.in_ok-text.ensures.written (read-in _ e c.in_ok-text.ensures.read_back) in
    let kept = subst (λ (l : Log _). IsKept g.D.Disk.reads g.D.Disk.may_leave (front_bytes config unit) journal.payloads journal.begun l) (sym c.self.view_is) journal.kept in
    let grown = subst (λ (t : List ℕ). OnOk c.append.result (IsKept g.D.Disk.reads g.D.Disk.may_leave (front_bytes config unit) (journal.payloads ++ (t ∷ [])) None c.append.new.self)) text
    (c.append.ensures.grown (front_bytes config unit) journal.payloads journal.begun kept) in
    on-ok-then c.append.result
    (λ after. journal-grown config unit g.D.Disk.reads g.D.Disk.may_leave es tried c.args.self.now c.append.new.self (entry_bytes e) e journal (short, read, may)
    (c.append.ensures.start ∙ ap (λ (l : Log _). l.start) c.self.view_is) after)
    grown

pub returns-clause-kept : goal.returns-clause-kept
returns-clause-kept g c = λ config unit es tried journal may.
    let e = c.args.entry.now in
    let text : c.as_slice.result.now ≡ entry_bytes e = c.as_slice.ensures ∙ c.in_ok-text.ensures.written in
    let short : length (entry_bytes e) < 2 ^ 64 = subst (λ (t : List ℕ). length t < 2 ^ 64) text c.append.ensures.short in
    let read = subst (λ (t : List ℕ). entry_in t ≡ Some e) c.in_ok-text.ensures.written (read-in _ e c.in_ok-text.ensures.read_back) in
    let kept = subst (λ (l : Log _). IsKept g.D.Disk.reads g.D.Disk.may_leave (front_bytes config unit) journal.payloads journal.begun l) (sym c.self.view_is) journal.kept in
    let stays = subst (λ (t : List ℕ). OnErr c.append.result ((next : Option (List ℕ)) × IsTried journal.begun t next × IsKept g.D.Disk.reads g.D.Disk.may_leave (front_bytes config unit) journal.payloads next c.append.new.self)) text
    (c.append.ensures.kept (front_bytes config unit) journal.payloads journal.begun kept) in
    on-err-then c.append.result
    (λ after. journal-kept config unit g.D.Disk.reads g.D.Disk.may_leave es tried c.args.self.now c.append.new.self (entry_bytes e) e journal (short, read, may)
    (c.append.ensures.start ∙ ap (λ (l : Log _). l.start) c.self.view_is) after)
    stays

pub returns-clause-any_moment : goal.returns-clause-any_moment
returns-clause-any_moment g c = λ config unit es tried journal may.
    let e = c.args.entry.now in
    let text : c.as_slice.result.now ≡ entry_bytes e = c.as_slice.ensures ∙ c.in_ok-text.ensures.written in
    let short : length (entry_bytes e) < 2 ^ 64 = subst (λ (t : List ℕ). length t < 2 ^ 64) text c.append.ensures.short in
    let read = subst (λ (t : List ℕ). entry_in t ≡ Some e) c.in_ok-text.ensures.written (read-in _ e c.in_ok-text.ensures.read_back) in
    let kept = subst (λ (l : Log _). IsKept g.D.Disk.reads g.D.Disk.may_leave (front_bytes config unit) journal.payloads journal.begun l) (sym c.self.view_is) journal.kept in
    let run = subst (λ (t : List ℕ). LeavesOnly g.D.Disk.moment g.D.Disk.left_since c.self.inside.log.disk c.append.new.self.disk (HoldsOrOneMore (front_bytes config unit) journal.payloads journal.begun t)) text
    (c.append.ensures.any_moment (front_bytes config unit) journal.payloads journal.begun kept) in
    subst (λ (l : Log _). LeavesOnly g.D.Disk.moment g.D.Disk.left_since l.disk c.append.new.self.disk (OpensAsOrOneMore config unit es tried e)) c.self.view_is
    (weaker g.D.Disk.moment g.D.Disk.left_since c.self.inside.log.disk c.append.new.self.disk (HoldsOrOneMore (front_bytes config unit) journal.payloads journal.begun (entry_bytes e)) (OpensAsOrOneMore config unit es tried e)
    (λ x holds. one-more config unit journal.payloads es journal.begun tried (entry_bytes e) e x journal.spelled journal.tries (short, read, may) holds) run)

pub returns-in_err-text-clause-held_records : goal.returns-in_err-text-clause-held_records
returns-in_err-text-clause-held_records g c = λ front ps last kept.
    started g.D.Disk.moment g.D.Disk.left_since c.args.self.now.disk (HoldsOrThis front ps last c.args.entry.now)
    (λ x left. behind-this front ps last c.args.entry.now x (kept.images x (g.met.D.Disk.only_now c.args.self.now.disk x left)))

pub returns-clause-held_records : goal.returns-clause-held_records
returns-clause-held_records g c = λ front ps last kept.
    let e = c.args.entry.now in
    let text : c.as_slice.result.now ≡ entry_bytes e = c.as_slice.ensures ∙ c.in_ok-text.ensures.written in
    let short : length (entry_bytes e) < 2 ^ 64 = subst (λ (t : List ℕ). length t < 2 ^ 64) text c.append.ensures.short in
    let has : HasText e = (short, subst (λ (t : List ℕ). entry_in t ≡ Some e) c.in_ok-text.ensures.written (read-in _ e c.in_ok-text.ensures.read_back)) in
    let run = c.append.ensures.any_moment front ps last (subst (λ (l : Log _). IsKept g.D.Disk.reads g.D.Disk.may_leave front ps last l) (sym c.self.view_is) kept) in
    subst (λ (l : Log _). LeavesOnly g.D.Disk.moment g.D.Disk.left_since l.disk c.append.new.self.disk (HoldsOrThis front ps last e)) c.self.view_is
    (weaker g.D.Disk.moment g.D.Disk.left_since c.self.inside.log.disk c.append.new.self.disk (HoldsOrOneMore front ps last c.as_slice.result.now) (HoldsOrThis front ps last e)
    (λ x holds. this-of front ps last e c.as_slice.result.now x text has holds) run)
