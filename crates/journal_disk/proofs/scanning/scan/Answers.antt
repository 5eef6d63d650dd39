use Rattle.std.proofs.Common.{◌≡◌, ◌∙◌, ◌<◌, ◌+◌, ◌++◌, ◌∷◌, [], List, Option, None, Err, length, drop, true, false, sym, ap, subst, arith, rules, refl}
use Rattle.std.specs.Prelude.{IfSome}
use Rattle.cm_history.specs.declared.act.Entry.{Entry}
use Rattle.journal_disk.specs.Journal.{AreInOrder, last_stamp}
use Rattle.journal_disk.specs.Opened.{begins_open, may_follow}
use Rattle.journal_disk.specs.inner.Scanning.{IfNext, IsScanned}
use Rattle.journal_disk.specs.declared.scanning.Next.{Next}
use Rattle.journal_disk.proofs.FileReads.{of-told, to-told, reads-then}
use Rattle.journal_disk.proofs.Entries.{last-push}
use Rattle.journal_disk.proofs.Scans.{order-push, scanned-cut, scanned-more, scanned-found}
use Rattle.journal_disk.proofs.scanning.scan.Goals as goal

pub returns-in_default-clause-bad : goal.returns-in_default-clause-bad
returns-in_default-clause-bad g c = λ file told start place is.
    let i = c.loop-opens.invariant in
    let gate = c.loop-opens.gate in
    let opens : begins_open (drop gate file) ≡ true = sym (of-told (g.D.Disk.reads c.args.disk.now) (λ f. c.loop-opens.opens ≡ begins_open (drop gate f)) file told i.opens) ∙ c.loop-opens-test.true in
    let none : c.in_ok-next.field-0 ≡ None = search rules in
    let place_is : gate + 1 ≡ place = cc is in
    scanned-cut c.args.config.now c.args.unit file gate c.loop-opens.last c.loop-opens.history.entries (i.scanned file told start) opens
    (subst (λ (o : Option Next). IfNext c.args.config.now c.args.unit c.loop-opens.last gate file o) none (c.in_ok-next.ensures.next file (i.reads.kept ∙ told)))
    ∙ ap (λ k. Err k) place_is

pub loop-opens-preserved : goal.loop-opens-preserved
loop-opens-preserved g c =
    let i = c.loop-opens.invariant in
    let gate = c.loop-opens.gate in
    let n = c.in-Some.next in
    let inside : gate + 9 + n.size < c.args.size = subst (λ (o : Option Next). IfSome o (λ m. gate + 9 + m.size < c.args.size)) c.in-Some.is c.in_ok-next.ensures.inside in
    let until = reads-then g.D.Disk.reads g.D.Disk.may_leave g.D.Disk.moment g.D.Disk.left_since g.D.Disk.disk_faults c.args.disk.now c.loop-opens.disk c.next_at.new.disk i.reads c.next_at.ensures.reads in
    let grown : c.push.new.self.entries ≡ c.loop-opens.history.entries ++ n.entry ∷ [] = c.in_ok-push.ensures.ok in
    record {
      within = omega (arith, inside);
      reads = reads-then g.D.Disk.reads g.D.Disk.may_leave g.D.Disk.moment g.D.Disk.left_since g.D.Disk.disk_faults c.args.disk.now c.next_at.new.disk c.is_open-in-loop-opens.new.disk until c.is_open-in-loop-opens.ensures.reads;
      size = to-told (g.D.Disk.reads c.loop-opens.disk) (g.D.Disk.reads c.is_open-in-loop-opens.new.disk) (λ f. c.args.size ≡ length f) (c.is_open-in-loop-opens.ensures.reads.kept ∙ c.next_at.ensures.reads.kept) i.size;
      scanned = λ file told start.
          let opens : begins_open (drop gate file) ≡ true = sym (of-told (g.D.Disk.reads c.args.disk.now) (λ f. c.loop-opens.opens ≡ begins_open (drop gate f)) file told i.opens) ∙ c.loop-opens-test.true in
          let next = subst (λ (o : Option Next). IfNext c.args.config.now c.args.unit c.loop-opens.last gate file o) c.in-Some.is (c.in_ok-next.ensures.next file (i.reads.kept ∙ told)) in
          subst (λ (es : List Entry). IsScanned c.args.config.now c.args.unit file (gate + (9 + n.size)) n.entry.stamp es) (sym grown)
          (scanned-more c.args.config.now c.args.unit file gate c.loop-opens.last n.size c.loop-opens.history.entries n.entry (gate + (9 + n.size)) refl (i.scanned file told start) opens next);
      order =
          let may : may_follow c.args.config.now c.args.unit c.loop-opens.last n.entry ≡ true =
          subst (λ (o : Option Next). IfSome o (λ m. may_follow c.args.config.now c.args.unit c.loop-opens.last m.entry ≡ true)) c.in-Some.is c.in_ok-next.ensures.follows in
          subst (AreInOrder c.args.config.now c.args.unit 0) (sym grown)
          (order-push c.args.config.now c.args.unit 0 c.loop-opens.history.entries n.entry i.order
          (subst (λ k. may_follow c.args.config.now c.args.unit k n.entry ≡ true) i.stamp may));
      stamp = sym (last-push 0 c.loop-opens.history.entries n.entry) ∙ ap (last_stamp 0) (sym grown);
      opens = to-told (g.D.Disk.reads c.next_at.new.disk) (g.D.Disk.reads c.args.disk.now) (λ f. c.in_ok-opens-2.opens ≡ begins_open (drop (gate + (9 + n.size)) f)) (sym until.kept) c.in_ok-opens-2.ensures.told;
    }

pub returns-clause-found : goal.returns-clause-found
returns-clause-found g c = λ file told start.
    let i = c.loop-opens.invariant in
    let gate = c.loop-opens.gate in
    let shut : begins_open (drop gate file) ≡ false = sym (of-told (g.D.Disk.reads c.args.disk.now) (λ f. c.loop-opens.opens ≡ begins_open (drop gate f)) file told i.opens) ∙ c.loop-opens-test.false in
    scanned-found c.args.config.now c.args.unit file gate c.loop-opens.last c.loop-opens.history.entries (i.scanned file told start) shut
