use Rattle.std.proofs.Common.{◌≡◌, ◌∙◌, length, take, sym, ap, refl, Err}
use Rattle.std.specs.Prelude.{bytes_eq}
use Rattle.journal_disk.specs.Opened.{begins_open}
use Rattle.journal_disk.proofs.FileReads.{of-told}
use Rattle.journal_disk.proofs.Shapes.{judged-other, judged-made}
use Rattle.journal_disk.proofs.judging.judge.Goals as goal

pub returns-then-not-branch-clause-bad : goal.returns-then-not-branch-clause-bad
returns-then-not-branch-clause-bad g c = λ config unit file new_is told place is.
    let size = of-told (g.D.Disk.reads c.args.disk.now) (λ f. c.in_ok-size.size ≡ length f) file told c.in_ok-size.ensures.told in
    let mid = c.size.ensures.kept ∙ told in
    let opens = of-told (g.D.Disk.reads c.size.new.self) (λ f. c.in_ok-is_open.is_open ≡ begins_open f) file mid c.in_ok-is_open.ensures.told in
    let begins = c.front_of.result.now in
    let same = of-told (g.D.Disk.reads c.begins_open.new.disk) (λ f. c.in_ok-begins_with.field-0 ≡ bytes_eq (take (length begins) f) begins) file (c.begins_open.ensures.reads.kept ∙ mid) c.in_ok-begins_with.ensures.told in
    let place_is : 1 ≡ place = cc is in
    judged-other config unit file c.args.new.now c.in_ok-size.size (length c.args.new.now) c.in_ok-is_open.is_open new_is size refl opens begins c.in_ok-begins_with.field-0 c.front_of.ensures same
    (sym c.is_unmade.ensures ∙ c.if-is_unmade.false) c.if-not-is_open.false c.if-not-branch.true
    ∙ ap (λ k. Err k) place_is

pub returns-clause-shape : goal.returns-clause-shape
returns-clause-shape g c = λ config unit file new_is told.
    let size = of-told (g.D.Disk.reads c.args.disk.now) (λ f. c.in_ok-size.size ≡ length f) file told c.in_ok-size.ensures.told in
    let mid = c.size.ensures.kept ∙ told in
    let opens = of-told (g.D.Disk.reads c.size.new.self) (λ f. c.in_ok-is_open.is_open ≡ begins_open f) file mid c.in_ok-is_open.ensures.told in
    let begins = c.front_of.result.now in
    let same = of-told (g.D.Disk.reads c.begins_open.new.disk) (λ f. c.in_ok-begins_with.field-0 ≡ bytes_eq (take (length begins) f) begins) file (c.begins_open.ensures.reads.kept ∙ mid) c.in_ok-begins_with.ensures.told in
    judged-made config unit file c.args.new.now c.in_ok-size.size (length c.args.new.now) c.in_ok-is_open.is_open new_is size refl opens begins c.in_ok-begins_with.field-0 c.front_of.ensures same
    (sym c.is_unmade.ensures ∙ c.if-is_unmade.false) c.if-not-branch.false
