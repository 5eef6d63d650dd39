use Rattle.std.proofs.Common.{◌∙◌, ◌≤◌, ◌++◌, length, ap, sym, subst, arith, refl, append_assoc, length-append}
use Rattle.std.specs.Prelude.{Ok, Err}
use Rattle.std.proofs.KnownBytes.{Consumes-trans}
use Rattle.cm_frame.specs.Laws.{IfWhole}
use Rattle.cm_frame.specs.Reading.{read_reply}
use Rattle.odx_host.specs.declared.port.PortFault.{PortFault}
use Rattle.odx_host.proofs.Linking.{HasPulled, none-came, read-there, short-few}
use Rattle.odx_host.proofs.replies.next_reply.Goals as goal

pub returns-in-Whole-clause-read : goal.returns-in-Whole-clause-read
returns-in-Whole-clause-read g c =
    let found = sym (ap read_reply c.as_slice.ensures) ∙ sym c.in_ok-value.ensures.value ∙ c.in-Whole.is in
    let within = subst (λ p. IfWhole p (λ reply used. used ≤ length c.as_slice.result.now)) c.in-Whole.is c.in_ok-value.ensures.within in
    read-there (Ok c.in-Whole.value) (g.S.Source.left c.args.source.now) (g.S.Source.left c.pulls.source) c.args.input.now c.pulls.input c.consume.new.self c.pulls.invariant.pulled
    (c.in-Whole.used, found, subst (λ b. c.in-Whole.used ≤ length b) c.as_slice.ensures within, c.consume.ensures)

pub returns-in-Bad-clause-read : goal.returns-in-Bad-clause-read
returns-in-Bad-clause-read g c =
    let found = sym (ap read_reply c.as_slice.ensures) ∙ sym c.in_ok-value.ensures.value ∙ c.in-Bad.is in
    read-there (Err PortFault.BadReply) (g.S.Source.left c.args.source.now) (g.S.Source.left c.pulls.source) c.args.input.now c.pulls.input c.pulls.input c.pulls.invariant.pulled
    ((c.in-Bad.place, found), refl)

pub returns-then-branch-eq0-clause-read : goal.returns-then-branch-eq0-clause-read
returns-then-branch-eq0-clause-read g c =
    let found = sym (ap read_reply c.as_slice.ensures) ∙ sym c.in_ok-value.ensures.value ∙ c.in-Short.is in
    let m = c.in_ok-fill.ensures.ok in
    let same = none-came c.pulls.input c.fill.new.self m.0 (m.1 ∙ c.if-branch-eq0.true) m.2 in
    let p = c.pulls.invariant.pulled in
    let all : HasPulled (g.S.Source.left c.args.source.now) (g.S.Source.left c.fill.new.source) c.args.input.now c.fill.new.self = (
      p.0 ++ m.0,
      Consumes-trans _ _ _ _ _ p.1 m.3,
      m.2 ∙ ap (λ l. l ++ m.0) p.2 ∙ append_assoc c.args.input.now p.0 m.0,
    ) in
    read-there (Err PortFault.Ended) (g.S.Source.left c.args.source.now) (g.S.Source.left c.fill.new.source) c.args.input.now c.fill.new.self c.fill.new.self all
    (ap read_reply same ∙ found, refl)

pub pulls-smaller : goal.pulls-smaller
pulls-smaller g c =
    let found = sym (ap read_reply c.as_slice.ensures) ∙ sym c.in_ok-value.ensures.value ∙ c.in-Short.is in
    let few = short-few c.pulls.input found in
    let m = c.in_ok-fill.ensures.ok in
    omega (arith, few, m.1, ap length m.2, length-append c.pulls.input m.0, c.if-branch-eq0.false)

pub pulls-preserved : goal.pulls-preserved
pulls-preserved g c =
    let m = c.in_ok-fill.ensures.ok in
    let p = c.pulls.invariant.pulled in
    record {
      pulled = (
        p.0 ++ m.0,
        Consumes-trans _ _ _ _ _ p.1 m.3,
        m.2 ∙ ap (λ l. l ++ m.0) p.2 ∙ append_assoc c.args.input.now p.0 m.0,
      );
      reads = c.in_ok-fill.ensures.sound ∙ c.pulls.invariant.reads;
      apart = c.in_ok-fill.ensures.apart ∙ c.pulls.invariant.apart;
    }
