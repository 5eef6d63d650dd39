use Rattle.std.proofs.Common.{◌∙◌, ◌++◌, length, ap, sym, arith, append_assoc, length-append}
use Rattle.std.specs.Prelude.{Ok, Err}
use Rattle.std.proofs.KnownBytes.{Consumes-trans}
use Rattle.copy_plan.specs.Reading.{read_job}
use Rattle.odx_host.specs.declared.stream_port.StreamFault.{StreamFault}
use Rattle.odx_host.proofs.Linking.{HasPulled, none-came}
use Rattle.odx_host.proofs.FrontJobs.{short-few, front-there}
use Rattle.odx_host.proofs.stream_port.front_job.Goals as goal

pub returns-in-Whole-clause-read : goal.returns-in-Whole-clause-read
returns-in-Whole-clause-read g c =
    let found = sym (ap read_job c.as_slice.ensures) ∙ sym c.in_ok-value.ensures.value ∙ c.in-Whole.is in
    front-there (Ok c.in-Whole.value) (g.S.Source.left c.args.source.now) (g.S.Source.left c.pulls.source) c.args.input.now c.pulls.input c.consume.new.self c.pulls.invariant.pulled
    (c.in-Whole.used, found, c.consume.ensures)

pub returns-in-Bad-clause-read : goal.returns-in-Bad-clause-read
returns-in-Bad-clause-read g c =
    let found = sym (ap read_job c.as_slice.ensures) ∙ sym c.in_ok-value.ensures.value ∙ c.in-Bad.is in
    front-there (Err (StreamFault.BadJob c.in-Bad.place)) (g.S.Source.left c.args.source.now) (g.S.Source.left c.pulls.source) c.args.input.now c.pulls.input c.pulls.input c.pulls.invariant.pulled found

pub returns-then-branch-eq0-clause-read : goal.returns-then-branch-eq0-clause-read
returns-then-branch-eq0-clause-read g c =
    let found = sym (ap read_job c.as_slice.ensures) ∙ sym c.in_ok-value.ensures.value ∙ c.in-Short.is in
    let m = c.in_ok-fill.ensures.ok in
    let same = none-came c.pulls.input c.fill.new.self m.0 (m.1 ∙ c.if-branch-eq0.true) m.2 in
    let p = c.pulls.invariant.pulled in
    let all : HasPulled (g.S.Source.left c.args.source.now) (g.S.Source.left c.fill.new.source) c.args.input.now c.fill.new.self = (
      p.0 ++ m.0,
      Consumes-trans _ _ _ _ _ p.1 m.3,
      m.2 ∙ ap (λ l. l ++ m.0) p.2 ∙ append_assoc c.args.input.now p.0 m.0,
    ) in
    front-there (Err StreamFault.Torn) (g.S.Source.left c.args.source.now) (g.S.Source.left c.fill.new.source) c.args.input.now c.fill.new.self c.fill.new.self all
    (ap read_job same ∙ found, c.in_ok-fill.ensures.ended c.if-branch-eq0.true)

pub pulls-smaller : goal.pulls-smaller
pulls-smaller g c =
    let found = sym (ap read_job c.as_slice.ensures) ∙ sym c.in_ok-value.ensures.value ∙ c.in-Short.is in
    let few = short-few c.pulls.input found in
    let m = c.in_ok-fill.ensures.ok in
    omega (arith, few, m.1, ap length m.2, length-append c.pulls.input m.0, c.if-branch-eq0.false)

pub pulls-preserved : goal.pulls-preserved
pulls-preserved g c =
    let m = c.in_ok-fill.ensures.ok in
    let p = c.pulls.invariant.pulled in
    record {
      pulled = (
        p.0 ++ m.0,
        Consumes-trans _ _ _ _ _ p.1 m.3,
        m.2 ∙ ap (λ l. l ++ m.0) p.2 ∙ append_assoc c.args.input.now p.0 m.0,
      );
      reads = c.in_ok-fill.ensures.sound ∙ c.pulls.invariant.reads;
    }
