use Rattle.std.proofs.Common.{◌≡◌, ◌∙◌, ap, sym, subst, refl}
use Rattle.std.specs.Prelude.{Err}
use Rattle.std.proofs.lemmas.Result.{err_from_is_err_and}
use Rattle.std.specs.Io.KnownBytes.{Appends}
use Rattle.cm_base.specs.Sides.{Side, IsCut}
use Rattle.odx_host.specs.declared.port.PortFault.{PortFault}
use Rattle.odx_host.specs.Linked.{LinkState, IsSpoken}
use Rattle.odx_host.proofs.Linking.{state_of, spoken-wanted, spoken-cut, spoken-by}
use Rattle.odx_host.proofs.link_port.LinkPortPort.ask.Goals as goal

pub returns-in_err-frame-clause-talked : goal.returns-in_err-frame-clause-talked
returns-in_err-frame-clause-talked g c =
    let p = err_from_is_err_and c.from_residual.result c.from_residual.ensures.1 in
    let s : LinkState = state_of g.K.Source.left g.K.Source.read_faults g.K.Sink.taken g.K.Sink.write_faults c.args.self.now in
    (s, subst (λ a. IsSpoken s s (record { request = c.args.request.now; answer = a })) (sym (p.1 ∙ ap Err p.2)) (spoken-wanted s c.args.request.now), refl)

pub returns-in_err-push_all-clause-talked : goal.returns-in_err-push_all-clause-talked
returns-in_err-push_all-clause-talked g c =
    let p = err_from_is_err_and c.from_residual-in_err-push_all.result c.from_residual-in_err-push_all.ensures.1 in
    let s : LinkState = state_of g.K.Source.left g.K.Source.read_faults g.K.Sink.taken g.K.Sink.write_faults (record { link = c.self.inside.link; input = c.self.inside.input }) in
    let s0 : LinkState = state_of g.K.Source.left g.K.Source.read_faults g.K.Sink.taken g.K.Sink.write_faults c.args.self.now in
    let t : LinkState = state_of g.K.Source.left g.K.Source.read_faults g.K.Sink.taken g.K.Sink.write_faults (record { link = c.push_all.new.sink; input = c.self.inside.input }) in
    let same : s ≡ s0 = ap (state_of g.K.Source.left g.K.Source.read_faults g.K.Sink.taken g.K.Sink.write_faults) c.self.view_is in
    let back = g.met.K.Link.pushes_apart in
    let apart = sym (back c.push_all.new.sink) ∙ c.push_all.ensures.apart ∙ back c.self.inside.link in
    let begun = c.in_err-push_all.ensures.begun in
    let cut = subst (λ b. IsCut begun.0 b) (c.as_slice.ensures ∙ c.in_ok-frame.ensures) begun.1 in (
      t,
      subst (λ a. IsSpoken s0 t (record { request = c.args.request.now; answer = a })) (sym (p.1 ∙ ap Err p.2))
          (subst (λ x. IsSpoken x t (record { request = c.args.request.now; answer = Err PortFault.WriteFault })) same
          (spoken-cut s t c.args.request.now begun.0 cut begun.2 (ap (λ (x : Side). x.bytes) apart) refl (ap (λ (x : Side). x.faults) apart) c.in_err-push_all.ensures.faulted)),
      refl,
    )

pub returns-clause-talked : goal.returns-clause-talked
returns-clause-talked g c =
    let s : LinkState = state_of g.K.Source.left g.K.Source.read_faults g.K.Sink.taken g.K.Sink.write_faults (record { link = c.self.inside.link; input = c.self.inside.input }) in
    let s0 : LinkState = state_of g.K.Source.left g.K.Source.read_faults g.K.Sink.taken g.K.Sink.write_faults c.args.self.now in
    let t : LinkState = state_of g.K.Source.left g.K.Source.read_faults g.K.Sink.taken g.K.Sink.write_faults (record { link = c.push_all.new.sink; input = c.self.inside.input }) in
    let u : LinkState = state_of g.K.Source.left g.K.Source.read_faults g.K.Sink.taken g.K.Sink.write_faults (record { link = c.next_reply.new.source; input = c.next_reply.new.input }) in
    let same : s ≡ s0 = ap (state_of g.K.Source.left g.K.Source.read_faults g.K.Sink.taken g.K.Sink.write_faults) c.self.view_is in
    let back = g.met.K.Link.pushes_apart in
    let law = g.met.K.Link.pulls_apart in
    let apart = sym (back c.push_all.new.sink) ∙ c.push_all.ensures.apart ∙ back c.self.inside.link in
    let kept = sym (law c.next_reply.new.source) ∙ c.next_reply.ensures.apart ∙ law c.push_all.new.sink in
    let given = subst (λ b. Appends (g.K.Sink.taken c.self.inside.link) (g.K.Sink.taken c.push_all.new.sink) b) (c.as_slice.ensures ∙ c.in_ok-frame.ensures) c.in_ok-push_all.ensures.grown in (
      u,
      subst (λ x. IsSpoken x u (record { request = c.args.request.now; answer = c.next_reply.result })) same
          (spoken-by s t u c.args.request.now c.next_reply.result given (ap (λ (x : Side). x.bytes) apart) refl (ap (λ (x : Side). x.faults) apart) c.in_ok-push_all.ensures.sound
          c.next_reply.ensures.read c.next_reply.ensures.ended c.next_reply.ensures.counted (ap (λ (x : Side). x.bytes) kept) (ap (λ (x : Side). x.faults) kept)),
      refl,
    )
