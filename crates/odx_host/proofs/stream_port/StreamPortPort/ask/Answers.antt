use Rattle.std.proofs.Common.{◌∙◌, ap, sym, subst, refl, ℕ, List}
use Rattle.std.specs.Prelude.{Err, Option}
use Rattle.std.proofs.lemmas.Result.{err_from_is_err_and}
use Rattle.std.specs.Io.KnownBytes.{Appends}
use Rattle.cm_base.specs.Sides.{IsCut}
use Rattle.odx_host.specs.Linked.{LinkState, IsSpoken}
use Rattle.odx_host.proofs.Linking.{spoken-wanted, spoken-cut, spoken-by}
use Rattle.odx_host.proofs.stream_port.StreamPortPort.ask.Goals as goal

abbrev state : Option (List ℕ) → List ℕ → Option (List ℕ) → ℕ → ℕ → LinkState
state left input taken reads writes = record { left = left; input = input; taken = taken; read_faults = reads; write_faults = writes }

pub returns-in_err-frame-clause-talked : goal.returns-in_err-frame-clause-talked
returns-in_err-frame-clause-talked g c =
    let p = err_from_is_err_and c.from_residual.result c.from_residual.ensures.1 in
    let i = c.args.self.now.source.now in
    let o = c.args.self.now.sink.now in
    let s : LinkState = state (g.I.Source.left i) c.args.self.now.input (g.O.Sink.taken o) (g.I.Source.read_faults i) (g.O.Sink.write_faults o) in
    (refl, refl, (s, subst (λ a. IsSpoken s s (record { request = c.args.request.now; answer = a })) (sym (p.1 ∙ ap Err p.2)) (spoken-wanted s c.args.request.now), refl))

pub returns-in_err-push_all-clause-talked : goal.returns-in_err-push_all-clause-talked
returns-in_err-push_all-clause-talked g c =
    let p = err_from_is_err_and c.from_residual-in_err-push_all.result c.from_residual-in_err-push_all.ensures.1 in
    let i = c.args.self.now.source.now in
    let o = c.args.self.now.sink.now in
    let s : LinkState = state (g.I.Source.left i) c.args.self.now.input (g.O.Sink.taken o) (g.I.Source.read_faults i) (g.O.Sink.write_faults o) in
    let t : LinkState = state (g.I.Source.left i) c.args.self.now.input (g.O.Sink.taken c.push_all.new.sink) (g.I.Source.read_faults i) (g.O.Sink.write_faults c.push_all.new.sink) in
    let begun = c.in_err-push_all.ensures.begun in
    let cut = subst (λ b. IsCut begun.0 b) (c.as_slice.ensures ∙ c.in_ok-frame.ensures) begun.1 in (
      refl,
      refl,
      (
        t,
        subst (λ a. IsSpoken s t (record { request = c.args.request.now; answer = a })) (sym (p.1 ∙ ap Err p.2))
            (spoken-cut s t c.args.request.now begun.0 cut begun.2 refl refl refl c.in_err-push_all.ensures.faulted),
        refl,
      ),
    )

pub returns-clause-talked : goal.returns-clause-talked
returns-clause-talked g c =
    let i = c.args.self.now.source.now in
    let o = c.args.self.now.sink.now in
    let n = c.next_reply.new in
    let p = c.push_all.new.sink in
    let s : LinkState = state (g.I.Source.left i) c.args.self.now.input (g.O.Sink.taken o) (g.I.Source.read_faults i) (g.O.Sink.write_faults o) in
    let t : LinkState = state (g.I.Source.left i) c.args.self.now.input (g.O.Sink.taken p) (g.I.Source.read_faults i) (g.O.Sink.write_faults p) in
    let u : LinkState = state (g.I.Source.left n.source) n.input (g.O.Sink.taken p) (g.I.Source.read_faults n.source) (g.O.Sink.write_faults p) in
    let given = subst (λ b. Appends (g.O.Sink.taken o) (g.O.Sink.taken p) b) (c.as_slice.ensures ∙ c.in_ok-frame.ensures) c.in_ok-push_all.ensures.grown in (
      refl,
      refl,
      (
        u,
        spoken-by s t u c.args.request.now c.next_reply.result given refl refl refl c.in_ok-push_all.ensures.sound
            c.next_reply.ensures.read c.next_reply.ensures.ended c.next_reply.ensures.counted refl refl,
        refl,
      ),
    )
