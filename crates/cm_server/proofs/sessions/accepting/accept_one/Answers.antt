use Rattle.std.proofs.Common.{◌≡◌, ◌∙◌, ◌+◌, ℕ, suc, ap, refl, arith}
use Rattle.std.specs.Prelude.{Option, Some, None, option_map}
use Rattle.cm_server.specs.inner.Links.{link_state}
use Rattle.cm_server.proofs.Begins.{has-begun}
use Rattle.cm_server.proofs.sessions.accepting.accept_one.Goals as goal

one-more : (o : Option ℕ) → option_map suc o ≡ option_map (λ n. n + 1) o
one-more None = refl
one-more (Some n) = ap Some (omega arith)

pub returns-in-Ok-next_pass-clause-begun : goal.returns-in-Ok-next_pass-clause-begun
returns-in-Ok-next_pass-clause-begun g c =
    let link = link_state g.K.Source.left g.K.Sink.taken g.K.Source.read_faults g.K.Sink.write_faults c.in-Ok.link in (
      record { nexus = c.args.number; link = link; pass = c.in-Ok-next_pass.pass },
      c.begin.ensures,
      has-begun c.args.shared.now.world c.args.number c.args.root.now c.next_pass.new.root c.in-Ok-next_pass.pass (g.L.Listener.coming c.args.listener.now) (g.L.Listener.coming c.accept.new.self) link
          c.requires.ready c.requires.number c.in-Ok-next_pass.ensures.made c.in-Ok.ensures.first c.in-Ok.ensures.fresh
          (record { reads = c.in-Ok.ensures.unfailed.0; writes = c.in-Ok.ensures.unfailed.1 }),
    )

pub returns-in-Err-next_pass-clause-stays : goal.returns-in-Err-next_pass-clause-stays
returns-in-Err-next_pass-clause-stays g c = c.in-Ok.ensures.out ∙ one-more (g.L.Listener.out c.args.listener.now)
