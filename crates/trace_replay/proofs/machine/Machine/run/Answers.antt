use Rattle.std.proofs.Common.{refl, ap, sym, ◌∙◌, subst, arith}
use Rattle.std.proofs.lemmas.Grind.{common_steps}
use Rattle.trace_replay.specs.declared.nexus.Nexus.{Nexus}
use Rattle.trace_replay.specs.inner.Machines.{HaveCounted, IsWaiting, HasRun}
use Rattle.trace_replay.proofs.Machining.{ran-on}
use Rattle.trace_replay.proofs.machine.Machine.run.Goals as goal

pub returns : goal.returns
returns c = λ config s is.
    rw c.of.ensures (ran-on config s c.args.self.now _ c.args.initiator c.args.moment c.in-Some.nexus.now c.run.new.self c.in-Some-take_waiting.waiting c.in_ok-reply.reply is
    (sym c.in-Some.ensures.value) (sym c.in-Some-take_waiting.ensures.taken)
    (λ p waits mine right. subst (λ k. HasRun k s.entries p c.in-Some-take_waiting.waiting.unit c.args.moment c.in-Some-take_waiting.waiting.act c.run.new.units c.run.new.self c.in_ok-reply.reply) is.told
    (c.in_ok-reply.ensures s.entries p (subst (λ k. IsWaiting k c.in-Some-take_waiting.waiting p) (sym is.told) waits) mine (subst (λ k. HaveCounted k s.entries c.args.self.now.units) (sym is.told) is.units)
    (ap (λ (n : Nexus). n.seq) c.take_waiting.ensures.after ∙ right)))
    refl (grind (arith, common_steps)) (λ q apart. grind (arith, common_steps)))
