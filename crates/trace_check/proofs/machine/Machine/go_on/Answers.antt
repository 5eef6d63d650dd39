use Rattle.std.proofs.Common.{◌≡◌, ◌∙◌, refl, ap, sym, subst, arith}
use Rattle.std.proofs.lemmas.Grind.{common_steps}
use Rattle.cmd_program.specs.declared.step.Step.{Step}
use Rattle.cmd_program.specs.Judging.{step}
use Rattle.cmd_program.specs.Meaning.{IsAskedOf, IsAskable}
use Rattle.cmd_machine.specs.Rest.{StandsFor, IsSoundAt}
use Rattle.any_cmds.specs.Meaning.{by_any, IsSoundAny}
use Rattle.trace_replay.specs.ReplayState.{next_step}
use Rattle.trace_check.specs.declared.machine.Waiting.{Waiting}
use Rattle.trace_check.specs.inner.Machines.{IsWaiting}
use Rattle.trace_check.proofs.Machining.{answered, waits-on, on-ok}
use Rattle.trace_check.proofs.machine.Machine.go_on.Goals as goal

pub returns-in-Done : goal.returns-in-Done
returns-in-Done c = λ config s p mine b stands.
    let told : c.config.result.now ≡ config = c.config.ensures ∙ b.done.told in
    let here = subst (λ k. StandsFor by_any k c.args.command p.initiator p.request p.outcomes) (sym told) stands in
    let is : next_step step config p ≡ Step.Done c.in-Done.reply =
    ap (λ k. step k p.initiator p.request p.outcomes) (sym told) ∙ sym (c.in_ok-reply.ensures.next p.initiator p.request p.outcomes here) ∙ c.in-Done.is in
    on-ok c.write.result _ _ (λ wrote. answered config c.args.initiator s c.args.self.now _ p mine b c.in-Done.reply is refl refl wrote) c.write.ensures

pub returns-in_ok-insert-in-Do : goal.returns-in_ok-insert-in-Do
returns-in_ok-insert-in-Do c = λ config s p mine b stands.
    let told : c.config.result.now ≡ config = c.config.ensures ∙ b.done.told in
    let here = subst (λ k. StandsFor by_any k c.args.command p.initiator p.request p.outcomes) (sym told) stands in
    let is : next_step step config p ≡ Step.Do c.in-Do.unit c.in-Do.act =
    ap (λ k. step k p.initiator p.request p.outcomes) (sym told) ∙ sym (c.in_ok-reply.ensures.next p.initiator p.request p.outcomes here) ∙ c.in-Do.is in
    let w : Waiting = record { command = c.args.command; unit = c.in-Do.unit; act = c.in-Do.act } in
    let asked : IsAskedOf c.config.result.now c.in-Do.unit c.in-Do.act = subst (IsAskable c.config.result.now) c.in-Do.is c.in_ok-reply.ensures.asks in
    let waits : IsWaiting config w p = record {
      stands = stands;
      sound = subst (λ k. IsSoundAt IsSoundAny k c.args.command) b.done.told c.requires;
      asks = is;
      askable = subst (λ k. IsAskedOf k c.in-Do.unit c.in-Do.act) told asked;
    } in
    waits-on config c.args.initiator s c.args.self.now _ p mine b w is waits refl refl (grind (arith, common_steps)) (λ q apart. grind (arith, common_steps))
