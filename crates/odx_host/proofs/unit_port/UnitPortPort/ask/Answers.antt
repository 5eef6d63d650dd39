use Rattle.std.proofs.Common.{◌≡◌, [], ◌∷◌, refl, ap, sym, ◌∙◌, subst}
use Rattle.std.specs.Prelude.{Ok, Err, IfErr}
use Rattle.std.proofs.lemmas.Result.{err_from_is_err_and}
use Rattle.odx_host.specs.declared.port.PortFault.{PortFault}
use Rattle.odx_host.specs.Talk.{Talked}
use Rattle.odx_host.specs.Units.{UnitsBehind, LedTo}
use Rattle.odx_host.specs.inner.Acting.{HasRun}
use Rattle.odx_host.proofs.Running.{ran-on, ran-back, led-one, world-of}
use Rattle.odx_host.proofs.unit_port.UnitPortPort.ask.Goals as goal

pub returns-in_err-reply-clause-talked : goal.returns-in_err-reply-clause-talked
returns-in_err-reply-clause-talked c =
    let p = err_from_is_err_and c.from_residual.result c.from_residual.ensures.1 in
    let is = p.1 ∙ ap Err p.2 in
    let before : UnitsBehind = record { config = c.self.inside.config; units = c.self.inside.units; pumps = c.self.inside.pumps } in
    let now : UnitsBehind = record { config = c.self.inside.config; units = c.answer.new.units; pumps = c.self.inside.pumps } in
    let t : Talked = record { request = c.args.request.now; answer = c.from_residual.result } in
    subst (λ b. LedTo b (t ∷ []) now) c.self.view_is
    (led-one before now t refl (subst (λ r. IfErr r (λ fault. fault ≡ PortFault.OutOfMemory)) (sym is) c.in_err-reply.ensures.memory)
    (λ history after. subst (λ r. HasRun c.self.inside.config history c.answer.new.units (record { request = c.args.request.now; answer = r })) (sym is) (c.in_err-reply.ensures.ran history after)))

pub returns-in_err-reply-clause-world : goal.returns-in_err-reply-clause-world
returns-in_err-reply-clause-world c = world-of _ _ _ (returns-in_err-reply-clause-talked c)

pub returns-in_err-pump_all-clause-talked : goal.returns-in_err-pump_all-clause-talked
returns-in_err-pump_all-clause-talked c =
    let p = err_from_is_err_and c.from_residual-in_err-pump_all.result c.from_residual-in_err-pump_all.ensures.1 in
    let is = p.1 ∙ ap Err p.2 in
    let before : UnitsBehind = record { config = c.self.inside.config; units = c.self.inside.units; pumps = c.self.inside.pumps } in
    let now : UnitsBehind = record { config = c.self.inside.config; units = c.pump_all.new.self; pumps = c.self.inside.pumps } in
    let t : Talked = record { request = c.args.request.now; answer = c.from_residual-in_err-pump_all.result } in
    subst (λ b. LedTo b (t ∷ []) now) c.self.view_is
    (led-one before now t refl (subst (λ r. IfErr r (λ fault. fault ≡ PortFault.OutOfMemory)) (sym is) refl)
    (λ history after.
    let run = c.in_ok-reply.ensures.ran history after in
    subst (λ r. HasRun c.self.inside.config history c.pump_all.new.self (record { request = c.args.request.now; answer = r })) (sym is)
    (ran-back c.self.inside.config history c.pump_all.new.self c.args.request.now (Ok c.in_ok-reply.reply) PortFault.OutOfMemory
    (ran-on c.self.inside.config history c.answer.new.units c.pump_all.new.self c.args.request.now (Ok c.in_ok-reply.reply) run (c.in_err-pump_all.ensures run.later run.after)))))

pub returns-in_err-pump_all-clause-world : goal.returns-in_err-pump_all-clause-world
returns-in_err-pump_all-clause-world c = world-of _ _ _ (returns-in_err-pump_all-clause-talked c)

pub returns-clause-talked : goal.returns-clause-talked
returns-clause-talked c =
    let before : UnitsBehind = record { config = c.self.inside.config; units = c.self.inside.units; pumps = c.self.inside.pumps } in
    let now : UnitsBehind = record { config = c.self.inside.config; units = c.pump_all.new.self; pumps = c.self.inside.pumps } in
    let t : Talked = record { request = c.args.request.now; answer = Ok c.in_ok-reply.reply } in
    subst (λ b. LedTo b (t ∷ []) now) c.self.view_is
    (led-one before now t refl tt
    (λ history after.
    let run = c.in_ok-reply.ensures.ran history after in
    ran-on c.self.inside.config history c.answer.new.units c.pump_all.new.self c.args.request.now (Ok c.in_ok-reply.reply) run (c.in_ok-pump_all.ensures run.later run.after)))

pub returns-clause-world : goal.returns-clause-world
returns-clause-world c = world-of _ _ _ (returns-clause-talked c)
