use Rattle.std.proofs.Common.{◌≡◌, ◌+◌, ◌∙◌, [], refl, ap, sym, subst, true}
use Rattle.std.specs.Prelude.{None, not, is_some}
use Rattle.std.specs.Ordering.{nat_cmp}
use Rattle.std.specs.BTreeMap.{get}
use Rattle.cmd_machine.specs.Rest.{StandsFor}
use Rattle.any_cmds.specs.Meaning.{by_any}
use Rattle.trace_replay.specs.ReplayState.{waiting}
use Rattle.trace_check.proofs.Machining.{beside-one, none-of, none-waiting}
use Rattle.trace_check.proofs.machine.Machine.begin.Goals as goal

pub returns : goal.returns
returns c = λ config s moment is.
    let i = c.args.initiator in
    let none : get nat_cmp c.args.self.now.waiting i ≡ None = none-of (get nat_cmp c.args.self.now.waiting i) c.if-contains_key.ensures in
    let fit : true ≡ not (is_some (waiting i s.pending)) = sym (ap not (sym (none-waiting config s c.args.self.now i is) ∙ sym c.if-contains_key.ensures)) in
    let told : c.config.result.now ≡ config = c.config.ensures ∙ is.done.told in
    let stands = subst (λ k. StandsFor by_any k c.in_ok-command.command i c.args.request []) told c.in_ok-command.ensures.stands in (
      fit,
      λ yes. c.in_ok-go_on.ensures config (record s { items = s.items + 1 }) (record { initiator = i; request = c.args.request; outcomes = [] }) refl
          (beside-one config s c.args.self.now i is none) stands,
    )
