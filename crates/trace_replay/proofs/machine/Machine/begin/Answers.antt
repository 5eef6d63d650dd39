use Rattle.std.proofs.Common.{refl, ap, sym, ◌∙◌, ◌≡◌, arith}
use Rattle.std.specs.Prelude.{unwrap_or, None, Option}
use Rattle.std.specs.Ordering.{nat_cmp}
use Rattle.std.specs.BTreeMap.{get}
use Rattle.std.proofs.lemmas.Grind.{common_steps}
use Rattle.trace_replay.specs.declared.nexus.Nexus.{Nexus}
use Rattle.trace_replay.proofs.Machining.{begun, nexus_of, none-waits}
use Rattle.trace_replay.proofs.machine.Machine.begin.Goals as goal

pub returns : goal.returns
returns c = λ config s moment is.
    let stored : c.or_insert-nexus.result.now ≡ nexus_of (get nat_cmp c.args.self.now.nexuses c.args.initiator) =
    c.or_insert-nexus.ensures.value ∙ ap (λ (o : Option Nexus). unwrap_or o c.idle.result) c.in_ok-self.ensures.value
    ∙ ap (λ (n : Nexus). unwrap_or (get nat_cmp c.args.self.now.nexuses c.args.initiator) n) c.idle.ensures in
    let none : c.or_insert-nexus.result.now.waiting ≡ None = none-waits c.or_insert-nexus.result.now c.if-waits.ensures in
    rw c.of.ensures (begun config s c.args.self.now _ c.args.initiator moment c.args.request c.begin-reply.new.self c.begin-reply.result is
    (ap (λ (n : Nexus). n.waiting) (sym stored) ∙ none) (c.begin-reply.ensures.seq ∙ ap (λ (n : Nexus). n.seq) stored) c.begin-reply.ensures.begun refl refl
    (grind (arith, common_steps)) (λ q apart. grind (arith, common_steps)))
