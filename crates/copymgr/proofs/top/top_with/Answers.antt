use Rattle.std.proofs.Common.{◌≡◌, refl, subst}
use Rattle.copymgr.specs.Orders.{IsOrder, words_of}
use Rattle.copymgr.specs.declared.order.Order.{Order}
use Rattle.copymgr.specs.Generating.{HasGenerated}
use Rattle.copymgr.proofs.ToldCounts.{same-rounds}
use Rattle.copymgr.proofs.top.top_with.Goals as goal

pub returns-in-None-clause-usage : goal.returns-in-None-clause-usage
returns-in-None-clause-usage g c = (
  λ e. (c.in-None.ensures.unknown Order.Replay tt, c.in-None.ensures.unknown Order.Check tt, c.in-None.ensures.unknown Order.Copy tt, λ rounds few is. c.in-None.ensures.unknown (Order.Generate rounds) few is),
  λ u. refl,
)

pub returns-in-None-clause-replayed : goal.returns-in-None-clause-replayed
returns-in-None-clause-replayed g c = λ is. absurd (c.in-None.ensures.unknown Order.Replay tt is)

pub returns-in-None-clause-checked : goal.returns-in-None-clause-checked
returns-in-None-clause-checked g c = λ is. absurd (c.in-None.ensures.unknown Order.Check tt is)

pub returns-in-None-clause-copied : goal.returns-in-None-clause-copied
returns-in-None-clause-copied g c = λ is. absurd (c.in-None.ensures.unknown Order.Copy tt is)

pub returns-in-None-clause-generated : goal.returns-in-None-clause-generated
returns-in-None-clause-generated g c = λ rounds few is. absurd (c.in-None.ensures.unknown (Order.Generate rounds) few is)

pub returns-in-Some-Generate-clause-generated : goal.returns-in-Some-Generate-clause-generated
returns-in-Some-Generate-clause-generated g c = λ rounds few is.
    let known = subst (λ (o : Order). IsOrder o × (c.args.words.now ≡ words_of o)) c.in-Some-Generate.field-0-is c.in-Some-Generate.ensures.known in
    let same = same-rounds c.args.words.now c.in-Some-Generate.rounds rounds known.0 few known.1 is in (
      refl,
      subst (λ n. HasGenerated n (g.O.Sink.taken c.args.output.now) (g.O.Sink.taken c.tell_rounds.new.output)
          (g.O.Sink.write_faults c.args.output.now) (g.O.Sink.write_faults c.tell_rounds.new.output) c.tell_rounds.result) same c.tell_rounds.ensures,
    )
