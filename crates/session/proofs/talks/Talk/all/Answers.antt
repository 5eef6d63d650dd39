use Rattle.std.proofs.Common.{◌≡◌, ◌-◌, ap, sym, ◌∙◌, subst, arith}
use Rattle.std.specs.Prelude.{Ok, None}
use Rattle.cmd_program.specs.Judging.{step}
use Rattle.cm_base.specs.Sides.{Side}
use Rattle.cm_frame.specs.Framing.{frames_limit}
use Rattle.cmd_program.specs.Exchanges.{requests_of}
use Rattle.session.specs.Spoken.{Spoken}
use Rattle.session.specs.inner.Talking.{IsAt, IsHeard, HasTurned, IsCountedBy, ended}
use Rattle.session.proofs.Turning.{ends-here, same-spoken, none-settled, settles-behind}
use Rattle.session.proofs.talks.Talk.all.Goals as goal

pub returns-then-not-branch-clause-spoken : goal.returns-then-not-branch-clause-spoken
returns-then-not-branch-clause-spoken g c = λ calls left taken h.
    let inv = c.turns.invariant in
    let config = c.args.config.now in
    let shows = g.C.Clock.shows c.args.clock.now in
    let k = subst (λ n. IsAt config n shows (g.R.Runs.StandsFor c.turns.actor) (g.R.Runs.Settled c.turns.actor) calls left (g.K.Source.left c.turns.link) taken (g.K.Sink.taken c.turns.link) c.turns.self.frames c.turns.self.input)
    (sym inv.2) (inv.0 calls left taken h) in
    let t = subst (λ b. HasTurned config (g.R.Runs.number c.turns.actor) shows (g.R.Runs.StandsFor c.turn.new.actor) (g.R.Runs.Settled c.turn.new.actor) calls left (g.K.Source.left c.turn.new.link) taken (g.K.Sink.taken c.turn.new.link)
    c.turn.new.self.frames c.turn.new.self.input (Ok b)) c.if-not-branch.true (c.in_ok-turn.ensures.turned calls left taken k) in
    subst (λ n. Spoken step config n shows (g.R.Runs.StandsFor c.turn.new.actor) (g.R.Runs.Settled c.turn.new.actor) calls left (g.K.Source.left c.turn.new.link) taken (g.K.Sink.taken c.turn.new.link) (ended c.turn.new.self.frames None)) inv.2 t

pub returns-clause-spoken : goal.returns-clause-spoken
returns-clause-spoken g c = λ calls left taken h.
    let inv = c.turns.invariant in
    let config = c.args.config.now in
    let shows = g.C.Clock.shows c.args.clock.now in
    let k = inv.0 calls left taken h in
    let none : frames_limit - c.turns.self.frames ≡ 0 = omega (arith, c.turns-test.false) in
    let heard = c.end.ensures.heard left (requests_of k.exchanges) (subst (λ n. IsHeard left (g.K.Source.left c.turns.link) (requests_of k.exchanges) n c.turns.self.input) none k.heard) in
    let law = g.met.K.Link.pulls_apart in
    let same = ap (λ (s : Side). s.bytes) (sym (law c.end.new.link) ∙ c.end.ensures.apart ∙ law c.turns.link) in
    same-spoken config (g.R.Runs.number c.args.actor.now) shows calls left taken (g.R.Runs.StandsFor c.turns.actor) (g.R.Runs.Settled c.turns.actor) _ _ _ _ _ _ same c.end.ensures.frames
    (ends-here config (g.R.Runs.number c.args.actor.now) shows calls left taken (g.R.Runs.StandsFor c.turns.actor) (g.R.Runs.Settled c.turns.actor) _ _ _ _ _ _ k (none-settled c.end.result c.end.ensures.unsettled) heard)

pub returns-clause-counted : goal.returns-clause-counted
returns-clause-counted g c =
    let inv = c.turns.invariant in
    let law = g.met.K.Link.pulls_apart in
    let same = ap (λ (s : Side). s.faults) (sym (law c.end.new.link) ∙ c.end.ensures.apart ∙ law c.turns.link) ∙ inv.4 in
    subst (λ w. IsCountedBy (g.K.Source.read_faults c.args.link.now) (g.K.Source.read_faults c.end.new.link) (g.K.Sink.write_faults c.args.link.now) w c.end.result) (sym same)
    (subst (λ r. IsCountedBy r (g.K.Source.read_faults c.end.new.link) (g.K.Sink.write_faults c.args.link.now) (g.K.Sink.write_faults c.args.link.now) c.end.result) inv.3 (c.end.ensures.counted _))

pub returns-clause-settles : goal.returns-clause-settles
returns-clause-settles g c = settles-behind _ _ c.end.result c.turns.invariant.6 c.end.ensures.unsettled
