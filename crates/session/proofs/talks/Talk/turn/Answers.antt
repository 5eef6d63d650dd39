use Rattle.std.proofs.Common.{◌-◌, ◌∷◌, [], ◌++◌, refl, ap, sym, ◌∙◌, subst}
use Rattle.std.specs.Prelude.{Ok, Some, None, ◌+◌}
use Rattle.std.proofs.lemmas.Result.{err_from_is_err_and}
use Rattle.std.specs.Io.KnownBytes.{Appends}
use Rattle.cm_base.specs.Outside.{Faulted}
use Rattle.cm_base.specs.Sides.{Side}
use Rattle.cm_frame.specs.Framing.{frames_limit}
use Rattle.cm_frame.specs.Grammar.{reply_bytes}
use Rattle.session.specs.Spoken.{IsCounted}
use Rattle.cmd_program.specs.Exchanges.{requests_of, calls_of}
use Rattle.session.specs.inner.Talking.{IsHeard, Hears, IsAt}
use Rattle.session.proofs.Hearing.{heard-front}
use Rattle.session.proofs.Turning.{ends-here, same-spoken, at-more, ends-cut, ends-unsettled, same-writes, same-reads, same-settles, replied-still, write-end-settles}
use Rattle.session.proofs.talks.Talk.turn.Goals as goal

pub returns-in_err-request-clause-turned : goal.returns-in_err-request-clause-turned
returns-in_err-request-clause-turned g c = λ calls left taken h.
    let p = err_from_is_err_and c.from_residual.result c.from_residual.ensures.1 in
    let law = g.met.K.Link.pulls_apart in
    let same = ap (λ (s : Side). s.bytes) (sym (law c.next.new.link) ∙ c.next.ensures.apart ∙ law c.args.link.now) in
    let heard = c.in_err-request.ensures.heard left (requests_of h.exchanges) h.heard in
    rw (p.1, p.2) (same-spoken c.args.config.now (g.R.Runs.number c.args.actor.now) (g.C.Clock.shows c.args.clock.now) calls left taken (g.R.Runs.StandsFor c.args.actor.now) (g.R.Runs.Settled c.args.actor.now) _ _ _ _ _ _ same c.next.ensures.frames
    (ends-here c.args.config.now (g.R.Runs.number c.args.actor.now) (g.C.Clock.shows c.args.clock.now) calls left taken (g.R.Runs.StandsFor c.args.actor.now) (g.R.Runs.Settled c.args.actor.now) _ _ _ _ _ _ h c.in_err-request.ensures.unsettled heard))

pub returns-in_err-request-clause-counted : goal.returns-in_err-request-clause-counted
returns-in_err-request-clause-counted g c =
    let p = err_from_is_err_and c.from_residual.result c.from_residual.ensures.1 in
    let law = g.met.K.Link.pulls_apart in
    let same = ap (λ (s : Side). s.faults) (sym (law c.next.new.link) ∙ c.next.ensures.apart ∙ law c.args.link.now) in
    rw (p.1, p.2) (same-writes (g.K.Source.read_faults c.args.link.now) (g.K.Source.read_faults c.next.new.link) (g.K.Sink.write_faults c.args.link.now) (g.K.Sink.write_faults c.next.new.link)
    (Some c.in_err-request.field-0.0) same (c.in_err-request.ensures.counted (g.K.Sink.write_faults c.args.link.now)))

pub returns-in_default-clause-turned : goal.returns-in_default-clause-turned
returns-in_default-clause-turned g c = λ calls left taken h.
    let law = g.met.K.Link.pulls_apart in
    let same = ap (λ (s : Side). s.bytes) (sym (law c.next.new.link) ∙ c.next.ensures.apart ∙ law c.args.link.now) in
    let heard = subst (λ r. Hears left (g.K.Source.left c.next.new.link) (requests_of h.exchanges) (frames_limit - c.args.self.now.frames) c.next.new.self.input (Ok r)) c.in_default.is
    (c.in_ok-request.ensures.heard left (requests_of h.exchanges) h.heard) in
    same-spoken c.args.config.now (g.R.Runs.number c.args.actor.now) (g.C.Clock.shows c.args.clock.now) calls left taken (g.R.Runs.StandsFor c.args.actor.now) (g.R.Runs.Settled c.args.actor.now) _ _ _ _ _ _ same c.next.ensures.frames
    (ends-here c.args.config.now (g.R.Runs.number c.args.actor.now) (g.C.Clock.shows c.args.clock.now) calls left taken (g.R.Runs.StandsFor c.args.actor.now) (g.R.Runs.Settled c.args.actor.now) _ _ _ _ _ _ h (λ n. refl) heard)

pub returns-in_default-clause-counted : goal.returns-in_default-clause-counted
returns-in_default-clause-counted g c =
    let law = g.met.K.Link.pulls_apart in
    let same = ap (λ (s : Side). s.faults) (sym (law c.next.new.link) ∙ c.next.ensures.apart ∙ law c.args.link.now) in
    same-writes (g.K.Source.read_faults c.args.link.now) (g.K.Source.read_faults c.next.new.link) (g.K.Sink.write_faults c.args.link.now) (g.K.Sink.write_faults c.next.new.link)
    None same (c.in_ok-request.ensures.counted (g.K.Sink.write_faults c.args.link.now))

pub answer-told-requires-clause-short : goal.answer-told-requires-clause-short
answer-told-requires-clause-short g c = c.requires.short c.in-Some.request

pub returns-in_err-settle-clause-turned : goal.returns-in_err-settle-clause-turned
returns-in_err-settle-clause-turned g c = λ calls left taken h.
    let p = err_from_is_err_and c.from_residual-in_err-settle.result c.from_residual-in_err-settle.ensures.1 in
    let law = g.met.K.Link.pulls_apart in
    let same = ap (λ (s : Side). s.bytes) (sym (law c.next.new.link) ∙ c.next.ensures.apart ∙ law c.args.link.now) in
    let k = subst (λ r. Hears left (g.K.Source.left c.next.new.link) (requests_of h.exchanges) (frames_limit - c.args.self.now.frames) c.next.new.self.input (Ok r)) c.in-Some.is
    (c.in_ok-request.ensures.heard left (requests_of h.exchanges) h.heard) in
    let r = replied-still c.args.config.now (g.R.Runs.number c.args.actor.now) c.in-Some.request (g.C.Clock.shows c.args.clock.now) (g.R.Runs.StandsFor c.answer-told.new.actor) (g.R.Runs.StandsFor c.settle.new.self)
    (calls ++ calls_of h.exchanges) c.answer-told.result c.settle.ensures.made (c.answer-told.ensures.replied (calls ++ calls_of h.exchanges) h.made) in
    rw (p.1, p.2) (same-spoken c.args.config.now (g.R.Runs.number c.args.actor.now) (g.C.Clock.shows c.args.clock.now) calls left taken (g.R.Runs.StandsFor c.settle.new.self) (g.R.Runs.Settled c.settle.new.self) _ _ _ _ _ _ same c.next.ensures.frames
    (ends-unsettled c.args.config.now (g.R.Runs.number c.args.actor.now) (g.C.Clock.shows c.args.clock.now) calls left taken (g.R.Runs.StandsFor c.args.actor.now) (g.R.Runs.Settled c.args.actor.now) (g.R.Runs.StandsFor c.settle.new.self) (g.R.Runs.Settled c.settle.new.self) _ _ _ _ h
    c.in-Some.request c.answer-told.result r _ k.0 _ k.2))

pub returns-in_err-settle-clause-counted : goal.returns-in_err-settle-clause-counted
returns-in_err-settle-clause-counted g c =
    let p = err_from_is_err_and c.from_residual-in_err-settle.result c.from_residual-in_err-settle.ensures.1 in
    let law = g.met.K.Link.pulls_apart in
    let same = ap (λ (s : Side). s.faults) (sym (law c.next.new.link) ∙ c.next.ensures.apart ∙ law c.args.link.now) in
    rw (p.1, p.2) ((c.in_ok-request.ensures.counted 0).0, same)

pub returns-in_err-settle-clause-settles : goal.returns-in_err-settle-clause-settles
returns-in_err-settle-clause-settles g c =
    let p = err_from_is_err_and c.from_residual-in_err-settle.result c.from_residual-in_err-settle.ensures.1 in
    rw (p.1, p.2) (subst (λ n. Faulted n (g.R.Runs.unsettled c.settle.new.self)) c.answer-told.ensures.unsettled c.in_err-settle.ensures.counted)

pub returns-in_err-request-clause-settles : goal.returns-in_err-request-clause-settles
returns-in_err-request-clause-settles g c =
    let p = err_from_is_err_and c.from_residual.result c.from_residual.ensures.1 in
    rw (p.1, p.2) (c.in_err-request.ensures.unsettled (g.R.Runs.unsettled c.args.actor.now))

pub returns-in_err-reply-clause-settles : goal.returns-in_err-reply-clause-settles
returns-in_err-reply-clause-settles g c =
    let p = err_from_is_err_and c.from_residual-in_err-reply.result c.from_residual-in_err-reply.ensures.1 in
    rw (p.1, p.2) (same-settles (g.R.Runs.unsettled c.args.actor.now) (g.R.Runs.unsettled c.settle.new.self) (Some c.in_err-reply.field-0.0)
    (c.in_ok-settle.ensures.sound ∙ c.answer-told.ensures.unsettled) (write-end-settles c.in_err-reply.field-0.0 c.in_err-reply.ensures.memory (g.R.Runs.unsettled c.args.actor.now)))

pub returns-in_err-reply-clause-turned : goal.returns-in_err-reply-clause-turned
returns-in_err-reply-clause-turned g c = λ calls left taken h.
    let p = err_from_is_err_and c.from_residual-in_err-reply.result c.from_residual-in_err-reply.ensures.1 in
    let law = g.met.K.Link.pulls_apart in
    let back = g.met.K.Link.pushes_apart in
    let same = ap (λ (s : Side). s.bytes) (sym (law c.next.new.link) ∙ c.next.ensures.apart ∙ law c.args.link.now) in
    let kept = ap (λ (s : Side). s.bytes) (sym (back c.reply.new.link) ∙ c.reply.ensures.apart ∙ back c.next.new.link) in
    let k = subst (λ r. Hears left (g.K.Source.left c.next.new.link) (requests_of h.exchanges) (frames_limit - c.args.self.now.frames) c.next.new.self.input (Ok r)) c.in-Some.is
    (c.in_ok-request.ensures.heard left (requests_of h.exchanges) h.heard) in
    let e = c.in_err-reply.field-0.0 in
    let over = subst (λ a. IsHeard left a (requests_of h.exchanges ++ c.in-Some.request ∷ []) k.0 c.next.new.self.input) (sym kept) k.2 in
    let heard = heard-front left _ (requests_of h.exchanges ++ c.in-Some.request ∷ []) e _ _ c.in_err-reply.ensures.memory over in
    let r = replied-still c.args.config.now (g.R.Runs.number c.args.actor.now) c.in-Some.request (g.C.Clock.shows c.args.clock.now) (g.R.Runs.StandsFor c.answer-told.new.actor) (g.R.Runs.StandsFor c.settle.new.self)
    (calls ++ calls_of h.exchanges) c.answer-told.result c.settle.ensures.made (c.answer-told.ensures.replied (calls ++ calls_of h.exchanges) h.made) in
    let front = c.in_err-reply.ensures.begun in
    let more = subst (λ x. Appends x (g.K.Sink.taken c.reply.new.link) front.0) same front.2 in
    rw (p.1, p.2) (same-spoken c.args.config.now (g.R.Runs.number c.args.actor.now) (g.C.Clock.shows c.args.clock.now) calls left taken (g.R.Runs.StandsFor c.settle.new.self) (g.R.Runs.Settled c.settle.new.self) _ _ _ _ _ _ refl c.next.ensures.frames
    (ends-cut c.args.config.now (g.R.Runs.number c.args.actor.now) (g.C.Clock.shows c.args.clock.now) calls left taken (g.R.Runs.StandsFor c.args.actor.now) (g.R.Runs.Settled c.args.actor.now) (g.R.Runs.StandsFor c.settle.new.self) (g.R.Runs.Settled c.settle.new.self) _ _ _ _ h
    c.in-Some.request c.answer-told.result r _ _ e front.0 c.in_ok-settle.ensures.settled c.in_err-reply.ensures.memory heard more front.1))

pub returns-in_err-reply-clause-counted : goal.returns-in_err-reply-clause-counted
returns-in_err-reply-clause-counted g c =
    let p = err_from_is_err_and c.from_residual-in_err-reply.result c.from_residual-in_err-reply.ensures.1 in
    let law = g.met.K.Link.pulls_apart in
    let back = g.met.K.Link.pushes_apart in
    let writes = ap (λ (s : Side). s.faults) (sym (law c.next.new.link) ∙ c.next.ensures.apart ∙ law c.args.link.now) in
    let reads = ap (λ (s : Side). s.faults) (sym (back c.reply.new.link) ∙ c.reply.ensures.apart ∙ back c.next.new.link) ∙ (c.in_ok-request.ensures.counted 0).0 in
    rw (p.1, p.2) (same-reads (g.K.Source.read_faults c.args.link.now) (g.K.Source.read_faults c.reply.new.link) (g.K.Sink.write_faults c.args.link.now) (g.K.Sink.write_faults c.reply.new.link) (Some c.in_err-reply.field-0.0) reads
    (subst (λ w. IsCounted (g.K.Source.read_faults c.args.link.now) (g.K.Source.read_faults c.args.link.now) w (g.K.Sink.write_faults c.reply.new.link) (Some c.in_err-reply.field-0.0)) writes
    (c.in_err-reply.ensures.counted (g.K.Source.read_faults c.args.link.now))))

pub returns-clause-turned : goal.returns-clause-turned
returns-clause-turned g c = λ calls left taken h.
    let law = g.met.K.Link.pulls_apart in
    let back = g.met.K.Link.pushes_apart in
    let same = ap (λ (s : Side). s.bytes) (sym (law c.next.new.link) ∙ c.next.ensures.apart ∙ law c.args.link.now) in
    let kept = ap (λ (s : Side). s.bytes) (sym (back c.reply.new.link) ∙ c.reply.ensures.apart ∙ back c.next.new.link) in
    let k = subst (λ r. Hears left (g.K.Source.left c.next.new.link) (requests_of h.exchanges) (frames_limit - c.args.self.now.frames) c.next.new.self.input (Ok r)) c.in-Some.is
    (c.in_ok-request.ensures.heard left (requests_of h.exchanges) h.heard) in
    let over = subst (λ a. IsHeard left a (requests_of h.exchanges ++ c.in-Some.request ∷ []) k.0 c.next.new.self.input) (sym kept) k.2 in
    let r = replied-still c.args.config.now (g.R.Runs.number c.args.actor.now) c.in-Some.request (g.C.Clock.shows c.args.clock.now) (g.R.Runs.StandsFor c.answer-told.new.actor) (g.R.Runs.StandsFor c.settle.new.self)
    (calls ++ calls_of h.exchanges) c.answer-told.result c.settle.ensures.made (c.answer-told.ensures.replied (calls ++ calls_of h.exchanges) h.made) in
    let more = subst (λ x. Appends x (g.K.Sink.taken c.reply.new.link) (reply_bytes c.answer-told.result)) same c.in_ok-reply.ensures.ok in
    subst (λ n. IsAt c.args.config.now (g.R.Runs.number c.args.actor.now) (g.C.Clock.shows c.args.clock.now) (g.R.Runs.StandsFor c.settle.new.self) (g.R.Runs.Settled c.settle.new.self) calls left (g.K.Source.left c.reply.new.link) taken (g.K.Sink.taken c.reply.new.link) (n + 1) c.next.new.self.input)
    (sym c.next.ensures.frames)
    (at-more c.args.config.now (g.R.Runs.number c.args.actor.now) (g.C.Clock.shows c.args.clock.now) calls left taken (g.R.Runs.StandsFor c.args.actor.now) (g.R.Runs.Settled c.args.actor.now) (g.R.Runs.StandsFor c.settle.new.self) (g.R.Runs.Settled c.settle.new.self) _ _ _ _ h
    c.in-Some.request c.answer-told.result r _ _ k.0 _ c.in_ok-settle.ensures.settled k.1 over more)

pub returns-clause-counted : goal.returns-clause-counted
returns-clause-counted g c =
    let law = g.met.K.Link.pulls_apart in
    let back = g.met.K.Link.pushes_apart in (
      ap (λ (s : Side). s.faults) (sym (back c.reply.new.link) ∙ c.reply.ensures.apart ∙ back c.next.new.link) ∙ (c.in_ok-request.ensures.counted 0).0,
      (c.in_ok-reply.ensures.counted 0).1 ∙ ap (λ (s : Side). s.faults) (sym (law c.next.new.link) ∙ c.next.ensures.apart ∙ law c.args.link.now),
    )
