use Rattle.std.proofs.Common.{subst}
use Rattle.std.proofs.lemmas.Result.{err_from_is_err_and}
use Rattle.trace_replay.specs.inner.Machines.{IsEffect}
use Rattle.trace_replay.proofs.Playing.{ends-memory, unfit-ends}
use Rattle.trace_replay.proofs.Counted.{room-item, quiet-at, passed-waits, replied-at}
use Rattle.trace_replay.proofs.player.Player.play.Goals as goal

pub returns-in_err-play-clause-played : goal.returns-in_err-play-clause-played
returns-in_err-play-clause-played g c = λ left rest taken is.
    let p = err_from_is_err_and c.from_residual.result c.from_residual.ensures.1 in
    rw (p.1, p.2) (ends-memory left rest taken _ is.config is.s _ _ _ _ is.loop)

pub pass-requires-clause-item : goal.pass-requires-clause-item
pass-requires-clause-item g c = (c.args.found.item, c.requires.found)

pub pass-requires-in-Answers-clause-item : goal.pass-requires-in-Answers-clause-item
pass-requires-in-Answers-clause-item g c = (c.args.found.item, c.requires.found)

pub count_reply-requires-clause-room : goal.count_reply-requires-clause-room
count_reply-requires-clause-room g c =
    let is = c.requires.playing in
    let effect = subst (λ e. IsEffect is.config is.s c.args.found.item e c.play.new.self) c.in-Answers.is (c.in_ok-play.ensures is.config is.s is.machine) in
    rw (c.pass-in-Answers.ensures is.config _ effect.0.state) (room-item _ is.s _ is.summary is.few)

pub returns-in-Unfit-clause-played : goal.returns-in-Unfit-clause-played
returns-in-Unfit-clause-played g c = λ left rest taken is.
    let unfit = subst (λ e. IsEffect is.config is.s c.args.found.item e c.play.new.self) c.in-Unfit.is (c.in_ok-play.ensures is.config is.s is.machine) in
    c.bad_record.ensures.ended left rest taken is.config is.s _ _ is.loop
    (unfit-ends is.config is.s _ _ _ c.args.found.item c.args.found.used c.requires.left c.requires.found unfit)

pub returns-in-Quiet-clause-played : goal.returns-in-Quiet-clause-played
returns-in-Quiet-clause-played g c = λ left rest taken is.
    let h = subst (λ e. IsEffect is.config is.s c.args.found.item e c.play.new.self) c.in-Quiet.is (c.in_ok-play.ensures is.config is.s is.machine) in
    quiet-at left rest taken _ c.args.self.now is c.args.found.item c.args.found.used c.requires.left c.requires.found c.play.new.self h c.pass.new.self
    (c.pass.ensures is.config _ h.state)

pub returns-in-Answers-clause-played : goal.returns-in-Answers-clause-played
returns-in-Answers-clause-played g c = λ left rest taken is.
    let effect = subst (λ e. IsEffect is.config is.s c.args.found.item e c.play.new.self) c.in-Answers.is (c.in_ok-play.ensures is.config is.s is.machine) in
    let new = c.pass-in-Answers.ensures is.config _ effect.0.state in
    replied-at left rest taken _ c.args.self.now is c.args.found.item c.args.found.used c.requires.left c.requires.found c.play.new.self
    (record { initiator = c.in-Answers.initiator; reply = c.in-Answers.reply }) effect.0 effect.1 _ c.pass-in-Answers.new.self new _ _ c.count_reply.ensures
    c.write_reply.result
    (c.write_reply.ensures.written taken _
    (passed-waits left rest taken _ c.args.self.now is c.args.found.item c.args.found.used c.requires.left c.requires.found c.play.new.self effect.0.shortage c.pass-in-Answers.new.self new))
