use Rattle.std.proofs.Common.{◌≡◌, ◌≤◌, ℕ, List, [], refl, ap, sym, ◌∙◌, subst}
use Rattle.std.specs.Prelude.{Option, Some, IfSome}
use Rattle.cm_base.specs.Configuration.{Configuration}
use Rattle.cm_frame.specs.Framing.{frames_limit}
use Rattle.cmd_program.specs.Exchanges.{calls_of}
use Rattle.cmd_program.specs.Judging.{step}
use Rattle.cmd_program.specs.Running.{Call}
use Rattle.cm_server.specs.inner.Begun.{HasEnded, session_of}
use Rattle.cm_server.specs.inner.Links.{LinkState, link_state}
use Rattle.cm_server.specs.inner.Trails.{Led}
use Rattle.nexus.specs.Worlds.{PassView}
use Rattle.session.specs.Spoken.{AreSettlesCounted, Spoken, IsCounted}
use Rattle.session.specs.declared.end.SessionEnd.{SessionEnd}
use Rattle.cm_server.proofs.Talked.{all-settled, settled-none}
use Rattle.cm_server.proofs.sessions.beginning.talk.Goals as goal

-- the calls of a session led its pass from where it was begun
has-ended : (config : Configuration) (Shows : ℕ → Type 0) (n : ℕ) (first : Option PassView) (pass after : PassView) (a b : LinkState) (end : SessionEnd)
    → first ≡ Some pass
    → (Settled : Type 0) → Spoken step config n Shows (λ (calls : List Call). IfSome first (λ p. Led p calls after)) Settled [] a.left b.left a.taken b.taken end
    → AreSettlesCounted 0 0 end.fault → IsCounted a.reads b.reads a.writes b.writes end.fault → end.frames ≤ frames_limit → HasEnded config Shows (session_of n a pass b after end)
has-ended config Shows n first pass after a b end is Settled s settles counted few = record {
  session = record {
    spoken = record {
      exchanges = s.exchanges;
      asked = s.asked;
      made = subst (λ (f : Option PassView). IfSome f (λ p. Led p (calls_of s.exchanges) after)) is s.made;
      shown = s.shown;
      bytes = s.bytes;
      input = s.input;
      requests = s.requests;
      pushed = s.pushed;
      output = s.output;
      replies = s.replies;
      settled = settled-none s.exchanges end.fault;
      frames = s.frames;
      turns = s.turns;
    };
    settled = all-settled end.fault settles;
    counted = counted;
  };
  few = few;
}

-- the same link, by what is seen of it
same-state : (a b : LinkState) → a.left ≡ b.left → a.taken ≡ b.taken → a.reads ≡ b.reads → a.writes ≡ b.writes → a ≡ b
same-state a b left taken reads writes =
    ap (λ x. record { left = x; taken = a.taken; reads = a.reads; writes = a.writes }) left
    ∙ ap (λ x. record { left = b.left; taken = x; reads = a.reads; writes = a.writes }) taken
    ∙ ap (λ x. record { left = b.left; taken = b.taken; reads = x; writes = a.writes }) reads
    ∙ ap (λ x. record { left = b.left; taken = b.taken; reads = b.reads; writes = x }) writes

pub returns : goal.returns
returns g c =
    let state = link_state g.K.Source.left g.K.Sink.taken g.K.Source.read_faults g.K.Sink.write_faults in
    let Shows = g.C.Clock.shows c.args.shared.now.clock in
    let config = c.args.shared.now.config in
    let after = c.session-end.new.actor.pass in
    let end = c.session-end.result in
    let met = c.new-link.result.link in
    let pulled = c.session-end.new.link.link in
    let closed = c.close.new.self.link in
    let spoken = c.session-end.ensures.spoken [] (subst (λ (f : Option PassView). IfSome f (λ p. Led p [] c.args.pass)) (sym c.requires.first) refl) in
    let ended = has-ended config Shows c.args.number g.B.Origin.first c.args.pass after (state met) (state pulled) end c.requires.first _ spoken c.session-end.ensures.settles c.session-end.ensures.counted
    c.session-end.ensures.limit in
    let last : state pulled ≡ state c.into_link.result =
    same-state (state pulled) (state closed) (sym c.close.ensures.left) (sym c.close.ensures.taken) (sym c.close.ensures.reads) (sym c.close.ensures.writes)
    ∙ ap state (sym c.into_link.ensures) in
    subst (λ (l : LinkState). HasEnded config Shows (session_of c.args.number l c.args.pass (state c.into_link.result) after end)) (ap state c.new-link.ensures)
    (subst (λ (l : LinkState). HasEnded config Shows (session_of c.args.number (state met) c.args.pass l after end)) last ended)
