-- What is served, step by step, is served in all
use Rattle.std.proofs.Common.{ℕ, ◌+◌, List, [], arith}
use Rattle.std.specs.Prelude.{Option, map}
use Rattle.cm_base.specs.Listening.{Gone}
use Rattle.cm_history.specs.declared.act.Actor.{Actor}
use Rattle.cm_history.proofs.PublicLaws.{Each-by, Each-in}
use Rattle.cm_server.specs.declared.term.Term.{Term}
use Rattle.cm_server.specs.inner.Links.{LinkState}
use Rattle.cm_server.specs.inner.Passes.{IsKnown}
use Rattle.cm_server.specs.inner.Running.{HaveTalked}
use Rattle.cm_server.specs.inner.Serving.{HasServed}
use Rattle.cm_server.specs.inner.Sessions.{EndedSession, IsStart, AreSessions}
use Rattle.cm_server.specs.inner.Working.{HaveStarted, HaveStopped}
use Rattle.cm_server.proofs.Joined.{joined-then, new-later}
use Rattle.nexus.specs.Roots.{RootView}
use Rattle.nexus.specs.Worlds.{WorldView}
use Rattle.session.specs.declared.end.SessionEnd.{SessionEnd}

-- sessions beside workers
sessions-later : (world : WorldView) (first now : RootView) (Shows : ℕ → Type 0) (n : ℕ) (links : List LinkState) (ss : List EndedSession)
    → IsKnown first.seen first.marks now.seen now.marks → AreSessions world now Shows n links ss → AreSessions world first Shows n links ss
sessions-later world first now Shows n links ss known are = record {
  begun = Each-by (λ (s : EndedSession). IsStart world first n links s.start) ss
      (λ s i. (let start = Each-in (λ (x : EndedSession). IsStart world now n links x.start) ss s are.begun i in record {
        pass = new-later world first now (Actor.Nexus s.start.nexus) s.start.pass known start.pass;
        low = start.low;
        at = start.at;
        link = start.link;
      }));
  facts = are.facts;
  apart = are.apart;
  all = are.all;
}

pub has-served : (term : Term) (world : WorldView) (Shows : ℕ → Type 0) (first workers : ℕ) (zero one two three : RootView) (coming rest : Option (List (List ℕ))) (before after : Option (List Gone))
    (ends : List SessionEnd) → HaveStarted world zero one workers → HaveTalked term world Shows first one two coming rest before after ends → HaveStopped world Shows two three workers
    → HasServed term world Shows first zero three coming rest before after ends
has-served term world Shows first workers zero one two three coming rest before after ends started talked stopped =
    let passes = map (λ (s : EndedSession). s.pass) talked.sessions in
    record {
      ready = stopped.ready;
      sessions = talked.sessions;
      links = talked.links;
      ordered = talked.ordered;
      workers = stopped.passes;
      made = (workers + talked.made) + 0;
      are = sessions-later world zero one Shows first talked.links talked.sessions started.joined.known talked.are;
      workers_are = stopped.are;
      joined = joined-then zero two three (workers + talked.made) 0 passes stopped.passes
          (joined-then zero one two workers talked.made [] passes started.joined talked.joined) stopped.joined;
      none_out = (let x = started.joined.out in let y = talked.none_out in let z = stopped.joined.out in let count = stopped.count in omega (arith, x, y, z, count));
      ends_are = talked.ends_are;
      come = talked.come;
      back = talked.back;
    }
