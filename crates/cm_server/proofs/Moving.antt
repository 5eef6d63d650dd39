-- A root moves on, whether memory is wanted or not
use Rattle.std.proofs.Common.{◌≡◌, ℕ, List, [], ◌∷◌, length, refl, ap, sym, ◌∙◌, subst, arith}
use Rattle.cm_history.specs.declared.act.Actor.{Actor}
use Rattle.cm_server.specs.inner.Passes.{HasJoined, HasMoved, IsReady}
use Rattle.cm_server.specs.inner.Working.{HaveStarted, HaveStopped}
use Rattle.cm_server.proofs.Joined.{joined-made, joined-none, joined-taken, joined-then, ready-made, ready-taken}
use Rattle.cm_server.proofs.Passing.{known-then}
use Rattle.cm_server.proofs.Settling.{SettledSoFar}
use Rattle.nexus.specs.Roots.{RootView, WasMade, WasTaken}
use Rattle.nexus.specs.Worlds.{PassView, WorldView}
use Rattle.merged_history.specs.declared.known.Ticket.{Ticket}

-- as many passes were joined as were made
pub moved-joined : (world : WorldView) (before after : RootView) (made : ℕ) (passes : List PassView) → IsReady world after → HasJoined before after made passes → length passes ≡ made
    → HasMoved world before after
moved-joined world before after made passes ready joined all = record {
  ready = ready;
  known = joined.known;
  out = (let out = joined.out in omega (arith, out, all));
}

pub moved-none : (world : WorldView) (before after : RootView) → IsReady world before → after ≡ before → HasMoved world before after
moved-none world before after ready same =
    let here : HasMoved world before before = record { ready = ready; known = (joined-none before).known; out = refl } in subst (HasMoved world before) (sym same) here

pub moved-then : (world : WorldView) (a b c : RootView) → HasMoved world a b → HasMoved world b c → HasMoved world a c
moved-then world a b c one two = record {
  ready = two.ready;
  known = known-then a.seen a.marks b.seen b.marks c.seen c.marks one.known two.known;
  out = two.out ∙ one.out;
}

-- no pass is out, where none was out before
pub moved-alone : (world : WorldView) (before after : RootView) → HasMoved world before after → before.out ≡ [] → length after.out ≡ 0
moved-alone world before after moved alone = moved.out ∙ ap (λ (l : List Ticket). length l) alone

-- beside pumps, which were started and stopped
pub moved-beside : (world : WorldView) (Shows : ℕ → Type 0) (workers : ℕ) (zero one two three : RootView) → HaveStarted world zero one workers → HasMoved world one two
    → HaveStopped world Shows two three workers → HasMoved world zero three
moved-beside world Shows workers zero one two three started moved stopped = record {
  ready = stopped.ready;
  known = known-then zero.seen zero.marks two.seen two.marks three.seen three.marks
      (known-then zero.seen zero.marks one.seen one.marks two.seen two.marks started.joined.known moved.known) stopped.joined.known;
  out = (let x = started.joined.out in let y = moved.out in let z = stopped.joined.out in let count = stopped.count in omega (arith, x, y, z, count));
}

-- a pass was made, and joined
pub moved-pass : (world : WorldView) (before between after : RootView) (p q : PassView) (actor : Actor) → IsReady world before → WasMade before between p actor → WasTaken between after q
    → HasMoved world before after
moved-pass world before between after p q actor ready made taken =
    let joined = joined-then before between after 1 0 [] (q ∷ []) (joined-made world before between p actor ready made) (joined-taken between after q taken) in
    record {
      ready = ready-taken world between after q (ready-made world before between p actor ready made) taken;
      known = joined.known;
      out = (let out = joined.out in omega (arith, out));
    }

-- the first units were pumped
pub moved-settled : (world : WorldView) (Shows : ℕ → Type 0) (before now : RootView) (done : ℕ) → before.out ≡ [] → SettledSoFar world Shows before now done → HasMoved world before now
moved-settled world Shows before now done alone s = record {
  ready = s.ready;
  known = s.joined.known;
  out = ap (λ (l : List Ticket). length l) (s.alone ∙ sym alone);
}
