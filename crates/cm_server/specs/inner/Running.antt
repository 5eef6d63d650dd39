-- What is done in the scope of the threads
use Rattle.std.specs.Prelude.{◌≡◌, ℕ, List, length, map, Option}
use Rattle.cm_base.specs.Listening.{Gone}
use Rattle.cm_server.specs.declared.serving.Ran.{Ran}
use Rattle.cm_server.specs.declared.sessions.accepting.AcceptEnd.{AcceptEnd}
use Rattle.cm_server.specs.declared.term.Term.{Term}
use Rattle.cm_server.specs.inner.Begun.{WereBegun}
use Rattle.cm_server.specs.inner.Counting.{AreCounts}
use Rattle.cm_server.specs.inner.Links.{LinkState, HaveCome, HaveGone}
use Rattle.cm_server.specs.inner.Passes.{IsReady, HasJoined}
use Rattle.cm_server.specs.inner.Sessions.{EndedSession, AreSessions, EndInOrder}
use Rattle.nexus.specs.Roots.{RootView}
use Rattle.nexus.specs.Worlds.{WorldView}
use Rattle.session.specs.declared.end.SessionEnd.{SessionEnd}

-- The sessions, in the order in which they ended: in it their passes were joined, and their links given back. `links` are
-- those that came, in the order of accepting.
pub record HaveTalked (term : Term) (world : WorldView) (Shows : ℕ → Type 0) (first : ℕ) (before after : RootView)
    (coming rest : Option (List (List ℕ))) (gone given : Option (List Gone)) (ends : List SessionEnd) : Type 0 where
  pub ready : IsReady world after
  pub sessions : List EndedSession
  pub links : List LinkState
  pub made : ℕ
  pub are : AreSessions world before Shows first links sessions
  pub ordered : EndInOrder term first sessions
  pub joined : HasJoined before after made (map (λ (s : EndedSession). s.pass) sessions)
  pub none_out : length after.out ≡ length before.out
  pub ends_are : map (λ (s : EndedSession). s.end) sessions ≡ ends
  pub come : HaveCome coming rest links
  pub back : HaveGone gone given (map (λ (s : EndedSession). s.link) sessions)

-- so many sessions were served, and their ends are counted
pub record HasRan (term : Term) (ran : Ran) (asked : ℕ) (ends : List SessionEnd) : Type 0 where
  pub counts_are : AreCounts ends ran.counts
  pub were : WereBegun term ran.end asked (length ends)

-- nothing is said of the sessions together where memory was wanted
abbrev pub UnlessWanted : AcceptEnd → Type 0 → Type 0
UnlessWanted AcceptEnd.OutOfMemory P = Unit {0}
UnlessWanted AcceptEnd.All P = P
UnlessWanted AcceptEnd.Failed P = P
UnlessWanted AcceptEnd.Asked P = P
