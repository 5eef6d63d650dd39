-- A world that is served, step by step
use Rattle.std.specs.Prelude.{◌≡◌, ℕ, List, ◌++◌, length, map, Option}
use Rattle.cm_base.specs.Listening.{Gone}
use Rattle.cm_history.specs.Members.{Each}
use Rattle.cm_server.specs.declared.term.Term.{Term}
use Rattle.cm_server.specs.inner.Links.{LinkState, HaveCome, HaveGone}
use Rattle.cm_server.specs.inner.Passes.{IsReady, HasJoined}
use Rattle.cm_server.specs.inner.Pumping.{IsSomePump, AreLast}
use Rattle.cm_server.specs.inner.Sessions.{EndedSession, AreSessions, EndInOrder}
use Rattle.nexus.specs.Roots.{RootView}
use Rattle.nexus.specs.Worlds.{WorldView, PassView}
use Rattle.session.specs.declared.end.SessionEnd.{SessionEnd}

-- The sessions, in the order in which they ended: in it their passes were joined, and their links given back. Passes of pumps
-- were joined behind them. `links` are those that came, in the order of accepting.
pub record HasServed (term : Term) (world : WorldView) (Shows : ℕ → Type 0) (first : ℕ) (before after : RootView)
    (coming rest : Option (List (List ℕ))) (gone given : Option (List Gone)) (ends : List SessionEnd) : Type 0 where
  pub ready : IsReady world after
  pub sessions : List EndedSession
  pub links : List LinkState
  pub workers : List PassView
  pub made : ℕ
  pub are : AreSessions world before Shows first links sessions
  pub ordered : EndInOrder term first sessions
  pub workers_are : Each (IsSomePump world Shows) workers
  pub joined : HasJoined before after made (map (λ (s : EndedSession). s.pass) sessions ++ workers)
  pub none_out : length after.out ≡ length before.out
  pub ends_are : map (λ (s : EndedSession). s.end) sessions ≡ ends
  pub come : HaveCome coming rest links
  pub back : HaveGone gone given (map (λ (s : EndedSession). s.link) sessions)

-- Then each unit was pumped until it was idle, and the passes for that were joined.
pub record HasSettled (world : WorldView) (Shows : ℕ → Type 0) (before after : RootView) : Type 0 where
  pub ready : IsReady world after
  pub lasts : List PassView
  pub are : AreLast world Shows before.seen 0 lasts
  pub each_unit : length lasts ≡ length world.config.units
  pub joined : HasJoined before after (length lasts) lasts
