-- Sessions that were begun, and what their threads hand on
use Rattle.std.specs.Prelude.{◌≡◌, ◌≤◌, ◌+◌, ◌-◌, ℕ, zero, suc, List, [], ◌∷◌, length, map, slice_get, Some, if◌then◌else◌, ◌==◌}
use Rattle.cm_base.specs.Configuration.{Configuration}
use Rattle.cm_history.specs.declared.act.Actor.{Actor}
use Rattle.cm_history.specs.Members.{Each}
use Rattle.cmd_program.specs.Judging.{step}
use Rattle.cmd_program.specs.Running.{Call}
use Rattle.cm_server.specs.Talks.{IsSettled}
use Rattle.cm_server.specs.declared.term.Term.{Term}
use Rattle.cm_server.specs.inner.Links.{LinkState, IsUnfailed}
use Rattle.cm_server.specs.inner.Passes.{IsNew}
use Rattle.cm_server.specs.inner.Trails.{Led}
use Rattle.nexus.specs.Roots.{RootView}
use Rattle.nexus.specs.Worlds.{WorldView, PassView}
use Rattle.session.specs.declared.end.SessionEnd.{SessionEnd}
use Rattle.session.specs.Spoken.{Spoken, IsCounted}

-- how a session was begun: its nexus, its link, and its pass
pub record Start : Type 0 where
  pub nexus : ℕ
  pub link : LinkState
  pub pass : PassView

-- a session that has ended: how it was begun, and what it hands back
pub record EndedSession : Type 0 where
  pub start : Start
  pub link : LinkState
  pub pass : PassView
  pub end : SessionEnd

-- The fact that the join of a session hands on: its own calls led its pass from where it was begun to where it is, and its
-- own link took the replies of its own requests. It names no other session.
pub record IsSession (config : Configuration) (Shows : ℕ → Type 0) (s : EndedSession) : Type 0 where
  pub spoken : Spoken step config s.start.nexus Shows (λ (calls : List Call). Led s.start.pass calls s.pass) (Unit {0}) []
      s.start.link.left s.link.left s.start.link.taken s.link.taken s.end
  pub settled : IsSettled s.end.fault
  pub counted : IsCounted s.start.link.reads s.link.reads s.start.link.writes s.link.writes s.end.fault

-- The session was begun with a new pass, on the link of its place among these that came, which had not failed. The nexus
-- of the first of them is `first`.
pub record IsStart (world : WorldView) (root : RootView) (first : ℕ) (links : List LinkState) (s : Start) : Type 0 where
  pub pass : IsNew world root (Actor.Nexus s.nexus) s.pass
  pub low : first ≤ s.nexus
  pub at : slice_get links (s.nexus - first) ≡ Some s.link
  pub link : IsUnfailed s.link

-- how often a number stands in the list
abbrev pub times : ℕ → List ℕ → ℕ
times k [] = 0
times k (n ∷ ns) = (if n == k then 1 else 0) + times k ns

-- the nexuses of sessions that were begun
abbrev pub nexuses : List Start → List ℕ
nexuses starts = map (λ (s : Start). s.nexus) starts

-- so many numbers, from one on
abbrev pub numbers : ℕ → ℕ → List ℕ
numbers first zero = []
numbers first (suc n) = first ∷ numbers (suc first) n

-- how they were begun
abbrev pub starts_of : List EndedSession → List Start
starts_of sessions = map (λ (s : EndedSession). s.start) sessions

-- The sessions have ended, each with its fact: one on each of these links that came, and no two of one nexus.
pub record AreSessions (world : WorldView) (root : RootView) (Shows : ℕ → Type 0) (first : ℕ) (links : List LinkState) (sessions : List EndedSession) : Type 0 where
  pub begun : Each (λ (s : EndedSession). IsStart world root first links s.start) sessions
  pub facts : Each (IsSession world.config Shows) sessions
  pub apart : (k : ℕ) → times k (nexuses (starts_of sessions)) ≤ 1
  pub all : length sessions ≡ length links

-- Where as many were asked for they have ended in the order of accepting.
abbrev pub EndInOrder : Term → ℕ → List EndedSession → Type 0
EndInOrder term first sessions = term ≡ Term.Counted → nexuses (starts_of sessions) ≡ numbers first (length sessions)
