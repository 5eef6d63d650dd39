-- Sessions that were begun, each in a thread of its own or at once
use Rattle.std.specs.Prelude.{◌≡◌, ◌≤◌, ◌<◌, ◌+◌, ℕ, suc, List, [], ◌∷◌, ◌++◌, length, map, Option}
use Rattle.cm_base.specs.Configuration.{Configuration}
use Rattle.cm_base.specs.Listening.{Gone, TakesBack, is_broken}
use Rattle.cm_base.specs.Outside.{Faulted}
use Rattle.cm_frame.specs.Framing.{frames_limit}
use Rattle.cm_history.specs.declared.act.Actor.{Actor}
use Rattle.cm_history.specs.Members.{Each}
use Rattle.cm_server.specs.declared.report.counts.SessionCounts.{SessionCounts}
use Rattle.cm_server.specs.declared.sessions.accepting.AcceptEnd.{AcceptEnd}
use Rattle.cm_server.specs.declared.sessions.beginning.Begun.{Begun}
use Rattle.cm_server.specs.declared.sessions.beginning.Begun.TheVariants.{Runs, Done}
use Rattle.cm_server.specs.declared.sessions.places.Placed.{Placed}
use Rattle.cm_server.specs.declared.term.Term.{Term}
use Rattle.cm_server.specs.inner.Counting.{AreCounts}
use Rattle.cm_server.specs.inner.Links.{LinkState, IsUnfailed, HaveCome, HaveGone}
use Rattle.cm_server.specs.inner.Passes.{IsFree, IsNew, IsReady, HasJoined}
use Rattle.cm_server.specs.inner.Sessions.{Start, EndedSession, IsSession, IsStart, nexuses, numbers, starts_of, times}
use Rattle.nexus.specs.Roots.{RootView, WasTaken}
use Rattle.nexus.specs.Worlds.{WorldView, PassView}
use Rattle.session.specs.declared.end.SessionEnd.{SessionEnd}

-- a session of a nexus that began and ended so
abbrev pub session_of : ℕ → LinkState → PassView → LinkState → PassView → SessionEnd → EndedSession
session_of nexus from first link pass end =
    record { start = record { nexus = nexus; link = from; pass = first }; link = link; pass = pass; end = end }

-- what the join of a session hands on: its fact, and that it had no more frames than it may
pub record HasEnded (config : Configuration) (Shows : ℕ → Type 0) (s : EndedSession) : Type 0 where
  pub session : IsSession config Shows s
  pub few : s.end.frames ≤ frames_limit

module _ {K R C : Type 0} (state : K → LinkState) (shows : C → ℕ → Type 0) (config : Configuration) (clock : C) where
  -- a thread was promised it, or it is so
  abbrev pub IsBegun : Start → Begun K R C → Type 0
  IsBegun start (Runs h) =
      (state h.promise.link.value ≡ start.link) × (h.promise.pass.value ≡ start.pass) × (h.promise.clock.value ≡ clock)
      × (h.promise.number ≡ start.nexus) × (start.pass.config ≡ config)
  IsBegun start (Done e) = HasEnded config (shows clock) (session_of start.nexus start.link start.pass (state e.link) e.pass e.end)

  -- each of these sessions was begun so
  abbrev pub AreBegun : List Start → List (Placed K R C) → Type 0
  AreBegun [] [] = Unit {0}
  AreBegun (s ∷ ss) (p ∷ ps) = IsBegun s p.begun × AreBegun ss ps
  AreBegun _ _ = ⊥

  -- What serving has come to, from the root `zero` on: so many links came, on each of which a session was begun. Some have
  -- ended; their passes were joined, their links given back, and they are counted, in this order: at a counted term in that of
  -- accepting. The others are open.
  pub record SoFar (term : Term) (world : WorldView) (first : ℕ) (zero now : RootView) (coming rest : Option (List (List ℕ))) (gone given : Option (List Gone))
      (placed : List (Placed K R C)) (counts : SessionCounts) (number : ℕ) : Type 0 where
    pub sessions : List EndedSession
    pub starts : List Start
    pub links : List LinkState
    pub are_open : AreBegun starts placed
    pub ended : Each (HasEnded config (shows clock)) sessions
    pub began : Each (λ (s : EndedSession). IsStart world zero first links s.start) sessions
    pub begin : Each (IsStart world zero first links) starts
    pub apart : (k : ℕ) → times k (nexuses (starts_of sessions)) + times k (nexuses starts) ≤ 1
    pub ordered : term ≡ Term.Counted → nexuses (starts_of sessions) ++ nexuses starts ≡ numbers first number
    pub many : length sessions + length starts ≡ number
    pub few : first + number ≤ 4_294_967_295
    pub links_many : length links ≡ number
    pub made : now.made ≡ first + number
    pub ready : IsReady world now
    pub joined : HasJoined zero now number (map (λ (s : EndedSession). s.pass) sessions)
    pub come : HaveCome coming rest links
    pub back : HaveGone gone given (map (λ (s : EndedSession). s.link) sessions)
    pub counted : AreCounts (map (λ (s : EndedSession). s.end) sessions) counts

  -- However serving came to the one, it comes to the other: sessions that were open have ended, or were passed over.
  abbrev pub GoesOn : Term → WorldView → RootView → RootView → Option (List Gone) → Option (List Gone) → List (Placed K R C) → List (Placed K R C) → SessionCounts → SessionCounts
      → Type 0
  GoesOn term world before after given later placed left counts more =
      (first number : ℕ) (zero : RootView) (coming rest : Option (List (List ℕ))) (gone : Option (List Gone))
      → SoFar term world first zero before coming rest gone given placed counts number → SoFar term world first zero after coming rest gone later left more number

  -- serving has come here somehow
  pub record HasCome (term : Term) (world : WorldView) (now : RootView) (given : Option (List Gone)) (placed : List (Placed K R C)) (counts : SessionCounts) : Type 0 where
    pub first : ℕ
    pub number : ℕ
    pub zero : RootView
    pub coming : Option (List (List ℕ))
    pub rest : Option (List (List ℕ))
    pub gone : Option (List Gone)
    pub so : SoFar term world first zero now coming rest gone given placed counts number

  -- one more session may end: its pass is free, and its end can be counted
  pub record MayEnd (world : WorldView) (now : RootView) (begun : Begun K R C) (counts : SessionCounts) : Type 0 where
    pub start : Start
    pub is : IsBegun start begun
    pub free : IsFree world start.pass
    pub ready : IsReady world now
    pub few : counts.sessions < 4_294_967_295

  -- one session has ended: its pass was joined, its link given back, and it was counted
  pub record EndsOne (begun : Begun K R C) (before after : RootView) (given later : Option (List Gone)) (counts more : SessionCounts) : Type 0 where
    pub link : LinkState
    pub pass : PassView
    pub end : SessionEnd
    pub ended : (start : Start) → IsBegun start begun → HasEnded config (shows clock) (session_of start.nexus start.link start.pass link pass end)
    pub taken : WasTaken before after pass
    pub back : TakesBack given later link.taken (is_broken link.reads link.writes)
    pub counted : (ends : List SessionEnd) → AreCounts ends counts → AreCounts (ends ++ end ∷ []) more

-- A session was begun on the next link that came, with a pass that was made for it.
pub record HasBegun (world : WorldView) (nexus : ℕ) (before after : RootView) (coming rest : Option (List (List ℕ))) (s : Start) : Type 0 where
  pub is : s.nexus ≡ nexus
  pub pass : IsNew world before (Actor.Nexus s.nexus) s.pass
  pub link : IsUnfailed s.link
  pub made : after.made ≡ suc before.made
  pub ready : IsReady world after
  pub joined : HasJoined before after 1 []
  pub come : HaveCome coming rest (s.link ∷ [])

-- so many sessions were begun, of those that were asked for
abbrev pub WereBegun : Term → AcceptEnd → ℕ → ℕ → Type 0
WereBegun term AcceptEnd.All asked sessions = sessions ≡ asked
WereBegun term AcceptEnd.Asked asked sessions = (term ≡ Term.Open) × (sessions < asked)
WereBegun term _ asked sessions = sessions < asked

-- an accept failed where that is the end, and else only where no more were wanted
abbrev pub HasFailed : AcceptEnd → ℕ → ℕ → Type 0
HasFailed AcceptEnd.Failed before after = Faulted before after
HasFailed AcceptEnd.Asked before after = Unit {0}
HasFailed _ before after = after ≡ before
