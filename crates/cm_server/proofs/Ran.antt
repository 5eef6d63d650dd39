-- The sessions, between the start and the stop of the pumps
use Rattle.std.proofs.Common.{◌≡◌, ◌≢◌, ℕ, List, [], ◌∷◌, ◌++◌, length, refl, ap, sym, ◌∙◌, subst, arith, append-nil}
use Rattle.std.specs.Prelude.{Option, Some, None, IfNone, map}
use Rattle.std.proofs.lemmas.List.{length-map}
use Rattle.cm_base.specs.Configuration.{Configuration}
use Rattle.cm_base.specs.Listening.{Gone}
use Rattle.cm_history.proofs.PublicLaws.{Each-by, Each-in}
use Rattle.cm_server.specs.Serving.{IfReported, WereServed}
use Rattle.cm_server.specs.declared.report.counts.SessionCounts.{SessionCounts}
use Rattle.cm_server.specs.declared.serving.Ran.{Ran}
use Rattle.cm_server.specs.declared.sessions.accepting.AcceptEnd.{AcceptEnd}
use Rattle.cm_server.specs.declared.sessions.places.Placed.{Placed}
use Rattle.cm_server.specs.declared.status.Status.{Status}
use Rattle.cm_server.specs.declared.term.Term.{Term}
use Rattle.cm_server.specs.inner.Begun.{AreBegun, HasEnded, SoFar, WereBegun}
use Rattle.cm_server.specs.inner.Counting.{AreCounts}
use Rattle.cm_server.specs.inner.Links.{LinkState}
use Rattle.cm_server.specs.inner.Passes.{HasMoved}
use Rattle.cm_server.specs.inner.Running.{HasRan, HaveTalked, UnlessWanted}
use Rattle.cm_server.specs.inner.Serving.{HasServed}
use Rattle.cm_server.specs.inner.Sessions.{Start, EndedSession, IsSession, nexuses, numbers, starts_of}
use Rattle.cm_server.specs.inner.Working.{HaveStarted, HaveStopped}
use Rattle.cm_server.proofs.Composing.{has-served}
use Rattle.nexus.specs.Roots.{RootView}
use Rattle.nexus.specs.Worlds.{WorldView}
use Rattle.session.specs.declared.end.SessionEnd.{SessionEnd}

-- ---- what is said unless memory was wanted

pub unless : (end : AcceptEnd) (P : Type 0) → P → UnlessWanted end P
unless AcceptEnd.OutOfMemory P p = tt
unless AcceptEnd.All P p = p
unless AcceptEnd.Failed P p = p
unless AcceptEnd.Asked P p = p

pub unless-then : (end : AcceptEnd) (P Q : Type 0) → (P → Q) → UnlessWanted end P → UnlessWanted end Q
unless-then AcceptEnd.OutOfMemory P Q f p = tt
unless-then AcceptEnd.All P Q f p = f p
unless-then AcceptEnd.Failed P Q f p = f p
unless-then AcceptEnd.Asked P Q f p = f p

pub unless-not : (end : AcceptEnd) (P : Type 0) → end ≢ AcceptEnd.OutOfMemory → UnlessWanted end P → P
unless-not AcceptEnd.OutOfMemory P not p = absurd (not refl)
unless-not AcceptEnd.All P not p = p
unless-not AcceptEnd.Failed P not p = p
unless-not AcceptEnd.Asked P not p = p

pub unless-wanted : (end : AcceptEnd) (P : Type 0) → end ≡ AcceptEnd.OutOfMemory → UnlessWanted end P
unless-wanted end P is = subst (λ (e : AcceptEnd). UnlessWanted e P) (sym is) tt

-- how serving ended, when what ran in the background has ended too
pub settled-ran : (before after : Ran) (S P Q : Type 0) → UnlessWanted after.end ((after ≡ before) × S) → UnlessWanted before.end P → ((after ≡ before) → S → P → Q)
    → UnlessWanted after.end Q
settled-ran before after S P Q s p f = go after.end refl s
  where
    end-as : (e : AcceptEnd) → after.end ≡ e → after ≡ before → UnlessWanted e P
    end-as e is same = subst (λ (k : AcceptEnd). UnlessWanted k P) (ap (λ (r : Ran). r.end) (sym same) ∙ is) p

    go : (e : AcceptEnd) → after.end ≡ e → UnlessWanted e ((after ≡ before) × S) → UnlessWanted e Q
    go AcceptEnd.OutOfMemory is t = tt
    go AcceptEnd.All is t = f t.0 t.1 (end-as AcceptEnd.All is t.0)
    go AcceptEnd.Failed is t = f t.0 t.1 (end-as AcceptEnd.Failed is t.0)
    go AcceptEnd.Asked is t = f t.0 t.1 (end-as AcceptEnd.Asked is t.0)

-- what is told of it, unless memory was wanted, which the status says then
pub told-unless : (end : AcceptEnd) (status : Status) (P Q : Type 0) → (end ≡ AcceptEnd.OutOfMemory → status ≡ Status.OutOfMemory) → UnlessWanted end P
    → (P → IfReported status Q) → IfReported status Q
told-unless AcceptEnd.OutOfMemory status P Q wanted p f = subst (λ (s : Status). IfReported s Q) (sym (wanted refl)) tt
told-unless AcceptEnd.All status P Q wanted p f = f p
told-unless AcceptEnd.Failed status P Q wanted p f = f p
told-unless AcceptEnd.Asked status P Q wanted p f = f p

-- so many were served where neither an accept failed nor memory was wanted
pub were-done : (term : Term) (end : AcceptEnd) (asked sessions : ℕ) → WereBegun term end asked sessions → end ≢ AcceptEnd.OutOfMemory → end ≢ AcceptEnd.Failed
    → WereServed term Status.Done asked sessions
were-done Term.Counted AcceptEnd.All asked sessions were wanted failed = were
were-done Term.Counted AcceptEnd.Asked asked sessions were wanted failed = cc
were-done Term.Open AcceptEnd.All asked sessions were wanted failed = omega (arith, were)
were-done Term.Open AcceptEnd.Asked asked sessions were wanted failed = (let less = were.1 in omega (arith, less))
were-done term AcceptEnd.Failed asked sessions were wanted failed = absurd (failed refl)
were-done term AcceptEnd.OutOfMemory asked sessions were wanted failed = absurd (wanted refl)

pub unless-known : (end : AcceptEnd) (P : Type 0) → (end ≢ AcceptEnd.OutOfMemory → P) → UnlessWanted end P
unless-known AcceptEnd.OutOfMemory P p = tt
unless-known AcceptEnd.All P p = p (λ same. cc)
unless-known AcceptEnd.Failed P p = p (λ same. cc)
unless-known AcceptEnd.Asked P p = p (λ same. cc)

-- no link is in hand, so nothing was done to the listener
pub none-in-hand : {K : Type 0} (unserved : Option K) (P : Type 0) → unserved ≡ None → IfNone unserved P → P
none-in-hand {K} None P none p = p
none-in-hand {K} (Some link) P none p = cc

-- ---- the sessions

module _ {K R C : Type 0} (state : K → LinkState) (shows : C → ℕ → Type 0) (config : Configuration) (clock : C) (term : Term) (world : WorldView) (first number : ℕ) (zero now : RootView)
    (coming rest : Option (List (List ℕ))) (gone given : Option (List Gone)) (placed : List (Placed K R C)) (counts : SessionCounts)
    (so : SoFar state shows config clock term world first zero now coming rest gone given placed counts number) (none : placed ≡ []) where
  none-open : (starts : List Start) (ps : List (Placed K R C)) → AreBegun state shows config clock starts ps → ps ≡ [] → starts ≡ []
  none-open [] ps are same = refl
  none-open (s ∷ ss) [] are same = absurd are
  none-open (s ∷ ss) (p ∷ ps) are same = cc

  all-ended : length so.sessions ≡ number
  all-ended = let empty = ap (λ (l : List Start). length l) (none-open so.starts placed so.are_open none) in let many = so.many in omega (arith, empty, many)

  pub so-out : length now.out ≡ length zero.out
  so-out = let out = so.joined.out in let all = all-ended in let long = length-map so.sessions (λ (s : EndedSession). s.pass) in omega (arith, out, all, long)

  -- those that were begun have ended
  pub so-talked : world.config ≡ config → HaveTalked term world (shows clock) first zero now coming rest gone given (map (λ (s : EndedSession). s.end) so.sessions)
  so-talked same = record {
    ready = so.ready;
    sessions = so.sessions;
    links = so.links;
    made = number;
    are = record {
      begun = so.began;
      facts = Each-by (IsSession world.config (shows clock)) so.sessions
          (λ s i. subst (λ (k : Configuration). IsSession k (shows clock) s) (sym same) (Each-in (HasEnded config (shows clock)) so.sessions s so.ended i).session);
      apart = λ k. (let once = so.apart k in omega (arith, once));
      all = all-ended ∙ sym so.links_many;
    };
    ordered = λ counted. (sym (append-nil (nexuses (starts_of so.sessions)))
        ∙ ap (λ l. nexuses (starts_of so.sessions) ++ nexuses l) (sym (none-open so.starts placed so.are_open none)) ∙ so.ordered counted
        ∙ ap (numbers first) (sym all-ended));
    joined = so.joined;
    none_out = so-out;
    ends_are = refl;
    come = so.come;
    back = so.back;
  }

  -- what came and went behind that is nothing, unless memory was wanted
  pub ran-sessions : (ran : Ran) (count : ℕ) (left : Option (List (List ℕ))) (later : Option (List Gone)) → world.config ≡ config → ran.counts ≡ counts
      → WereBegun term ran.end count number → (ran.end ≢ AcceptEnd.OutOfMemory → (left ≡ rest) × (later ≡ given))
      → UnlessWanted ran.end ((ends : List SessionEnd) × HasRan term ran count ends × HaveTalked term world (shows clock) first zero now coming left gone later ends)
  ran-sessions ran count left later same counted were kept =
      let ends = map (λ (s : EndedSession). s.end) so.sessions in
      let many : length ends ≡ number = length-map so.sessions (λ (s : EndedSession). s.end) ∙ all-ended in
      unless-known ran.end ((ends : List SessionEnd) × HasRan term ran count ends × HaveTalked term world (shows clock) first zero now coming left gone later ends)
      (λ known. (
        ends,
        record { counts_are = subst (AreCounts ends) (sym counted) so.counted; were = subst (WereBegun term ran.end count) (sym many) were },
        subst (λ r. HaveTalked term world (shows clock) first zero now coming r gone later ends) (sym (kept known).0)
            (subst (λ r. HaveTalked term world (shows clock) first zero now coming rest gone r ends) (sym (kept known).1) (so-talked same)),
      ))

  -- the root moved on
  pub so-moved : HasMoved world zero now
  so-moved = record { ready = so.ready; known = so.joined.known; out = so-out }

-- beside the pumps
pub ran-beside : (term : Term) (world : WorldView) (Shows : ℕ → Type 0) (ran : Ran) (count workers : ℕ) (zero one two three : RootView) (coming rest : Option (List (List ℕ)))
    (gone given : Option (List Gone)) → HaveStarted world zero one workers
    → UnlessWanted ran.end ((ends : List SessionEnd) × HasRan term ran count ends × HaveTalked term world Shows one.made one two coming rest gone given ends)
    → HaveStopped world Shows two three workers
    → UnlessWanted ran.end ((ends : List SessionEnd) × HasRan term ran count ends × HasServed term world Shows zero.made zero three coming rest gone given ends)
ran-beside term world Shows ran count workers zero one two three coming rest gone given started talked stopped =
    unless-then ran.end ((ends : List SessionEnd) × HasRan term ran count ends × HaveTalked term world Shows one.made one two coming rest gone given ends)
    ((ends : List SessionEnd) × HasRan term ran count ends × HasServed term world Shows zero.made zero three coming rest gone given ends)
    (λ t. (
      t.0,
      t.1,
      has-served term world Shows zero.made workers zero one two three coming rest gone given t.0 started
          (subst (λ n. HaveTalked term world Shows n one two coming rest gone given t.0) started.made t.2) stopped,
    )) talked
