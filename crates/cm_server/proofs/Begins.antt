-- Sessions are begun, one after the other
use Rattle.std.proofs.Common.{◌≡◌, ◌≢◌, ◌≤◌, ◌<◌, ℕ, ◌+◌, ◌-◌, List, [], ◌∷◌, ◌++◌, length, refl, ap, sym, ◌∙◌, subst, arith, append-nil, append_assoc, length-append, inl, inr}
use Rattle.std.specs.Prelude.{◌⊎◌, Option, Some, IfSome, map, slice_get}
use Rattle.std.proofs.lemmas.Bool.{cases_eq}
use Rattle.cm_base.specs.Configuration.{Configuration}
use Rattle.cm_base.specs.Listening.{Gone, HandsOut}
use Rattle.cm_history.specs.declared.act.Actor.{Actor}
use Rattle.cm_history.proofs.PublicLaws.{Each, Each-append, Each-by, Each-in, Each-map}
use Rattle.cm_server.specs.declared.report.counts.SessionCounts.{SessionCounts}
use Rattle.cm_server.specs.declared.sessions.accepting.AcceptEnd.{AcceptEnd}
use Rattle.cm_server.specs.declared.sessions.places.Placed.{Placed}
use Rattle.cm_server.specs.declared.term.Term.{Term}
use Rattle.cm_server.specs.inner.Begun.{AreBegun, HasBegun, IsBegun, SoFar, WereBegun}
use Rattle.cm_server.specs.inner.Counting.{AreCounts}
use Rattle.cm_server.specs.inner.Links.{LinkState, IsUnfailed}
use Rattle.cm_server.specs.inner.Passes.{IsNew, IsReady, HasJoined}
use Rattle.cm_server.specs.inner.Sessions.{Start, EndedSession, IsStart, nexuses, numbers, starts_of, times}
use Rattle.cm_server.proofs.Coming.{come-none, come-one, come-more, gone-none}
use Rattle.cm_server.proofs.Joined.{ready-made, new-made, joined-made, new-later, joined-none, joined-then}
use Rattle.cm_server.proofs.Times.{get-before, get-last, get-low, nexuses-append, numbers-last, times-append, times-below, times-not, times-one}
use Rattle.nexus.specs.Roots.{RootView, WasMade}
use Rattle.nexus.specs.Worlds.{WorldView, PassView}

-- ---- one session

-- the link was accepted, and a pass was made for it
pub has-begun : (world : WorldView) (n : ℕ) (before after : RootView) (pass : PassView) (coming rest : Option (List (List ℕ))) (link : LinkState) → IsReady world before
    → before.made ≡ n → WasMade before after pass (Actor.Nexus before.made) → HandsOut coming rest link.left → IfSome coming (λ _. link.taken ≡ Some []) → IsUnfailed link
    → HasBegun world n before after coming rest (record { nexus = n; link = link; pass = pass })
has-begun world n before after pass coming rest link ready number made hands fresh unfailed =
    let actor = Actor.Nexus before.made in record {
      is = refl;
      pass = subst (λ k. IsNew world before (Actor.Nexus k) pass) number (new-made world before after pass actor ready made);
      link = unfailed;
      made = ap (λ (r : RootView). r.made) made.root;
      ready = ready-made world before after pass actor ready made;
      joined = joined-made world before after pass actor ready made;
      come = come-one coming rest link hands fresh;
    }

-- ---- one after the other

-- one link more has come
start-more : (world : WorldView) (root : RootView) (first : ℕ) (links more : List LinkState) (s : Start) → IsStart world root first links s → IsStart world root first (links ++ more) s
start-more world root first links more s is = record { pass = is.pass; low = is.low; at = get-before links more (s.nexus - first) s.link is.at; link = is.link }

-- the nexus has a number below that of the next
start-below : (world : WorldView) (root : RootView) (first number : ℕ) (links : List LinkState) (s : Start) → length links ≡ number → IsStart world root first links s
    → s.nexus < first + number
start-below world root first number links s many is =
    let low = get-low links (s.nexus - first) s.link is.at in let from = is.low in omega (arith, low, from, many)

-- ---- why there are no more

pub were-less : (term : Term) (end : AcceptEnd) (asked sessions : ℕ) → end ≢ AcceptEnd.All → (end ≡ AcceptEnd.Asked → term ≡ Term.Open) → sessions < asked
    → WereBegun term end asked sessions
were-less term AcceptEnd.All asked sessions other asked-for less = absurd (other refl)
were-less term AcceptEnd.Failed asked sessions other asked-for less = less
were-less term AcceptEnd.Asked asked sessions other asked-for less = (asked-for refl, less)
were-less term AcceptEnd.OutOfMemory asked sessions other asked-for less = less

module _ {K R C : Type 0} (state : K → LinkState) (shows : C → ℕ → Type 0) (config : Configuration) (clock : C) where
  pub begun-append : (ss ts : List Start) (ps qs : List (Placed K R C)) → AreBegun state shows config clock ss ps → AreBegun state shows config clock ts qs
      → AreBegun state shows config clock (ss ++ ts) (ps ++ qs)
  begun-append [] ts [] qs are more = more
  begun-append [] ts (p ∷ ps) qs are more = absurd are
  begun-append (s ∷ ss) ts [] qs are more = absurd are
  begun-append (s ∷ ss) ts (p ∷ ps) qs are more = (are.0, begun-append ss ts ps qs are.1 more)

  -- serving begins
  pub so-none : (term : Term) (world : WorldView) (root : RootView) (coming : Option (List (List ℕ))) (gone : Option (List Gone)) (placed : List (Placed K R C)) (counts : SessionCounts)
      (first : ℕ) → IsReady world root → root.made ≡ first → first ≤ 4_294_967_295 → placed ≡ [] → AreCounts [] counts
      → SoFar state shows config clock term world first root root coming coming gone gone placed counts 0
  so-none term world root coming gone placed counts first ready made few none counted = record {
    sessions = [];
    starts = [];
    links = [];
    are_open = subst (AreBegun state shows config clock []) (sym none) tt;
    ended = tt;
    began = tt;
    begin = tt;
    apart = λ k. omega arith;
    ordered = λ counted. refl;
    many = refl;
    few = omega (arith, few);
    links_many = refl;
    made = omega (arith, made);
    ready = ready;
    joined = joined-none root;
    come = come-none coming;
    back = gone-none gone;
    counted = counted;
  }

  -- one more session was begun
  pub so-begun : (term : Term) (world : WorldView) (first : ℕ) (zero now after : RootView) (coming rest later : Option (List (List ℕ))) (gone given : Option (List Gone))
      (placed all : List (Placed K R C)) (one : Placed K R C) (counts : SessionCounts) (number : ℕ) (s : Start)
      → SoFar state shows config clock term world first zero now coming rest gone given placed counts number → first + number < 4_294_967_295
      → IsBegun state shows config clock s one.begun → HasBegun world (first + number) now after rest later s → all ≡ placed ++ one ∷ []
      → SoFar state shows config clock term world first zero after coming later gone given all counts (number + 1)
  so-begun term world first zero now after coming rest later gone given placed all one counts number s so few is has same =
      let links = so.links ++ s.link ∷ [] in
      let long : length links ≡ number + 1 = length-append so.links (s.link ∷ []) ∙ ap (λ n. n + 1) so.links_many in
      let nexus : s.nexus ≡ first + number = has.is in
      let place : s.nexus - first ≡ length so.links = (let m = so.links_many in omega (arith, nexus, m)) in
      let here : IsStart world zero first links s = record {
        pass = new-later world zero now (Actor.Nexus s.nexus) s.pass so.joined.known has.pass;
        low = omega (arith, nexus);
        at = ap (λ k. slice_get links k) place ∙ get-last so.links s.link;
        link = has.link;
      } in
      record {
        sessions = so.sessions;
        starts = so.starts ++ s ∷ [];
        links = links;
        are_open = subst (AreBegun state shows config clock (so.starts ++ s ∷ [])) (sym same)
            (begun-append so.starts (s ∷ []) placed (one ∷ []) so.are_open (is, tt));
        ended = so.ended;
        began = Each-by (λ (e : EndedSession). IsStart world zero first links e.start) so.sessions
            (λ e i. start-more world zero first so.links (s.link ∷ []) e.start
            (Each-in (λ (e : EndedSession). IsStart world zero first so.links e.start) so.sessions e so.began i));
        begin = Each-append (IsStart world zero first links) so.starts (s ∷ [])
            (Each-by (IsStart world zero first links) so.starts
            (λ t i. start-more world zero first so.links (s.link ∷ []) t (Each-in (IsStart world zero first so.links) so.starts t so.begin i)))
            (here, tt);
        apart = λ k. apart k (cases_eq s.nexus k);
        ordered = λ counted. in-order (so.ordered counted);
        many = (let m = so.many in let l = length-append so.starts (s ∷ []) in omega (arith, m, l));
        few = omega (arith, few);
        links_many = long;
        made = (let m = so.made in let n = has.made in omega (arith, m, n));
        ready = has.ready;
        joined = subst (HasJoined zero after (number + 1)) (append-nil (map (λ (e : EndedSession). e.pass) so.sessions))
            (joined-then zero now after number 1 (map (λ (e : EndedSession). e.pass) so.sessions) [] so.joined has.joined);
        come = come-more coming rest later so.links (s.link ∷ []) so.come has.come;
        back = so.back;
        counted = so.counted;
      }
    where
      below-ended : Each (λ n. n < first + number) (nexuses (starts_of so.sessions))
      below-ended = Each-map (λ n. n < first + number) (λ (t : Start). t.nexus) (starts_of so.sessions)
          (Each-map (λ (t : Start). t.nexus < first + number) (λ (e : EndedSession). e.start) so.sessions
          (Each-by (λ (e : EndedSession). e.start.nexus < first + number) so.sessions
          (λ e i. start-below world zero first number so.links e.start so.links_many
          (Each-in (λ (e : EndedSession). IsStart world zero first so.links e.start) so.sessions e so.began i))))

      below-open : Each (λ n. n < first + number) (nexuses so.starts)
      below-open = Each-map (λ n. n < first + number) (λ (t : Start). t.nexus) so.starts
          (Each-by (λ (t : Start). t.nexus < first + number) so.starts
          (λ t i. start-below world zero first number so.links t so.links_many (Each-in (IsStart world zero first so.links) so.starts t so.begin i)))

      in-order : nexuses (starts_of so.sessions) ++ nexuses so.starts ≡ numbers first number
          → nexuses (starts_of so.sessions) ++ nexuses (so.starts ++ s ∷ []) ≡ numbers first (number + 1)
      in-order same =
          let ended = nexuses (starts_of so.sessions) in
          ap (λ l. ended ++ l) (nexuses-append so.starts (s ∷ [])) ∙ sym (append_assoc ended (nexuses so.starts) (s.nexus ∷ [])) ∙ ap (λ l. l ++ s.nexus ∷ []) same
          ∙ ap (λ n. numbers first number ++ n ∷ []) has.is ∙ sym (numbers-last first number)

      more : (k : ℕ) → times k (nexuses (so.starts ++ s ∷ [])) ≡ times k (nexuses so.starts) + times k (s.nexus ∷ [])
      more k = ap (times k) (nexuses-append so.starts (s ∷ [])) ∙ times-append k (nexuses so.starts) (s.nexus ∷ [])

      apart : (k : ℕ) → (s.nexus ≡ k) ⊎ (s.nexus ≡ k → ⊥) → times k (nexuses (starts_of so.sessions)) + times k (nexuses (so.starts ++ s ∷ [])) ≤ 1
      apart k (inl mine) =
          let next : first + number ≡ k = sym has.is ∙ mine in
          let a : times k (nexuses (starts_of so.sessions)) ≡ 0 = times-below k (nexuses (starts_of so.sessions))
          (subst (λ m. Each (λ n. n < m) (nexuses (starts_of so.sessions))) next below-ended) in
          let b : times k (nexuses so.starts) ≡ 0 = times-below k (nexuses so.starts) (subst (λ m. Each (λ n. n < m) (nexuses so.starts)) next below-open) in
          let c = more k in
          let d = times-one k s.nexus in
          omega (arith, a, b, c, d)
      apart k (inr other) = let a = so.apart k in let c = more k in let d = times-not k s.nexus other in omega (arith, a, c, d)
