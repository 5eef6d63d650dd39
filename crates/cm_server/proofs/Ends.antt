-- Sessions that were begun are joined as they end
use Rattle.std.proofs.Common.{◌≡◌, ◌≤◌, ℕ, suc, ◌+◌, List, [], ◌∷◌, ◌++◌, length, refl, ap, sym, ◌∙◌, subst, arith, append_assoc, length-append}
use Rattle.std.specs.Prelude.{Option, map}
use Rattle.std.proofs.lemmas.List.{length-map}
use Rattle.cm_base.specs.Configuration.{Configuration}
use Rattle.cm_base.specs.Listening.{Gone}
use Rattle.cm_history.proofs.PublicLaws.{Each, Each-append, map-append}
use Rattle.cmd_program.specs.Exchanges.{calls_of}
use Rattle.cm_server.specs.declared.report.counts.SessionCounts.{SessionCounts}
use Rattle.cm_server.specs.declared.sessions.beginning.Begun.{Begun}
use Rattle.cm_server.specs.declared.sessions.places.Placed.{Placed}
use Rattle.cm_server.specs.declared.term.Term.{Term}
use Rattle.cm_server.specs.inner.Begun.{AreBegun, EndsOne, GoesOn, HasCome, HasEnded, IsBegun, MayEnd, SoFar, session_of}
use Rattle.cm_server.specs.inner.Counting.{AreCounts}
use Rattle.cm_server.specs.inner.Links.{LinkState, HaveGone}
use Rattle.cm_server.specs.inner.Passes.{IsFree, HasJoined}
use Rattle.cm_server.specs.inner.Sessions.{Start, EndedSession, IsStart, nexuses, starts_of, times}
use Rattle.cm_server.proofs.Begins.{begun-append}
use Rattle.cm_server.proofs.Coming.{gone-one, gone-more}
use Rattle.cm_server.proofs.Joined.{ready-taken, joined-taken, joined-then}
use Rattle.cm_server.proofs.Passing.{led-free}
use Rattle.cm_server.proofs.Times.{nexuses-append, times-append}
use Rattle.nexus.specs.Roots.{RootView}
use Rattle.nexus.specs.Worlds.{WorldView}

-- the pass of a session that has ended is free
pub ended-free : (world : WorldView) (config : Configuration) (Shows : ℕ → Type 0) (s : EndedSession) → HasEnded config Shows s → IsFree world s.start.pass → IsFree world s.pass
ended-free world config Shows s ended free = led-free world s.start.pass (calls_of ended.session.spoken.exchanges) s.pass ended.session.spoken.made free

starts-append : (ss ts : List EndedSession) → starts_of (ss ++ ts) ≡ starts_of ss ++ starts_of ts
starts-append ss ts = map-append (λ (s : EndedSession). s.start) ss ts

module _ {K R C : Type 0} (state : K → LinkState) (shows : C → ℕ → Type 0) (config : Configuration) (clock : C) where
  abbrev So : Term → WorldView → ℕ → RootView → RootView → Option (List (List ℕ)) → Option (List (List ℕ)) → Option (List Gone) → Option (List Gone) → List (Placed K R C) → SessionCounts
      → ℕ → Type 0
  So term world first zero now coming rest gone given placed counts number = SoFar state shows config clock term world first zero now coming rest gone given placed counts number

  -- the next one, of those that are open
  pub record NextStart (starts : List Start) (b : Begun K R C) (left : List (Placed K R C)) : Type 0 where
    pub start : Start
    pub rest : List Start
    pub starts_are : starts ≡ start ∷ rest
    pub is : IsBegun state shows config clock start b
    pub are : AreBegun state shows config clock rest left

  next-start : (starts : List Start) (p : Placed K R C) (left : List (Placed K R C)) → AreBegun state shows config clock starts (p ∷ left) → NextStart starts p.begun left
  next-start [] p left are = absurd are
  next-start (s ∷ ss) p left are = record { start = s; rest = ss; starts_are = refl; is = are.0; are = are.1 }

  module _ (term : Term) (world : WorldView) (first : ℕ) (zero now : RootView) (coming rest : Option (List (List ℕ))) (gone given : Option (List Gone)) (p : Placed K R C)
      (left : List (Placed K R C)) (counts : SessionCounts) (number : ℕ) (so : So term world first zero now coming rest gone given (p ∷ left) counts number) where
    abbrev next : NextStart so.starts p.begun left
    next = next-start so.starts p left so.are_open

    begins : Each (IsStart world zero first so.links) (next.start ∷ next.rest)
    begins = subst (Each (IsStart world zero first so.links)) next.starts_are so.begin

    once : (k : ℕ) → times k (nexuses (starts_of so.sessions)) + times k (nexuses (next.start ∷ next.rest)) ≤ 1
    once k = subst (λ l. times k (nexuses (starts_of so.sessions)) + times k (nexuses l) ≤ 1) next.starts_are (so.apart k)

    count : length so.sessions + suc (length next.rest) ≡ number
    count = ap (λ (l : List Start). length so.sessions + length l) (sym next.starts_are) ∙ so.many

    -- it may end
    pub so-may : MayEnd state shows config clock world now p.begun counts
    so-may = record {
      start = next.start;
      is = next.is;
      free = begins.0.pass.free;
      ready = so.ready;
      few = (let c = count in let f = so.few in let s = so.counted.sessions_are in let l = length-map so.sessions (λ (e : EndedSession). e.end) in omega (arith, c, f, s, l));
    }

    -- it has ended
    pub so-ended : (after : RootView) (later : Option (List Gone)) (more : SessionCounts) → EndsOne state shows config clock p.begun now after given later counts more
        → So term world first zero after coming rest gone later left more number
    so-ended after later more e =
        let s = session_of next.start.nexus next.start.link next.start.pass e.link e.pass e.end in record {
          sessions = so.sessions ++ s ∷ [];
          starts = next.rest;
          links = so.links;
          are_open = next.are;
          ended = Each-append (HasEnded config (shows clock)) so.sessions (s ∷ []) so.ended (e.ended next.start next.is, tt);
          began = Each-append (λ (x : EndedSession). IsStart world zero first so.links x.start) so.sessions (s ∷ []) so.began (begins.0, tt);
          begin = begins.1;
          apart = λ k. (let o = once k in
              let a : times k (nexuses (starts_of (so.sessions ++ s ∷ []))) ≡ times k (nexuses (starts_of so.sessions)) + times k (next.start.nexus ∷ []) =
              ap (λ l. times k (nexuses l)) (starts-append so.sessions (s ∷ [])) ∙ ap (times k) (nexuses-append (starts_of so.sessions) (next.start ∷ []))
              ∙ times-append k (nexuses (starts_of so.sessions)) (next.start.nexus ∷ []) in omega (arith, o, a));
          ordered = λ counted. (ap (λ l. nexuses l ++ nexuses next.rest) (starts-append so.sessions (s ∷ []))
              ∙ ap (λ l. l ++ nexuses next.rest) (nexuses-append (starts_of so.sessions) (next.start ∷ []))
              ∙ append_assoc (nexuses (starts_of so.sessions)) (next.start.nexus ∷ []) (nexuses next.rest)
              ∙ ap (λ l. nexuses (starts_of so.sessions) ++ nexuses l) (sym next.starts_are) ∙ so.ordered counted);
          many = (let c = count in let l = length-append so.sessions (s ∷ []) in omega (arith, c, l));
          few = so.few;
          links_many = so.links_many;
          made = ap (λ (r : RootView). r.made) e.taken.root ∙ so.made;
          ready = ready-taken world now after e.pass so.ready e.taken;
          joined = subst (λ n. HasJoined zero after n (map (λ (x : EndedSession). x.pass) (so.sessions ++ s ∷ []))) (plus-none number)
              (subst (HasJoined zero after (number + 0)) (sym (map-append (λ (x : EndedSession). x.pass) so.sessions (s ∷ [])))
              (joined-then zero now after number 0 (map (λ (x : EndedSession). x.pass) so.sessions) (e.pass ∷ []) so.joined (joined-taken now after e.pass e.taken)));
          come = so.come;
          back = subst (HaveGone gone later) (sym (map-append (λ (x : EndedSession). x.link) so.sessions (s ∷ [])))
              (gone-more gone given later (map (λ (x : EndedSession). x.link) so.sessions) (e.link ∷ []) so.back (gone-one given later e.link e.back));
          counted = subst (λ l. AreCounts l more) (sym (map-append (λ (x : EndedSession). x.end) so.sessions (s ∷ [])))
              (e.counted (map (λ (x : EndedSession). x.end) so.sessions) so.counted);
        }
      where
        plus-none : (n : ℕ) → n + 0 ≡ n
        plus-none n = omega arith

    -- it is passed over, where the order is free
    pub so-passed : (term ≡ Term.Counted → ⊥) → So term world first zero now coming rest gone given (left ++ p ∷ []) counts number
    so-passed free = record {
      sessions = so.sessions;
      starts = next.rest ++ next.start ∷ [];
      links = so.links;
      are_open = begun-append state shows config clock next.rest (next.start ∷ []) left (p ∷ []) next.are (next.is, tt);
      ended = so.ended;
      began = so.began;
      begin = Each-append (IsStart world zero first so.links) next.rest (next.start ∷ []) begins.1 (begins.0, tt);
      apart = λ k. (let o = once k in
          let a : times k (nexuses (next.rest ++ next.start ∷ [])) ≡ times k (nexuses next.rest) + times k (next.start.nexus ∷ []) =
          ap (times k) (nexuses-append next.rest (next.start ∷ [])) ∙ times-append k (nexuses next.rest) (next.start.nexus ∷ []) in omega (arith, o, a));
      ordered = λ counted. absurd (free counted);
      many = (let c = count in let l = length-append next.rest (next.start ∷ []) in omega (arith, c, l));
      few = so.few;
      links_many = so.links_many;
      made = so.made;
      ready = so.ready;
      joined = so.joined;
      come = so.come;
      back = so.back;
      counted = so.counted;
    }

  -- ---- however serving came here

  abbrev Goes : Term → WorldView → RootView → RootView → Option (List Gone) → Option (List Gone) → List (Placed K R C) → List (Placed K R C) → SessionCounts → SessionCounts → Type 0
  Goes term world before after given later placed left counts more = GoesOn state shows config clock term world before after given later placed left counts more

  abbrev Came : Term → WorldView → RootView → Option (List Gone) → List (Placed K R C) → SessionCounts → Type 0
  Came term world now given placed counts = HasCome state shows config clock term world now given placed counts

  pub goes-none : (term : Term) (world : WorldView) (root : RootView) (given : Option (List Gone)) (placed : List (Placed K R C)) (counts : SessionCounts)
      → Goes term world root root given given placed placed counts counts
  goes-none term world root given placed counts = λ first number zero coming rest gone so. so

  pub goes-then : (term : Term) (world : WorldView) (a b c : RootView) (ga gb gc : Option (List Gone)) (oa ob oc : List (Placed K R C)) (na nb nc : SessionCounts)
      → Goes term world a b ga gb oa ob na nb → Goes term world b c gb gc ob oc nb nc → Goes term world a c ga gc oa oc na nc
  goes-then term world a b c ga gb gc oa ob oc na nb nc one two = λ first number zero coming rest gone so.
      two first number zero coming rest gone (one first number zero coming rest gone so)

  pub goes-ended : (term : Term) (world : WorldView) (before after : RootView) (given later : Option (List Gone)) (p : Placed K R C) (left : List (Placed K R C)) (counts more : SessionCounts)
      → EndsOne state shows config clock p.begun before after given later counts more → Goes term world before after given later (p ∷ left) left counts more
  goes-ended term world before after given later p left counts more e = λ first number zero coming rest gone so.
      so-ended term world first zero before coming rest gone given p left counts number so after later more e

  pub goes-passed : (term : Term) (world : WorldView) (root : RootView) (given : Option (List Gone)) (p : Placed K R C) (left : List (Placed K R C)) (counts : SessionCounts)
      → (term ≡ Term.Counted → ⊥) → Goes term world root root given given (p ∷ left) (left ++ p ∷ []) counts counts
  goes-passed term world root given p left counts free = λ first number zero coming rest gone so.
      so-passed term world first zero root coming rest gone given p left counts number so free

  pub come-on : (term : Term) (world : WorldView) (before after : RootView) (given later : Option (List Gone)) (placed left : List (Placed K R C)) (counts more : SessionCounts)
      → Came term world before given placed counts → Goes term world before after given later placed left counts more → Came term world after later left more
  come-on term world before after given later placed left counts more came goes = record {
    first = came.first;
    number = came.number;
    zero = came.zero;
    coming = came.coming;
    rest = came.rest;
    gone = came.gone;
    so = goes came.first came.number came.zero came.coming came.rest came.gone came.so;
  }

  pub come-may : (term : Term) (world : WorldView) (now : RootView) (given : Option (List Gone)) (items : List (Placed K R C)) (p : Placed K R C) (left : List (Placed K R C)) (counts : SessionCounts)
      → items ≡ p ∷ left → Came term world now given items counts → MayEnd state shows config clock world now p.begun counts
  come-may term world now given items p left counts same came =
      so-may term world came.first came.zero now came.coming came.rest came.gone given p left counts came.number
      (subst (λ l. So term world came.first came.zero now came.coming came.rest came.gone given l counts came.number) same came.so)

  pub come-first : (term : Term) (world : WorldView) (first : ℕ) (zero now : RootView) (coming rest : Option (List (List ℕ))) (gone given : Option (List Gone))
      (placed : List (Placed K R C)) (counts : SessionCounts) (number : ℕ) → So term world first zero now coming rest gone given placed counts number
      → Came term world now given placed counts
  come-first term world first zero now coming rest gone given placed counts number so =
      record { first = first; number = number; zero = zero; coming = coming; rest = rest; gone = gone; so = so }
