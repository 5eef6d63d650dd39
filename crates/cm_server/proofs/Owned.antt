-- What the history of a closed world says of each session's pass
use Rattle.std.proofs.Common.{◌≡◌, ◌≤◌, ℕ, List, [], ◌∷◌, ◌++◌, refl, ap, sym, ◌∙◌, arith, append_assoc}
use Rattle.std.specs.Prelude.{map}
use Rattle.cm_history.specs.declared.act.Actor.TheVariants.{Nexus, Pump}
use Rattle.cm_history.specs.declared.act.Entry.{Entry}
use Rattle.cm_history.proofs.PublicLaws.{Each, Each-by, Each-in, map-append}
use Rattle.cmd_program.specs.InHistory.{entries_by}
use Rattle.cm_server.specs.inner.Links.{LinkState}
use Rattle.cm_server.specs.inner.Passes.{joined_of}
use Rattle.cm_server.specs.inner.Pumping.{IsSomePump, AreLast}
use Rattle.cm_server.specs.inner.Sessions.{EndedSession, IsStart, IsSession, nexuses, starts_of, times}
use Rattle.cm_server.proofs.Closed.{IsClosedWorld, SeesIn, IsBelow, each-split, passes_of, all_passes}
use Rattle.cm_server.proofs.Joined.{own_of-append, own-others, own-first}
use Rattle.cm_server.proofs.Makers.{session-actor, last-of}
use Rattle.cm_server.proofs.Times.{In-nexus, times-later, times-more, times-once, times-other}
use Rattle.nexus.specs.Roots.{RootView, AreAtMost}
use Rattle.nexus.specs.Worlds.{WorldView, PassView}
use Rattle.merged_history.specs.Seats.{own_of}

-- The entries of the nexus in the history are its pass's own, what the pass saw of each unit begins the unit's entries, and
-- its marks are not above those at the end.
pub record IsClosedFor (entries : List Entry) (high : List (List ℕ)) (nexus : ℕ) (last : PassView) : Type 0 where
  pub seen : SeesIn entries last
  pub own : entries_by nexus entries ≡ last.own
  pub below : AreAtMost last.marks high

-- so it is for each of these sessions
abbrev pub AreClosedFor : List Entry → List (List ℕ) → List EndedSession → Type 0
AreClosedFor entries high ss = Each (λ (s : EndedSession). IsClosedFor entries high s.start.nexus s.pass) ss

-- no pass among these is the nexus's
abbrev NoneOf : ℕ → List PassView → Type 0
NoneOf nexus ps = own_of (Nexus nexus) (map joined_of ps) ≡ []

none-both : (nexus : ℕ) (ps qs : List PassView) → NoneOf nexus ps → NoneOf nexus qs → NoneOf nexus (ps ++ qs)
none-both nexus ps qs a b =
    ap (own_of (Nexus nexus)) (map-append joined_of ps qs) ∙ own_of-append (Nexus nexus) (map joined_of ps) (map joined_of qs)
    ∙ ap (λ l. l ++ own_of (Nexus nexus) (map joined_of qs)) a ∙ b

-- the entries of a nexus that has one pass among these
one-own : (nexus : ℕ) (front back : List PassView) (p : PassView) → p.ticket.actor ≡ Nexus nexus → NoneOf nexus front → NoneOf nexus back
    → own_of (Nexus nexus) (map joined_of (front ++ p ∷ back)) ≡ p.own
one-own nexus front back p mine a b =
    ap (own_of (Nexus nexus)) (map-append joined_of front (p ∷ back)) ∙ own_of-append (Nexus nexus) (map joined_of front) (map joined_of (p ∷ back))
    ∙ ap (λ l. l ++ own_of (Nexus nexus) (map joined_of (p ∷ back))) a ∙ own-first (Nexus nexus) p back mine b

pump-other : (u n : ℕ) → Pump u ≡ Nexus n → ⊥
pump-other u n e = cc

one-nexus : (n k : ℕ) → Nexus n ≡ Nexus k → n ≡ k
one-nexus n k e = cc

module _ (world : WorldView) (root : RootView) (Shows : ℕ → Type 0) where
  -- sessions of other nexuses
  none-later : (first : ℕ) (links : List LinkState) (nexus : ℕ) (ss : List EndedSession) → Each (λ (s : EndedSession). IsStart world root first links s.start) ss
      → Each (IsSession world.config Shows) ss → times nexus (nexuses (starts_of ss)) ≡ 0 → NoneOf nexus (passes_of ss)
  none-later first links nexus [] starts facts none = refl
  none-later first links nexus (s ∷ ss) starts facts none =
      let rest = times-later s.start.nexus nexus (nexuses (starts_of ss)) none in
      none-both nexus (s.pass ∷ []) (passes_of ss)
      (own-others (Nexus nexus) (s.pass ∷ [])
      ((λ same. rest.0 (one-nexus s.start.nexus nexus (sym (session-actor world root Shows first links s starts.0 facts.0) ∙ same))), tt))
      (none-later first links nexus ss starts.1 facts.1 rest.1)

  -- nor do workers and last passes have one
  none-workers : (nexus : ℕ) (ps : List PassView) → Each (IsSomePump world Shows) ps → NoneOf nexus ps
  none-workers nexus ps all =
      own-others (Nexus nexus) ps
      (Each-by (λ (p : PassView). p.ticket.actor ≡ Nexus nexus → ⊥) ps
      (λ p i. λ same. (let w = Each-in (IsSomePump world Shows) ps p all i in pump-other w.0 nexus (sym w.1.actor ∙ same))))

  none-lasts : (nexus : ℕ) (seen : List (List Entry)) (ps : List PassView) → AreLast world Shows seen 0 ps → NoneOf nexus ps
  none-lasts nexus seen ps are =
      own-others (Nexus nexus) ps
      (Each-by (λ (p : PassView). p.ticket.actor ≡ Nexus nexus → ⊥) ps
      (λ p i. λ same. (let l = last-of world Shows seen 0 ps p are i in pump-other l.0 nexus (sym l.2.pump.actor ∙ same))))

  closed-from : (first : ℕ) (links : List LinkState) (entries : List Entry) (high : List (List ℕ)) (ss : List EndedSession) (front back all : List PassView)
      → Each (λ (s : EndedSession). IsStart world root first links s.start) ss → Each (IsSession world.config Shows) ss
      → ((k : ℕ) → times k (nexuses (starts_of ss)) ≤ 1) → Each (λ (s : EndedSession). NoneOf s.start.nexus front) ss → ((k : ℕ) → NoneOf k back)
      → all ≡ front ++ (passes_of ss ++ back)
      → ((nexus : ℕ) → first ≤ nexus → entries_by nexus entries ≡ own_of (Nexus nexus) (map joined_of all)) → Each (SeesIn entries) (passes_of ss) → Each (IsBelow high) (passes_of ss)
      → AreClosedFor entries high ss
  closed-from first links entries high [] front back all starts facts once before behind is actors seen below = tt
  closed-from first links entries high (s ∷ ss) front back all starts facts once before behind is actors seen below =
      let n = s.start.nexus in
      let mine = session-actor world root Shows first links s starts.0 facts.0 in
      let others : times n (nexuses (starts_of ss)) ≡ 0 = times-once n (nexuses (starts_of ss)) (once n) in
      let later = none-both n (passes_of ss) back (none-later first links n ss starts.1 facts.1 others) (behind n) in (
        record {
          seen = seen.0;
          own = actors n starts.0.low ∙ ap (λ l. own_of (Nexus n) (map joined_of l)) is
              ∙ one-own n front (passes_of ss ++ back) s.pass mine before.0 later;
          below = below.0;
        },
        closed-from first links entries high ss (front ++ s.pass ∷ []) back all starts.1 facts.1
            (λ k. (let o = once k in let a = times-more n k (nexuses (starts_of ss)) in omega (arith, o, a)))
            (Each-by (λ (t : EndedSession). NoneOf t.start.nexus (front ++ s.pass ∷ [])) ss
            (λ t i. none-both t.start.nexus front (s.pass ∷ []) (Each-in (λ (x : EndedSession). NoneOf x.start.nexus front) ss t before.1 i)
            (own-others (Nexus t.start.nexus) (s.pass ∷ [])
            ((λ same. times-other n t.start.nexus (nexuses (starts_of ss)) others (In-nexus ss t i) (one-nexus n t.start.nexus (sym mine ∙ same))), tt))))
            behind (is ∙ sym (append_assoc front (s.pass ∷ []) (passes_of ss ++ back))) actors seen.1 below.1,
      )

-- so it is for each session of a closed world
pub closed-for : (world : WorldView) (root : RootView) (Shows : ℕ → Type 0) (first : ℕ) (links : List LinkState) (opening seen : List (List Entry)) (entries : List Entry)
    (high : List (List ℕ)) (sessions : List EndedSession) (workers lasts : List PassView)
    → IsClosedWorld world root Shows first links opening seen entries high sessions workers lasts → AreClosedFor entries high sessions
closed-for world root Shows first links opening seen entries high sessions workers lasts is =
    let all = all_passes sessions workers lasts in
    let seens = (each-split (SeesIn entries) (passes_of sessions) workers (each-split (SeesIn entries) (passes_of sessions ++ workers) lasts is.seen_in).0).0 in
    let belows = (each-split (IsBelow high) (passes_of sessions) workers (each-split (IsBelow high) (passes_of sessions ++ workers) lasts is.below).0).0 in
    closed-from world root Shows first links entries high sessions [] (workers ++ lasts) all is.are.begun is.are.facts is.are.apart
    (Each-by (λ (s : EndedSession). NoneOf s.start.nexus []) sessions (λ s i. refl))
    (λ k. none-both k workers lasts (none-workers world root Shows k workers is.workers_are) (none-lasts world root Shows k seen lasts is.lasts_are))
    (append_assoc (passes_of sessions) workers lasts)
    is.actors seens belows
