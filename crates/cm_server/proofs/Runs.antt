-- From the facts of the sessions to one run of their conversations
use Rattle.std.proofs.Common.{◌≡◌, ◌≤◌, ◌-◌, ◌+◌, append_assoc, length-append, ap₂, ℕ, zero, suc, List, [], ◌∷◌, ◌++◌, length, refl, ap, sym, ◌∙◌, subst, arith, inl, inr}
use Rattle.std.specs.Prelude.{◌⊎◌, ◌≢◌, AllPairs, Contains, Option, Some, None, map, slice_get}
use Rattle.std.specs.List.{AllByRecursion}
use Rattle.std.specs.Io.KnownBytes.{Appends}
use Rattle.std.proofs.lemmas.List.Elements.{All-from_recursion}
use Rattle.std.proofs.lemmas.List.Kept.{AllPairs-cons}
use Rattle.cm_base.specs.Listening.{Gone, is_broken}
use Rattle.cm_frame.specs.Laws.{StaysJudged}
use Rattle.cm_frame.specs.Reading.{read_request}
use Rattle.cm_history.specs.declared.act.Actor.{Actor}
use Rattle.cm_history.specs.declared.act.Actor.TheVariants.{Nexus, Pump}
use Rattle.cm_history.specs.declared.act.Entry.{Entry}
use Rattle.cm_history.proofs.PublicLaws.{Each, Each-all, Each-by, Each-in, In}
use Rattle.cmd_program.specs.Conversations.{Conversation, Folding, IsConversation}
use Rattle.cmd_program.specs.Exchanges.{requests_of, calls_of}
use Rattle.cmd_program.specs.Judging.{step}
use Rattle.cm_server.specs.Runs.{IsOfSome}
use Rattle.cm_server.specs.Served.{AreServed, AreInOrder, IfTold}
use Rattle.cm_server.specs.Talks.{Talk, IsTalk, IsOnLink, AreNumbered}
use Rattle.cm_server.specs.declared.term.Term.{Term}
use Rattle.cm_server.specs.inner.Links.{LinkState, AreFresh, HaveCome, AreGone, HaveGone}
use Rattle.cm_server.specs.inner.Sessions.{EndedSession, IsStart, IsSession, AreSessions, EndInOrder, nexuses, numbers, starts_of, times}
use Rattle.cm_server.proofs.Closed.{IsOfSession}
use Rattle.cm_server.proofs.Follows.{followed}
use Rattle.cm_server.proofs.Owned.{IsClosedFor, AreClosedFor}
use Rattle.cm_server.proofs.Talked.{requests-in, broken-is}
use Rattle.cm_server.proofs.Times.{get-next, In-nexus, times-later, times-more, times-once}
use Rattle.cm_server.proofs.Trailing.{FoldsSo, trail_of, trailed}
use Rattle.nexus.specs.Roots.{RootView}
use Rattle.nexus.specs.Worlds.{WorldView}
use Rattle.session.specs.declared.end.SessionEnd.{SessionEnd}
use Rattle.session.specs.Spoken.{IsInput, IsCounted}

-- ---- one link

-- a link that had taken nothing has taken what was pushed
appended : (given : Option (List ℕ)) (pushed : List ℕ) → Appends (Some []) given pushed → given ≡ Some pushed
appended None pushed a = absurd a
appended (Some all) pushed a = ap Some a

counted-from : (reads writes reads_after writes_after : ℕ) (end : SessionEnd) → reads ≡ 0 → writes ≡ 0 → IsCounted reads reads_after writes writes_after end.fault
    → IsCounted 0 reads_after 0 writes_after end.fault
counted-from reads writes reads_after writes_after end r w c =
    subst (λ k. IsCounted 0 reads_after k writes_after end.fault) w (subst (λ k. IsCounted k reads_after writes writes_after end.fault) r c)

-- ---- the nexuses

abbrev nexuses_in : List Talk → List ℕ
nexuses_in ts = map (λ (t : Talk). t.conversation.nexus) ts

none-among : (n : ℕ) (ts : List Talk) → times n (nexuses_in ts) ≡ 0 → AllByRecursion (λ (c : Conversation). n ≢ c.nexus) (map (λ (t : Talk). t.conversation) ts)
none-among n [] none = tt
none-among n (t ∷ ts) none =
    let rest = times-later t.conversation.nexus n (nexuses_in ts) none in ((λ same. rest.0 (sym same)), none-among n ts rest.1)

-- no two conversations are of one nexus
pub apart-of : (ts : List Talk) → ((k : ℕ) → times k (nexuses_in ts) ≤ 1) → AllPairs (λ (a b : Conversation). a.nexus ≢ b.nexus) (map (λ (t : Talk). t.conversation) ts)
apart-of [] once = λ i j d low high. absurd (omega arith)
apart-of (t ∷ ts) once =
    let n = t.conversation.nexus in
    AllPairs-cons (λ (a b : Conversation). a.nexus ≢ b.nexus) t.conversation (map (λ (t : Talk). t.conversation) ts)
    (All-from_recursion (λ (c : Conversation). n ≢ c.nexus) (map (λ (t : Talk). t.conversation) ts) (none-among n ts (times-once n (nexuses_in ts) (once n))))
    (apart-of ts (λ k. (let o = once k in let a = times-more n k (nexuses_in ts) in omega (arith, o, a))))

-- the nexus of one of these has a conversation
some-of : (k : ℕ) (ts : List Talk) → In k (nexuses_in ts) → IsOfSome (map (λ (t : Talk). t.conversation) ts) (Nexus k)
some-of k [] i = absurd i
some-of k (t ∷ ts) (inl here) = (0, t.conversation, refl, here)
some-of k (t ∷ ts) (inr i) = let found = some-of k ts i in (suc found.0, found.1, found.2, found.3)

of-some : (ss : List EndedSession) (ts : List Talk) (actor : Actor) → nexuses_in ts ≡ nexuses (starts_of ss) → IsOfSession ss actor
    → IsOfSome (map (λ (t : Talk). t.conversation) ts) actor
of-some ss ts (Pump unit) same is = tt
of-some ss ts (Nexus n) same is = some-of n ts (subst (In n) (sym same) (subst (λ k. In k (nexuses (starts_of ss))) is.2 (In-nexus ss is.0 is.1)))

-- ---- the links

-- a link that came has these bytes to give, and has taken nothing
fresh-at : (ls : List LinkState) (bs : List (List ℕ)) (i : ℕ) (l : LinkState) → AreFresh ls bs → slice_get ls i ≡ Some l
    → (b : List ℕ) × (slice_get bs i ≡ Some b) × (l.left ≡ Some b) × (l.taken ≡ Some [])
fresh-at [] bs i l fresh at = cc
fresh-at (x ∷ ls) [] i l fresh at = absurd fresh
fresh-at (x ∷ ls) (b ∷ bs) zero l fresh at =
    let same : x ≡ l = cc in (b, refl, subst (λ (k : LinkState). k.left ≡ Some b) same fresh.0, subst (λ (k : LinkState). k.taken ≡ Some []) same fresh.1)
fresh-at (x ∷ ls) (b ∷ bs) (suc i) l fresh at = fresh-at ls bs i l fresh.2 at

fresh-many : (ls : List LinkState) (bs : List (List ℕ)) → AreFresh ls bs → length ls ≡ length bs
fresh-many [] [] fresh = refl
fresh-many [] (b ∷ bs) fresh = absurd fresh
fresh-many (l ∷ ls) [] fresh = absurd fresh
fresh-many (l ∷ ls) (b ∷ bs) fresh = ap suc (fresh-many ls bs fresh.2)

-- ---- in the order of accepting

numbered-by : (n : ℕ) (ts : List Talk) → nexuses_in ts ≡ numbers n (length ts) → AreNumbered n ts
numbered-by n [] same = tt
numbered-by n (t ∷ ts) same = (cc, numbered-by (suc n) ts cc)

-- each talk is over the link of its place, from one place on
over-all : (first place : ℕ) (before came : List (List ℕ)) (ts : List Talk) → length before ≡ place → length ts ≡ length came
    → AllByRecursion (IsOnLink first (before ++ came)) ts → AreNumbered (first + place) ts → came ≡ map (λ (t : Talk). t.coming) ts
over-all first place before [] [] here many on numbered = refl
over-all first place before [] (t ∷ ts) here many on numbered = absurd (omega (arith, many))
over-all first place before (b ∷ came) [] here many on numbered = absurd (omega (arith, many))
over-all first place before (b ∷ came) (t ∷ ts) here many on numbered =
    let at : t.conversation.nexus - first ≡ length before = (let n = numbered.0 in omega (arith, n, here)) in
    let same : b ≡ t.coming = some-same (sym (get-next before b came) ∙ ap (slice_get (before ++ b ∷ came)) (sym at) ∙ on.0.at) in
    let more : length (before ++ b ∷ []) ≡ suc place = (let l = length-append before (b ∷ []) in omega (arith, l, here)) in
    let rest = subst (λ l. AllByRecursion (IsOnLink first l) ts) (sym (append_assoc before (b ∷ []) came)) on.1 in
    let later = subst (λ n. AreNumbered n ts) (next-place first place) numbered.1 in
    ap₂ (λ x xs. x ∷ xs) same (over-all first (suc place) (before ++ b ∷ []) came ts more (omega (arith, many)) rest later)
  where
    some-same : {x y : List ℕ} → Some x ≡ Some y → x ≡ y
    some-same e = cc

    next-place : (m n : ℕ) → suc (m + n) ≡ m + suc n
    next-place m n = omega arith

in-order : (first : ℕ) (came : List (List ℕ)) (ts : List Talk) → length ts ≡ length came → AllByRecursion (IsOnLink first came) ts
    → nexuses_in ts ≡ numbers first (length ts) → AreInOrder first came ts
in-order first came ts many on same =
    let numbered = numbered-by first ts same in
    let here : first ≡ first + 0 = omega arith in
    record { numbered = numbered; over = over-all first 0 [] came ts refl many on (subst (λ n. AreNumbered n ts) here numbered) }

-- ---- the sessions

module _ (stays : StaysJudged read_request) (term : Term) (world : WorldView) (root : RootView) (Shows : ℕ → Type 0) (Legal : List Entry → Type 0) (Folds : Folding) (opening entries : List Entry) (high : List (List ℕ))
    (may : FoldsSo Folds world.gates root.marks high (length world.config.units)) where
  abbrev said : (s : EndedSession) → IsSession world.config Shows s → Conversation
  said s fact = record { nexus = s.start.nexus; exchanges = fact.spoken.exchanges }

  -- the fact of one session, in the history of all units
  pub conversation-of : (first : ℕ) (links : List LinkState) (s : EndedSession) (start : IsStart world root first links s.start) (fact : IsSession world.config Shows s)
      → IsClosedFor entries high s.start.nexus s.pass → IsConversation step world.config Folds entries (said s fact)
  conversation-of first links s start fact c =
      let n = s.start.nexus in
      let calls = calls_of fact.spoken.exchanges in
      let goes = trailed world.config Folds n world.gates root.marks high (length world.config.units) may s.start.pass calls s.pass
      (record {
        actor = start.pass.is;
        config_is = start.pass.free.of.config;
        gates_are = start.pass.free.of.gates;
        units = start.pass.free.units;
        above = start.pass.from.above;
      }) c.below fact.spoken.made in
      record {
        exchanged = fact.spoken.asked;
        followed = followed world.config Folds n entries (trail_of s.pass) c.seen c.own (trail_of s.start.pass) calls goes start.pass.none;
      }

  -- what is told of it, where its link had these bytes to give
  abbrev talk : (s : EndedSession) → IsSession world.config Shows s → List ℕ → Talk
  talk s fact bytes = record {
    coming = bytes;
    gone = record { taken = fact.spoken.pushed; broken = is_broken s.link.reads s.link.writes };
    conversation = said s fact;
    end = s.end;
  }

  talk-of : (first : ℕ) (links : List LinkState) (s : EndedSession) (start : IsStart world root first links s.start) (fact : IsSession world.config Shows s) (bytes : List ℕ)
      → s.start.link.left ≡ Some bytes → IsTalk (talk s fact bytes)
  talk-of first links s start fact bytes left = record {
    requests = requests-in stays bytes fact.spoken.bytes s.link.left (requests_of fact.spoken.exchanges) s.end.fault
        (subst (λ l. IsInput l s.link.left fact.spoken.bytes s.end.fault) left fact.spoken.input) fact.spoken.requests;
    replies = fact.spoken.replies;
    settled = fact.settled;
    frames = fact.spoken.frames;
    broken = broken-is s.link.reads s.link.writes s.end.fault
        (counted-from s.start.link.reads s.start.link.writes s.link.reads s.link.writes s.end start.link.reads start.link.writes fact.counted);
  }

  -- what is told of the sessions, over links that had these bytes to give
  pub record HasTalks (first : ℕ) (ss : List EndedSession) (bytes : List (List ℕ)) : Type 0 where
    pub talks : List Talk
    pub on_links : AllByRecursion (IsOnLink first bytes) talks
    pub gone : AreGone (map (λ (s : EndedSession). s.link) ss) (map (λ (t : Talk). t.gone) talks)
    pub ends : map (λ (t : Talk). t.end) talks ≡ map (λ (s : EndedSession). s.end) ss
    pub count : length talks ≡ length ss
    pub nexuses_are : nexuses_in talks ≡ nexuses (starts_of ss)
    pub each : AllByRecursion IsTalk talks
    pub conversations : AllByRecursion (IsConversation step world.config Folds entries) (map (λ (t : Talk). t.conversation) talks)

  pub has-talks : (first : ℕ) (links : List LinkState) (bytes : List (List ℕ)) (ss : List EndedSession) → AreFresh links bytes
      → Each (λ (s : EndedSession). IsStart world root first links s.start) ss → Each (IsSession world.config Shows) ss → AreClosedFor entries high ss → HasTalks first ss bytes
  has-talks first links bytes [] fresh starts facts closed =
      record { talks = []; on_links = tt; gone = tt; ends = refl; count = refl; nexuses_are = refl; each = tt; conversations = tt }
  has-talks first links bytes (s ∷ ss) fresh starts facts closed =
      let later = has-talks first links bytes ss fresh starts.1 facts.1 closed.1 in
      let fact = facts.0 in
      let at = fresh-at links bytes (s.start.nexus - first) s.start.link fresh starts.0.at in
      let taken = appended s.link.taken fact.spoken.pushed (subst (λ l. Appends l s.link.taken fact.spoken.pushed) at.3 fact.spoken.output) in
      record {
        talks = talk s fact at.0 ∷ later.talks;
        on_links = (record { low = starts.0.low; at = at.1 }, later.on_links);
        gone = (taken, refl, later.gone);
        ends = ap (λ l. s.end ∷ l) later.ends;
        count = ap suc later.count;
        nexuses_are = ap (λ l. s.start.nexus ∷ l) later.nexuses_are;
        each = (talk-of first links s starts.0 fact at.0 at.2, later.each);
        conversations = (conversation-of first links s starts.0 fact closed.0, later.conversations);
      }

  -- ---- the whole

  later : {P Q : Type 0} (e : Entry) → (P → Q) → Contains opening e ⊎ P → Contains opening e ⊎ Q
  later e f (inl there) = inl there
  later e f (inr p) = inr (f p)

  -- the links that were accepted and given back, where they are told
  pub served-of : (first : ℕ) (links : List LinkState) (ss : List EndedSession) (coming rest : List (List ℕ)) (before after : List Gone)
      → AreSessions world root Shows first links ss → EndInOrder term first ss → AreClosedFor entries high ss → HaveCome (Some coming) (Some rest) links
      → HaveGone (Some before) (Some after) (map (λ (s : EndedSession). s.link) ss) → Legal entries
      → Each (λ (e : Entry). Contains opening e ⊎ IsOfSession ss e.actor) entries
      → AreServed step world.config Legal Folds term opening entries first coming rest before after (map (λ (s : EndedSession). s.end) ss)
  served-of first links ss coming rest before after are order closed come back legal others =
      let h = has-talks first links come.0 ss come.1 are.begun are.facts closed in
      let conversations = map (λ (t : Talk). t.conversation) h.talks in
      record {
        talks = h.talks;
        came = come.0;
        accepted = come.2;
        each_one = h.count ∙ are.all ∙ fresh-many links come.0 come.1;
        on_links = All-from_recursion (IsOnLink first come.0) h.talks h.on_links;
        ordered = λ counted. in-order first come.0 h.talks (h.count ∙ are.all ∙ fresh-many links come.0 come.1) h.on_links
            (h.nexuses_are ∙ order counted ∙ ap (numbers first) (sym h.count));
        given_back = back (map (λ (t : Talk). t.gone) h.talks) h.gone;
        ended = h.ends;
        each = All-from_recursion IsTalk h.talks h.each;
        run = record {
          legal = legal;
          apart = apart-of h.talks (λ k. subst (λ l. times k l ≤ 1) (sym h.nexuses_are) (are.apart k));
          each = All-from_recursion (IsConversation step world.config Folds entries) conversations h.conversations;
          others = Each-all (λ (e : Entry). Contains opening e ⊎ IsOfSome conversations e.actor) entries
              (Each-by (λ (e : Entry). Contains opening e ⊎ IsOfSome conversations e.actor) entries
              (λ e i. later e (λ is. of-some ss h.talks e.actor h.nexuses_are is)
              (Each-in (λ (x : Entry). Contains opening x ⊎ IsOfSession ss x.actor) entries e others i)));
        };
      }

  -- and nothing where they are not
  pub links-of : (first : ℕ) (links : List LinkState) (ss : List EndedSession) (coming rest : Option (List (List ℕ))) (before after : Option (List Gone))
      → AreSessions world root Shows first links ss → EndInOrder term first ss → AreClosedFor entries high ss → HaveCome coming rest links
      → HaveGone before after (map (λ (s : EndedSession). s.link) ss) → Legal entries
      → Each (λ (e : Entry). Contains opening e ⊎ IsOfSession ss e.actor) entries
      → IfTold coming rest before after (λ c r b a. AreServed step world.config Legal Folds term opening entries first c r b a (map (λ (s : EndedSession). s.end) ss))
  links-of first links ss (Some c) (Some r) (Some b) (Some a) are order closed come back legal others = served-of first links ss c r b a are order closed come back legal others
  links-of first links ss None rest before after are order closed come back legal others = tt
  links-of first links ss (Some c) None before after are order closed come back legal others = tt
  links-of first links ss (Some c) (Some r) None after are order closed come back legal others = tt
  links-of first links ss (Some c) (Some r) (Some b) None are order closed come back legal others = tt
