-- One request over a connection
use Rattle.std.proofs.Common.{◌≡◌, ◌∙◌, ℕ, ◌+◌, ◌<◌, ◌≤◌, List, [], ◌∷◌, ◌++◌, length, refl, sym, subst, inl, inr, append-nil, arith, true, false, Bool}
use Rattle.std.specs.Prelude.{Option, Some, None, Result, Ok, Err, cond, not, nat_lt, ◌==◌}
use Rattle.std.specs.Io.KnownBytes.{Consumes, Appends}
use Rattle.std.proofs.lemmas.Bool.Decides.{nat_tests}
use Rattle.cm_base.specs.Outside.{Faulted}
use Rattle.cm_base.specs.Sides.{IsCut}
use Rattle.cm_base.specs.Fields.{byte, field, part}
use Rattle.cm_base.specs.declared.parsed.Parsed.{Parsed}
use Rattle.cm_base.specs.declared.parsed.Parsed.TheVariants.{Whole, Short, Bad}
use Rattle.cm_frame.specs.declared.frame.Request.{Request}
use Rattle.cm_frame.specs.declared.frame.Reply.{Reply}
use Rattle.cm_frame.specs.Grammar.{request_bytes, data_limit}
use Rattle.cm_frame.specs.Reading.{read_reply, bare_reply, read_good, read_check, is_status, is_sense, sense_in}
use Rattle.odx_host.specs.declared.port.PortFault.{PortFault}
use Rattle.odx_host.specs.declared.port.PortFault.TheVariants.{OutOfMemory, ReadFault, WriteFault, Ended, BadReply}
use Rattle.odx_host.specs.Linked.{Linked, LinkState, IsPushed, IsRead, EndsThere, IsCounted, IsSpoken}

-- ---- nothing is pulled or pushed

consumes-none : (left : Option (List ℕ)) → Consumes left left []
consumes-none None = tt
consumes-none (Some xs) = refl

appends-none : (taken : Option (List ℕ)) → Appends taken taken []
appends-none None = tt
appends-none (Some xs) = sym (append-nil xs)

-- ---- a reply that is not whole yet is no longer than a reply can be

few-by : (a b c d e f : Bool) (good check last : Parsed Reply) (limit told size : ℕ) → (a ≡ true → size < 6) → (d ≡ false → told ≤ limit)
    → (good ≡ Short → size < 6 + told) → (check ≡ Short → size < 24) → (last ≡ Short → ⊥) → limit ≤ 8_388_608
    → cond a Short (cond b (Bad 0) (cond c (Bad 1) (cond d (Bad 2) (cond e good (cond f check last))))) ≡ Short → size < 8_388_614
few-by true b c d e f good check last limit told size one two three four five low is = let few = one refl in omega (arith, few)
few-by false true c d e f good check last limit told size one two three four five low is = cc
few-by false false true d e f good check last limit told size one two three four five low is = cc
few-by false false false true e f good check last limit told size one two three four five low is = cc
few-by false false false false true f good check last limit told size one two three four five low is =
    let few = three is in
    let short = two refl in
    omega (arith, few, short, low)
few-by false false false false false true good check last limit told size one two three four five low is = let few = four is in omega (arith, few)
few-by false false false false false false good check last limit told size one two three four five low is = absurd (five is)

pub is-below : (a b : ℕ) → nat_lt a b ≡ true → a < b
is-below a b e = grind (arith, nat_tests)

pub is-not-below : (a b : ℕ) → nat_lt a b ≡ false → b ≤ a
is-not-below a b e = grind (arith, nat_tests)

good-few : (bytes : List ℕ) → read_good bytes ≡ Short → length bytes < 6 + field bytes 2 5
good-few bytes e = go (nat_lt (length bytes) (6 + field bytes 2 5)) refl e
  where
    go : (t : Bool) → nat_lt (length bytes) (6 + field bytes 2 5) ≡ t → cond t Short (Whole (Reply.Good (part 6 (field bytes 2 5) bytes)) (6 + field bytes 2 5)) ≡ Short → length bytes < 6 + field bytes 2 5
    go true e is = is-below (length bytes) (6 + field bytes 2 5) e
    go false e is = cc

check-few : (bytes : List ℕ) → read_check bytes ≡ Short → length bytes < 24
check-few bytes e = go (nat_lt (length bytes) 24) (not (is_sense (part 6 18 bytes))) refl e
  where
    go : (t u : Bool) → nat_lt (length bytes) 24 ≡ t → cond t Short (cond u (Bad 6) (Whole (Reply.Check (sense_in (part 6 18 bytes))) 24)) ≡ Short → length bytes < 24
    go true u e is = is-below (length bytes) 24 e
    go false true e is = cc
    go false false e is = cc

limit-low : (good : Bool) → cond good data_limit 0 ≤ 8_388_608
limit-low true = omega arith
limit-low false = omega arith

pub short-few : (bytes : List ℕ) → read_reply bytes ≡ Short → length bytes < 8_388_614
short-few bytes e = few-by (nat_lt (length bytes) 6) (not (is_status (byte bytes 0))) (not (byte bytes 1 == cond (byte bytes 0 == 0x02) 0x12 0))
    (nat_lt (cond (byte bytes 0 == 0x00) data_limit 0) (field bytes 2 5)) (byte bytes 0 == 0x00) (byte bytes 0 == 0x02) (read_good bytes) (read_check bytes)
    (Whole (bare_reply (byte bytes 0)) 6) (cond (byte bytes 0 == 0x00) data_limit 0) (field bytes 2 5) (length bytes)
    (is-below (length bytes) 6) (is-not-below (cond (byte bytes 0 == 0x00) data_limit 0) (field bytes 2 5)) (good-few bytes) (check-few bytes) (λ is. cc) (limit-low (byte bytes 0 == 0x00)) e

-- ---- replies

-- what was pulled since
abbrev pub HasPulled : Option (List ℕ) → Option (List ℕ) → List ℕ → List ℕ → Type 0
HasPulled left now before input = (pulled : List ℕ) × Consumes left now pulled × (input ≡ before ++ pulled)

pub none-came : (before after more : List ℕ) → length more ≡ 0 → after ≡ before ++ more → after ≡ before
none-came before after [] none grown = grown ∙ append-nil before
none-came before after (b ∷ bs) none grown = absurd (omega (arith, none))

pub read-there : (answer : Result Reply PortFault) (left now : Option (List ℕ)) (before input rest : List ℕ) → HasPulled left now before input → IsRead answer input rest
    → (pulled : List ℕ) × Consumes left now pulled × IsRead answer (before ++ pulled) rest
read-there answer left now before input rest p is = (p.0, p.1, subst (λ b. IsRead answer b rest) p.2 is)

-- a frame was pushed whole, unless a push failed
whole-pushed : (answer : Result Reply PortFault) (reads reads_after : ℕ) (frame : List ℕ) → IsCounted answer reads reads_after 0 0 → IsPushed answer frame frame
whole-pushed (Ok reply) reads reads_after frame c = refl
whole-pushed (Err OutOfMemory) reads reads_after frame c = inr refl
whole-pushed (Err ReadFault) reads reads_after frame c = refl
whole-pushed (Err WriteFault) reads reads_after frame c = absurd (omega (arith, c.1))
whole-pushed (Err Ended) reads reads_after frame c = refl
whole-pushed (Err BadReply) reads reads_after frame c = refl

-- ---- the whole request

-- what is told of a connection
abbrev pub state_of : {K : Type 0} → (K → Option (List ℕ)) → (K → ℕ) → (K → Option (List ℕ)) → (K → ℕ) → Linked K → LinkState
state_of {K} left reads taken writes p = record {
  left = left p.link;
  input = p.input;
  taken = taken p.link;
  read_faults = reads p.link;
  write_faults = writes p.link;
}

pub spoken-wanted : (s : LinkState) (request : Request) → IsSpoken s s (record { request = request; answer = Err OutOfMemory })
spoken-wanted s request = record {
  pushed = [];
  given = appends-none s.taken;
  frame = inl refl;
  pulled = [];
  consumed = consumes-none s.left;
  reply = sym (append-nil s.input);
  ended = tt;
  counted = (refl, refl);
}

pub spoken-cut : (s t : LinkState) (request : Request) (front : List ℕ) → IsCut front (request_bytes request) → Appends s.taken t.taken front → t.left ≡ s.left → t.input ≡ s.input
    → t.read_faults ≡ s.read_faults → Faulted s.write_faults t.write_faults → IsSpoken s t (record { request = request; answer = Err WriteFault })
spoken-cut s t request front cut given left input reads writes = record {
  pushed = front;
  given = given;
  frame = cut;
  pulled = [];
  consumed = subst (λ l. Consumes s.left l []) (sym left) (consumes-none s.left);
  reply = input ∙ sym (append-nil s.input);
  ended = tt;
  counted = (reads, writes);
}

counted-so : (answer : Result Reply PortFault) (r0 r1 r2 w0 w2 : ℕ) → r1 ≡ r0 → w2 ≡ w0 → IsCounted answer r1 r2 w0 w0 → IsCounted answer r0 r2 w0 w2
counted-so answer r0 r1 r2 w0 w2 reads writes c = subst (λ r. IsCounted answer r r2 w0 w2) reads (subst (λ w. IsCounted answer r1 r2 w0 w) (sym writes) c)

-- a frame was pushed from s to t, and its reply was read from there to u
pub spoken-by : (s t u : LinkState) (request : Request) (answer : Result Reply PortFault) → Appends s.taken t.taken (request_bytes request) → t.left ≡ s.left → t.input ≡ s.input
    → t.read_faults ≡ s.read_faults → t.write_faults ≡ s.write_faults
    → ((pulled : List ℕ) × Consumes t.left u.left pulled × IsRead answer (t.input ++ pulled) u.input) → EndsThere answer u.left
    → ((writes : ℕ) → IsCounted answer t.read_faults u.read_faults writes writes) → u.taken ≡ t.taken → u.write_faults ≡ t.write_faults
    → IsSpoken s u (record { request = request; answer = answer })
spoken-by s t u request answer given left input reads writes read ended counted taken wrote = record {
  pushed = request_bytes request;
  given = subst (λ x. Appends s.taken x (request_bytes request)) (sym taken) given;
  frame = whole-pushed answer t.read_faults u.read_faults (request_bytes request) (counted 0);
  pulled = read.0;
  consumed = subst (λ l. Consumes l u.left read.0) left read.1;
  reply = subst (λ i. IsRead answer (i ++ read.0) u.input) input read.2;
  ended = ended;
  counted = counted-so answer s.read_faults t.read_faults u.read_faults s.write_faults u.write_faults reads (wrote ∙ writes) (counted s.write_faults);
}
