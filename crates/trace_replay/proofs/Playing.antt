-- How a player goes on, and how it ends
use Rattle.std.proofs.Common.{◌≡◌, ℕ, zero, suc, ◌-◌, ◌<◌, ◌≤◌, List, [], ◌∷◌, ◌++◌, length, drop, refl, ap, sym, ◌∙◌, subst, arith, Bool, true, false, inl, inr, append-nil, length-append}
use Rattle.std.specs.Prelude.{IfSome, MatchResult, IfOk, ◌⊎◌, ◌==◌, nat_lt, Option, Some, None, Result, Ok, Err}
use Rattle.std.specs.Io.KnownBytes.{Consumes, Appends, Keeps, IsAtEnd}
use Rattle.std.proofs.lemmas.Bool.{lt-ltb, ltb-true, eqb-true}
use Rattle.std.proofs.KnownBytes.{Consumes-trans, Consumes-kept, Appends-nil}
use Rattle.cm_base.specs.Outside.{Faulted}
use Rattle.cm_base.specs.declared.input_buffer.FillFailed.{FillFailed}
use Rattle.cm_base.specs.Configuration.{Configuration}
use Rattle.cm_frame.specs.declared.item.TraceItem.{TraceItem}
use Rattle.cm_base.specs.declared.parsed.Parsed.TheVariants.{Whole, Short, Bad}
use Rattle.cm_frame.specs.Reading.{read_header, read_item}
use Rattle.cm_frame.proofs.PublicLaws.{UsesWithin, header-within}
use Rattle.cmd_program.specs.Judging.{step}
use Rattle.cmd_program.proofs.PublicLaws.{ends-busy}
use Rattle.trace_replay.specs.declared.player.Player.{Player}
use Rattle.trace_replay.specs.declared.fault.ReplayFault.{ReplayFault}
use Rattle.trace_replay.specs.declared.summary.Summary.{Summary}
use Rattle.trace_replay.specs.Faults.{fault_of}
use Rattle.trace_replay.specs.Items.{BadRecord, BadHeader, Done, Torn, items_limit}
use Rattle.trace_replay.specs.ReplayState.{ReplayState, at_first, item_fits}
use Rattle.trace_replay.specs.Played.{played_from, output_of, summary_of}
use Rattle.trace_replay.specs.Replayed.{Replayed, IsCounted}
use Rattle.trace_replay.specs.inner.Laws.{StandsAt}
use Rattle.trace_replay.proofs.LoopLaws.{LoopStands, ShortagesTell, known}
use Rattle.trace_replay.specs.inner.Players.{IsLoopAt, IsAt, left_of, HasPulled, HasMore, NeedsMore, EndsBad}
use Rattle.trace_replay.specs.inner.Writing.{IsWritten, IsBegun, IsWriteFault}
use Rattle.trace_replay.specs.inner.Machines.{IsStanding}
use Rattle.trace_replay.proofs.Sizes.{header-used}
use Rattle.trace_replay.proofs.Steps.{begins, grows, play-unfit, play-bad, play-torn, play-done}
use Rattle.trace_replay.proofs.Exits.{all-input, exit-at, exit-early, exit-done, exit-torn, exit-records, exit-read, exit-header, memory-header, header-bad, header-torn}
use Rattle.trace_replay.proofs.ShownShortages.{shortages-tell}

pub tells : ShortagesTell step
tells = shortages-tell step ends-busy

flushed : (taken given : Option (List ℕ)) (waits bytes : List ℕ) → IsWritten taken given waits bytes → waits ≡ [] → Appends taken given bytes
flushed taken given waits bytes w none = subst (Appends taken given) (sym (append-nil w.pushed) ∙ ap (λ l. w.pushed ++ l) (sym none) ∙ w.all) w.written

module _ (left rest taken given : Option (List ℕ)) (config : Configuration) (s : ReplayState) (n place : ℕ) (input waits : List ℕ)
    (l : IsLoopAt left rest taken given config s n place input waits) where
  -- other bytes wait, after others were pushed
  pub loop-written : (given' : Option (List ℕ)) (waits' : List ℕ) → IsWritten taken given' waits' (output_of s)
      → IsLoopAt left rest taken given' config s n place input waits'
  loop-written given' waits' w = record { pulled = l.pulled; shortages = l.shortages; consumed = l.consumed; stands = l.stands; written = w }

  -- more was pulled
  pub loop-more : (rest' : Option (List ℕ)) (more input' : List ℕ) → input' ≡ input ++ more → Consumes rest rest' more
      → IsLoopAt left rest' taken given config s n place input' waits
  loop-more rest' more input' is consumed = record {
    pulled = l.pulled ++ more;
    shortages = l.shortages;
    consumed = Consumes-trans left rest rest' l.pulled more l.consumed consumed;
    stands = subst (StandsAt step config (l.pulled ++ more) l.shortages s n place) (sym is) (grows step config l.pulled l.shortages s n place input more l.stands);
    written = l.written;
  }

  pub loop-kept : (rest' : Option (List ℕ)) → Keeps rest rest' → IsLoopAt left rest' taken given config s n place input waits
  loop-kept rest' kept =
      record { pulled = l.pulled; shortages = l.shortages; consumed = Consumes-kept left rest rest' l.pulled l.consumed kept; stands = l.stands; written = l.written }

  -- ---- the ends

  -- some of the output was written
  pub ends-begun : (given' : Option (List ℕ)) (e : ReplayFault) → IsBegun taken given' (output_of s) → IsWriteFault e → Replayed step left rest taken given' (Err e)
  ends-begun given' e b fault =
      exit-early step left rest taken given' config l.pulled l.shortages s n place input b.pushed (Err e) (why fault) l.consumed l.stands b.begins b.written
    where
      failed : ReplayFault → Result Summary ReplayFault
      failed f = Err f

      why : IsWriteFault e → (failed e ≡ failed ReplayFault.WriteFault) ⊎ (failed e ≡ failed ReplayFault.OutOfMemory)
      why (inl is) = inl (ap failed is)
      why (inr is) = inr (ap failed is)

  -- memory is wanted
  pub ends-memory : Replayed step left rest taken given (Err ReplayFault.OutOfMemory)
  ends-memory = ends-begun given ReplayFault.OutOfMemory (record { pushed = l.written.pushed; written = l.written.written; begins = (waits, l.written.all) }) (inr refl)

  module _ (none : waits ≡ []) where
    pub stands : LoopStands step left rest taken given config l.pulled l.shortages s n place input
    stands = record { consumed = l.consumed; stands = l.stands; written = flushed taken given waits (output_of s) l.written none }

    -- all of it was written
    pub ends-bad : EndsBad config s n place input → Replayed step left rest taken given (Err (ReplayFault.BadRecord place))
    ends-bad bad =
        exit-at step left rest taken given config l.pulled l.shortages s n place input (known rest) (BadRecord place) (Err (ReplayFault.BadRecord place)) tells stands
        (bad.ends (known rest)) (all-input left rest l.pulled l.consumed) tt (refl, refl)

    pub ends-read : NeedsMore n input → Replayed step left rest taken given (Err ReplayFault.ReadFault)
    ends-read needs = go input n refl refl needs.open_end
      where
        go : (i : List ℕ) (m : ℕ) → input ≡ i → n ≡ m → ((input ≡ []) ⊎ (0 < n)) → Replayed step left rest taken given (Err ReplayFault.ReadFault)
        go [] m e f some_or =
            exit-read step left rest taken given config l.pulled l.shortages s n place input Done tells stands
            (ap (λ i. played_from step config s n place i []) e ∙ play-done step config s n place [])
        go (b ∷ bs) zero e f (inl none_in) = let absent : b ∷ bs ≡ [] = sym e ∙ none_in in cc
        go (b ∷ bs) zero e f (inr some) = absurd (omega (arith, f, some))
        go (b ∷ bs) (suc m) e f some_or =
            exit-read step left rest taken given config l.pulled l.shortages s n place input (Torn place) tells stands
            (ap (λ i. played_from step config s n place i []) e ∙ ap (λ k. played_from step config s k place (b ∷ bs) []) f
            ∙ play-torn step config s m place b bs [] (sym (ap read_item e) ∙ needs.short))

    pub ends-done : IsAtEnd rest → input ≡ [] → Replayed step left rest taken given (Ok (summary_of s))
    ends-done end empty =
        exit-done step left rest taken given config l.pulled l.shortages s n place tells
        (record { consumed = stands.consumed; stands = subst (StandsAt step config l.pulled l.shortages s n place) empty l.stands; written = stands.written }) end

-- nothing was pulled
pub ends-filling : (left rest taken given : Option (List ℕ)) (config : Configuration) (s : ReplayState) (n place : ℕ) (input waits : List ℕ)
    → IsLoopAt left rest taken given config s n place input waits → waits ≡ [] → (rest' : Option (List ℕ)) (f : FillFailed) → NeedsMore n input
    → (f ≡ FillFailed.Read → Keeps rest rest') → (f ≡ FillFailed.OutOfMemory → rest' ≡ rest) → Replayed step left rest' taken given (Err (fault_of f))
ends-filling left rest taken given config s n place input waits l none rest' FillFailed.Read needs read memory =
    ends-read left rest' taken given config s n place input waits (loop-kept left rest taken given config s n place input waits l rest' (read refl)) none needs
ends-filling left rest taken given config s n place input waits l none rest' FillFailed.OutOfMemory needs read memory =
    subst (λ r. Replayed step left r taken given (Err ReplayFault.OutOfMemory)) (sym (memory refl)) (ends-memory left rest taken given config s n place input waits l)

pub counts-filling : (reads reads' writes writes' : ℕ) (f : FillFailed) → writes' ≡ writes → (f ≡ FillFailed.Read → Faulted reads reads')
    → (f ≡ FillFailed.OutOfMemory → reads' ≡ reads) → IsCounted reads reads' writes writes' (Err (fault_of f))
counts-filling reads reads' writes writes' FillFailed.Read same read memory = (read refl, same)
counts-filling reads reads' writes writes' FillFailed.OutOfMemory same read memory = (memory refl, same)

-- ---- a bad item at the front

pub unfit-ends : (config : Configuration) (s : ReplayState) (n place : ℕ) (input : List ℕ) (item : TraceItem) (used : ℕ)
    → 0 < n → read_item input ≡ Whole item used → item_fits config s item ≡ false → EndsBad config s n place input
unfit-ends config s zero place input item used some whole unfit = absurd (omega (arith, some))
unfit-ends config s (suc n) place input item used some whole unfit =
    record { ends = λ more. play-unfit step config s n place input more item used [] whole unfit }

pub bad-ends : (config : Configuration) (s : ReplayState) (n place : ℕ) (input : List ℕ) (fault : ℕ)
    → 0 < n → read_item input ≡ Bad fault → EndsBad config s n place input
bad-ends config s zero place input fault some bad = absurd (omega (arith, some))
bad-ends config s (suc n) place input fault some bad = record { ends = λ more. play-bad step config s n place fault input more [] bad }

-- ---- a pull

pub none-came : (input input' more : List ℕ) (count : ℕ) → length more ≡ count → input' ≡ input ++ more → nat_lt 0 count ≡ false → (count ≡ 0) × (input' ≡ input)
none-came input input' [] count len is test = (sym len, is ∙ append-nil input)
none-came input input' (b ∷ bs) count len is test =
    let yes : nat_lt 0 count ≡ true = lt-ltb 0 count (omega (arith, len)) in cc

pub some-came : (input input' more : List ℕ) (count : ℕ) → length more ≡ count → input' ≡ input ++ more → nat_lt 0 count ≡ true → length input < length input'
some-came input input' more count len is test =
    let some : 0 < count = ltb-true 0 count test in omega (arith, ap length is, length-append input more, len, some)

-- ---- the end of the input

pub none-needs : (n : ℕ) (input : List ℕ) → input ≡ [] → NeedsMore n input
none-needs n input e = record { short = ap read_item e; open_end = inl e }

pub ends-torn : (left rest taken given : Option (List ℕ)) (config : Configuration) (s : ReplayState) (n place : ℕ) (input waits : List ℕ)
    → IsLoopAt left rest taken given config s n place input waits → waits ≡ [] → NeedsMore n input → IsAtEnd rest → 0 < length input
    → Replayed step left rest taken given (Err (ReplayFault.Torn place))
ends-torn left rest taken given config s n place [] waits l none needs end some = absurd (omega (arith, some))
ends-torn left rest taken given config s zero place (b ∷ bs) waits l none needs end some = absurd (no-more needs.open_end)
  where
    no-more : ((b ∷ bs ≡ []) ⊎ (0 < 0)) → ⊥
    no-more (inl e) = cc
    no-more (inr e) = omega (arith, e)
ends-torn left rest taken given config s (suc n) place (b ∷ bs) waits l none needs end some =
    exit-torn step left rest taken given config l.pulled l.shortages s n place b bs tells
    (stands left rest taken given config s (suc n) place (b ∷ bs) waits l none) end needs.short

pub ends-records : (left rest taken given : Option (List ℕ)) (config : Configuration) (s : ReplayState) (n place : ℕ) (input waits : List ℕ)
    → IsLoopAt left rest taken given config s n place input waits → waits ≡ [] → n ≡ 0 → 0 < length input
    → Replayed step left rest taken given (Err ReplayFault.Records)
ends-records left rest taken given config s n place [] waits l none zero-left some = absurd (omega (arith, some))
ends-records left rest taken given config s zero place (b ∷ bs) waits l none zero-left some =
    exit-records step left rest taken given config l.pulled l.shortages s place b bs tells
    (stands left rest taken given config s zero place (b ∷ bs) waits l none)
ends-records left rest taken given config s (suc n) place (b ∷ bs) waits l none zero-left some = absurd (omega (arith, zero-left))

pub is-none : (xs ys : List ℕ) → ys ≡ xs → true ≡ (length ys == 0) → xs ≡ []
is-none [] ys e t = refl
is-none (x ∷ xs) ys e t = let zero_long : length ys ≡ 0 = eqb-true (length ys) 0 (sym t) in absurd (omega (arith, zero_long, ap length e))

pub is-some : (xs ys : List ℕ) → ys ≡ xs → false ≡ (length ys == 0) → 0 < length xs
is-some [] ys e t = let same : false ≡ (length {A = ℕ} [] == 0) = t ∙ ap (λ l. length l == 0) e in cc
is-some (x ∷ xs) ys e t = omega arith

pub more-pulled : (left rest taken given : Option (List ℕ)) (before : List ℕ) (p : Player) (r : Result Bool ReplayFault)
    → MatchResult r (HasPulled left rest taken given before p) (λ e. Replayed step left rest taken given (Err e))
    → IfOk r (λ more. more ≡ true → length before < length p.input) → before ≡ []
    → MatchResult r (HasMore left rest taken given p) (λ e. Replayed step left rest taken given (Err e))
more-pulled left rest taken given before p (Ok more) h grows none = record {
  is = h.is;
  some = λ e. let more-bytes = grows e in omega (arith, more-bytes);
  none = λ e. ((h.ended e).0, (h.ended e).1 ∙ none, h.flushed);
}
more-pulled left rest taken given before p (Err e) h grows none = h

pub counts-later : (reads reads' reads'' writes writes' writes'' : ℕ) (e : ReplayFault) → reads' ≡ reads → writes' ≡ writes
    → IsCounted reads' reads'' writes' writes'' (Err e) → IsCounted reads reads'' writes writes'' (Err e)
counts-later reads reads' reads'' writes writes' writes'' e a b counted =
    subst (λ n. IsCounted n reads'' writes writes'' (Err e)) a (subst (λ n. IsCounted reads' reads'' n writes'' (Err e)) b counted)

-- ---- the beginning

pub begins-so : (left rest given : Option (List ℕ)) (config : Configuration) (input : List ℕ) (used : ℕ) (p : Player)
    → Consumes left rest input → read_header input ≡ Whole config used → IsStanding config at_first p.machine
    → p.summary ≡ summary_of at_first → p.input ≡ drop used input → p.place ≡ used → p.output ≡ []
    → IsAt left rest given given p × (p.summary.records ≡ 0)
begins-so left rest given config input used p consumed header machine summary input_is place output = (at, none)
  where
    none : p.summary.records ≡ 0
    none = ap (λ (c : Summary). c.records) summary

    left_is : left_of p ≡ items_limit
    left_is = ap (λ n. items_limit - n) none

    stood : StandsAt step config input [] at_first (left_of p) p.place p.input
    stood =
        subst (λ n. StandsAt step config input [] at_first n p.place p.input) (sym left_is)
        (subst (λ n. StandsAt step config input [] at_first items_limit n p.input) (sym place)
        (subst (StandsAt step config input [] at_first items_limit used) (sym input_is) (begins step input config used header)))

    at : IsAt left rest given given p
    at = record {
      config = config;
      s = at_first;
      loop = record {
        pulled = input;
        shortages = [];
        consumed = consumed;
        stands = stood;
        written = record { pushed = []; written = Appends-nil given; all = output };
      };
      machine = machine;
      summary = summary;
      few = record { items = omega arith; replies = omega arith; bytes = omega arith };
      place = omega (arith, place, header-used input config used header);
    }

-- ---- before the header is whole

pub header-filling : (left rest taken : Option (List ℕ)) (waits : List ℕ) (rest' : Option (List ℕ)) (f : FillFailed)
    → Consumes left rest waits → read_header waits ≡ Short → (f ≡ FillFailed.Read → Keeps rest rest')
    → (f ≡ FillFailed.OutOfMemory → rest' ≡ rest) → Replayed step left rest' taken taken (Err (fault_of f))
header-filling left rest taken waits rest' FillFailed.Read consumed short read memory =
    exit-header step left rest' taken taken waits waits (Torn 0) (Err ReplayFault.ReadFault) tells (header-torn step waits short)
    refl (Consumes-kept left rest rest' waits consumed (read refl)) tt (Appends-nil taken) refl
header-filling left rest taken waits rest' FillFailed.OutOfMemory consumed short read memory =
    subst (λ r. Replayed step left r taken taken (Err ReplayFault.OutOfMemory)) (sym (memory refl))
    (memory-header step left rest taken taken waits consumed (Appends-nil taken))

pub header-memory : (left rest taken : Option (List ℕ)) (waits : List ℕ) → Consumes left rest waits → Replayed step left rest taken taken (Err ReplayFault.OutOfMemory)
header-memory left rest taken waits consumed = memory-header step left rest taken taken waits consumed (Appends-nil taken)

pub header-fault : (left rest taken : Option (List ℕ)) (waits : List ℕ) (place : ℕ) → Consumes left rest waits → read_header waits ≡ Bad place
    → Replayed step left rest taken taken (Err (ReplayFault.BadHeader place))
header-fault left rest taken waits place consumed bad =
    exit-header step left rest taken taken (waits ++ known rest) waits (BadHeader place) (Err (ReplayFault.BadHeader place)) tells
    (header-bad step waits (known rest) place bad) (all-input left rest waits consumed) consumed tt (Appends-nil taken) (refl, refl)

ended-input : (left rest : Option (List ℕ)) (pulled : List ℕ) → Consumes left rest pulled → IsAtEnd rest → IfSome left (λ all. pulled ≡ all)
ended-input None rest pulled c e = tt
ended-input (Some x) None pulled c e = absurd c
ended-input (Some x) (Some y) pulled c e = sym (c ∙ ap (λ l. pulled ++ l) e ∙ append-nil pulled)

pub header-ended : (left rest rest' taken : Option (List ℕ)) (waits more : List ℕ) (count : ℕ) → Consumes left rest waits → Consumes rest rest' more
    → length more ≡ count → count ≡ 0 → IsAtEnd rest' → read_header waits ≡ Short → Replayed step left rest' taken taken (Err (ReplayFault.Torn 0))
header-ended left rest rest' taken waits (b ∷ bs) count consumed later len none end short = absurd (omega (arith, len, none))
header-ended left rest rest' taken waits [] count consumed later len none end short =
    let all = subst (Consumes left rest') (append-nil waits) (Consumes-trans left rest rest' waits [] consumed later) in
    exit-header step left rest' taken taken waits waits (Torn 0) (Err (ReplayFault.Torn 0)) tells (header-torn step waits short)
    (ended-input left rest' waits all end) all end (Appends-nil taken) (refl, refl)

-- ---- measures

pub grown : (xs ys more : List ℕ) (count : ℕ) → length more ≡ count → ys ≡ xs ++ more → (count ≡ 0 → ⊥) → length xs < length ys
grown xs ys more zero len is some = absurd (some refl)
grown xs ys more (suc n) len is some = omega (arith, ap length is, length-append xs more, len)

pub smaller : (limit : ℕ) (xs ys : List ℕ) → length xs < limit → length xs < length ys → limit - length ys < limit - length xs
smaller limit xs ys a b = omega (arith, a, b)

pub left-kept : (was now : Summary) → now ≡ was → 0 < items_limit - was.records → 0 < items_limit - now.records
left-kept was now same some = subst (λ (c : Summary). 0 < items_limit - c.records) (sym same) some

pub needs-more : (n : ℕ) (input : List ℕ) → read_item input ≡ Short → 0 < n → NeedsMore n input
needs-more n input short some = record { short = short; open_end = inr some }

-- where nothing is told of the input and the output, it stands so whatever they are
pub any-player : (rest given rest' given' : Option (List ℕ)) (p : Player) → IsAt None rest None given p → IsAt None rest' None given' p
any-player rest given rest' given' p is = record {
  config = is.config;
  s = is.s;
  loop = record {
    pulled = is.loop.pulled;
    shortages = is.loop.shortages;
    consumed = tt;
    stands = is.loop.stands;
    written = record { pushed = is.loop.written.pushed; written = tt; all = is.loop.written.all };
  };
  machine = is.machine;
  summary = is.summary;
  few = is.few;
  place = is.place;
}

pub header-within-bytes : (bytes : List ℕ) (config : Configuration) (used : ℕ) → read_header bytes ≡ Whole config used → used ≤ length bytes
header-within-bytes bytes config used e = (subst (UsesWithin (length bytes)) e (header-within bytes).uses).1
