-- What a check answers, by what was pulled and pushed
use Rattle.std.proofs.Common.{◌≡◌, ℕ, ◌+◌, ◌<◌, ◌≤◌, List, [], ◌++◌, length, drop, take, refl, ap, sym, ◌∙◌, subst, arith, true, false, Bool, inl, inr, append-nil, length-append}
use Rattle.std.specs.Prelude.{◌⊎◌, nat_lt, if◌then◌else◌, IfSome, Option, Some, None, Result, Ok, Err}
use Rattle.std.specs.Io.KnownBytes.{Consumes, Appends, IsAtEnd}
use Rattle.std.proofs.KnownBytes.{Appends-nil}
use Rattle.std.proofs.lemmas.Bool.{lt-ltb, ltb-false}
use Rattle.std.proofs.lemmas.Bool.Decides.{nat_tests}
use Rattle.cm_base.specs.Fields.{field}
use Rattle.cm_base.specs.Outside.{Faulted}
use Rattle.cm_base.proofs.PublicLaws.{field-stays}
use Rattle.cmd_program.specs.Judging.{step}
use Rattle.trace_replay.specs.declared.fault.ReplayFault.{ReplayFault}
use Rattle.trace_replay.specs.declared.fault.ReplayFault.TheVariants.{ReadFault, WriteFault, OutOfMemory}
use Rattle.trace_check.specs.declared.checker.CheckEnd.{CheckEnd}
use Rattle.trace_replay.specs.Items.{Ending, Done, Torn, BadHeader, BadRecord, Records}
use Rattle.trace_replay.specs.Played.{output_of}
use Rattle.trace_check.specs.CheckedTrace.{checked_trace}
use Rattle.trace_check.specs.Verdict.{verdict, trace_limit, judged, by_ending, end_at, first_difference}
use Rattle.trace_check.specs.Checked.{Checked, IsCheckCounted, IsVerdict, told_of}
use Rattle.trace_check.specs.inner.Endings.{EndsBy, IsOfTrace}
use Rattle.trace_check.specs.inner.Pulls.{HasFailed, IsFillCounted, IsTooLong, HasNotTold, IsPushCounted}

-- the bytes that are left, where they are known
abbrev known : Option (List ℕ) → List ℕ
known None = []
known (Some bytes) = bytes

all-input : (left rest : Option (List ℕ)) (pulled : List ℕ) → Consumes left rest pulled → IfSome left (λ all. pulled ++ known rest ≡ all)
all-input None rest pulled c = tt
all-input (Some x) None pulled c = absurd c
all-input (Some x) (Some y) pulled c = sym c

none-left : (rest : Option (List ℕ)) → IsAtEnd rest → known rest ≡ []
none-left None end = refl
none-left (Some bytes) end = end

-- a length that is too great decides, whatever comes behind it
pub too-long : (bytes more : List ℕ) → IsTooLong bytes → verdict step (bytes ++ more) ≡ Err (ReplayFault.BadHeader 0)
too-long bytes more is =
    let long : nat_lt (length (bytes ++ more)) 8 ≡ false = (let h = length-append bytes more in let t = is.there in grind (arith, nat_tests)) in
    let same : field (bytes ++ more) 0 7 ≡ field bytes 0 7 = field-stays 0 8 bytes more is.there in
    let great : nat_lt trace_limit (field (bytes ++ more) 0 7) ≡ true = ap (nat_lt trace_limit) same ∙ lt-ltb _ _ is.great in
    rw (long, great) refl

-- what was pulled tells the verdict on the whole input
judged-whole : (rest : Option (List ℕ)) (waits : List ℕ) (answer : Result CheckEnd ReplayFault) → (IsAtEnd rest ⊎ IsTooLong waits) → verdict step waits ≡ answer
    → verdict step (waits ++ known rest) ≡ answer
judged-whole rest waits answer (inl end) is = ap (λ l. verdict step (waits ++ l)) (none-left rest end) ∙ ap (verdict step) (append-nil waits) ∙ is
judged-whole rest waits answer (inr long) is =
    too-long waits (known rest) long ∙ sym (ap (verdict step) (sym (append-nil waits)) ∙ too-long waits [] long) ∙ is

-- an answer that is a fault, and one that is none
abbrev pub faulty : ReplayFault → Result CheckEnd ReplayFault
faulty e = Err e

abbrev pub fine : CheckEnd → Result CheckEnd ReplayFault
fine end = Ok end

-- a trace that did not end between two items
pub judged-fault : (bytes trace : List ℕ) (e : ReplayFault) → 8 ≤ length bytes → field bytes 0 7 ≤ trace_limit → field bytes 0 7 ≤ length (drop 8 bytes)
    → trace ≡ take (field bytes 0 7) (drop 8 bytes) → EndsBy (checked_trace step trace) e
    → (faulty e ≡ faulty OutOfMemory) ⊎ (verdict step bytes ≡ Err e)
judged-fault bytes trace e there low within is ends = go e (subst (λ t. EndsBy (checked_trace step t) e) is ends)
  where
    long : nat_lt (length bytes) 8 ≡ false
    long = grind (arith, nat_tests)

    small : nat_lt trace_limit (field bytes 0 7) ≡ false
    small = grind (arith, nat_tests)

    whole : nat_lt (length (drop 8 bytes)) (field bytes 0 7) ≡ false
    whole = grind (arith, nat_tests)

    told : verdict step bytes ≡ judged (checked_trace step (take (field bytes 0 7) (drop 8 bytes))) (drop (field bytes 0 7) (drop 8 bytes))
    told = rw (long, small, whole) refl

    go : (f : ReplayFault) → EndsBy (checked_trace step (take (field bytes 0 7) (drop 8 bytes))) f → (faulty f ≡ faulty OutOfMemory) ⊎ (verdict step bytes ≡ Err f)
    go OutOfMemory by = inl refl
    go ReadFault by = absurd by
    go WriteFault by = absurd by
    go (ReplayFault.Torn place) by = inr (told ∙ by _)
    go (ReplayFault.BadHeader place) by = inr (told ∙ by _)
    go (ReplayFault.BadRecord place) by = inr (told ∙ by _)
    go ReplayFault.Records by = inr (told ∙ by _)

-- a verdict blames no pull and no push
abbrev IsOwn : Result CheckEnd ReplayFault → Type 0
IsOwn (Ok end) = Unit {0}
IsOwn (Err fault) = IsOfTrace fault

own : (bytes : List ℕ) → IsOwn (verdict step bytes)
own bytes =
    let n = field bytes 0 7 in
    let behind = drop 8 bytes in
    let p = checked_trace step (take n behind) in
    go (nat_lt (length bytes) 8) (nat_lt trace_limit n) (nat_lt (length behind) n) p.ending (end_at (first_difference (output_of p.state) (drop n behind)))
  where
    go : (a b c : Bool) (ending : Ending) (end : CheckEnd)
        → IsOwn (if a then Err (ReplayFault.Torn 0) else if b then Err (ReplayFault.BadHeader 0) else if c then Err (ReplayFault.Torn 8) else by_ending ending end)
    go true b c ending end = tt
    go false true c ending end = tt
    go false false true ending end = tt
    go false false false Done end = tt
    go false false false (Torn place) end = tt
    go false false false (BadHeader place) end = tt
    go false false false (BadRecord place) end = tt
    go false false false Records end = tt

-- what was judged
pub found : (bytes : List ℕ) (end : CheckEnd) → (fine end ≡ faulty OutOfMemory) ⊎ (verdict step bytes ≡ Ok end) → verdict step bytes ≡ Ok end
found bytes end (inl wanted) = cc
found bytes end (inr is) = is

-- ---- the exits

module _ (left rest : Option (List ℕ)) where
  pub failed : (taken : Option (List ℕ)) (e : ReplayFault) → HasFailed left rest e → Checked step left rest taken taken (Err e)
  failed taken e h = record {
    bytes = h.pulled ++ known rest;
    pulled = h.pulled;
    pushed = [];
    input = all-input left rest h.pulled h.consumed;
    consumed = h.consumed;
    read = tt;
    output = Appends-nil taken;
    verdict = go e h.fault;
  }
    where
      go : (f : ReplayFault) → (f ≡ ReadFault) ⊎ (f ≡ OutOfMemory) → IsVerdict step (h.pulled ++ known rest) [] (Err f)
      go f (inl is) = rw is refl
      go f (inr is) = rw is refl

  pub memory : (taken : Option (List ℕ)) (waits : List ℕ) → Consumes left rest waits → Checked step left rest taken taken (Err OutOfMemory)
  memory taken waits consumed = record {
    bytes = waits ++ known rest;
    pulled = waits;
    pushed = [];
    input = all-input left rest waits consumed;
    consumed = consumed;
    read = tt;
    output = Appends-nil taken;
    verdict = refl;
  }

  module _ (waits : List ℕ) (consumed : Consumes left rest waits) (end_or : IsAtEnd rest ⊎ IsTooLong waits) where
    -- a fault of the trace
    pub faulted : (taken : Option (List ℕ)) (e : ReplayFault) → IsOfTrace e → verdict step waits ≡ Err e → Checked step left rest taken taken (Err e)
    faulted taken e own is = record {
      bytes = waits ++ known rest;
      pulled = waits;
      pushed = [];
      input = all-input left rest waits consumed;
      consumed = consumed;
      read = tt;
      output = Appends-nil taken;
      verdict = go e own (judged-whole rest waits (Err e) end_or is);
    }
      where
        go : (f : ReplayFault) → IsOfTrace f → verdict step (waits ++ known rest) ≡ Err f → IsVerdict step (waits ++ known rest) [] (Err f)
        go ReadFault own v = absurd own
        go WriteFault own v = absurd own
        go OutOfMemory own v = refl
        go (ReplayFault.Torn place) own v = (v, refl)
        go (ReplayFault.BadHeader place) own v = (v, refl)
        go (ReplayFault.BadRecord place) own v = (v, refl)
        go ReplayFault.Records own v = (v, refl)

    -- the judge found a fault, or wanted memory
    pub not-judged : (taken : Option (List ℕ)) (e : ReplayFault) → (faulty e ≡ faulty OutOfMemory) ⊎ (verdict step waits ≡ Err e) → Checked step left rest taken taken (Err e)
    not-judged taken e (inl is) = let same : e ≡ OutOfMemory = cc in subst (λ f. Checked step left rest taken taken (Err f)) (sym same) (memory taken waits consumed)
    not-judged taken e (inr is) = faulted taken e (subst IsOwn is (own waits)) is

    -- the records were compared, and a Yes was told
    pub compared : (taken given : Option (List ℕ)) (end : CheckEnd) → verdict step waits ≡ Ok end → Appends taken given (told_of (Ok end)) → Checked step left rest taken given (Ok end)
    compared taken given end is told = record {
      bytes = waits ++ known rest;
      pulled = waits;
      pushed = told_of (Ok end);
      input = all-input left rest waits consumed;
      consumed = consumed;
      read = whole end_or;
      output = told;
      verdict = (judged-whole rest waits (Ok end) end_or is, refl);
    }
      where
        whole : IsAtEnd rest ⊎ IsTooLong waits → IsAtEnd rest
        whole (inl end) = end
        whole (inr long) = let no : Err (ReplayFault.BadHeader 0) ≡ Ok end = sym (ap (verdict step) (sym (append-nil waits)) ∙ too-long waits [] long) ∙ is in absurd cc

    pub not-told : (taken given : Option (List ℕ)) (end : CheckEnd) (e : ReplayFault) → verdict step waits ≡ Ok end → HasNotTold taken given end e → Checked step left rest taken given (Err e)
    not-told taken given end e is h = subst (λ f. Checked step left rest taken given (Err f)) (sym h.fault) (record {
      bytes = waits ++ known rest;
      pulled = waits;
      pushed = h.pushed;
      input = all-input left rest waits consumed;
      consumed = consumed;
      read = tt;
      output = h.output;
      verdict = (judged-whole rest waits (Ok CheckEnd.Yes) end_or (is ∙ ap Ok h.yes), h.begins);
    })

-- ---- the faults of the outside

pub counts-failed : (X : Type 0) (reads reads' writes : ℕ) (left rest : Option (List ℕ)) (e : ReplayFault) → HasFailed left rest e → IsFillCounted {X = X} reads reads' (Err e)
    → IsCheckCounted reads reads' writes writes (Err e)
counts-failed X reads reads' writes left rest e h counted = go e h.fault counted
  where
    go : (f : ReplayFault) → (f ≡ ReadFault) ⊎ (f ≡ OutOfMemory) → IsFillCounted {X = X} reads reads' (Err f) → IsCheckCounted reads reads' writes writes (Err f)
    go ReadFault why c = (c, refl)
    go OutOfMemory why c = (c, refl)
    go WriteFault (inl why) c = cc
    go WriteFault (inr why) c = cc
    go (ReplayFault.Torn place) why c = (c, refl)
    go (ReplayFault.BadHeader place) why c = (c, refl)
    go (ReplayFault.BadRecord place) why c = (c, refl)
    go ReplayFault.Records why c = (c, refl)

pub counts-own : (reads reads' writes : ℕ) (e : ReplayFault) → IsOfTrace e → reads' ≡ reads → IsCheckCounted reads reads' writes writes (Err e)
counts-own reads reads' writes ReadFault own same = absurd own
counts-own reads reads' writes WriteFault own same = absurd own
counts-own reads reads' writes OutOfMemory own same = (same, refl)
counts-own reads reads' writes (ReplayFault.Torn place) own same = (same, refl)
counts-own reads reads' writes (ReplayFault.BadHeader place) own same = (same, refl)
counts-own reads reads' writes (ReplayFault.BadRecord place) own same = (same, refl)
counts-own reads reads' writes ReplayFault.Records own same = (same, refl)

pub counts-told : (X : Type 0) (reads reads' writes writes' : ℕ) (taken given : Option (List ℕ)) (end : CheckEnd) (e : ReplayFault) → HasNotTold taken given end e → reads' ≡ reads
    → IsPushCounted {X = X} writes writes' (Err e) → IsCheckCounted reads reads' writes writes' (Err e)
counts-told X reads reads' writes writes' taken given end e h same counted =
    subst (λ f. IsCheckCounted reads reads' writes writes' (Err f)) (sym h.fault) (same, subst (λ f. IsPushCounted {X = X} writes writes' (Err f)) h.fault counted)
