-- How a loop over pulls may end
use Rattle.std.proofs.Common.{◌≡◌, ℕ, List, [], ◌∷◌, ◌++◌, drop, suc, refl, ap, sym, ◌∙◌, subst, true, false, Bool, inl, inr, append_assoc, append-nil}
use Rattle.std.specs.Prelude.{cond, ◌⊎◌, ◌&&◌, Option, Some, None, Ok, Err, Result, IfSome, IsTrue}
use Rattle.std.specs.Io.KnownBytes.{Consumes, Appends, IsAtEnd}
use Rattle.cm_base.specs.Configuration.{Configuration}
use Rattle.cm_frame.specs.declared.item.TraceItem.{TraceItem}
use Rattle.cm_base.specs.declared.parsed.Parsed.{Parsed}
use Rattle.cm_base.specs.declared.parsed.Parsed.TheVariants.{Whole, Short, Bad}
use Rattle.cm_frame.specs.Laws.{IsJudged}
use Rattle.cm_frame.proofs.PublicLaws.{header-stays}
use Rattle.cm_frame.specs.Reading.{read_header, read_item}
use Rattle.trace_replay.specs.Items.{Done, Records, BadHeader, Torn, items_limit}
use Rattle.trace_replay.specs.ReplayState.{at_first}
use Rattle.trace_replay.specs.Played.{never_began, played_after}
use Rattle.trace_replay.specs.Shortages.{allowed_after}
use Rattle.cm_history.specs.declared.act.Actor.{Actor}
use Rattle.cmd_program.specs.declared.step.Step.{Step}
use Rattle.cmd_program.specs.Stepping.{Stepping, gave_up}
use Rattle.trace_replay.specs.declared.summary.Summary.{Summary}
use Rattle.trace_replay.specs.declared.fault.ReplayFault.{ReplayFault}
use Rattle.trace_replay.specs.declared.fault.ReplayFault.TheVariants.{ReadFault, WriteFault, OutOfMemory}
use Rattle.trace_replay.specs.Items.{Ending, Placed, trace_of}
use Rattle.trace_replay.specs.ReplayState.{Pending, ReplayState, Shortage, Nowhere, after_item, next_step, item_fits, waiting}
use Rattle.trace_replay.specs.Played.{Played, played, played_from, shortage_for, shortages_behind, output_of, summary_of}
use Rattle.trace_replay.specs.Shortages.{allowed_at_act, allowed_at_run, is_allowed, are_allowed, may_lack, met_want}
use Rattle.cm_base.specs.Outside.{IsBeginning}
use Rattle.trace_replay.specs.Replayed.{IsInput, IsReadSo, IsAnswer, IsCompleteBy, Replayed}
use Rattle.trace_replay.specs.inner.Laws.{StandsAt}
use Rattle.trace_replay.proofs.LoopLaws.{LoopStands, ShortagesTell, known}
use Rattle.trace_replay.proofs.Steps.{play-torn, play-done, play-records}
use Rattle.trace_replay.proofs.Grows.{output-grows}
use Rattle.trace_replay.proofs.ShownShortages.{none-behind}

-- ---- no shortage is always allowed

no-shortage-at-run : (step : Stepping) (config : Configuration) (s : ReplayState) (found : Option Pending) → allowed_at_run step config s Nowhere found ≡ true
no-shortage-at-run step config s None = refl
no-shortage-at-run step config s (Some p) = go (gave_up p.outcomes) (next_step step config p)
  where
    go : (t : Bool) (after_item : Step) → cond t true (allowed_at_act config s.entries (Actor.Nexus p.initiator) Nowhere after_item) ≡ true
    go true after_item = refl
    go false (Step.Do unit act) = refl
    go false (Step.Done reply) = refl

no-shortage-allowed : (step : Stepping) (config : Configuration) (s : ReplayState) (item : TraceItem) → is_allowed step config s item (shortage_for item []) ≡ true
no-shortage-allowed step config s (TraceItem.Begin i m r) = refl
no-shortage-allowed step config s (TraceItem.Run i m) = no-shortage-at-run step config s (waiting i s.pending)
no-shortage-allowed step config s (TraceItem.Pump u m) = refl

pub none-allowed : (step : Stepping) (config : Configuration) (s : ReplayState) (xs : List Placed) → are_allowed step config s xs [] ≡ true
none-allowed step config s [] = refl
none-allowed step config s (x ∷ xs) =
    go (item_fits config s x.item) (is_allowed step config s x.item (shortage_for x.item [])) _ (no-shortage-allowed step config s x.item)
    (ap (are_allowed step config (after_item step config s x.item (shortage_for x.item [])) xs) (none-behind x.item)
    ∙ none-allowed step config (after_item step config s x.item (shortage_for x.item [])) xs)
  where
    go : (t u v : Bool) → u ≡ true → v ≡ true → cond t (u && v) true ≡ true
    go true u v a b = rw (a, b) refl
    go false u v a b = refl

-- ---- the whole input, from how things stand

all-more : (pulled buffered more front : List ℕ) → front ++ buffered ≡ pulled → pulled ++ more ≡ front ++ (buffered ++ more)
all-more pulled buffered more front all = ap (λ l. l ++ more) (sym all) ∙ append_assoc front buffered more

pub plays-all : (step : Stepping) (config : Configuration) (pulled : List ℕ) (shortages : List Shortage) (s : ReplayState) (n place : ℕ) (buffered more : List ℕ)
    → StandsAt step config pulled shortages s n place buffered → played step (pulled ++ more) shortages ≡ played_from step config s n place (buffered ++ more) []
plays-all step config pulled shortages s n place buffered more stands =
    ap (λ l. played step l shortages) (all-more pulled buffered more stands.front stands.all)
    ∙ ap (played step (stands.front ++ (buffered ++ more))) (sym (append-nil shortages)) ∙ stands.plays (buffered ++ more) []

pub may-all : (step : Stepping) (config : Configuration) (pulled : List ℕ) (shortages : List Shortage) (s : ReplayState) (n place : ℕ) (buffered more : List ℕ)
    → StandsAt step config pulled shortages s n place buffered → may_lack step (pulled ++ more) shortages ≡ true
may-all step config pulled shortages s n place buffered more stands =
    ap (λ l. may_lack step l shortages) (all-more pulled buffered more stands.front stands.all)
    ∙ ap (may_lack step (stands.front ++ (buffered ++ more))) (sym (append-nil shortages)) ∙ stands.may (buffered ++ more) []
    ∙ none-allowed step config s (trace_of n place (buffered ++ more)).items

pub complete-by : (step : Stepping) (bytes : List ℕ) (shortages : List Shortage) (pushed : List ℕ) (answer : Result Summary ReplayFault)
    → ShortagesTell step → may_lack step bytes shortages ≡ true → IsAnswer (played step bytes shortages) pushed answer
    → IsCompleteBy (played step bytes []) (played step bytes shortages) pushed answer
complete-by step bytes shortages pushed answer tells may is = go answer is (tells bytes shortages may)
  where
    by : (a : Result Summary ReplayFault) → IsAnswer (played step bytes shortages) pushed a
        → ((played step bytes shortages ≡ played step bytes []) ⊎ IsTrue (met_want (played step bytes shortages).state))
        → IsAnswer (played step bytes []) pushed a ⊎ IsTrue (met_want (played step bytes shortages).state)
    by a i (inl e) = inl (subst (λ p. IsAnswer p pushed a) e i)
    by a i (inr w) = inr w

    go : (a : Result Summary ReplayFault) → IsAnswer (played step bytes shortages) pushed a
        → ((played step bytes shortages ≡ played step bytes []) ⊎ IsTrue (met_want (played step bytes shortages).state))
        → IsCompleteBy (played step bytes []) (played step bytes shortages) pushed a
    go (Err WriteFault) i t = tt
    go (Err OutOfMemory) i t = tt
    go (Ok x) i t = by (Ok x) i t
    go (Err ReadFault) i t = by (Err ReadFault) i t
    go (Err (ReplayFault.Torn p)) i t = by (Err (ReplayFault.Torn p)) i t
    go (Err (ReplayFault.BadHeader p)) i t = by (Err (ReplayFault.BadHeader p)) i t
    go (Err (ReplayFault.BadRecord p)) i t = by (Err (ReplayFault.BadRecord p)) i t
    go (Err ReplayFault.Records) i t = by (Err ReplayFault.Records) i t

-- ---- the exits

-- the trace ended so, at this state; each caller's last two premises hold by computation
pub exit-at : (step : Stepping) (left rest taken given : Option (List ℕ)) (config : Configuration) (pulled : List ℕ) (shortages : List Shortage)
    (s : ReplayState) (n place : ℕ) (buffered more : List ℕ) (ending : Ending) (answer : Result Summary ReplayFault)
    → ShortagesTell step → LoopStands step left rest taken given config pulled shortages s n place buffered
    → played_from step config s n place (buffered ++ more) [] ≡ record { state = s; ending = ending }
    → IsInput left pulled (pulled ++ more) answer → IsReadSo rest answer → IsAnswer (record { state = s; ending = ending }) (output_of s) answer
    → Replayed step left rest taken given answer
exit-at step left rest taken given config pulled shortages s n place buffered more ending answer tells loop ends input read is =
    let may = may-all step config pulled shortages s n place buffered more loop.stands in
    let all = plays-all step config pulled shortages s n place buffered more loop.stands ∙ ends in
    let told : IsAnswer (played step (pulled ++ more) shortages) (output_of s) answer = subst (λ p. IsAnswer p (output_of s) answer) (sym all) is in
    record {
      bytes = pulled ++ more;
      shortages = shortages;
      pulled = pulled;
      pushed = output_of s;
      input = input;
      consumed = loop.consumed;
      read = read;
      output = loop.written;
      allowed = may;
      ending = told;
      complete = complete-by step (pulled ++ more) shortages (output_of s) answer tells may told;
    }

begins-trans : (a b c : List ℕ) → IsBeginning a b → IsBeginning b c → IsBeginning a c
begins-trans a b c p q = (p.0 ++ q.0, sym (append_assoc a p.0 q.0) ∙ ap (λ l. l ++ q.0) p.1 ∙ q.1)

-- a push failed, or memory was wanted: some of the output was written
pub begun-at : (step : Stepping) (config : Configuration) (pulled : List ℕ) (shortages : List Shortage)
    (s : ReplayState) (n place : ℕ) (buffered more pushed : List ℕ)
    → StandsAt step config pulled shortages s n place buffered → IsBeginning pushed (output_of s)
    → IsBeginning pushed (output_of (played step (pulled ++ more) shortages).state)
begun-at step config pulled shortages s n place buffered more pushed stands begins =
    subst (λ (p : Played). IsBeginning pushed (output_of p.state)) (sym (plays-all step config pulled shortages s n place buffered more stands))
    (begins-trans pushed (output_of s) _ begins (output-grows step config s n place (buffered ++ more) []))

-- what was pulled, and what is left, is all there was
pub all-input : (left rest : Option (List ℕ)) (pulled : List ℕ) → Consumes left rest pulled → IfSome left (λ all. pulled ++ known rest ≡ all)
all-input None rest pulled c = tt
all-input (Some x) None pulled c = absurd c
all-input (Some x) (Some y) pulled c = sym c

pub exit-early : (step : Stepping) (left rest taken given : Option (List ℕ)) (config : Configuration) (pulled : List ℕ) (shortages : List Shortage)
    (s : ReplayState) (n place : ℕ) (buffered pushed : List ℕ) (answer : Result Summary ReplayFault)
    → (answer ≡ Err WriteFault) ⊎ (answer ≡ Err OutOfMemory)
    → Consumes left rest pulled → StandsAt step config pulled shortages s n place buffered
    → IsBeginning pushed (output_of s) → Appends taken given pushed
    → Replayed step left rest taken given answer
exit-early step left rest taken given config pulled shortages s n place buffered pushed answer why consumed stands begins written = go why
  where
    begun : IsBeginning pushed (output_of (played step (pulled ++ known rest) shortages).state)
    begun = begun-at step config pulled shortages s n place buffered (known rest) pushed stands begins

    write : Replayed step left rest taken given (Err WriteFault)
    write = record {
      bytes = pulled ++ known rest;
      shortages = shortages;
      pulled = pulled;
      pushed = pushed;
      input = all-input left rest pulled consumed;
      consumed = consumed;
      read = tt;
      output = written;
      allowed = may-all step config pulled shortages s n place buffered (known rest) stands;
      ending = begun;
      complete = tt;
    }

    memory : Replayed step left rest taken given (Err OutOfMemory)
    memory = record {
      bytes = pulled ++ known rest;
      shortages = shortages;
      pulled = pulled;
      pushed = pushed;
      input = all-input left rest pulled consumed;
      consumed = consumed;
      read = tt;
      output = written;
      allowed = may-all step config pulled shortages s n place buffered (known rest) stands;
      ending = begun;
      complete = tt;
    }

    go : ((answer ≡ Err WriteFault) ⊎ (answer ≡ Err OutOfMemory)) → Replayed step left rest taken given answer
    go (inl e) = subst (Replayed step left rest taken given) (sym e) write
    go (inr e) = subst (Replayed step left rest taken given) (sym e) memory

-- ---- before the header is whole

none-may : (step : Stepping) (bytes : List ℕ) → may_lack step bytes [] ≡ true
none-may step bytes = go (read_header bytes)
  where
    go : (p : Parsed Configuration) → allowed_after step p bytes [] ≡ true
    go Short = refl
    go (Bad place) = refl
    go (Whole config used) = none-allowed step config at_first (trace_of items_limit used (drop used bytes)).items

pub header-bad : (step : Stepping) (bytes more : List ℕ) (place : ℕ) → read_header bytes ≡ Bad place
    → played step (bytes ++ more) [] ≡ never_began (BadHeader place)
header-bad step bytes more place e =
    ap (λ p. played_after step p (bytes ++ more) []) (header-stays bytes more (subst IsJudged (sym e) tt) ∙ e)

pub header-torn : (step : Stepping) (bytes : List ℕ) → read_header bytes ≡ Short → played step bytes [] ≡ never_began (Torn 0)
header-torn step bytes e = ap (λ p. played_after step p bytes []) e

-- the header is no header, or the input ends in it, or a pull fails there
pub exit-header : (step : Stepping) (left rest taken given : Option (List ℕ)) (bytes pulled : List ℕ) (ending : Ending) (answer : Result Summary ReplayFault)
    → ShortagesTell step → played step bytes [] ≡ never_began ending → IsInput left pulled bytes answer → Consumes left rest pulled → IsReadSo rest answer
    → Appends taken given [] → IsAnswer (never_began ending) [] answer → Replayed step left rest taken given answer
exit-header step left rest taken given bytes pulled ending answer tells ends input consumed read written is =
    let told : IsAnswer (played step bytes []) [] answer = subst (λ p. IsAnswer p [] answer) (sym ends) is in
    record {
      bytes = bytes;
      shortages = [];
      pulled = pulled;
      pushed = [];
      input = input;
      consumed = consumed;
      read = read;
      output = written;
      allowed = none-may step bytes;
      ending = told;
      complete = complete-by step bytes [] [] answer tells (none-may step bytes) told;
    }

-- memory is wanted there
pub memory-header : (step : Stepping) (left rest taken given : Option (List ℕ)) (pulled : List ℕ)
    → Consumes left rest pulled → Appends taken given [] → Replayed step left rest taken given (Err OutOfMemory)
memory-header step left rest taken given pulled consumed written = record {
  bytes = pulled ++ known rest;
  shortages = [];
  pulled = pulled;
  pushed = [];
  input = all-input left rest pulled consumed;
  consumed = consumed;
  read = tt;
  output = written;
  allowed = none-may step (pulled ++ known rest);
  ending = (output_of (played step (pulled ++ known rest) []).state, refl);
  complete = tt;
}

-- ---- each exit by name

known-none : (rest : Option (List ℕ)) → IsAtEnd rest → known rest ≡ []
known-none None e = refl
known-none (Some xs) e = e

-- between two items the input is at its end
pub exit-done : (step : Stepping) (left rest taken given : Option (List ℕ)) (config : Configuration) (pulled : List ℕ) (shortages : List Shortage) (s : ReplayState) (n place : ℕ)
    → ShortagesTell step → LoopStands step left rest taken given config pulled shortages s n place [] → IsAtEnd rest
    → Replayed step left rest taken given (Ok (summary_of s))
exit-done step left rest taken given config pulled shortages s n place tells loop end =
    exit-at step left rest taken given config pulled shortages s n place [] (known rest) Done (Ok (summary_of s)) tells loop
    (ap (λ l. played_from step config s n place l []) (known-none rest end) ∙ play-done step config s n place [])
    (all-input left rest pulled loop.consumed) end ((refl, refl), refl)

-- in an item the input is at its end
pub exit-torn : (step : Stepping) (left rest taken given : Option (List ℕ)) (config : Configuration) (pulled : List ℕ) (shortages : List Shortage) (s : ReplayState) (n place b : ℕ) (bs : List ℕ)
    → ShortagesTell step → LoopStands step left rest taken given config pulled shortages s (suc n) place (b ∷ bs) → IsAtEnd rest → read_item (b ∷ bs) ≡ Short
    → Replayed step left rest taken given (Err (ReplayFault.Torn place))
exit-torn step left rest taken given config pulled shortages s n place b bs tells loop end short =
    exit-at step left rest taken given config pulled shortages s (suc n) place (b ∷ bs) (known rest) (Torn place) (Err (ReplayFault.Torn place)) tells loop
    (ap (λ l. played_from step config s (suc n) place (b ∷ bs ++ l) []) (known-none rest end)
    ∙ ap (λ l. played_from step config s (suc n) place (b ∷ l) []) (append-nil bs) ∙ play-torn step config s n place b bs [] short)
    (all-input left rest pulled loop.consumed) end (refl, refl)

-- a byte behind the last item that is allowed
pub exit-records : (step : Stepping) (left rest taken given : Option (List ℕ)) (config : Configuration) (pulled : List ℕ) (shortages : List Shortage) (s : ReplayState) (place b : ℕ) (bs : List ℕ)
    → ShortagesTell step → LoopStands step left rest taken given config pulled shortages s 0 place (b ∷ bs)
    → Replayed step left rest taken given (Err ReplayFault.Records)
exit-records step left rest taken given config pulled shortages s place b bs tells loop =
    exit-at step left rest taken given config pulled shortages s 0 place (b ∷ bs) (known rest) Records (Err ReplayFault.Records) tells loop
    (play-records step config s place b (bs ++ known rest) []) (all-input left rest pulled loop.consumed) tt (refl, refl)

-- a pull failed between two items, or in one
pub exit-read : (step : Stepping) (left rest taken given : Option (List ℕ)) (config : Configuration) (pulled : List ℕ) (shortages : List Shortage) (s : ReplayState) (n place : ℕ) (buffered : List ℕ) (ending : Ending)
    → ShortagesTell step → LoopStands step left rest taken given config pulled shortages s n place buffered
    → played_from step config s n place buffered [] ≡ record { state = s; ending = ending }
    → Replayed step left rest taken given (Err ReadFault)
exit-read step left rest taken given config pulled shortages s n place buffered ending tells loop ends =
    exit-at step left rest taken given config pulled shortages s n place buffered [] ending (Err ReadFault) tells loop
    (ap (λ l. played_from step config s n place l []) (append-nil buffered) ∙ ends)
    (append-nil pulled) tt refl
