-- The answer of a replay of a generated trace, and what is told of it
use Rattle.std.proofs.Common.{◌≡◌, ℕ, List, [], Option, Some, Result, Ok, Err, IfSome, IsTrue, refl, sym, ap, ◌∙◌, subst, arith, inl, inr}
use Rattle.std.proofs.KnownBytes.{Appends-nil}
use Rattle.cm_base.specs.Outside.{Faulted, IsBeginning}
use Rattle.cmd_program.specs.Judging.{step}
use Rattle.generator.specs.Generated.{generated}
use Rattle.trace_replay.specs.declared.summary.Summary.{Summary}
use Rattle.trace_replay.specs.declared.fault.ReplayFault.{ReplayFault}
use Rattle.trace_replay.specs.Items.{Done, BadRecord}
use Rattle.trace_replay.specs.ReplayState.{Shortage}
use Rattle.trace_replay.specs.Played.{played}
use Rattle.trace_replay.specs.Shortages.{may_lack}
use Rattle.trace_replay.specs.Replayed.{Replayed, IsCounted, IsAnswer, IsCompleteBy}
use Rattle.round_counts.specs.Counts.{HasCounts}
use Rattle.copymgr.specs.declared.status.Status.{Status}
use Rattle.copymgr.specs.Statuses.{status_of}
use Rattle.copymgr.specs.Orders.{AreRounds, gen_words}
use Rattle.std.specs.Prelude.{slice_index_or}
use Rattle.std.proofs.lemmas.Fmt.{decimal_injective}
use Rattle.copymgr.specs.Told.{summary_text}
use Rattle.copymgr.specs.inner.Generating.{IsAnswerOf, IsPushed, IsPushedSo}
use Rattle.copymgr.specs.Generating.{IsTold, IsWriteCounted, HasGenerated}
use Rattle.copymgr.proofs.EndsWell.{EndsWell}

-- what a replay says of the bytes that it played
record Says (bytes : List ℕ) (shortages : List Shortage) (pushed : List ℕ) (answer : Result Summary ReplayFault) : Type 0 where
  allowed : IsTrue (may_lack step bytes shortages)
  ending : IsAnswer (played step bytes shortages) pushed answer
  complete : IsCompleteBy (played step bytes []) (played step bytes shortages) pushed answer

-- the generated trace ends well, whatever memory is refused, and is played to its end where none is
pub record AllEndWell (rounds : ℕ) : Type 0 where
  pub well : (shortages : List Shortage) → EndsWell (played step (generated rounds) shortages).ending
  pub free : HasCounts rounds

no-fault : Faulted 0 0 → ⊥
no-fault (inl more) = omega (arith, more)
no-fault (inr full) = omega (arith, full.0)

-- a trace that is played to its end does not end at an item
other : {place : ℕ} → Done ≡ BadRecord place → ⊥
other e = cc

says : (rounds : ℕ) (shortages : List Shortage) (pushed : List ℕ) (answer : Result Summary ReplayFault)
    → AllEndWell rounds → Says (generated rounds) shortages pushed answer → IsCounted 0 0 0 0 answer → IsAnswerOf rounds answer
says rounds shortages pushed (Ok summary) well s counted = (
  shortages,
  record {
    allowed = s.allowed;
    ends = s.ending.0.0;
    free = well.free;
    shown = elim s.complete [ inl a ↦ inl (sym s.ending.1 ∙ a.1 ∙ well.free.counts) | inr w ↦ inr w ];
  },
  s.ending.1,
)
says rounds shortages pushed (Err ReplayFault.ReadFault) well s counted = no-fault counted.0
says rounds shortages pushed (Err ReplayFault.WriteFault) well s counted = no-fault counted.1
says rounds shortages pushed (Err ReplayFault.OutOfMemory) well s counted = tt
says rounds shortages pushed (Err (ReplayFault.Torn place)) well s counted = subst EndsWell s.ending.0 (well.well shortages)
says rounds shortages pushed (Err (ReplayFault.BadHeader place)) well s counted = subst EndsWell s.ending.0 (well.well shortages)
says rounds shortages pushed (Err (ReplayFault.BadRecord place)) well s counted = (
  shortages,
  record {
    allowed = s.allowed;
    ends = s.ending.0;
    free = well.free;
    shown = elim s.complete [ inl a ↦ absurd (other (sym well.free.ends ∙ a.0)) | inr w ↦ w ];
  },
)
says rounds shortages pushed (Err ReplayFault.Records) well s counted = subst EndsWell s.ending.0 (well.well shortages)

-- the bytes that were played are those that the source had
of-all : (left rest taken given : Option (List ℕ)) (rounds : ℕ) (answer : Result Summary ReplayFault) (r : Replayed step left rest taken given answer)
    → left ≡ Some (generated rounds) → IfSome left (λ all. r.bytes ≡ all) → Says (generated rounds) r.shortages r.pushed answer
of-all left rest taken given rounds answer r is same =
    let bytes : r.bytes ≡ generated rounds = subst (λ l. IfSome l (λ all. r.bytes ≡ all)) is same in
    subst (λ l. Says l r.shortages r.pushed answer) bytes (record { allowed = r.allowed; ending = r.ending; complete = r.complete })

pub answered : (left rest taken given : Option (List ℕ)) (rounds : ℕ) (answer : Result Summary ReplayFault)
    → AllEndWell rounds → left ≡ Some (generated rounds) → Replayed step left rest taken given answer → IsCounted 0 0 0 0 answer
    → IsAnswerOf rounds answer
answered left rest taken given rounds (Ok summary) well is r counted =
    says rounds r.shortages r.pushed (Ok summary) well (of-all left rest taken given rounds (Ok summary) r is r.input) counted
answered left rest taken given rounds (Err ReplayFault.ReadFault) well is r counted = no-fault counted.0
answered left rest taken given rounds (Err ReplayFault.WriteFault) well is r counted = no-fault counted.1
answered left rest taken given rounds (Err ReplayFault.OutOfMemory) well is r counted = tt
answered left rest taken given rounds (Err (ReplayFault.Torn place)) well is r counted =
    says rounds r.shortages r.pushed (Err (ReplayFault.Torn place)) well (of-all left rest taken given rounds (Err (ReplayFault.Torn place)) r is r.input) counted
answered left rest taken given rounds (Err (ReplayFault.BadHeader place)) well is r counted =
    says rounds r.shortages r.pushed (Err (ReplayFault.BadHeader place)) well (of-all left rest taken given rounds (Err (ReplayFault.BadHeader place)) r is r.input) counted
answered left rest taken given rounds (Err (ReplayFault.BadRecord place)) well is r counted =
    says rounds r.shortages r.pushed (Err (ReplayFault.BadRecord place)) well (of-all left rest taken given rounds (Err (ReplayFault.BadRecord place)) r is r.input) counted
answered left rest taken given rounds (Err ReplayFault.Records) well is r counted =
    says rounds r.shortages r.pushed (Err ReplayFault.Records) well (of-all left rest taken given rounds (Err ReplayFault.Records) r is r.input) counted

-- ---- what is told

tells : (rounds : ℕ) (summary : Summary) (pushed : List ℕ) (status : Status) → IsAnswerOf rounds (Ok summary) → IsPushed summary pushed status → IsTold rounds pushed status
tells rounds summary pushed Status.Done a p = (a.0, a.1, p ∙ ap summary_text a.2)
tells rounds summary pushed Status.WriteFault a p = (a.0, a.1, subst (λ s. IsBeginning pushed (summary_text s)) a.2 p)
tells rounds summary pushed Status.OutOfMemory a p = p
tells rounds summary pushed _ a p = absurd p

pub told-counts : (rounds : ℕ) (summary : Summary) (taken given : Option (List ℕ)) (writes writes_after : ℕ) (status : Status)
    → IsAnswerOf rounds (Ok summary) → IsPushedSo taken given writes writes_after summary status → HasGenerated rounds taken given writes writes_after status
told-counts rounds summary taken given writes writes_after status a p =
    record { pushed = p.pushed; output = p.output; told = tells rounds summary p.pushed status a p.told; counted = p.counted }

fails : (rounds : ℕ) (e : ReplayFault) → IsAnswerOf rounds (Err e) → IsTold rounds [] (status_of (Err e))
fails rounds ReplayFault.ReadFault a = a
fails rounds ReplayFault.WriteFault a = absurd a
fails rounds ReplayFault.OutOfMemory a = refl
fails rounds (ReplayFault.Torn place) a = a
fails rounds (ReplayFault.BadHeader place) a = a
fails rounds (ReplayFault.BadRecord place) a = (a.0, a.1, refl)
fails rounds ReplayFault.Records a = a

uncounted : (rounds writes : ℕ) (e : ReplayFault) → IsAnswerOf rounds (Err e) → IsWriteCounted writes writes (status_of (Err e))
uncounted rounds writes ReplayFault.ReadFault a = refl
uncounted rounds writes ReplayFault.WriteFault a = absurd a
uncounted rounds writes ReplayFault.OutOfMemory a = refl
uncounted rounds writes (ReplayFault.Torn place) a = refl
uncounted rounds writes (ReplayFault.BadHeader place) a = refl
uncounted rounds writes (ReplayFault.BadRecord place) a = refl
uncounted rounds writes ReplayFault.Records a = refl

pub told-fault : (rounds : ℕ) (e : ReplayFault) (taken : Option (List ℕ)) (writes : ℕ)
    → IsAnswerOf rounds (Err e) → HasGenerated rounds taken taken writes writes (status_of (Err e))
told-fault rounds e taken writes a =
    record { pushed = []; output = Appends-nil taken; told = fails rounds e a; counted = uncounted rounds writes e a }

-- two numbers that are spelled alike
pub same-rounds : (words : List (List ℕ)) (m n : ℕ) → AreRounds m → AreRounds n → words ≡ gen_words m → words ≡ gen_words n → m ≡ n
same-rounds words m n few many a b =
    decimal_injective m n (omega (arith, few.1)) (omega (arith, many.1)) (ap (λ ws. slice_index_or ws 1 []) (sym a ∙ b))
