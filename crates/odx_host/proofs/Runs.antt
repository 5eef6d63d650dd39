-- Commands that end GOOD, and their entries
use Rattle.std.proofs.Common.{◌≡◌, ℕ, List, [], ◌∷◌, ◌++◌, refl, subst}
use Rattle.std.specs.Prelude.{Option, Some, None, fold}
use Rattle.std.proofs.lemmas.List.Sums.{fold-append}
use Rattle.cm_base.specs.Configuration.{Configuration}
use Rattle.cm_frame.specs.declared.frame.Request.{Request}
use Rattle.cm_frame.specs.declared.frame.Reply.{Reply}
use Rattle.cm_history.specs.declared.answer.Answer.{Answer}
use Rattle.cmd_program.specs.declared.step.Outcome.{Outcome}
use Rattle.cmd_program.specs.declared.step.Step.{Step}
use Rattle.cmd_program.specs.Running.{Call}
use Rattle.cmd_program.specs.Program.{Program, Ask, Ends, Asks, GivesUp, next, moved}
use Rattle.cmd_program.specs.Judging.{step, program, program_after}
use Rattle.cmd_program.specs.Exchanges.{Event, Asked, Wanted, outcomes_of, calls_in, AreCaused}

-- ---- a program that ends GOOD

-- each event is one that the program may come to
abbrev CausedBy : Program → List Event → Type 0
CausedBy p [] = Unit {0}
CausedBy p (Asked c ∷ es) = (next p ≡ Step.Do c.unit c.act) × CausedBy (moved p c.outcome) es
CausedBy p (Wanted ∷ es) = CausedBy (moved p Outcome.NoMemory) es

-- every act of the program is answered, and it ends GOOD with these bytes
abbrev pub RunsWell : Program → List Call → List ℕ → Type 0
RunsWell (Ends reply) [] bytes = reply ≡ Reply.Good bytes
RunsWell (Ends reply) (c ∷ cs) bytes = ⊥
RunsWell (Asks ask last go_on) [] bytes = ⊥
RunsWell (Asks ask last go_on) (c ∷ cs) bytes =
    (told : Answer) × (c.unit ≡ ask.unit) × (c.act ≡ ask.act) × (c.outcome ≡ Outcome.Answered told) × RunsWell (go_on told) cs bytes
RunsWell (GivesUp last reply) cs bytes = Unit {0}

program-on : (config : Configuration) (request : Request) (before : List Outcome) (o : Outcome)
    → program_after config request (before ++ o ∷ []) ≡ moved (program_after config request before) o
program-on config request before o = fold-append moved (program config request) before (o ∷ [])

caused-by : (config : Configuration) (nexus : ℕ) (request : Request) (before : List Outcome) (es : List Event) → AreCaused step config nexus request before es
    → CausedBy (program_after config request before) es
caused-by config nexus request before [] all = tt
caused-by config nexus request before (Asked c ∷ es) all = (
  all.0,
  subst (λ p. CausedBy p es) (program-on config request before c.outcome) (caused-by config nexus request (before ++ c.outcome ∷ []) es all.1),
)
caused-by config nexus request before (Wanted ∷ es) all =
    subst (λ p. CausedBy p es) (program-on config request before Outcome.NoMemory) (caused-by config nexus request (before ++ Outcome.NoMemory ∷ []) es all.1)

-- a command that gave up does not end otherwise
given-up : (os : List Outcome) (last : Option Ask) (reply : Reply) (bytes : List ℕ) → next (fold moved (GivesUp last reply) os) ≡ Step.Done (Reply.Good bytes) → reply ≡ Reply.Good bytes
given-up [] None reply bytes e = cc
given-up [] (Some ask) reply bytes e = cc
given-up (Outcome.Answered a ∷ os) last reply bytes e = given-up os None reply bytes e
given-up (Outcome.Full ∷ os) last reply bytes e = given-up os None reply bytes e
given-up (Outcome.NoMemory ∷ os) last reply bytes e = given-up os None reply bytes e

not-full : (bytes : List ℕ) → Reply.Full ≡ Reply.Good bytes → ⊥
not-full bytes e = cc

not-busy : (bytes : List ℕ) → Reply.Busy ≡ Reply.Good bytes → ⊥
not-busy bytes e = cc

well-run : (p : Program) (es : List Event) (bytes : List ℕ) → CausedBy p es → next (fold moved p (outcomes_of es)) ≡ Step.Done (Reply.Good bytes) → RunsWell p (calls_in es) bytes
well-run (Ends reply) [] bytes caused e = cc
well-run (Ends reply) (Asked c ∷ es) bytes caused e = let no = caused.0 in cc
well-run (Ends reply) (Wanted ∷ es) bytes caused e = absurd (not-busy bytes (given-up (outcomes_of es) None Reply.Busy bytes e))
well-run (Asks ask last go_on) [] bytes caused e = cc
well-run (Asks ask last go_on) (Asked c ∷ es) bytes caused e = go c.outcome refl caused.1 e (λ told more ends. well-run (go_on told) es bytes more ends)
  where
    go : (o : Outcome) → c.outcome ≡ o → CausedBy (moved (Asks ask last go_on) o) es → next (fold moved (moved (Asks ask last go_on) o) (outcomes_of es)) ≡ Step.Done (Reply.Good bytes)
        → ((told : Answer) → CausedBy (go_on told) es → next (fold moved (go_on told) (outcomes_of es)) ≡ Step.Done (Reply.Good bytes) → RunsWell (go_on told) (calls_in es) bytes)
        → RunsWell (Asks ask last go_on) (c ∷ calls_in es) bytes
    go (Outcome.Answered told) is more ends later =
        let unit : c.unit ≡ ask.unit = (let asked = caused.0 in cc) in
        let act : c.act ≡ ask.act = (let asked = caused.0 in cc) in
        (told, unit, act, is, later told more ends)
    go Outcome.Full is more ends later = absurd (not-full bytes (given-up (outcomes_of es) last Reply.Full bytes ends))
    go Outcome.NoMemory is more ends later = absurd (not-busy bytes (given-up (outcomes_of es) last Reply.Busy bytes ends))
well-run (Asks ask last go_on) (Wanted ∷ es) bytes caused e = absurd (not-busy bytes (given-up (outcomes_of es) last Reply.Busy bytes e))
well-run (GivesUp last reply) es bytes caused e = tt

-- a command that ended GOOD
pub ran-well : (config : Configuration) (nexus : ℕ) (request : Request) (es : List Event) (bytes : List ℕ) → AreCaused step config nexus request [] es
    → step config nexus request (outcomes_of es) ≡ Step.Done (Reply.Good bytes) → RunsWell (program config request) (calls_in es) bytes
ran-well config nexus request es bytes caused e = well-run (program config request) es bytes (caused-by config nexus request [] es caused) e
