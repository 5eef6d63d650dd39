-- What happened in a command, and one more event
use Rattle.std.proofs.Common.{◌≡◌, ℕ, List, [], ◌∷◌, ◌++◌, refl, ap, sym, ◌∙◌, subst, append-nil, append_assoc}
use Rattle.cm_base.specs.Configuration.{Configuration}
use Rattle.cm_frame.specs.declared.frame.Request.{Request}
use Rattle.cmd_program.specs.declared.step.Outcome.{Outcome}
use Rattle.cmd_program.specs.Stepping.{Stepping}
use Rattle.cmd_program.specs.Program.{moved}
use Rattle.cmd_program.specs.Judging.{program, program_after}
use Rattle.std.proofs.lemmas.List.Sums.{fold-append}
use Rattle.cmd_program.specs.Exchanges.{Event, Asked, Wanted, outcome_of, outcomes_of, calls_in, IsCaused, AreCaused}

pub outcomes-more : (xs : List Event) (e : Event) → outcomes_of (xs ++ e ∷ []) ≡ outcomes_of xs ++ outcome_of e ∷ []
outcomes-more [] e = refl
outcomes-more (x ∷ xs) e = ap (λ l. outcome_of x ∷ l) (outcomes-more xs e)

pub calls-more : (xs ys : List Event) → calls_in (xs ++ ys) ≡ calls_in xs ++ calls_in ys
calls-more [] ys = refl
calls-more (Asked c ∷ xs) ys = ap (λ l. c ∷ l) (calls-more xs ys)
calls-more (Wanted ∷ xs) ys = calls-more xs ys

pub caused-more : (step : Stepping) (config : Configuration) (nexus : ℕ) (request : Request) (before : List Outcome) (xs : List Event) (e : Event)
    → AreCaused step config nexus request before xs → IsCaused step config nexus request (before ++ outcomes_of xs) e
    → AreCaused step config nexus request before (xs ++ e ∷ [])
caused-more step config nexus request before [] e all here = (subst (λ b. IsCaused step config nexus request b e) (append-nil before) here, tt)
caused-more step config nexus request before (x ∷ xs) e all here = (
  all.0,
  caused-more step config nexus request (before ++ outcome_of x ∷ []) xs e all.1
      (subst (λ b. IsCaused step config nexus request b e) (sym (append_assoc before (outcome_of x ∷ []) (outcomes_of xs))) here),
)

pub program-more : (config : Configuration) (request : Request) (xs : List Event) (e : Event)
    → program_after config request (outcomes_of (xs ++ e ∷ [])) ≡ moved (program_after config request (outcomes_of xs)) (outcome_of e)
program-more config request xs e =
    ap (program_after config request) (outcomes-more xs e) ∙ fold-append moved (program config request) (outcomes_of xs) (outcome_of e ∷ [])
