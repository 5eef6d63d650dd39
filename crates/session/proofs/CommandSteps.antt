-- How a command goes on
use Rattle.std.proofs.Common.{◌≡◌, ℕ, List, [], ◌∷◌, ◌++◌, refl, ap, sym, ◌∙◌, subst, true, false, Bool, append-nil}
use Rattle.std.specs.Prelude.{◌||◌}
use Rattle.cm_base.specs.Configuration.{Configuration}
use Rattle.cm_frame.specs.declared.frame.Request.{Request}
use Rattle.cmd_program.specs.declared.step.Step.{Step}
use Rattle.cmd_program.specs.declared.step.Outcome.{Outcome}
use Rattle.cmd_program.specs.Stepping.{gave_up, gives_up}
use Rattle.cmd_program.specs.Meaning.{MayFollow}
use Rattle.cmd_program.specs.Judging.{step, program_after}
use Rattle.cmd_machine.specs.declared.command.CommandOf.{CommandOf}
use Rattle.any_cmds.specs.declared.phase.AnyPhase.{AnyPhase}
use Rattle.cmd_machine.specs.Rest.{StandsFor}
use Rattle.any_cmds.specs.Meaning.{by_any}
use Rattle.cmd_program.specs.Exchanges.{Event, Wanted, outcomes_of, calls_in}
use Rattle.cmd_program.specs.Short.{IsShort}
use Rattle.session.specs.inner.Talking.{IsGoing, HasNext}
use Rattle.session.proofs.Events.{outcomes-more, calls-more, caused-more, program-more}
use Rattle.cmd_program.proofs.PublicLaws.{short-want}

pub none-follows : (config : Configuration) (s : Step) → MayFollow config s Outcome.NoMemory
none-follows config (Step.Do unit act) = tt
none-follows config (Step.Done reply) = tt

pub gave-up-none : (outcomes : List Outcome) → gave_up (outcomes ++ Outcome.NoMemory ∷ []) ≡ true
gave-up-none [] = refl
gave-up-none (o ∷ os) = ap (λ b. gives_up o || b) (gave-up-none os) ∙ or-true (gives_up o)
  where
    or-true : (b : Bool) → (b || true) ≡ true
    or-true true = refl
    or-true false = refl

pub not-true : (b : Bool) → (b ≡ true → ⊥) → b ≡ false
not-true true h = absurd (h refl)
not-true false h = refl

module _ (config : Configuration) (nexus : ℕ) (request : Request) (command : CommandOf AnyPhase) (events : List Event) (left : ℕ) (next : Step) where
  next-at : (more es : List Event) → es ≡ events ++ more → calls_in es ≡ calls_in events → IsGoing config nexus request command es
      → IsShort (program_after config request (outcomes_of es)) left → next ≡ step config nexus request (outcomes_of es)
      → HasNext config nexus request command events left next
  next-at more es is none going short same = record {
    more = more;
    none = subst (λ (x : List Event). calls_in x ≡ calls_in events) is none;
    is = subst (IsGoing config nexus request command) is going;
    short = subst (λ (x : List Event). IsShort (program_after config request (outcomes_of x)) left) is short;
    next_is = subst (λ (x : List Event). next ≡ step config nexus request (outcomes_of x)) is same;
  }

  -- memory was there for the step
  pub next-there : IsGoing config nexus request command events → IsShort (program_after config request (outcomes_of events)) left
      → next ≡ step config nexus request (outcomes_of events) → HasNext config nexus request command events left next
  next-there going short same = next-at [] events (sym (append-nil events)) refl going short same

  -- memory was wanted for it
  pub next-wanted : (before : CommandOf AnyPhase) → IsGoing config nexus request before events → gave_up (outcomes_of events) ≡ false
      → StandsFor by_any config command nexus request (outcomes_of events ++ Outcome.NoMemory ∷ [])
      → IsShort (program_after config request (outcomes_of events)) left
      → next ≡ step config nexus request (outcomes_of events ++ Outcome.NoMemory ∷ [])
      → HasNext config nexus request command events left next
  next-wanted before going first stands short same =
      let es = events ++ Wanted ∷ [] in
      let outcomes : outcomes_of es ≡ outcomes_of events ++ Outcome.NoMemory ∷ [] = outcomes-more events Wanted in
      next-at (Wanted ∷ []) es refl (calls-more events (Wanted ∷ []) ∙ append-nil (calls_in events))
      (record {
        caused = caused-more step config nexus request [] events Wanted going.caused first;
        stands = subst (StandsFor by_any config command nexus request) (sym outcomes) stands;
      })
      (subst (λ p. IsShort p left) (sym (program-more config request events Wanted)) (short-want (program_after config request (outcomes_of events)) left short))
      (same ∙ ap (step config nexus request) (sym outcomes))
