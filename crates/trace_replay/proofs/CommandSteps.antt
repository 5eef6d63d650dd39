-- How a command goes on
use Rattle.std.proofs.Common.{◌≡◌, ℕ, List, [], ◌∷◌, ◌++◌, refl, ap, sym, ◌∙◌, subst, true, false, Bool, append-nil}
use Rattle.std.specs.Prelude.{◌||◌, Option}
use Rattle.cm_base.specs.Configuration.{Configuration}
use Rattle.cm_frame.specs.declared.frame.Request.{Request}
use Rattle.cmd_program.specs.declared.step.Step.{Step}
use Rattle.cmd_program.specs.declared.step.Outcome.{Outcome}
use Rattle.cmd_program.specs.Stepping.{gave_up, gives_up}
use Rattle.cmd_program.specs.Meaning.{MayFollow}
use Rattle.cmd_program.specs.Judging.{step}
use Rattle.cm_frame.specs.declared.frame.Reply.{Reply}
use Rattle.cmd_machine.specs.declared.command.CommandOf.{CommandOf}
use Rattle.cmd_machine.specs.Rest.{StandsFor}
use Rattle.any_cmds.specs.declared.phase.AnyPhase.{AnyPhase}
use Rattle.any_cmds.specs.Meaning.{by_any}
use Rattle.trace_replay.specs.declared.nexus.Waiting.{Waiting}
use Rattle.trace_replay.specs.ReplayState.{Pending, Shortage, Nowhere, AtStep, noted, noted_at_step, next_step}
use Rattle.trace_replay.specs.inner.Machines.{IsCommandOf, IsNext, WentOn, HasBegun, shortage_of}
use Rattle.trace_replay.proofs.ShownShortages.{any-append}
use Rattle.trace_replay.proofs.ShownShortages.{or-true}

pub none-follows : (config : Configuration) (s : Step) → MayFollow config s Outcome.NoMemory
none-follows config (Step.Do unit act) = tt
none-follows config (Step.Done reply) = tt

pub gave-up-more : (outcomes : List Outcome) (outcome : Outcome) → gave_up (outcomes ++ outcome ∷ []) ≡ (gave_up outcomes || gives_up outcome)
gave-up-more outcomes outcome = any-append gives_up outcomes (outcome ∷ []) ∙ ap (λ b. gave_up outcomes || b) (or-false (gives_up outcome))
  where
    or-false : (b : Bool) → (b || false) ≡ b
    or-false true = refl
    or-false false = refl

pub gave-up-none : (outcomes : List Outcome) → gave_up (outcomes ++ Outcome.NoMemory ∷ []) ≡ true
gave-up-none outcomes = gave-up-more outcomes Outcome.NoMemory ∙ or-true (gave_up outcomes)

-- memory was there for the step
pub next-there : (config : Configuration) (c : CommandOf AnyPhase) (p : Pending) (next : Step) (given : Bool) → IsCommandOf config c given p
    → next ≡ next_step step config p → IsNext config c p next given
next-there config c p next given is same =
    let none : p.outcomes ++ [] ≡ p.outcomes = append-nil p.outcomes in
    record {
      wanted = false;
      once = λ _. refl;
      command = record {
        stands = subst (StandsFor by_any config c p.initiator p.request) (sym none) is.stands;
        gave_up = is.gave_up ∙ ap gave_up (sym none);
      };
      is = same ∙ ap (step config p.initiator p.request) (sym none);
    }

-- memory was wanted for it, and the command gave up
pub next-wanted : (config : Configuration) (c : CommandOf AnyPhase) (p : Pending) (next : Step) → (gave_up p.outcomes ≡ true → ⊥)
    → StandsFor by_any config c p.initiator p.request (p.outcomes ++ Outcome.NoMemory ∷ [])
    → next ≡ step config p.initiator p.request (p.outcomes ++ Outcome.NoMemory ∷ []) → IsNext config c p next true
next-wanted config c p next first stands same = record {
  wanted = true;
  once = λ gone. absurd (first gone);
  command = record { stands = stands; gave_up = sym (gave-up-none p.outcomes) };
  is = same;
}

-- a command that was begun goes on, with one of two shortages
pub begun : (config : Configuration) (initiator : ℕ) (request : Request) (waits : Option Waiting) (reply : Option Reply)
    → ((wanted : Bool) × (gave_up [] ≡ true → wanted ≡ false)
    × WentOn config (noted (record { initiator = initiator; request = request; outcomes = [] }) (noted_at_step (shortage_of wanted))) waits reply)
    → (shortage : Shortage) × HasBegun config initiator request shortage waits reply
begun config initiator request waits reply went = go went.0 went.2
  where
    go : (wanted : Bool) → WentOn config (noted (record { initiator = initiator; request = request; outcomes = [] }) (noted_at_step (shortage_of wanted))) waits reply
        → (shortage : Shortage) × HasBegun config initiator request shortage waits reply
    go true w = (AtStep, w)
    go false w = (Nowhere, w)
