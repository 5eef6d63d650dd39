-- A nexus of which some calls are refused for want of memory
use Rattle.std.specs.Prelude.{◌≡◌, ℕ, List, [], ◌∷◌, Bool, true, false, ◌&&◌, ◌⊎◌}
use Rattle.cm_base.specs.Memory.{one_more, is_listed}
use Rattle.cm_history.specs.declared.act.Act.{Act}
use Rattle.cmd_program.specs.declared.step.Outcome.{Outcome}
use Rattle.cmd_program.specs.Running.{Call}

-- the nexus that the other calls are passed on to, the numbers of the calls that are refused, and the calls so far
pub record Refusals (R : Type 0) : Type 0 where
  pub inner : R
  pub failing : List ℕ
  pub calls : ℕ

-- the acts that end an operation take none
abbrev pub takes_memory : Act → Bool
takes_memory (Act.End id) = false
takes_memory (Act.Abort id) = false
takes_memory (Act.Close id result) = false
takes_memory _ = true

-- the call after so many is refused where it asks for this act
abbrev pub is_refused : List ℕ → ℕ → Act → Bool
is_refused failing calls act = takes_memory act && is_listed failing calls

-- after a call that was refused: one more is counted, and nothing else is changed
abbrev pub refused_once : {R : Type 0} → Refusals R → Refusals R
refused_once n = record n { calls = one_more n.calls }

-- the calls are those that were done, in their order, and between them others that were refused for want of memory
abbrev pub HasRefusals : List Call → List Call → Type 0
HasRefusals done [] = done ≡ []
HasRefusals done (c ∷ calls) =
    ((later : List Call) × (done ≡ c ∷ later) × HasRefusals later calls)
    ⊎ ((c.outcome ≡ Outcome.NoMemory) × HasRefusals done calls)
