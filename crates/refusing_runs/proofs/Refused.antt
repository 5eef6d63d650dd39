-- Calls with others between them that were refused
use Rattle.std.proofs.Common.{◌≡◌, List, [], ◌∷◌, ◌++◌, refl, ap, inl, inr}
use Rattle.cmd_program.specs.declared.step.Outcome.{Outcome}
use Rattle.cmd_program.specs.Running.{Call}
use Rattle.refusing_runs.specs.Refusals.{HasRefusals}

-- where none was refused
pub none-refused : (calls : List Call) → HasRefusals calls calls
none-refused [] = refl
none-refused (c ∷ calls) = inl (calls, refl, none-refused calls)

-- one more that was done
pub one-done : (done calls : List Call) (c : Call) → HasRefusals done calls → HasRefusals (done ++ c ∷ []) (calls ++ c ∷ [])
one-done done [] c none = inl ([], ap (λ l. l ++ c ∷ []) none, refl)
one-done done (d ∷ calls) c (inl first) =
    inl (first.0 ++ c ∷ [], ap (λ l. l ++ c ∷ []) first.1, one-done first.0 calls c first.2)
one-done done (d ∷ calls) c (inr refused) = inr (refused.0, one-done done calls c refused.1)

-- one more that was refused
pub one-refused : (done calls : List Call) (c : Call) → c.outcome ≡ Outcome.NoMemory → HasRefusals done calls → HasRefusals done (calls ++ c ∷ [])
one-refused done [] c none_had none = inr (none_had, none)
one-refused done (d ∷ calls) c none_had (inl first) = inl (first.0, first.1, one-refused first.0 calls c none_had first.2)
one-refused done (d ∷ calls) c none_had (inr refused) = inr (refused.0, one-refused done calls c none_had refused.1)
