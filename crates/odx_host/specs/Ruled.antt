-- A copy that follows its rule
use Rattle.std.specs.Prelude.{◌≡◌, List, [], ◌∷◌, fold, Result, Err, ◌⊎◌}
use Rattle.odx_host.specs.declared.fault.Copied.{Copied}
use Rattle.odx_host.specs.declared.fault.CopyFault.{CopyFault}
use Rattle.odx_host.specs.Talk.{Talked}
use Rattle.odx_host.specs.Rule.{HostProgram, Asks, Ends, moved}

-- these are the first requests of the program, each on the answers before it
abbrev pub AreAsked : HostProgram → List Talked → Type 0
AreAsked p [] = Unit {0}
AreAsked (Asks request go_on) (t ∷ ts) = (t.request ≡ request) × AreAsked (moved (Asks request go_on) t.answer) ts
AreAsked (Ends outcome) (t ∷ ts) = ⊥

-- the program after what was talked
abbrev pub after : HostProgram → List Talked → HostProgram
after p talk = fold (λ q (t : Talked). moved q t.answer) p talk

-- the program has ended so; memory may be wanted anywhere
abbrev pub EndsSo : HostProgram → Result Copied CopyFault → Type 0
EndsSo p outcome = (outcome ≡ Err CopyFault.OutOfMemory) ⊎ (p ≡ Ends outcome)

-- the requests are those of the program on the answers, in order, and it ends as they say
pub record IsRuled (p : HostProgram) (talk : List Talked) (outcome : Result Copied CopyFault) : Type 0 where
  pub asked : AreAsked p talk
  pub ended : EndsSo (after p talk) outcome
