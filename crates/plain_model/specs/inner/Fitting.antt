-- Pasts whose acts are within their limits
use Rattle.std.specs.Prelude.{◌≡◌, ℕ, List, [], ◌∷◌, true, ⊤}
use Rattle.cm_base.specs.Configuration.{Configuration}
use Rattle.cm_history.specs.declared.act.Act.{Act}
use Rattle.cm_history.specs.Deeds.{Deed}
use Rattle.cm_history.specs.Limits.{within_limits}
use Rattle.plain_model.specs.inner.Holds.{IsSizedAct}

-- the act is within its limits, and its blocks have its block length
pub record Fits (config : Configuration) (unit : ℕ) (act : Act) : Type 0 where
  pub limits : within_limits config unit act ≡ true
  pub sized : IsSizedAct act

abbrev pub AllFit : Configuration → ℕ → List Deed → Type 0
AllFit config unit [] = ⊤
AllFit config unit (d ∷ past) = Fits config unit d.entry.act × AllFit config unit past
