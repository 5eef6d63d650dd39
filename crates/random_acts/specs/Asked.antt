-- Who may ask
use Rattle.std.specs.Prelude.{◌≡◌, ℕ, true}
use Rattle.cm_history.specs.declared.act.Act.{Act}
use Rattle.cm_history.specs.declared.act.Actor.{Actor}
use Rattle.cm_history.specs.Legal.{may_ask}

-- any nexus may ask any unit for the act
abbrev pub IsOfNexus : Act → Type 0
IsOfNexus act = (unit nexus : ℕ) → may_ask unit (Actor.Nexus nexus) act ≡ true
