-- What holds of the reservations of a unit, whatever was done
use Rattle.std.specs.Prelude.{◌≡◌, ℕ, ◌≤◌, List, [], ◌∷◌, length, None, true, ⊤, IfOk, IfSome, ◌==◌, not}
use Rattle.std.specs.List.{list_all}
use Rattle.pr_keys.specs.declared.registrants.Registrant.{Registrant}
use Rattle.pr_keys.specs.Reservations.{Reservations, key_of, is_registered}
use Rattle.pr_keys.specs.Actions.{most_registrants, applied}

-- no nexus stands twice
abbrev pub NexusesApart : List Registrant → Type 0
NexusesApart [] = ⊤
NexusesApart (r ∷ registrants) = (key_of r.nexus registrants ≡ None) × NexusesApart registrants

-- at most 64 nexuses are registered, each once and by a key other than 0, and who holds the reservation is one of them
pub record AreSound (s : Reservations) : Type 0 where
  pub few : length s.registrants ≤ most_registrants
  pub apart : NexusesApart s.registrants
  pub keyed : list_all (λ (r : Registrant). not (r.key == 0)) s.registrants ≡ true
  pub held : IfSome s.reservation (λ r. is_registered s r.nexus ≡ true)

-- each action leaves them so
abbrev pub SoundLaw : Type 0
SoundLaw = (s : Reservations) (nexus action scope kind key action_key : ℕ) → AreSound s → IfOk (applied s nexus action scope kind key action_key) AreSound
