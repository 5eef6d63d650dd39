-- Whether a unit's record has room for an act that serves a running operation
use Rattle.std.specs.Prelude.{◌≡◌, ◌≤◌, ℕ, ◌-◌, ◌^◌, List, [], ◌∷◌, max, is_some, true, false, ⊤}
use Rattle.cm_base.specs.Configuration.{Configuration}
use Rattle.cm_base.specs.Units.{unit_of}
use Rattle.cm_history.specs.declared.act.Act.{Act}
use Rattle.cm_history.specs.declared.act.Actor.{Actor}
use Rattle.cm_history.specs.declared.act.Entry.{Entry}
use Rattle.cm_history.specs.Asked.{AllAsked}
use Rattle.cm_history.specs.Deeds.{Deed, last_stamp}
use Rattle.cm_history.specs.History.{past_of}
use Rattle.cm_history.specs.Operations.{would_serve}
use Rattle.cm_history.specs.Room.{is_full}

-- The record had room for the deed when it was done. By then no more deeds were written out than now.
pub record HadRoom (config : Configuration) (unit folded : ℕ) (past : List Deed) (d : Deed) : Type 0 where
  pub stamp : ℕ
  pub out : ℕ
  pub no_more : out ≤ folded
  pub room : is_full (unit_of config unit) out past d.entry.actor stamp d.entry.act ≡ false

-- so for each deed of a unit's past
abbrev pub AllHadRoom : Configuration → ℕ → ℕ → List Deed → Type 0
AllHadRoom config unit folded [] = ⊤
AllHadRoom config unit folded (d ∷ past) = HadRoom config unit folded past d × AllHadRoom config unit folded past

-- Where each entry had room, an act that serves a running operation has room too, but at the last stamp.
abbrev pub ServingLaw : Configuration → ℕ → Type 0
ServingLaw config unit =
    (entries : List Entry) (folded : ℕ) (actor : Actor) (stamp : ℕ) (act : Act)
    → AllAsked config unit (past_of config unit entries) → AllHadRoom config unit folded (past_of config unit entries)
    → is_some (would_serve (past_of config unit entries) actor act) ≡ true
    → is_full (unit_of config unit) folded (past_of config unit entries) actor stamp act ≡ true
    → max stamp (last_stamp (past_of config unit entries)) ≡ 2 ^ 64 - 1
