-- Acts of a unit that keeps all its entries
use Rattle.std.proofs.Common.{◌≡◌, ℕ, ◌+◌, List, [], ◌∷◌, ◌++◌, refl, ap, sym, ◌∙◌, subst}
use Rattle.std.specs.Prelude.{max}
use Rattle.cm_base.specs.Configuration.{Configuration}
use Rattle.cm_history.specs.declared.act.Act.{Act}
use Rattle.cm_history.specs.declared.act.Actor.{Actor}
use Rattle.cm_history.specs.declared.act.Entry.{Entry}
use Rattle.cm_history.specs.Image.{Image}
use Rattle.unit_core.specs.UnitState.{UnitState, Stands}
use Rattle.unit_core.specs.Acting as acting
use Rattle.unit_core.specs.Unfolded.{IsUnfolded, unfolded, is_full_at, entry_at}

-- a unit that nothing was asked of yet
pub unfolded-first : (s : UnitState) (config : Configuration) (n : ℕ) → s.config ≡ config → s.unit ≡ n → s.kept ≡ [] → s.folded ≡ 0 → Stands s []
    → (unfolded s ≡ record { config = config; unit = n; entries = [] }) × IsUnfolded s
unfolded-first s config n told number kept folded stands = (
  rw (told, number, kept) refl,
  record { folded = folded; stands = subst (λ (l : List Entry). Stands s l) (sym kept) stands },
)

-- the entry is the same, and the record is full alike
pub unfolded-entry : (s : UnitState) (actor : Actor) (seq stamp moment : ℕ) (act : Act) → IsUnfolded s
    → acting.entry_at s actor seq stamp moment act ≡ entry_at (unfolded s) actor seq stamp moment act
unfolded-entry s actor seq stamp moment act is =
    ap (λ (n : ℕ). record { stamp = max stamp n + 1; unit = s.unit; actor = actor; seq = seq; moment = moment; act = act }) (sym (ap (λ (j : Image). j.last_stamp) is.stands.image))

pub unfolded-full : (s : UnitState) (actor : Actor) (stamp : ℕ) (act : Act) → IsUnfolded s → acting.is_full_at s s.kept actor stamp act ≡ is_full_at (unfolded s) actor stamp act
unfolded-full s actor stamp act is = rw is.folded refl

pub unfolded-grown : (s new : UnitState) (e : Entry) → new.config ≡ s.config → new.unit ≡ s.unit → new.kept ≡ s.kept ++ e ∷ []
    → unfolded new ≡ record (unfolded s) { entries = s.kept ++ e ∷ [] }
unfolded-grown s new e config unit kept =
    ap (λ (k : Configuration). record { config = k; unit = new.unit; entries = new.kept }) config
    ∙ ap (λ (n : ℕ). record { config = s.config; unit = n; entries = new.kept }) unit
    ∙ ap (λ (l : List Entry). record { config = s.config; unit = s.unit; entries = l }) kept

-- an act's entry is one more entry of the unit, and it goes on to keep all
pub unfolded-after : (s new : UnitState) (e : Entry) → IsUnfolded s → new.folded ≡ s.folded → new.kept ≡ s.kept ++ e ∷ []
    → ((h : List Entry) → Stands s h → Stands new (h ++ e ∷ [])) → IsUnfolded new
unfolded-after s new e is folded kept stands = record {
  folded = folded ∙ is.folded;
  stands = subst (λ (l : List Entry). Stands new l) (sym kept) (stands s.kept is.stands);
}
