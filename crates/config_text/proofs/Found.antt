-- Units that were found in the first tables of a list
use Rattle.std.proofs.Common.{◌≡◌, ℕ, suc, ◌+◌, ◌<◌, ◌≤◌, List, [], ◌∷◌, ◌++◌, length, drop, get_or, All, Result, Ok, Err, IfOk, arith, refl, sym, ap, subst, append_assoc, append-nil, drop_of_length-le}
use Rattle.std.proofs.lemmas.List.Elements.{All-push}
use Rattle.cm_base.specs.Configuration.{IsUnit, AreUnits}
use Rattle.cm_base.specs.declared.config.UnitConfig.{UnitConfig}
use Rattle.toml.specs.Data.{Data, Items, item}
use Rattle.toml.specs.View.{view, items_view}
use Rattle.toml.specs.declared.value.Value.{Value}
use Rattle.toml.proofs.Views.{items_view-drop}
use Rattle.config_text.specs.declared.refused.Refused.{Refused}
use Rattle.config_text.specs.Meaning.{SaysOne, SayUnits}

-- units within their limits, which these values say
abbrev pub SaidBy : Items → Type 0
SaidBy tables = (us : List UnitConfig) × SayUnits tables us × All IsUnit us

-- Behind the first tables the others say the rest of the units, and if all say any then so do the others.
pub record Found (tables : List Value) (i : ℕ) (units : List UnitConfig) : Type 0 where
  pub said : (us : List UnitConfig) → SayUnits (items_view (drop i tables)) us → SayUnits (items_view tables) (units ++ us)
  pub limits : All IsUnit units
  pub left : (us : List UnitConfig) → SayUnits (items_view tables) us → All IsUnit us → SaidBy (items_view (drop i tables))

pub found-none : (tables : List Value) → Found tables 0 []
found-none tables = record {
  said = λ us h. h;
  limits = λ k d h. absurd (omega (arith, h));
  left = λ us h each. (us, h, each);
}

-- the first of some units, and the others
first : (tables : Items) (d : Data) → SaidBy (item d tables) → (u : UnitConfig) × SaysOne d u × IsUnit u × SaidBy tables
first tables d ([], says, each) = absurd says
first tables d (u ∷ us, says, each) = (u, says.0, each 0 u (omega arith), (us, says.1, λ k d h. each (suc k) d (omega (arith, h))))

-- what the table at a place says, and those behind it
next : (tables : List Value) (i : ℕ) (d : Value) → i < length tables → SaidBy (items_view (drop i tables))
    → (u : UnitConfig) × SaysOne (view (get_or tables i d)) u × IsUnit u × SaidBy (items_view (drop (i + 1) tables))
next tables i d h said = first _ _ (subst SaidBy (items_view-drop tables i d h) said)

pub found-more : (tables : List Value) (i : ℕ) (d : Value) (units : List UnitConfig) (u : UnitConfig)
    → i < length tables → Found tables i units → SaysOne (view (get_or tables i d)) u → IsUnit u → Found tables (i + 1) (units ++ u ∷ [])
found-more tables i d units u h found says limits = record {
  said = λ us more. subst (SayUnits (items_view tables)) (sym (append_assoc units (u ∷ []) us))
      (found.said (u ∷ us) (subst (λ ds. SayUnits ds (u ∷ us)) (sym (items_view-drop tables i d h)) (says, more)));
  limits = All-push IsUnit units u found.limits limits;
  left = λ us all each. (next tables i d h (found.left us all each)).3;
}

pub none-found : (tables : List Value) (i : ℕ) (d : Value) (units : List UnitConfig) → i < length tables → Found tables i units
    → ((u : UnitConfig) → SaysOne (view (get_or tables i d)) u → ¬ IsUnit u)
    → (us : List UnitConfig) → SayUnits (items_view tables) us → All IsUnit us → ⊥
none-found tables i d units h found refused us all each =
    let n = next tables i d h (found.left us all each) in
    refused n.0 n.1 n.2

pub found-all : (tables : List Value) (i : ℕ) (units : List UnitConfig) → length tables ≤ i → Found tables i units → SayUnits (items_view tables) units
found-all tables i units h found =
    subst (SayUnits (items_view tables)) (append-nil units)
    (found.said [] (subst (λ vs. SayUnits (items_view vs) []) (sym (drop_of_length-le tables h)) tt))

-- as many units as tables
pub as-many : (tables : List Value) (us : List UnitConfig) → SayUnits (items_view tables) us → length us ≡ length tables
as-many [] [] h = refl
as-many [] (u ∷ us) h = absurd h
as-many (v ∷ tables) [] h = absurd h
as-many (v ∷ tables) (u ∷ us) h = ap suc (as-many tables us h.1)

-- tables that there are, and not too many, say the units of a machine
pub are-units : (tables : List Value) (r : Result (List UnitConfig) Refused) → 1 ≤ length tables → length tables ≤ 16
    → IfOk r (SayUnits (items_view tables)) → IfOk r (All IsUnit) → IfOk r AreUnits
are-units tables (Ok us) some few said limits = record {
  count = (omega (arith, some, as-many tables us said), omega (arith, few, as-many tables us said));
  each = limits;
}
are-units tables (Err why) some few said limits = tt
