-- A pump makes no operation
use Rattle.std.proofs.Common.{◌≡◌, ℕ, List, [], ◌∷◌, refl, ap, ◌∙◌, subst, true, false}
use Rattle.std.specs.Prelude.{◌==◌, ◌&&◌, ◌||◌}
use Rattle.std.specs.List.{list_any}
use Rattle.cm_base.specs.Configuration.{Configuration}
use Rattle.cm_history.specs.declared.act.Actor.{Actor}
use Rattle.cm_history.specs.Deeds.{Deed, same_actor}
use Rattle.cm_history.specs.Legal.{may_ask}
use Rattle.cm_history.specs.Operations.{Operation, Form, same_form, form_of, id_of, has_key, operations, running}
use Rattle.cm_history.specs.Answers.{is_busy}
use Rattle.cm_history.proofs.PublicLaws.{Each, Each-in, Each-by, In-filter}
use Rattle.unit_core.proofs.Jobs.{maker-nexus}
use Rattle.unit_core.proofs.Operating.{IsMadeBy, all-made_by}
use Rattle.unit_core.proofs.Planned.{IsKnown}

not-its : (config : Configuration) (unit u : ℕ) (form : Form) (id : ℕ) (o : Operation) → IsMadeBy config unit o.made → has_key (Actor.Pump u) form id o ≡ false
not-its config unit u form id o made = go o.made.entry.actor refl
  where
    go : (a : Actor) → o.made.entry.actor ≡ a → has_key (Actor.Pump u) form id o ≡ false
    go (Actor.Nexus n) e =
        ap (λ a. same_actor a (Actor.Pump u) && same_form (form_of o.made.entry.act) form && (id_of o.made.entry.act == id)) e
    go (Actor.Pump v) e = absurd (maker-nexus unit (Actor.Pump v) o.made.entry.act (subst (λ a. may_ask unit a o.made.entry.act ≡ true) e made.asked.asked) made.makes)

none-of-its : (config : Configuration) (unit u : ℕ) (form : Form) (id : ℕ) (os : List Operation) → Each (λ (o : Operation). IsMadeBy config unit o.made) os
    → list_any (has_key (Actor.Pump u) form id) os ≡ false
none-of-its config unit u form id [] all = refl
none-of-its config unit u form id (o ∷ os) all =
    ap (λ t. t || list_any (has_key (Actor.Pump u) form id) os) (not-its config unit u form id o all.0) ∙ none-of-its config unit u form id os all.1

-- no operation of a pump runs
pub pump-idle : (config : Configuration) (unit u : ℕ) (form : Form) (id : ℕ) (past : List Deed) → IsKnown config unit past → is_busy past (Actor.Pump u) form id ≡ false
pump-idle config unit u form id past known =
    none-of-its config unit u form id (running past)
    (Each-by _ (running past) (λ o i. Each-in (λ (o : Operation). IsMadeBy config unit o.made) (operations past) o (all-made_by config unit past known.is known.asked) (In-filter _ (operations past) o i)))
