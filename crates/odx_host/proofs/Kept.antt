-- The record that a unit keeps of the latest operation of a key
use Rattle.std.proofs.Common.{◌≡◌, ℕ, List, [], ◌∷◌, ◌++◌, refl, ap, sym, ◌∙◌, subst, true, false, Bool, inl, inr, ◌⊎◌, append-nil, append_assoc}
use Rattle.std.specs.Prelude.{◌&&◌, ◌==◌, not, filter, map, if◌then◌else◌}
use Rattle.std.proofs.lemmas.Bool.{cases_eq}
use Rattle.cm_base.specs.Configuration.{Configuration}
use Rattle.cm_history.specs.declared.act.Actor.{Actor}
use Rattle.cm_history.specs.declared.act.Entry.{Entry}
use Rattle.cm_history.specs.Deeds.{Deed, same_actor, is_answered}
use Rattle.cm_history.specs.Answers.{deed}
use Rattle.cm_history.specs.History.{past_of}
use Rattle.cm_history.specs.Operations.{Operation, Form, same_form, form_of, id_of, has_key, has_ended, same_key, operation_after, made_operation, makes_operation, is_making, with_room, keep, kept}
use Rattle.cm_history.proofs.PublicLaws.{In, Each, Each-by, Each-in, Each-append, Each-map, In-filter, IsPast, made-after, keys-apart, same-record, past_of-mine, past_of-other, with_room_in, and_first, In-append_right}
use Rattle.cmd_program.specs.InHistory.{is_by}

-- each record of the key is of this deed
abbrev pub KeptOf : Actor → Form → ℕ → Deed → List Operation → Type 0
KeptOf actor form id made os = Each (λ (o : Operation). has_key actor form id o ≡ true → o.made ≡ made) os

module _ (actor : Actor) (form : Form) (id : ℕ) where
  key-after : (d : Deed) (o : Operation) → has_key actor form id (operation_after d o) ≡ has_key actor form id o
  key-after d o = ap (λ (m : Deed). same_actor m.entry.actor actor && same_form (form_of m.entry.act) form && (id_of m.entry.act == id)) (made-after d o)

  -- a deed that makes no operation of the key
  kept-more : (made d : Deed) (past : List Deed) → (makes_operation d ≡ true → has_key actor form id (made_operation d) ≡ false) → KeptOf actor form id made (kept past)
      → KeptOf actor form id made (kept (d ∷ past))
  kept-more made d past other was = go (makes_operation d) other
    where
      others : List Operation
      others = filter (λ r. not (has_ended r && same_key (made_operation d) r)) (kept past)

      go : (t : Bool) → (t ≡ true → has_key actor form id (made_operation d) ≡ false)
          → KeptOf actor form id made (if t then keep (kept past) (made_operation d) else map (operation_after d) (kept past))
      go true h =
          Each-append _ (with_room others) (made_operation d ∷ [])
          (Each-by _ (with_room others) (λ o i. Each-in _ (kept past) o was (In-filter _ (kept past) o (with_room_in others o i))))
          (λ has. (let no = h refl in cc), tt)
      go false h = Each-map _ (operation_after d) (kept past) (Each-by _ (kept past) (λ o i.
          λ has. made-after d o ∙ Each-in _ (kept past) o was i (sym (key-after d o) ∙ has)))

  -- the deed that makes it
  pub kept-new : (config : Configuration) (unit : ℕ) (d : Deed) (past : List Deed) → IsPast config unit (d ∷ past) → makes_operation d ≡ true
      → has_key actor form id (made_operation d) ≡ true → KeptOf actor form id d (kept (d ∷ past))
  kept-new config unit d past is makes has = Each-by _ (kept (d ∷ past)) (λ o i.
      λ key. ap (λ (x : Operation). x.made) (same-record actor form id (kept (d ∷ past)) o (made_operation d) (keys-apart config unit (d ∷ past) is) i there key has))
    where
      others : List Operation
      others = filter (λ r. not (has_ended r && same_key (made_operation d) r)) (kept past)

      there : In (made_operation d) (kept (d ∷ past))
      there = rw makes (In-append_right (with_room others) (made_operation d ∷ []) (made_operation d) (inl refl))

-- ---- the unit's entries

-- the entry is another's, or makes no operation
abbrev pub IsQuiet : ℕ → Entry → Type 0
IsQuiet nexus e = (is_by nexus e ≡ false) ⊎ (is_making e.act ≡ false)

module _ (config : Configuration) (nexus unit id : ℕ) (form : Form) (made : Deed) where
  abbrev Keeps : List Deed → Type 0
  Keeps past = KeptOf (Actor.Nexus nexus) form id made (kept past)

  other-key : (past : List Deed) (e : Entry) → IsQuiet nexus e → makes_operation (deed config unit past e) ≡ true
      → has_key (Actor.Nexus nexus) form id (made_operation (deed config unit past e)) ≡ false
  other-key past e (inl other) makes = ap (λ b. b && same_form (form_of e.act) form && (id_of e.act == id)) other
  other-key past e (inr idle) makes = let making = and_first (is_making e.act) (is_answered (deed config unit past e)) makes in cc

  quiet-one : (h : List Entry) (e : Entry) → IsQuiet nexus e → Keeps (past_of config unit h) → Keeps (past_of config unit (h ++ e ∷ []))
  quiet-one h e quiet was = go (cases_eq e.unit unit)
    where
      go : (e.unit ≡ unit) ⊎ (e.unit ≡ unit → ⊥) → Keeps (past_of config unit (h ++ e ∷ []))
      go (inl here) = rw (past_of-mine config unit h e here)
          (kept-more (Actor.Nexus nexus) form id made (deed config unit (past_of config unit h) e) (past_of config unit h) (other-key (past_of config unit h) e quiet) was)
      go (inr other) = rw (past_of-other config unit h e other) was

  pub quiet-more : (h more : List Entry) → Each (IsQuiet nexus) more → Keeps (past_of config unit h) → Keeps (past_of config unit (h ++ more))
  quiet-more h [] all was = rw (append-nil h) was
  quiet-more h (e ∷ es) all was = subst (λ l. Keeps (past_of config unit l)) (append_assoc h (e ∷ []) es) (quiet-more (h ++ e ∷ []) es all.1 (quiet-one h e all.0 was))
