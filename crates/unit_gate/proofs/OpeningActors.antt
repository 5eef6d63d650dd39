-- Who made the entries with which a unit goes on: each ending is of the actor of its operation, who stands in the history
use Rattle.std.proofs.Common.{ℕ, ◌+◌, ◌-◌, ◌^◌, List, [], ◌∷◌, sym, subst, true, false, Bool}
use Rattle.std.specs.Prelude.{◌==◌, fold, map, if◌then◌else◌}
use Rattle.cm_base.specs.Configuration.{Configuration}
use Rattle.cm_history.specs.declared.act.Actor.{Actor}
use Rattle.cm_history.specs.declared.act.Entry.{Entry}
use Rattle.cm_history.specs.Deeds.{Deed, moment, last_stamp}
use Rattle.cm_history.specs.History.{on, one_more, past_of}
use Rattle.cm_history.specs.Operations.{Operation, is_running, made_operation, makes_operation, operation_after, operations, running}
use Rattle.cm_history.proofs.PublicLaws.{Each, Each-append, Each-by, Each-in, Each-map, In-filter, made-after}
use Rattle.unit_core.specs.Unended.{is_by_initiator}
use Rattle.unit_gate.specs.Opening.{all_unended, ending, endings, opening_entries}

module _ (P : Actor → Type 0) where
  deeds-by : (config : Configuration) (unit : ℕ) (es : List Entry) (acc : List Deed) → Each (λ (e : Entry). P e.actor) es → Each (λ (d : Deed). P d.entry.actor) acc
      → Each (λ (d : Deed). P d.entry.actor) (fold (one_more config unit) acc es)
  deeds-by config unit [] acc all before = before
  deeds-by config unit (e ∷ es) acc all before = deeds-by config unit es (one_more config unit acc e) all.1 (all.0, before)

  past-by : (config : Configuration) (unit : ℕ) (h : List Entry) → Each (λ (e : Entry). P e.actor) h → Each (λ (d : Deed). P d.entry.actor) (past_of config unit h)
  past-by config unit h all =
      deeds-by config unit (on unit h) []
      (Each-by (λ (e : Entry). P e.actor) (on unit h) (λ e i. Each-in (λ (e : Entry). P e.actor) h e all (In-filter (λ (o : Entry). o.unit == unit) h e i))) tt

  operations-by : (past : List Deed) → Each (λ (d : Deed). P d.entry.actor) past → Each (λ (o : Operation). P o.made.entry.actor) (operations past)
  operations-by [] all = tt
  operations-by (d ∷ past) all =
      Each-append _ (map (operation_after d) (operations past)) _
      (Each-map _ (operation_after d) (operations past)
      (Each-by _ (operations past) (λ o i. subst (λ (x : Deed). P x.entry.actor) (sym (made-after d o)) (Each-in (λ (x : Operation). P x.made.entry.actor) (operations past) o (operations-by past all.1) i))))
      (new (makes_operation d))
    where
      new : (t : Bool) → Each (λ (o : Operation). P o.made.entry.actor) (if t then made_operation d ∷ [] else [])
      new true = (all.0, tt)
      new false = tt

  endings-by : (unit at last : ℕ) (os : List Operation) → Each (λ (o : Operation). P o.made.entry.actor) os → Each (λ (e : Entry). P e.actor) (endings unit at last os)
  endings-by unit at last [] all = tt
  endings-by unit at last (o ∷ os) all = go (last == 2 ^ 64 - 1) (endings-by unit at (last + 1) os all.1)
    where
      go : (t : Bool) → Each (λ (e : Entry). P e.actor) (endings unit at (last + 1) os)
          → Each (λ (e : Entry). P e.actor) (if t then [] else ending unit at (last + 1) o ∷ endings unit at (last + 1) os)
      go true rest = tt
      go false rest = (all.0, rest)

  -- what is so of the actors of a history is so of those of the entries with which the unit begins
  pub opening-actors : (config : Configuration) (unit : ℕ) (h : List Entry) → Each (λ (e : Entry). P e.actor) h → Each (λ (e : Entry). P e.actor) (opening_entries config unit h)
  opening-actors config unit h all =
      let past = past_of config unit h in
      let of_all = operations-by past (past-by config unit h all) in
      Each-append (λ (e : Entry). P e.actor) h (endings unit (moment past) (last_stamp past) (all_unended past)) all
      (endings-by unit (moment past) (last_stamp past) (all_unended past)
      (Each-by (λ (o : Operation). P o.made.entry.actor) (all_unended past) (λ o i.
      Each-in (λ (o : Operation). P o.made.entry.actor) (operations past) o of_all (In-filter is_running (operations past) o (In-filter is_by_initiator (running past) o i)))))
