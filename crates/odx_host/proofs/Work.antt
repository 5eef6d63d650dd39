-- What the operation that began at a place of its unit has written, as the history goes on
use Rattle.std.proofs.Common.{◌≡◌, ℕ, ◌≤◌, List, [], ◌∷◌, ◌++◌, length, refl, ap, sym, ◌∙◌, subst, arith, true, false, Bool, inl, inr, ◌⊎◌, append-nil, append_assoc}
use Rattle.std.specs.Prelude.{Option, Some, None, ◌==◌, cond, find, map}
use Rattle.std.specs.Option.{option_map}
use Rattle.std.proofs.lemmas.Bool.{cases_eq, eqb-true, eq-eqb}
use Rattle.cm_base.specs.Configuration.{Configuration}
use Rattle.lba_ranges.specs.Writings.{Writing}
use Rattle.cm_history.specs.declared.act.Entry.{Entry}
use Rattle.cm_history.specs.Deeds.{Deed}
use Rattle.cm_history.specs.Answers.{deed}
use Rattle.cm_history.specs.History.{past_of}
use Rattle.cm_history.specs.Operations.{Operation, operations, operation_after, made_operation, makes_operation, serves, written, would_serve, running, is_running, fits}
use Rattle.cm_history.proofs.PublicLaws.{In, Each-in, In-filter, IsPast, find-in, find-map, find-same, find-passes, find-some, made-after, past-is, past_of-mine, past_of-other, earlier}
use Rattle.odx_host.specs.Copies.{begins_at, written_if}

abbrev pub work : List Deed → ℕ → List Writing
work past place = written_if (find (begins_at place) (operations past))

-- what a deed adds, which served the operation at a place
abbrev pub shared : Option ℕ → ℕ → List Writing → List Writing
shared None place ws = []
shared (Some p) place ws = cond (place == p) ws []

find-append : (p : Operation → Bool) (xs ys : List Operation) (found : Option Operation) → find p xs ≡ found → find p (xs ++ ys) ≡ (elim found [ None ↦ find p ys | Some o ↦ Some o ])
find-append p [] ys None e = refl
find-append p [] ys (Some o) e = cc
find-append p (x ∷ xs) ys found e = go (p x) e (λ k. find-append p xs ys found k)
  where
    go : (t : Bool) → cond t (Some x) (find p xs) ≡ found → (find p xs ≡ found → find p (xs ++ ys) ≡ (elim found [ None ↦ find p ys | Some o ↦ Some o ]))
        → cond t (Some x) (find p (xs ++ ys)) ≡ (elim found [ None ↦ find p ys | Some o ↦ Some o ])
    go true is later = subst (λ f. Some x ≡ (elim f [ None ↦ find p ys | Some o ↦ Some o ])) is refl
    go false is later = later is

module _ (config : Configuration) (unit : ℕ) (d : Deed) (past : List Deed) (is : IsPast config unit past) (made : d ≡ deed config unit past d.entry) (place : ℕ) where
  os : List Operation
  os = operations past

  found-after : find (begins_at place) (map (operation_after d) (operations past)) ≡ option_map (operation_after d) (find (begins_at place) (operations past))
  found-after =
      find-map (operation_after d) (begins_at place) (operations past)
      ∙ ap (option_map (operation_after d)) (find-same (λ o. begins_at place (operation_after d o)) (begins_at place) (operations past)
      (λ o i. ap (λ (m : Deed). m.place == place) (made-after d o)))

  -- the operation that is there
  one-more : (o : Operation) → o.made.place ≡ place → (s : Option ℕ) → d.served ≡ s → written (operation_after d o) ≡ written o ++ shared s place d.wrote
  one-more o at None e = ap (λ (s : Option ℕ). written (cond (serves s o) (record o { servers = d ∷ o.servers }) o)) e ∙ sym (append-nil (written o))
  one-more o at (Some p) e =
      ap (λ (s : Option ℕ). written (cond (serves s o) (record o { servers = d ∷ o.servers }) o)) e
      ∙ ap (λ n. written (cond (n == p) (record o { servers = d ∷ o.servers }) o)) at ∙ go (place == p)
    where
      go : (t : Bool) → written (cond t (record o { servers = d ∷ o.servers }) o) ≡ written o ++ cond t d.wrote []
      go true = refl
      go false = sym (append-nil (written o))

  -- no operation that is not there is served
  none-shared : find (begins_at place) (operations past) ≡ None → shared d.served place d.wrote ≡ []
  none-shared none = ap (λ (x : Deed). shared x.served place d.wrote) made ∙ go (would_serve past d.entry.actor d.entry.act) refl
    where
      go : (w : Option Operation) → would_serve past d.entry.actor d.entry.act ≡ w → shared (option_map (λ (o : Operation). o.made.place) w) place d.wrote ≡ []
      go None e = refl
      go (Some o) e = by (place == o.made.place) refl
        where
          by : (t : Bool) → (place == o.made.place) ≡ t → cond t d.wrote [] ≡ []
          by false k = refl
          by true k =
              let there : In o (operations past) = In-filter is_running (operations past) o (find-in (fits d.entry.actor d.entry.act) (running past) o e) in
              let at : o.made.place ≡ place = sym (eqb-true place o.made.place k) in
              let f = find-some (begins_at place) (operations past) o there (eq-eqb o.made.place place at) in
              let no = sym none ∙ f.is in
              cc

  -- the operation is there from then on
  pub found-step : (o : Operation) → find (begins_at place) (operations past) ≡ Some o → find (begins_at place) (operations (d ∷ past)) ≡ Some (operation_after d o)
  found-step o e =
      find-append (begins_at place) (map (operation_after d) (operations past)) (cond (makes_operation d) (made_operation d ∷ []) []) (Some (operation_after d o)) (found-after ∙ ap (option_map (operation_after d)) e)

  pub work-step : work (d ∷ past) place ≡ work past place ++ shared d.served place d.wrote
  work-step = go (find (begins_at place) (operations past)) refl
    where
      new : List Operation
      new = cond (makes_operation d) (made_operation d ∷ []) []

      none-new : (t : Bool) → written_if (find (begins_at place) (cond t (made_operation d ∷ []) [])) ≡ []
      none-new false = refl
      none-new true = by (begins_at place (made_operation d))
        where
          by : (t : Bool) → written_if (cond t (Some (made_operation d)) None) ≡ []
          by true = refl
          by false = refl

      go : (found : Option Operation) → find (begins_at place) (operations past) ≡ found
          → written_if (find (begins_at place) (map (operation_after d) (operations past) ++ cond (makes_operation d) (made_operation d ∷ []) [])) ≡ written_if (find (begins_at place) (operations past)) ++ shared d.served place d.wrote
      go None e =
          ap written_if (find-append (begins_at place) (map (operation_after d) (operations past)) (cond (makes_operation d) (made_operation d ∷ []) []) None (found-after ∙ ap (option_map (operation_after d)) e))
          ∙ none-new (makes_operation d) ∙ sym (ap (λ f. written_if f ++ shared d.served place d.wrote) e ∙ none-shared e)
      go (Some o) e =
          ap written_if (find-append (begins_at place) (map (operation_after d) (operations past)) (cond (makes_operation d) (made_operation d ∷ []) []) (Some (operation_after d o)) (found-after ∙ ap (option_map (operation_after d)) e))
          ∙ one-more o (eqb-true o.made.place place (find-passes (begins_at place) (operations past) o e)) d.served refl
          ∙ sym (ap (λ f. written_if f ++ shared d.served place d.wrote) e)

-- an operation that has not begun has written nothing
pub work-none : (config : Configuration) (unit : ℕ) (past : List Deed) (place : ℕ) → IsPast config unit past → length past ≤ place → work past place ≡ []
work-none config unit past place is late = go (find (begins_at place) (operations past)) refl
  where
    go : (found : Option Operation) → find (begins_at place) (operations past) ≡ found → written_if found ≡ []
    go None e = refl
    go (Some o) e =
        let i = find-in (begins_at place) (operations past) o e in
        let low = Each-in _ (operations past) o (earlier config unit past is) i in
        let at : o.made.place ≡ place = eqb-true o.made.place place (find-passes (begins_at place) (operations past) o e) in
        absurd (omega (arith, low, at, late))

-- ---- in a history

-- what was written stays, and there may be more
pub work-one : (config : Configuration) (unit place : ℕ) (h : List Entry) (e : Entry) → (more : List Writing) × (work (past_of config unit (h ++ e ∷ [])) place ≡ work (past_of config unit h) place ++ more)
work-one config unit place h e = go (cases_eq e.unit unit)
  where
    go : (e.unit ≡ unit) ⊎ (e.unit ≡ unit → ⊥) → (more : List Writing) × (work (past_of config unit (h ++ e ∷ [])) place ≡ work (past_of config unit h) place ++ more)
    go (inl here) =
        let past = past_of config unit h in
        let d = deed config unit past e in
        (shared d.served place d.wrote, ap (λ p. work p place) (past_of-mine config unit h e here) ∙ work-step config unit d past (past-is config unit h) refl place)
    go (inr other) = ([], ap (λ p. work p place) (past_of-other config unit h e other) ∙ sym (append-nil (work (past_of config unit h) place)))

pub work-more : (config : Configuration) (unit place : ℕ) (h rest : List Entry) → (more : List Writing) × (work (past_of config unit (h ++ rest)) place ≡ work (past_of config unit h) place ++ more)
work-more config unit place h [] = ([], ap (λ l. work (past_of config unit l) place) (append-nil h) ∙ sym (append-nil (work (past_of config unit h) place)))
work-more config unit place h (e ∷ es) =
    let one = work-one config unit place h e in
    let later = work-more config unit place (h ++ e ∷ []) es in (
      one.0 ++ later.0,
      ap (λ l. work (past_of config unit l) place) (sym (append_assoc h (e ∷ []) es)) ∙ later.1 ∙ ap (λ l. l ++ later.0) one.1
          ∙ append_assoc (work (past_of config unit h) place) one.0 later.0,
    )
