-- What blocks hold that only the operations of a copy have written
use Rattle.std.proofs.Common.{◌≡◌, ℕ, ◌≤◌, List, [], ◌∷◌, ◌++◌, length, length-append, refl, ap, sym, ◌∙◌, subst, arith, true, false, Bool, inl, inr, ◌⊎◌, append-nil, append_assoc}
use Rattle.std.specs.Prelude.{Option, Some, None, ◌==◌, ◌||◌, cond, map, flat_map}
use Rattle.std.proofs.lemmas.Bool.{cases_eq, eq-eqb}
use Rattle.cm_base.specs.Configuration.{Configuration}
use Rattle.lba_ranges.specs.Denoted.{has_repeat}
use Rattle.lba_ranges.specs.Writings.{Held, Writing, paired, after, is_written}
use Rattle.lba_ranges.proofs.PublicLaws.{after-unwritten}
use Rattle.cm_history.specs.declared.act.Entry.{Entry}
use Rattle.cm_history.specs.Deeds.{Deed}
use Rattle.cm_history.specs.Blocks.{held}
use Rattle.cm_history.specs.Answers.{deed}
use Rattle.cm_history.specs.History.{past_of}
use Rattle.cm_history.proofs.PublicLaws.{In, Each, Each-in, Each-by, past-is, past_of-mine, past_of-other, map-same, In-append, In-append_right}
use Rattle.odx_host.proofs.Given.{given, own-given, map-given, all-given, paired-written, written-append}
use Rattle.odx_host.proofs.Work.{work, shared, work-step, work-none, work-more}

In-flat : (f : ℕ → List Writing) (ps : List ℕ) (p : ℕ) (w : Writing) → In p ps → In w (f p) → In w (flat_map f ps)
In-flat f [] p w i j = absurd i
In-flat f (q ∷ ps) p w (inl e) j = In-append (f q) (flat_map f ps) w (subst (λ k. In w (f k)) (sym e) j)
In-flat f (q ∷ ps) p w (inr i) j = In-append_right (f q) (flat_map f ps) w (In-flat f ps p w i j)

or-right : (a b : Bool) → (a || b) ≡ true → b ≡ false → a ≡ true
or-right true b e f = refl
or-right false b e f = cc

-- Behind `base` a deed that writes one of the blocks serves an operation that began at one of these places of the unit.
abbrev pub OnlyThese : Configuration → ℕ → List ℕ → List ℕ → List Entry → List Entry → Type 0
OnlyThese config unit places blocks base all = (front : List Entry) (e : Entry) (behind : List Entry) (block : ℕ) → front ++ e ∷ behind ≡ all → length base ≤ length front → e.unit ≡ unit
    → In block blocks → is_written (deed config unit (past_of config unit front) e).wrote block ≡ true
    → (place : ℕ) × In place places × ((deed config unit (past_of config unit front) e).served ≡ Some place)

module _ (config : Configuration) (unit : ℕ) (places blocks : List ℕ) (items : List Held) (base all : List Entry)
    (apart : has_repeat blocks ≡ false) (same : length blocks ≡ length items)
    (wrote : flat_map (work (past_of config unit all)) places ≡ paired blocks items)
    (late : Each (λ place. length (past_of config unit base) ≤ place) places)
    (only : OnlyThese config unit places blocks base all) where
  -- up to here each block that an operation has written holds what it is given
  abbrev Holds : List Entry → Type 0
  Holds h = (place block : ℕ) → In place places → In block blocks → is_written (work (past_of config unit h) place) block ≡ true
      → held (past_of config unit h) block ≡ given (paired blocks items) block

  first : Holds base
  first place block i j e =
      let none = work-none config unit (past_of config unit base) place (past-is config unit base) (Each-in (λ p. length (past_of config unit base) ≤ p) places place late i) in
      let no : is_written [] block ≡ true = subst (λ ws. is_written ws block ≡ true) none e in
      cc

  -- what an operation has written so far gives each block what is given to it
  gives : (h rest : List Entry) (place : ℕ) (w : Writing) → h ++ rest ≡ all → In place places → In w (work (past_of config unit h) place) → w.held ≡ given (paired blocks items) w.block
  gives h rest place w whole i j =
      let more = work-more config unit place h rest in
      let later : In w (work (past_of config unit all) place) =
      subst (λ l. In w (work (past_of config unit l) place)) whole (subst (λ ws. In w ws) (sym more.1) (In-append (work (past_of config unit h) place) more.0 w j)) in
      own-given blocks items w apart (subst (λ ws. In w ws) wrote (In-flat (work (past_of config unit all)) places place w i later))

  shared-all : (place : ℕ) (ws : List Writing) → shared (Some place) place ws ≡ ws
  shared-all place ws = ap (λ t. cond t ws []) (eq-eqb place place refl)

  not-shared : (s : Option ℕ) (place block : ℕ) (ws : List Writing) → is_written ws block ≡ false → is_written (shared s place ws) block ≡ false
  not-shared None place block ws e = refl
  not-shared (Some p) place block ws e = go (place == p)
    where
      go : (t : Bool) → is_written (cond t ws []) block ≡ false
      go true = e
      go false = refl

  next : (h : List Entry) (e : Entry) (rest : List Entry) → h ++ e ∷ rest ≡ all → length base ≤ length h → Holds h → Holds (h ++ e ∷ [])
  next h e rest whole from was = go (cases_eq e.unit unit)
    where
      go : (e.unit ≡ unit) ⊎ (e.unit ≡ unit → ⊥) → Holds (h ++ e ∷ [])
      go (inr other) = subst (λ (p : List Deed). (place block : ℕ) → In place places → In block blocks → is_written (work p place) block ≡ true → held p block ≡ given (paired blocks items) block)
          (sym (past_of-other config unit h e other)) was
      go (inl here) = subst (λ (p : List Deed). (place block : ℕ) → In place places → In block blocks → is_written (work p place) block ≡ true → held p block ≡ given (paired blocks items) block)
          (sym (past_of-mine config unit h e here)) now
        where
          now : (place block : ℕ) → In place places → In block blocks
              → is_written (work (deed config unit (past_of config unit h) e ∷ past_of config unit h) place) block ≡ true
              → after (deed config unit (past_of config unit h) e).wrote block (held (past_of config unit h) block) ≡ given (paired blocks items) block
          now place block i j w = by (is_written (deed config unit (past_of config unit h) e).wrote block) refl
            where
              by : (t : Bool) → is_written (deed config unit (past_of config unit h) e).wrote block ≡ t
                  → after (deed config unit (past_of config unit h) e).wrote block (held (past_of config unit h) block) ≡ given (paired blocks items) block
              by true writes =
                  let past = past_of config unit h in
                  let d = deed config unit past e in
                  let own = only h e rest block whole from here j writes in
                  let step = work-step config unit d past (past-is config unit h) refl own.0 in
                  let grown : work (past_of config unit (h ++ e ∷ [])) own.0 ≡ work past own.0 ++ d.wrote =
                  ap (λ p. work p own.0) (past_of-mine config unit h e here) ∙ step
                  ∙ ap (λ s. work past own.0 ++ shared s own.0 d.wrote) own.2 ∙ ap (λ ws. work past own.0 ++ ws) (shared-all own.0 d.wrote) in
                  let whole_e : (h ++ e ∷ []) ++ rest ≡ all = append_assoc h (e ∷ []) rest ∙ whole in
                  all-given (given (paired blocks items)) d.wrote block (held past block)
                  (Each-by _ d.wrote (λ x k. gives (h ++ e ∷ []) rest own.0 x whole_e own.1 (subst (λ ws. In x ws) (sym grown) (In-append_right (work past own.0) d.wrote x k))))
                  writes
              by false writes =
                  let past = past_of config unit h in
                  let d = deed config unit past e in
                  let step = work-step config unit d past (past-is config unit h) refl place in
                  let both : (is_written (work past place) block || is_written (shared d.served place d.wrote) block) ≡ true =
                  sym (written-append (work past place) (shared d.served place d.wrote) block) ∙ sym (ap (λ ws. is_written ws block) step) ∙ w in
                  let before = or-right (is_written (work past place) block) (is_written (shared d.served place d.wrote) block) both (not-shared d.served place block d.wrote writes) in
                  after-unwritten d.wrote block (held past block) writes ∙ was place block i j before

  to-the-end : (h rest : List Entry) → h ++ rest ≡ all → length base ≤ length h → Holds h → Holds all
  to-the-end h [] whole from was = subst Holds (sym (append-nil h) ∙ whole) was
  to-the-end h (e ∷ es) whole from was =
      let longer = length-append h (e ∷ []) in
      to-the-end (h ++ e ∷ []) es (append_assoc h (e ∷ []) es ∙ whole) (omega (arith, from, longer)) (next h e es whole from was)

  written-by : (ps : List ℕ) (block : ℕ) → is_written (flat_map (work (past_of config unit all)) ps) block ≡ true
      → (place : ℕ) × In place ps × (is_written (work (past_of config unit all) place) block ≡ true)
  written-by [] block e = cc
  written-by (p ∷ ps) block e =
      go (is_written (work (past_of config unit all) p) block) refl (sym (written-append (work (past_of config unit all) p) (flat_map (work (past_of config unit all)) ps) block) ∙ e) (written-by ps block)
    where
      go : (t : Bool) → is_written (work (past_of config unit all) p) block ≡ t → (is_written (work (past_of config unit all) p) block || is_written (flat_map (work (past_of config unit all)) ps) block) ≡ true
          → (is_written (flat_map (work (past_of config unit all)) ps) block ≡ true → (place : ℕ) × In place ps × (is_written (work (past_of config unit all) place) block ≡ true))
          → (place : ℕ) × In place (p ∷ ps) × (is_written (work (past_of config unit all) place) block ≡ true)
      go true is both later = (p, inl refl, is)
      go false is both later =
          let rest : is_written (flat_map (work (past_of config unit all)) ps) block ≡ true = ap (λ t. t || is_written (flat_map (work (past_of config unit all)) ps) block) (sym is) ∙ both in
          let f = later rest in
          (f.0, inr f.1, f.2)

  -- in the end the blocks hold the items
  pub blocks-hold : (rest : List Entry) → base ++ rest ≡ all → map (held (past_of config unit all)) blocks ≡ items
  blocks-hold rest whole =
      let holds = to-the-end base rest whole (omega arith) first in
      map-same (held (past_of config unit all)) (given (paired blocks items)) blocks (λ block j.
      let f = written-by places block (ap (λ ws. is_written ws block) wrote ∙ paired-written blocks items block same j) in
      holds f.0 block f.1 j f.2)
      ∙ map-given blocks items apart same
