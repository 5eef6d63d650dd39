-- Entries above records
use Rattle.std.proofs.Common.{◌≡◌, ◌⊎◌, ℕ, List, [], ◌∷◌, ◌++◌, length, inl, inr, sym, ◌∙◌, ap, subst, refl, Option, Some, None}
use Rattle.cm_base.specs.Configuration.{Configuration}
use Rattle.cm_base.specs.declared.parsed.Parsed.TheVariants.{Whole}
use Rattle.cm_history.specs.declared.act.Entry.{Entry}
use Rattle.recorder.specs.Reading.{read_entry}
use Rattle.journal_disk.specs.Opened.{front_bytes, entry_in, all_of}
use Rattle.journal_disk.specs.Log.{records, Behind, Holds, IsKept, IsTried, HoldsOrOneMore}
use Rattle.journal_disk.specs.Journal.{last_stamp, Spells, AreSpelled, BegunSpells, OpensAs, OpensAsOrOneMore, IsJournal}
use Rattle.journal_disk.specs.declared.log.Log.{Log}
use Rattle.journal_disk.proofs.Kept.{may-hold}
use Rattle.journal_disk.proofs.Found.{holds-opens}
use Rattle.std.proofs.lemmas.Bool.{eq-eqb}
use Rattle.std.specs.Prelude.{Bool, if◌then◌else◌}

pub last-push : (last : ℕ) (es : List Entry) (e : Entry) → last_stamp last (es ++ (e ∷ [])) ≡ e.stamp
last-push last [] e = refl
last-push last (x ∷ es) e = last-push x.stamp es e

-- what is read back is what the bytes spell
pub read-in : (text : List ℕ) (e : Entry) → read_entry text ≡ Whole e (length text) → entry_in text ≡ Some e
read-in text e back =
    ap (λ found. all_of found (length text)) back ∙ ap (λ (b : Bool). if b then Some e else None) (eq-eqb (length text) (length text) refl)

module _ (config : Configuration) (unit : ℕ) where
  pub spelled-push : (last : ℕ) (ps : List (List ℕ)) (es : List Entry) (p : List ℕ) (e : Entry) → AreSpelled config unit last ps es → Spells config unit (last_stamp last es) p e
      → AreSpelled config unit last (ps ++ (p ∷ [])) (es ++ (e ∷ []))
  spelled-push last [] [] p e spelled spells = (spells, tt)
  spelled-push last [] (x ∷ es) p e spelled spells = absurd spelled
  spelled-push last (q ∷ ps) [] p e spelled spells = absurd spelled
  spelled-push last (q ∷ ps) (x ∷ es) p e spelled spells = (spelled.0, spelled-push x.stamp ps es p e spelled.1 spells)

  -- the record whose opening was begun spells the entry that was tried
  begun-is : (last : ℕ) (p : List ℕ) (tried : Option Entry) → BegunSpells config unit last (Some p) tried → (e : Entry) × (tried ≡ Some e) × Spells config unit last p e
  begun-is last p None tries = absurd tries
  begun-is last p (Some e) tries = (e, refl, tries)

  one-of : (last : ℕ) (begun : Option (List ℕ)) (tried : Option Entry) (text : List ℕ) (e : Entry) (p : List ℕ) → BegunSpells config unit last begun tried → Spells config unit last text e
      → (p ≡ text) ⊎ (begun ≡ Some p) → (x : Entry) × ((x ≡ e) ⊎ (tried ≡ Some x)) × Spells config unit last p x
  one-of last begun tried text e p tries spells (inl this) = (e, inl refl, subst (λ (l : List ℕ). Spells config unit last l e) (sym this) spells)
  one-of last begun tried text e p tries spells (inr before) =
      let found = begun-is last p tried (subst (λ (b : Option (List ℕ)). BegunSpells config unit last b tried) before tries) in
      (found.0, inr found.1, found.2)

  -- at each moment of a call
  pub one-more : (ps : List (List ℕ)) (es : List Entry) (begun : Option (List ℕ)) (tried : Option Entry) (text : List ℕ) (e : Entry) (c : List ℕ) → AreSpelled config unit 0 ps es → BegunSpells config unit (last_stamp 0 es) begun tried
      → Spells config unit (last_stamp 0 es) text e → HoldsOrOneMore (front_bytes config unit) ps begun text c → OpensAsOrOneMore config unit es tried e c
  one-more ps es begun tried text e c spelled tries spells (inl same) = inl (holds-opens config unit ps es c spelled same)
  one-more ps es begun tried text e c spelled tries spells (inr more) =
      let found = one-of (last_stamp 0 es) begun tried text e more.0 tries spells more.1 in
      inr (found.0, found.1, holds-opens config unit (ps ++ (more.0 ∷ [])) (es ++ (found.0 ∷ [])) c (spelled-push 0 ps es more.0 found.0 spelled found.2) more.2)

  pub or-one-more : (es : List Entry) (tried : Option Entry) (e : Entry) (c : List ℕ) → OpensAs config unit es tried c → OpensAsOrOneMore config unit es tried e c
  or-one-more es tried e c (inl same) = inl same
  or-one-more es tried e c (inr more) = inr (more.0, inr more.1, more.2)

  -- between calls
  pub opens-as : (ps : List (List ℕ)) (es : List Entry) (begun : Option (List ℕ)) (tried : Option Entry) (c : List ℕ) → AreSpelled config unit 0 ps es → BegunSpells config unit (last_stamp 0 es) begun tried
      → Behind (front_bytes config unit ++ records ps) begun c → OpensAs config unit es tried c
  opens-as ps es None None c spelled tries behind = inl (holds-opens config unit ps es c spelled behind)
  opens-as ps es None (Some e) c spelled tries behind = absurd tries
  opens-as ps es (Some p) None c spelled tries behind = absurd tries
  opens-as ps es (Some p) (Some e) c spelled tries behind = by-cases (may-hold (front_bytes config unit) ps (Some p) p c behind)
    where
      by-one : (q : List ℕ) → (q ≡ p) ⊎ (Some p ≡ Some q) → q ≡ p
      by-one q (inl is) = is
      by-one q (inr is) = let same : p ≡ q = cc is in sym same

      by-cases : HoldsOrOneMore (front_bytes config unit) ps (Some p) p c → OpensAs config unit es (Some e) c
      by-cases (inl same) = inl (holds-opens config unit ps es c spelled same)
      by-cases (inr more) =
          let here = subst (λ (l : List ℕ). Holds (front_bytes config unit) (ps ++ (l ∷ [])) c) (by-one more.0 more.1) more.2 in
          inr (e, refl, holds-opens config unit (ps ++ (p ∷ [])) (es ++ (e ∷ [])) c (spelled-push 0 ps es p e spelled tries) here)

  module _ {D : Type 0} (reads : D → Option (List ℕ)) (may_leave : D → List ℕ → Type 0) where
    -- from records to entries
    abbrev pub journal-of : (ps : List (List ℕ)) (es : List Entry) (begun : Option (List ℕ)) (tried : Option Entry) (log : Log D) → IsKept reads may_leave (front_bytes config unit) ps begun log
        → log.start ≡ length (front_bytes config unit) → AreSpelled config unit 0 ps es → BegunSpells config unit (last_stamp 0 es) begun tried → IsJournal reads may_leave config unit es tried log
    journal-of ps es begun tried log kept start spelled tries = record {
      told = kept.told;
      opens = λ c now. opens-as ps es begun tried c spelled tries (kept.images c now);
      payloads = ps;
      begun = begun;
      kept = kept;
      start = start;
      spelled = spelled;
      tries = tries;
    }

    -- after Ok
    pub journal-grown : (es : List Entry) (tried : Option Entry) (old new : Log D) (text : List ℕ) (e : Entry) (journal : IsJournal reads may_leave config unit es tried old) → Spells config unit (last_stamp 0 es) text e
        → new.start ≡ old.start → IsKept reads may_leave (front_bytes config unit) (journal.payloads ++ (text ∷ [])) None new → IsJournal reads may_leave config unit (es ++ (e ∷ [])) None new
    journal-grown es tried old new text e journal spells start kept =
        journal-of (journal.payloads ++ (text ∷ [])) (es ++ (e ∷ [])) None None new kept (start ∙ journal.start) (spelled-push 0 journal.payloads es text e journal.spelled spells) tt

    -- after a refusal
    pub journal-kept : (es : List Entry) (tried : Option Entry) (old new : Log D) (text : List ℕ) (e : Entry) (journal : IsJournal reads may_leave config unit es tried old) → Spells config unit (last_stamp 0 es) text e
        → new.start ≡ old.start → ((next : Option (List ℕ)) × IsTried journal.begun text next × IsKept reads may_leave (front_bytes config unit) journal.payloads next new)
        → (next : Option Entry) × IsTried tried e next × IsJournal reads may_leave config unit es next new
    journal-kept es tried old new text e journal spells start after = by-cases after.1
      where
        now : (next : Option Entry) → BegunSpells config unit (last_stamp 0 es) after.0 next → IsJournal reads may_leave config unit es next new
        now next tries = journal-of journal.payloads es after.0 next new after.2 (start ∙ journal.start) journal.spelled tries

        by-cases : IsTried journal.begun text after.0 → (next : Option Entry) × IsTried tried e next × IsJournal reads may_leave config unit es next new
        by-cases (inl none) = (None, inl refl, now None (subst (λ (b : Option (List ℕ)). BegunSpells config unit (last_stamp 0 es) b None) (sym none) tt))
        by-cases (inr (inl same)) = (tried, inr (inl refl), now tried (subst (λ (b : Option (List ℕ)). BegunSpells config unit (last_stamp 0 es) b tried) (sym same) journal.tries))
        by-cases (inr (inr this)) = (Some e, inr (inr refl), now (Some e) (subst (λ (b : Option (List ℕ)). BegunSpells config unit (last_stamp 0 es) b (Some e)) (sym this) spells))
