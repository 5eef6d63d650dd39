-- What a journal is opened as, and goes on with
use Rattle.std.proofs.Common.{◌≡◌, ◌⊎◌, ℕ, List, [], ◌∷◌, ◌++◌, length, inl, inr, sym, ◌∙◌, ap, subst, refl, arith, Option, Some, None, true, false}
use Rattle.std.proofs.lemmas.List.{append-nil}
use Rattle.cm_base.specs.Configuration.{Configuration}
use Rattle.cm_history.specs.declared.act.Entry.{Entry}
use Rattle.journal_disk.specs.Disk.{NoMore, IsSynced, IsSyncedFirst, Elapses, LeavesOnly}
use Rattle.journal_disk.specs.Opened.{front_bytes, mark_bytes, is_unmade, opened}
use Rattle.journal_disk.specs.Log.{Holds, HoldsFirst, IsTold}
use Rattle.journal_disk.specs.Journal.{last_stamp, AreSpelled, BegunSpells, IsJournal, SyncsFirst}
use Rattle.journal_disk.specs.Recording.{if_spelled, entries_of, recorded_in, AreTexts, IsFit}
use Rattle.journal_disk.specs.inner.NewFile.{front_of, IsEmpty}
use Rattle.journal_disk.specs.inner.Scanning.{IsFound}
use Rattle.journal_disk.specs.inner.Texts.{IsBegun}
use Rattle.journal_disk.specs.declared.log.Log.{Log}
use Rattle.journal_disk.specs.declared.log.Opening.{Opening}
use Rattle.journal_disk.proofs.Moments.{started, goes_on, joined, weaker}
use Rattle.journal_disk.proofs.NewFiles.{new-holds}
use Rattle.journal_disk.proofs.Found.{empty-opens, unmade-is}
use Rattle.journal_disk.proofs.Entries.{journal-of}
use Rattle.journal_disk.proofs.Told.{kept-recorded}
use Rattle.journal_disk.proofs.Since.{begun-of, empty-first, holds-all, reading-held, spelled-length}

pub told-or-not : (r : Option (List ℕ)) → (r ≡ None) ⊎ ((file : List ℕ) × (r ≡ Some file))
told-or-not None = inl refl
told-or-not (Some file) = inr (file, refl)

module _ (config : Configuration) (unit : ℕ) where
  entries-spelled : (last : ℕ) (ps : List (List ℕ)) (es : List Entry) → AreSpelled config unit last ps es → entries_of ps ≡ es
  entries-spelled last [] [] spelled = refl
  entries-spelled last [] (e ∷ es) spelled = absurd spelled
  entries-spelled last (p ∷ ps) [] spelled = absurd spelled
  entries-spelled last (p ∷ ps) (e ∷ es) spelled =
      ap (λ (o : Option Entry). if_spelled o (entries_of ps)) spelled.0.1 ∙ ap (λ (l : List Entry). e ∷ l) (entries-spelled e.stamp ps es spelled.1)

  texts-spelled : (last : ℕ) (ps : List (List ℕ)) (es : List Entry) → AreSpelled config unit last ps es → AreTexts ps
  texts-spelled last [] [] spelled = tt
  texts-spelled last [] (e ∷ es) spelled = absurd spelled
  texts-spelled last (p ∷ ps) [] spelled = absurd spelled
  texts-spelled last (p ∷ ps) (e ∷ es) spelled = ((e, (spelled.0.0, spelled.0.1)), texts-spelled e.stamp ps es spelled.1)

  begun-none : (last : ℕ) (begun : Option (List ℕ)) → BegunSpells config unit last begun None → begun ≡ None
  begun-none last None tries = refl
  begun-none last (Some p) tries = absurd tries

  module _ {D : Type 0} (reads : D → Option (List ℕ)) (may_leave : D → List ℕ → Type 0) where
    -- the file was made new
    abbrev pub made-journal : (new : D) (opening : Opening D) (start gate : ℕ) → IsTold (reads new) → start ≡ length (front_bytes config unit) → gate ≡ start → ((c : List ℕ) → may_leave new c → c ≡ front_of (mark_bytes config unit) ++ (0 ∷ []))
        → IsJournal reads may_leave config unit [] None (record { disk = new; start = start; gate = gate; begun = false; opening = opening })
    made-journal new opening start gate told start_is gate_is made =
        journal-of config unit reads may_leave [] [] None None (record { disk = new; start = start; gate = gate; begun = false; opening = opening })
        (record {
          told = told;
          gate = gate_is ∙ start_is ∙ ap length (sym (append-nil (front_bytes config unit)));
          begun = refl;
          images = λ c now. new-holds (mark_bytes config unit) c (made c now);
        })
        start_is tt tt

    -- its records were read
    abbrev pub found-journal : (old new : D) (opening : Opening D) (file : List ℕ) (start gate : ℕ) (es : List Entry) → reads old ≡ Some file → IsSynced (reads old) (may_leave old) → reads new ≡ reads old → NoMore (may_leave old) (may_leave new)
        → start ≡ length (front_bytes config unit) → IsFound config unit file gate es → IsJournal reads may_leave config unit es None (record { disk = new; start = start; gate = gate; begun = false; opening = opening })
    found-journal old new opening file start gate es told synced same images start_is found =
        journal-of config unit reads may_leave found.payloads es None None (record { disk = new; start = start; gate = gate; begun = false; opening = opening })
        (record {
          told = (file, same ∙ told);
          gate = found.gate_is;
          begun = refl;
          images = λ c now. subst (λ (l : List ℕ). Holds (front_bytes config unit) found.payloads l) (sym (synced file told c (images c now))) found.holds;
        })
        start_is found.spelled tt

    pub journal-fits : (moment : D → ℕ) (left_since : D → ℕ → List ℕ → Type 0) (es : List Entry) (log : Log D) (e : Entry) → IsBegun reads may_leave moment left_since config unit es log → IsFit reads may_leave moment left_since log e
    journal-fits moment left_since es log e begun =
        let journal = begun.journal in
        let long = spelled-length config unit 0 journal.payloads es journal.spelled in
        inr (record {
          front = front_bytes config unit;
          ps = journal.payloads;
          last = journal.begun;
          kept = journal.kept;
          start = journal.start;
          texts = texts-spelled 0 journal.payloads es journal.spelled;
          same = inl (begun-none (last_stamp 0 es) journal.begun journal.tries);
          past = record {
            later = begun.later;
            enough = omega (arith, begun.count, long);
            each = λ c left. inl (subst (λ n. HoldsFirst (front_bytes config unit) n journal.payloads c) (sym begun.count) (begun.each c left));
          };
        })

    -- what was found in the file was there since it was synced
    pub found-begun : (moment : D → ℕ) (left_since : D → ℕ → List ℕ → Type 0) (old new : D) (opening : Opening D) (file : List ℕ) (start gate : ℕ) (es : List Entry) → reads old ≡ Some file → IsSynced (reads old) (may_leave old) → reads new ≡ reads old
        → NoMore (may_leave old) (may_leave new) → LeavesOnly moment left_since old new (may_leave old) → start ≡ length (front_bytes config unit) → IsFound config unit file gate es
        → opening.synced.value ≡ old → opening.entries.value ≡ length es
        → IsBegun reads may_leave moment left_since config unit es (record { disk = new; start = start; gate = gate; begun = false; opening = opening })
    found-begun moment left_since old new opening file start gate es told synced same images run start_is found is count =
        begun-of config unit reads may_leave moment left_since old es (record { disk = new; start = start; gate = gate; begun = false; opening = opening })
        (found-journal old new opening file start gate es told synced same images start_is found) is count
        (reading-held config unit reads may_leave moment left_since old new file (HoldsFirst (front_bytes config unit) (length es) found.payloads) told synced
        (holds-all (front_bytes config unit) (length es) found.payloads file (let long = spelled-length config unit 0 found.payloads es found.spelled in omega (arith, long)) found.holds) run)

    -- what was made new was empty since it was synced
    pub made-begun : (moment : D → ℕ) (left_since : D → ℕ → List ℕ → Type 0) (old mid new : D) (opening : Opening D) (file : List ℕ) (start gate : ℕ) (es : List Entry) → reads old ≡ Some file → IsSynced (reads old) (may_leave old)
        → is_unmade (front_bytes config unit) file ≡ true → LeavesOnly moment left_since old mid (may_leave old) → LeavesOnly moment left_since mid new (IsEmpty (mark_bytes config unit))
        → IsTold (reads new) → start ≡ length (front_bytes config unit) → gate ≡ start → ((c : List ℕ) → may_leave new c → c ≡ front_of (mark_bytes config unit) ++ (0 ∷ []))
        → opening.synced.value ≡ old → opening.entries.value ≡ 0 → es ≡ []
        → IsBegun reads may_leave moment left_since config unit es (record { disk = new; start = start; gate = gate; begun = false; opening = opening })
    made-begun moment left_since old mid new opening file start gate es told synced unmade reading making read start_is gate_is made is count none =
        subst (λ (l : List Entry). IsBegun reads may_leave moment left_since config unit l (record { disk = new; start = start; gate = gate; begun = false; opening = opening })) (sym none)
        (begun-of config unit reads may_leave moment left_since old [] (record { disk = new; start = start; gate = gate; begun = false; opening = opening })
        (made-journal new opening start gate read start_is gate_is made) is count
        (joined moment left_since old mid new (HoldsFirst (front_bytes config unit) 0 [])
        (reading-held config unit reads may_leave moment left_since old mid file (HoldsFirst (front_bytes config unit) 0 []) told synced (inl (unmade, refl)) reading)
        (weaker moment left_since mid new (IsEmpty (mark_bytes config unit)) (HoldsFirst (front_bytes config unit) 0 []) (empty-first config unit) making)))

    pub journal-recorded : ((disk : D) (file : List ℕ) → reads disk ≡ Some file → may_leave disk file) → (es : List Entry) (tried : Option Entry) (log : Log D) → IsJournal reads may_leave config unit es tried log
        → recorded_in log.start log.gate (reads log.disk) ≡ Some es
    journal-recorded reads_left es tried log journal =
        kept-recorded reads may_leave reads_left (front_bytes config unit) journal.payloads journal.begun log journal.kept journal.start (texts-spelled 0 journal.payloads es journal.spelled)
        ∙ ap (λ (l : List Entry). Some l) (entries-spelled 0 journal.payloads es journal.spelled)

    module _ (moment : D → ℕ) (left_since : D → ℕ → List ℕ → Type 0) where
      -- while it is read
      pub reading-moments : (old new : D) (file : List ℕ) → reads old ≡ Some file → IsSynced (reads old) (may_leave old) → LeavesOnly moment left_since old new (may_leave old)
          → LeavesOnly moment left_since old new (λ c. opened config unit c ≡ opened config unit file)
      reading-moments old new file told synced run =
          weaker moment left_since old new (may_leave old) (λ c. opened config unit c ≡ opened config unit file) (λ c now. ap (opened config unit) (synced file told c now)) run

      -- while it is made new
      pub making-moments : (old new : D) (file : List ℕ) → is_unmade (front_bytes config unit) file ≡ true → LeavesOnly moment left_since old new (IsEmpty (mark_bytes config unit))
          → LeavesOnly moment left_since old new (λ c. opened config unit c ≡ opened config unit file)
      making-moments old new file unmade run =
          weaker moment left_since old new (IsEmpty (mark_bytes config unit)) (λ c. opened config unit c ≡ opened config unit file)
          (λ c empty. empty-opens config unit c empty ∙ sym (unmade-is config unit (front_bytes config unit) file unmade)) run

      -- a sync, and what comes behind it
      pub synced-first : ((disk : D) (c : List ℕ) → left_since disk (moment disk) c → may_leave disk c) → (old mid : D) → reads mid ≡ reads old → NoMore (may_leave old) (may_leave mid)
          → Elapses (moment old) (moment mid) (left_since old) (left_since mid) (may_leave mid) → IsSynced (reads mid) (may_leave mid) → IsSyncedFirst reads may_leave moment left_since old mid
      synced-first only_now old mid same images time synced = record {
        same = same;
        synced = synced;
        before = goes_on moment left_since old old mid (may_leave old) (may_leave mid) (started moment left_since old (may_leave old) (λ c left. only_now old c left)) time (λ c now. images c now);
      }

      pub syncs-first : ((disk : D) (c : List ℕ) → left_since disk (moment disk) c → may_leave disk c) → (old mid new : D) (P : List ℕ → Type 0) → reads mid ≡ reads old → NoMore (may_leave old) (may_leave mid)
          → Elapses (moment old) (moment mid) (left_since old) (left_since mid) (may_leave mid) → IsSynced (reads mid) (may_leave mid) → LeavesOnly moment left_since mid new P
          → SyncsFirst reads may_leave moment left_since old new P
      syncs-first only_now old mid new P same images time synced after = record { mid = mid; first = synced-first only_now old mid same images time synced; after = after }

      pub sync-failed : ((disk : D) (c : List ℕ) → left_since disk (moment disk) c → may_leave disk c) → (old mid : D) → NoMore (may_leave old) (may_leave mid)
          → Elapses (moment old) (moment mid) (left_since old) (left_since mid) (may_leave mid) → LeavesOnly moment left_since old mid (may_leave old)
      sync-failed only_now old mid images time =
          goes_on moment left_since old old mid (may_leave old) (may_leave mid) (started moment left_since old (may_leave old) (λ c left. only_now old c left)) time (λ c now. images c now)
