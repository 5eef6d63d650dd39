-- A disk that is empty, or that a crash left of a good one, is good; what is opened, and what is recorded, leaves it so
use Rattle.std.proofs.Common.{◌≡◌, ◌⊎◌, ◌≤◌, ℕ, List, [], ◌∷◌, ◌++◌, inl, inr, ◌∙◌, refl, sym, subst, ⊎_elim, Option, Some, None, Result, Ok, Err, OnOk, OnErr, true, arith, length, ◌+◌}
use Rattle.std.specs.Prelude.{nat_lt}
use Rattle.std.proofs.lemmas.Bool.Decides.{nat_tests}
use Rattle.cm_base.specs.Configuration.{Configuration}
use Rattle.cm_history.specs.declared.act.Entry.{Entry}
use Rattle.journal_disk.specs.Disk.{LeavesOnly}
use Rattle.journal_disk.specs.Log.{IsTold, IsTried}
use Rattle.journal_disk.specs.Opened.{front_bytes, is_unmade, opened}
use Rattle.journal_disk.specs.Journal.{OpensAs, OpensAsOrOneMore, IsJournal, IsOpened, IsGood, StaysGood, SyncsFirst}
use Rattle.journal_disk.specs.declared.log.Log.{Log}
use Rattle.journal_disk.specs.declared.opening.OpenFault.{OpenFault}
use Rattle.journal_disk.proofs.Moments.{joined, weaker}
use Rattle.journal_disk.proofs.Found.{unmade-is}

unmade-empty : (front : List ℕ) → is_unmade front [] ≡ true
unmade-empty front = let less : nat_lt 0 (length front + 1) ≡ true = grind (arith, nat_tests) in rw less refl

-- an empty file is opened without entries
pub empty-opened : (config : Configuration) (unit : ℕ) → IsOpened config unit []
empty-opened config unit = ([], unmade-is config unit (front_bytes config unit) [] (unmade-empty (front_bytes config unit)))

module _ {D : Type 0} (reads : D → Option (List ℕ)) (may_leave : D → List ℕ → Type 0) (config : Configuration) (unit : ℕ) where
  -- a disk of which a crash leaves what reads give and nothing else
  pub good-synced : (disk : D) (file : List ℕ) → reads disk ≡ Some file → ((c : List ℕ) → may_leave disk c → c ≡ file) → IsOpened config unit file → IsGood reads may_leave config unit disk
  good-synced disk file told only is = record { told = (file, told); opens = λ c now. subst (IsOpened config unit) (sym (only c now)) is }

  opens-some : (es : List Entry) (tried : Option Entry) (c : List ℕ) → OpensAs config unit es tried c → IsOpened config unit c
  opens-some es tried c (inl same) = (es, same)
  opens-some es tried c (inr more) = (es ++ (more.0 ∷ []), more.2)

  -- so is the disk of a journal
  pub journal-good : (es : List Entry) (tried : Option Entry) (log : Log D) → IsJournal reads may_leave config unit es tried log → IsGood reads may_leave config unit log.disk
  journal-good es tried log journal = record { told = journal.told; opens = λ c now. opens-some es tried c (journal.opens c now) }

  module _ (moment : D → ℕ) (left_since : D → ℕ → List ℕ → Type 0) where
    -- nothing bad at any moment, and so at the end
    stays : ((disk : D) (t : ℕ) (c : List ℕ) → t ≤ moment disk → may_leave disk c → left_since disk t c) → (old new : D) → IsTold (reads new) → LeavesOnly moment left_since old new (IsOpened config unit)
        → StaysGood reads may_leave moment left_since config unit old new
    stays counts_now old new told run = record {
      good = record { told = told; opens = λ c now. run.each c (counts_now new (moment old) c run.later now) };
      moments = run;
    }

    more-some : (es : List Entry) (tried : Option Entry) (e : Entry) (c : List ℕ) → OpensAsOrOneMore config unit es tried e c → IsOpened config unit c
    more-some es tried e c (inl same) = (es, same)
    more-some es tried e c (inr more) = (es ++ (more.0 ∷ []), more.2)

    either-way : {T E A B C : Type 0} (r : Result T E) → OnOk r A → OnErr r B → (A → C) → (B → C) → C
    either-way (Ok x) a b f g = f a
    either-way (Err e) a b f g = g b

    -- an entry is recorded, or refused
    pub append-stays : ((disk : D) (t : ℕ) (c : List ℕ) → t ≤ moment disk → may_leave disk c → left_since disk t c) → {T E : Type 0} (r : Result T E) (es : List Entry) (tried : Option Entry) (e : Entry) (old new : Log D)
        → OnOk r (IsJournal reads may_leave config unit (es ++ (e ∷ [])) None new) → OnErr r ((next : Option Entry) × IsTried tried e next × IsJournal reads may_leave config unit es next new)
        → LeavesOnly moment left_since old.disk new.disk (OpensAsOrOneMore config unit es tried e) → StaysGood reads may_leave moment left_since config unit old.disk new.disk
    append-stays counts_now r es tried e old new recorded kept run =
        stays counts_now old.disk new.disk (either-way r recorded kept (λ journal. journal.told) (λ after. after.2.told))
        (weaker moment left_since old.disk new.disk (OpensAsOrOneMore config unit es tried e) (IsOpened config unit) (more-some es tried e) run)

    module _ (reads_left : (disk : D) (file : List ℕ) → reads disk ≡ Some file → may_leave disk file)
        (counts_now : (disk : D) (t : ℕ) (c : List ℕ) → t ≤ moment disk → may_leave disk c → left_since disk t c) (old : D) (good : IsGood reads may_leave config unit old) where
      -- what reads give is not bad
      pub file-opened : IsOpened config unit good.told.0
      file-opened = good.opens good.told.0 (reads_left old good.told.0 good.told.1)

      behind-sync : (new : D) → SyncsFirst reads may_leave moment left_since old new (λ c. opened config unit c ≡ opened config unit good.told.0) → LeavesOnly moment left_since old new (IsOpened config unit)
      behind-sync new sync =
          joined moment left_since old sync.mid new (IsOpened config unit)
          (weaker moment left_since old sync.mid (may_leave old) (IsOpened config unit) good.opens sync.first.before)
          (weaker moment left_since sync.mid new (λ c. opened config unit c ≡ opened config unit good.told.0) (IsOpened config unit) (λ c same. (file-opened.0, same ∙ file-opened.1)) sync.after)

      -- a journal is opened
      pub open-stays : (new : D) → IsTold (reads new) → SyncsFirst reads may_leave moment left_since old new (λ c. opened config unit c ≡ opened config unit good.told.0) → StaysGood reads may_leave moment left_since config unit old new
      open-stays new told sync = stays counts_now old new told (behind-sync new sync)

      -- or not
      pub refused-stays : (new : D) → IsTold (reads new)
          → LeavesOnly moment left_since old new (may_leave old) ⊎ SyncsFirst reads may_leave moment left_since old new (λ c. opened config unit c ≡ opened config unit good.told.0) → StaysGood reads may_leave moment left_since config unit old new
      refused-stays new told run =
          stays counts_now old new told (⊎_elim (weaker moment left_since old new (may_leave old) (IsOpened config unit) good.opens) (behind-sync new) run)

      -- it is not refused as bad
      pub never-bad : (fault : OpenFault) → ((place : ℕ) → fault ≡ OpenFault.BadJournal place → opened config unit good.told.0 ≡ Err place) → (place : ℕ) → fault ≡ OpenFault.BadJournal place → ⊥
      never-bad fault bad place is = let no : Ok file-opened.0 ≡ Err place = sym file-opened.1 ∙ bad place is in cc
