-- What each file had that a crash left since a journal began
use Rattle.std.proofs.Common.{◌≡◌, ◌⊎◌, ◌≤◌, ℕ, List, [], ◌∷◌, ◌++◌, length, inl, inr, sym, ◌∙◌, ap, subst, refl, arith, length-append, take_all, Option, Some, None}
use Rattle.std.proofs.lemmas.List.{take-append-le}
use Rattle.cm_base.specs.Configuration.{Configuration}
use Rattle.cm_history.specs.declared.act.Entry.{Entry}
use Rattle.recorder.specs.Text.{entry_bytes}
use Rattle.journal_disk.specs.Disk.{IsSynced, LeavesOnly}
use Rattle.journal_disk.specs.Opened.{front_bytes, mark_bytes, opened}
use Rattle.journal_disk.specs.Log.{records, EndsBehind, Behind, Holds, HoldsFirst, HoldsOrOneMore}
use Rattle.journal_disk.specs.Journal.{AreSpelled, IsJournal, IsLikeGiven, SyncsFirst}
use Rattle.journal_disk.specs.Recording.{IsTextOf, WasKept}
use Rattle.journal_disk.specs.inner.NewFile.{IsEmpty}
use Rattle.journal_disk.specs.inner.Texts.{HasText, HoldsOrThis, IsBegun}
use Rattle.journal_disk.specs.declared.log.Log.{Log}
use Rattle.journal_disk.proofs.Gates.{records-push, next-holds}
use Rattle.journal_disk.proofs.Moments.{joined, weaker}

-- ---- one image

-- all of them
pub holds-all : (front : List ℕ) (least : ℕ) (ps : List (List ℕ)) (c : List ℕ) → least ≤ length ps → Holds front ps c → HoldsFirst front least ps c
holds-all front least ps c enough holds =
    inr (length ps, enough, omega arith, subst (λ (l : List (List ℕ)). Holds front l c) (sym (take_all (length ps) ps (omega arith))) holds)

-- the first of some are the first of more
pub holds-more : (front : List ℕ) (least : ℕ) (ps : List (List ℕ)) (p c : List ℕ) → HoldsFirst front least ps c → HoldsFirst front least (ps ++ (p ∷ [])) c
holds-more front least ps p c (inl unmade) = inl unmade
holds-more front least ps p c (inr first) =
    inr (first.0, first.1, omega (arith, first.2, length-append ps (p ∷ [])), subst (λ (l : List (List ℕ)). Holds front l c) (sym (take-append-le first.0 ps (p ∷ []) first.2)) first.3)

-- these records, or these and that of this entry
abbrev pub OrThis : List ℕ → List (List ℕ) → Entry → List ℕ → Type 0
OrThis front ps e c = Holds front ps c ⊎ (HasText e × Holds front (ps ++ (entry_bytes e ∷ [])) c)

some-same : {A : Type 0} (a b : A) → Some a ≡ Some b → a ≡ b
some-same a b is = cc

-- where no other entry was tried
pub or-this : (front : List ℕ) (ps : List (List ℕ)) (last : Option (List ℕ)) (e : Entry) (c : List ℕ) → (last ≡ None) ⊎ ((last ≡ Some (entry_bytes e)) × HasText e) → HoldsOrThis front ps last e c → OrThis front ps e c
or-this front ps last e c same (inl holds) = inl holds
or-this front ps last e c same (inr more) = go same more.1
  where
    go : (last ≡ None) ⊎ ((last ≡ Some (entry_bytes e)) × HasText e) → ((more.0 ≡ entry_bytes e) × HasText e) ⊎ (last ≡ Some more.0) → OrThis front ps e c
    go same (inl this) = inr (this.1, subst (λ (l : List ℕ). Holds front (ps ++ (l ∷ [])) c) this.0 more.2)
    go (inl none) (inr is) = let no : None ≡ Some more.0 = sym none ∙ is in cc
    go (inr this) (inr is) = inr (this.1, subst (λ (l : List ℕ). Holds front (ps ++ (l ∷ [])) c) (some-same more.0 (entry_bytes e) (sym is ∙ this.0)) more.2)

-- the entry that is recorded, by its text
pub this-of : (front : List ℕ) (ps : List (List ℕ)) (last : Option (List ℕ)) (e : Entry) (text c : List ℕ) → text ≡ entry_bytes e → HasText e → HoldsOrOneMore front ps last text c → HoldsOrThis front ps last e c
this-of front ps last e text c is has (inl holds) = inl holds
this-of front ps last e text c is has (inr more) = inr (more.0, go more.1, more.2)
  where
    go : (more.0 ≡ text) ⊎ (last ≡ Some more.0) → ((more.0 ≡ entry_bytes e) × HasText e) ⊎ (last ≡ Some more.0)
    go (inl this) = inl (this ∙ is, has)
    go (inr before) = inr before

-- where nothing was written
pub behind-this : (front : List ℕ) (ps : List (List ℕ)) (last : Option (List ℕ)) (e : Entry) (c : List ℕ) → Behind (front ++ records ps) last c → HoldsOrThis front ps last e c
behind-this front ps None e c behind = inl behind
behind-this front ps (Some p) e c behind = elim (next-holds (front ++ records ps) p c behind) [
  | inl same ↦ inl same
  | inr more ↦ inr (p, inr refl, subst (λ (l : List ℕ). EndsBehind l c) (records-push front ps p) more)
]

-- ---- as entries are recorded

module _ {D : Type 0} (moment : D → ℕ) (left_since : D → ℕ → List ℕ → Type 0) (old new : Log D) (front : List ℕ) (ps : List (List ℕ)) (e : Entry) (opening : new.opening ≡ old.opening)
    (past : WasKept moment left_since old front ps e) (run : LeavesOnly moment left_since old.disk new.disk (OrThis front ps e)) where
  still : moment new.opening.synced.value ≡ moment old.opening.synced.value
  still = ap (λ o. moment o.synced.value) opening

  least : new.opening.entries.value ≡ old.opening.entries.value
  least = ap (λ o. o.entries.value) opening

  -- an image is one of before the call, or one of the call
  image : (c : List ℕ) → left_since new.disk (moment new.opening.synced.value) c → HoldsFirst front old.opening.entries.value ps c ⊎ OrThis front ps e c
  image c left = go (run.before (moment old.opening.synced.value) c past.later (subst (λ t. left_since new.disk t c) still left))
    where
      before : HoldsFirst front old.opening.entries.value ps c ⊎ (IsTextOf (entry_bytes e) e × Holds front (ps ++ (entry_bytes e ∷ [])) c) → HoldsFirst front old.opening.entries.value ps c ⊎ OrThis front ps e c
      before (inl first) = inl first
      before (inr this) = inr (inr this)

      go : left_since old.disk (moment old.opening.synced.value) c ⊎ OrThis front ps e c → HoldsFirst front old.opening.entries.value ps c ⊎ OrThis front ps e c
      go (inl was) = before (past.each c was)
      go (inr now) = inr now

  later : moment new.opening.synced.value ≤ moment new.disk
  later = omega (arith, still, past.later, run.later)

  -- after a refusal
  pub kept-again : WasKept moment left_since new front ps e
  kept-again = record { later = later; enough = omega (arith, least, past.enough); each = each }
    where
      to : (c : List ℕ) → HoldsFirst front old.opening.entries.value ps c ⊎ OrThis front ps e c → HoldsFirst front old.opening.entries.value ps c ⊎ (IsTextOf (entry_bytes e) e × Holds front (ps ++ (entry_bytes e ∷ [])) c)
      to c (inl first) = inl first
      to c (inr (inl holds)) = inl (holds-all front old.opening.entries.value ps c past.enough holds)
      to c (inr (inr this)) = inr this

      each : (c : List ℕ) → left_since new.disk (moment new.opening.synced.value) c → HoldsFirst front new.opening.entries.value ps c ⊎ (IsTextOf (entry_bytes e) e × Holds front (ps ++ (entry_bytes e ∷ [])) c)
      each c left = subst (λ n. HoldsFirst front n ps c ⊎ (IsTextOf (entry_bytes e) e × Holds front (ps ++ (entry_bytes e ∷ [])) c)) (sym least) (to c (image c left))

  -- after Ok any entry may be the next
  pub kept-more : (x : Entry) → WasKept moment left_since new front (ps ++ (entry_bytes e ∷ [])) x
  kept-more x = record { later = later; enough = omega (arith, least, past.enough, length-append ps (entry_bytes e ∷ [])); each = λ c left. inl (each c left) }
    where
      n : ℕ
      n = old.opening.entries.value

      to : (c : List ℕ) → HoldsFirst front n ps c ⊎ OrThis front ps e c → HoldsFirst front n (ps ++ (entry_bytes e ∷ [])) c
      to c (inl first) = holds-more front n ps (entry_bytes e) c first
      to c (inr (inl holds)) = holds-more front n ps (entry_bytes e) c (holds-all front n ps c past.enough holds)
      to c (inr (inr this)) = holds-all front n (ps ++ (entry_bytes e ∷ [])) c (omega (arith, past.enough, length-append ps (entry_bytes e ∷ []))) this.1

      each : (c : List ℕ) → left_since new.disk (moment new.opening.synced.value) c → HoldsFirst front new.opening.entries.value (ps ++ (entry_bytes e ∷ [])) c
      each c left = subst (λ k. HoldsFirst front k (ps ++ (entry_bytes e ∷ [])) c) (sym least) (to c (image c left))

-- ---- as a journal is opened

module _ (config : Configuration) (unit : ℕ) where
  -- as many records as entries
  pub spelled-length : (last : ℕ) (ps : List (List ℕ)) (es : List Entry) → AreSpelled config unit last ps es → length ps ≡ length es
  spelled-length last [] [] spelled = refl
  spelled-length last [] (e ∷ es) spelled = absurd spelled
  spelled-length last (p ∷ ps) [] spelled = absurd spelled
  spelled-length last (p ∷ ps) (e ∷ es) spelled = (let h = spelled-length e.stamp ps es spelled.1 in omega (arith, h))

  -- a file that is made new
  pub empty-first : (c : List ℕ) → IsEmpty (mark_bytes config unit) c → HoldsFirst (front_bytes config unit) 0 [] c
  empty-first c (inl unmade) = inl (unmade, refl)
  empty-first c (inr holds) = inr (0, omega arith, omega arith, holds)

  module _ {D : Type 0} (reads : D → Option (List ℕ)) (may_leave : D → List ℕ → Type 0) (moment : D → ℕ) (left_since : D → ℕ → List ℕ → Type 0) where
    -- while it is read, a crash leaves the file
    pub reading-held : (old new : D) (file : List ℕ) (P : List ℕ → Type 0) → reads old ≡ Some file → IsSynced (reads old) (may_leave old) → P file → LeavesOnly moment left_since old new (may_leave old)
        → LeavesOnly moment left_since old new P
    reading-held old new file P told synced has run = weaker moment left_since old new (may_leave old) P (λ c now. subst P (sym (synced file told c now)) has) run

    pub begun-of : (old : D) (es : List Entry) (log : Log D) (journal : IsJournal reads may_leave config unit es None log) → log.opening.synced.value ≡ old → log.opening.entries.value ≡ length es
        → LeavesOnly moment left_since old log.disk (HoldsFirst (front_bytes config unit) (length es) journal.payloads) → IsBegun reads may_leave moment left_since config unit es log
    begun-of old es log journal is count run = record {
      journal = journal;
      later = subst (λ (d : D). moment d ≤ moment log.disk) (sym is) run.later;
      count = count;
      each = λ c left. run.each c (subst (λ (d : D). left_since log.disk (moment d) c) is left);
    }

    -- whatever comes of opening, the disk is like the one that was given
    pub like-given : (given now : D) (file : List ℕ)
        → LeavesOnly moment left_since given now (may_leave given) ⊎ SyncsFirst reads may_leave moment left_since given now (λ c. opened config unit c ≡ opened config unit file)
        → IsLikeGiven may_leave moment left_since config unit file given now
    like-given given now file (inl run) = record { later = run.later; each = λ c left. inl (run.each c left) }
    like-given given now file (inr sync) =
        let run = joined moment left_since given sync.mid now (λ c. may_leave given c ⊎ (opened config unit c ≡ opened config unit file))
        (weaker moment left_since given sync.mid (may_leave given) (λ c. may_leave given c ⊎ (opened config unit c ≡ opened config unit file)) (λ c left. inl left) sync.first.before)
        (weaker moment left_since sync.mid now (λ c. opened config unit c ≡ opened config unit file) (λ c. may_leave given c ⊎ (opened config unit c ≡ opened config unit file)) (λ c same. inr same) sync.after) in
        record { later = run.later; each = run.each }
