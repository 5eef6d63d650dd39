-- What a journal has recorded, and what a crash may leave of it
use Rattle.std.specs.Prelude.{◌≡◌, ◌⊎◌, ◌<◌, ◌≤◌, ◌^◌, ℕ, List, [], ◌∷◌, ◌++◌, length, take, Option, Some, None, Ok, true}
use Rattle.cm_base.specs.Configuration.{Configuration}
use Rattle.cm_history.specs.declared.act.Entry.{Entry}
use Rattle.journal_disk.specs.Opened.{front_bytes, entry_in, may_follow, opened}
use Rattle.journal_disk.specs.Disk.{LeavesOnly, IsSyncedFirst}
use Rattle.journal_disk.specs.Log.{IsTold, IsKept}
use Rattle.journal_disk.specs.declared.log.Log.{Log}

-- the stamp of the last of them, or this
abbrev pub last_stamp : ℕ → List Entry → ℕ
last_stamp last [] = last
last_stamp last (e ∷ es) = last_stamp e.stamp es

-- an entry that may be recorded behind these
abbrev pub MayFollow : Configuration → ℕ → List Entry → Entry → Type 0
MayFollow config unit es e = may_follow config unit (last_stamp 0 es) e ≡ true

-- each of them may be recorded behind the one before it, and the first behind one of this stamp
abbrev pub AreInOrder : Configuration → ℕ → ℕ → List Entry → Type 0
AreInOrder config unit last [] = Unit {0}
AreInOrder config unit last (e ∷ es) = (may_follow config unit last e ≡ true) × AreInOrder config unit e.stamp es

-- the record spells the entry, which may stand behind one of this stamp
abbrev pub Spells : Configuration → ℕ → ℕ → List ℕ → Entry → Type 0
Spells config unit last p e = (length p < 2 ^ 64) × (entry_in p ≡ Some e) × (may_follow config unit last e ≡ true)

-- so does each record behind the one before it
abbrev pub AreSpelled : Configuration → ℕ → ℕ → List (List ℕ) → List Entry → Type 0
AreSpelled config unit last [] [] = Unit {0}
AreSpelled config unit last [] (e ∷ es) = ⊥
AreSpelled config unit last (p ∷ ps) [] = ⊥
AreSpelled config unit last (p ∷ ps) (e ∷ es) = Spells config unit last p e × AreSpelled config unit e.stamp ps es

-- the record whose opening was begun spells the entry; there is none of the one where there is none of the other
abbrev pub BegunSpells : Configuration → ℕ → ℕ → Option (List ℕ) → Option Entry → Type 0
BegunSpells config unit last None None = Unit {0}
BegunSpells config unit last None (Some e) = ⊥
BegunSpells config unit last (Some p) None = ⊥
BegunSpells config unit last (Some p) (Some e) = Spells config unit last p e

-- it is opened as these entries, or as these and that of a call that failed
abbrev pub OpensAs : Configuration → ℕ → List Entry → Option Entry → List ℕ → Type 0
OpensAs config unit es tried c =
    (opened config unit c ≡ Ok es) ⊎ ((e : Entry) × (tried ≡ Some e) × (opened config unit c ≡ Ok (es ++ (e ∷ []))))

-- it is opened as these entries, or as these and one more, which is this one or that of a call that failed before
abbrev pub OpensAsOrOneMore : Configuration → ℕ → List Entry → Option Entry → Entry → List ℕ → Type 0
OpensAsOrOneMore config unit es tried e c =
    (opened config unit c ≡ Ok es) ⊎ ((x : Entry) × ((x ≡ e) ⊎ (tried ≡ Some x)) × (opened config unit c ≡ Ok (es ++ (x ∷ []))))

-- The journal of this unit has recorded these entries. A crash now leaves a file that is opened as these, or as these and
-- the entry of a call that failed since the last `Ok`, where there is one.
pub record IsJournal {D : Type 0} (reads : D → Option (List ℕ)) (may_leave : D → List ℕ → Type 0) (config : Configuration) (unit : ℕ) (es : List Entry) (tried : Option Entry) (log : Log D) : Type 0 where
  pub told : IsTold (reads log.disk)
  pub opens : (c : List ℕ) → may_leave log.disk c → OpensAs config unit es tried c
  -- how they stand in the file
  pub payloads : List (List ℕ)
  pub begun : Option (List ℕ)
  pub kept : IsKept reads may_leave (front_bytes config unit) payloads begun log
  pub start : log.start ≡ length (front_bytes config unit)
  pub spelled : AreSpelled config unit 0 payloads es
  pub tries : BegunSpells config unit (last_stamp 0 es) begun tried

-- ---- no file that is bad

-- it is opened as some entries, and so is not bad
abbrev pub IsOpened : Configuration → ℕ → List ℕ → Type 0
IsOpened config unit c = (es : List Entry) × (opened config unit c ≡ Ok es)

-- The file is told, and nothing that a crash may leave now is bad.
pub record IsGood {D : Type 0} (reads : D → Option (List ℕ)) (may_leave : D → List ℕ → Type 0) (config : Configuration) (unit : ℕ) (disk : D) : Type 0 where
  pub told : IsTold (reads disk)
  pub opens : (c : List ℕ) → may_leave disk c → IsOpened config unit c

-- It is so still, and nothing that a crash at a moment since left is bad.
pub record StaysGood {D : Type 0} (reads : D → Option (List ℕ)) (may_leave : D → List ℕ → Type 0) (moment : D → ℕ) (left_since : D → ℕ → List ℕ → Type 0) (config : Configuration) (unit : ℕ) (old new : D) : Type 0 where
  pub good : IsGood reads may_leave config unit new
  pub moments : LeavesOnly moment left_since old new (IsOpened config unit)

-- The first of some calls is a sync; from its end on each file that a crash may leave has P.
pub record SyncsFirst {D : Type 0} (reads : D → Option (List ℕ)) (may_leave : D → List ℕ → Type 0) (moment : D → ℕ) (left_since : D → ℕ → List ℕ → Type 0) (old new : D) (P : List ℕ → Type 0) : Type 0 where
  pub mid : D
  pub first : IsSyncedFirst reads may_leave moment left_since old mid
  pub after : LeavesOnly moment left_since mid new P

-- Whatever a crash left since the disk with this file was handed in is one of those that it might have left then, or is
-- opened as the file was.
pub record IsLikeGiven {D : Type 0} (may_leave : D → List ℕ → Type 0) (moment : D → ℕ) (left_since : D → ℕ → List ℕ → Type 0) (config : Configuration) (unit : ℕ) (file : List ℕ) (given now : D) : Type 0 where
  pub later : moment given ≤ moment now
  pub each : (c : List ℕ) → left_since now (moment given) c → may_leave given c ⊎ (opened config unit c ≡ opened config unit file)

-- ---- at any moment

-- it is opened as the first of these entries, so many at least
abbrev pub OpensAsFirst : Configuration → ℕ → ℕ → List Entry → List ℕ → Type 0
OpensAsFirst config unit least es c = (k : ℕ) × (least ≤ k) × (k ≤ length es) × (opened config unit c ≡ Ok (take k es))

-- At whatever moment a crash comes since the disk was handed in: until its first sync has ended it leaves what it might have
-- left then, and from then on a file that is opened as the first of these entries, so many at least.
pub record AlwaysOpens {D : Type 0} (reads : D → Option (List ℕ)) (may_leave : D → List ℕ → Type 0) (moment : D → ℕ) (left_since : D → ℕ → List ℕ → Type 0) (config : Configuration) (unit least : ℕ) (es : List Entry) (given now : D) : Type 0 where
  pub synced : D
  pub first : IsSyncedFirst reads may_leave moment left_since given synced
  pub later : moment synced ≤ moment now
  pub each : (c : List ℕ) → left_since now (moment synced) c → OpensAsFirst config unit least es c
