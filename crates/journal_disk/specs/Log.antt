-- Records behind gates: what stands in a file, whatever a crash made of it
use Rattle.std.specs.Prelude.{◌≡◌, ◌≢◌, ◌⊎◌, ◌≤◌, ℕ, List, [], ◌∷◌, ◌++◌, length, take, Option, Some, None, is_some, true}
use Rattle.byteorder.specs.Endian.{big_bytes}
use Rattle.journal_disk.specs.Opened.{open_gate, is_unmade}
use Rattle.journal_disk.specs.declared.log.Log.{Log}

-- a record without its gates: its length in eight bytes, and its bytes
abbrev pub framed : List ℕ → List ℕ
framed payload = big_bytes 8 (length payload) ++ payload

-- these records, each behind an open gate
abbrev pub records : List (List ℕ) → List ℕ
records [] = []
records (p ∷ ps) = open_gate ∷ (framed p ++ records ps)

-- these bytes, then a gate that is not open, then anything
pub record EndsBehind (bytes c : List ℕ) : Type 0 where
  pub gate : ℕ
  pub rest : List ℕ
  pub shut : gate ≢ open_gate
  pub is : c ≡ bytes ++ (gate ∷ rest)

-- these bytes, then any gate, then a whole record with its closed gate, then anything
pub record HasNext (bytes payload c : List ℕ) : Type 0 where
  pub gate : ℕ
  pub rest : List ℕ
  pub is : c ≡ bytes ++ (gate ∷ (framed payload ++ (0 ∷ rest)))

-- up to its first gate that is not open, the file has these records
abbrev pub Holds : List ℕ → List (List ℕ) → List ℕ → Type 0
Holds front ps c = EndsBehind (front ++ records ps) c

-- behind these bytes no record, or one whose gate's opening was begun
abbrev pub Behind : List ℕ → Option (List ℕ) → List ℕ → Type 0
Behind bytes None c = EndsBehind bytes c
Behind bytes (Some payload) c = HasNext bytes payload c

-- it is told
abbrev pub IsTold : Option (List ℕ) → Type 0
IsTold reads = (file : List ℕ) × (reads ≡ Some file)

-- The file has these records; of one more the opening was begun, or of none.
pub record IsKept {D : Type 0} (reads : D → Option (List ℕ)) (may_leave : D → List ℕ → Type 0) (front : List ℕ) (ps : List (List ℕ)) (last : Option (List ℕ)) (log : Log D) : Type 0 where
  pub told : IsTold (reads log.disk)
  pub gate : log.gate ≡ length (front ++ records ps)
  pub begun : log.begun ≡ is_some last
  pub images : (c : List ℕ) → may_leave log.disk c → Behind (front ++ records ps) last c

-- the recorded ones, or these and one more, which is this one or the one whose opening was begun before
abbrev pub HoldsOrOneMore : List ℕ → List (List ℕ) → Option (List ℕ) → List ℕ → List ℕ → Type 0
HoldsOrOneMore front ps last payload c =
    Holds front ps c ⊎ ((p : List ℕ) × ((p ≡ payload) ⊎ (last ≡ Some p)) × Holds front (ps ++ (p ∷ [])) c)

-- the record whose opening was begun is the one of before, or this one, or there is none
abbrev pub IsTried : {A : Type 0} → Option A → A → Option A → Type 0
IsTried {A} last x next = (next ≡ None) ⊎ (next ≡ last) ⊎ (next ≡ Some x)

-- It has the first of these records and no more, so many at least; it may be a file that is made new where none are asked.
abbrev pub HoldsFirst : List ℕ → ℕ → List (List ℕ) → List ℕ → Type 0
HoldsFirst front least ps c =
    ((is_unmade front c ≡ true) × (least ≡ 0)) ⊎ ((k : ℕ) × (least ≤ k) × (k ≤ length ps) × Holds front (take k ps) c)
