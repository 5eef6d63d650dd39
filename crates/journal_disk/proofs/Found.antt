-- What a file with records is opened as
use Rattle.std.proofs.Common.{◌≡◌, ◌≢◌, ◌≤◌, ◌<◌, ℕ, zero, suc, ◌+◌, List, [], ◌∷◌, ◌++◌, length, take, drop, inl, inr, sym, ◌∙◌, ap, refl, arith, append_assoc, length-append, Option, Some, None, Result, Ok, Err, Bool, true, false, ltb, eqb}
use Rattle.std.specs.Prelude.{◌&&◌, not, bytes_eq, if◌then◌else◌}
use Rattle.std.proofs.lemmas.Bool.{lt-ltb, le-ltb, ne_eqb, eq-eqb, or_from, and_right, not_from_true}
use Rattle.std.proofs.lemmas.List.{take_at, drop_at}
use Rattle.std.proofs.lemmas.Slice.Eq.{bytes_eq-Decides}
use Rattle.cm_base.specs.Configuration.{Configuration}
use Rattle.cm_history.specs.declared.act.Entry.{Entry}
use Rattle.journal_disk.specs.Opened.{open_gate, begins_open, is_unmade, front_bytes, mark_bytes, entry_in, may_follow, allowed, told_size, payload_in, good_entry, with_first, and_later, entries_from, opened_behind, opened}
use Rattle.journal_disk.specs.Log.{framed, records, Holds}
use Rattle.journal_disk.specs.Journal.{last_stamp, Spells, AreSpelled}
use Rattle.journal_disk.specs.inner.NewFile.{IsEmpty}
use Rattle.journal_disk.proofs.Gates.{length-framed}
use Rattle.journal_disk.proofs.Told.{first-length, first-payload}

-- these in front
abbrev pub with_all : List Entry → Result (List Entry) ℕ → Result (List Entry) ℕ
with_all [] r = r
with_all (e ∷ es) r = with_first e (with_all es r)

with-all-ok : (es : List Entry) → with_all es (Ok []) ≡ Ok es
with-all-ok [] = refl
with-all-ok (e ∷ es) = ap (λ (r : Result (List Entry) ℕ). with_first e r) (with-all-ok es)

with-all-err : (es : List Entry) (place : ℕ) → with_all es (Err place) ≡ Err place
with-all-err [] place = refl
with-all-err (e ∷ es) place = ap (λ (r : Result (List Entry) ℕ). with_first e r) (with-all-err es place)

module _ (config : Configuration) (unit : ℕ) where
  -- ---- one record

  allowed-good : (last : ℕ) (p : List ℕ) (e : Entry) → entry_in p ≡ Some e → may_follow config unit last e ≡ true → allowed (may_follow config unit last) (entry_in p) ≡ Some e
  allowed-good last p e read may =
      ap (λ (o : Option Entry). allowed (may_follow config unit last) o) read ∙ ap (λ (b : Bool). if b then Some e else None) may

  pub good-is : (last : ℕ) (bytes p : List ℕ) (e : Entry) → 8 + told_size bytes < length bytes → payload_in bytes ≡ p → entry_in p ≡ Some e → may_follow config unit last e ≡ true
      → good_entry config unit last bytes ≡ Some e
  good-is last bytes p e long is read may =
      ap (λ (b : Bool). if b then allowed (may_follow config unit last) (entry_in (payload_in bytes)) else None) (lt-ltb (8 + told_size bytes) (length bytes) long)
      ∙ ap (λ (l : List ℕ). allowed (may_follow config unit last) (entry_in l)) is
      ∙ allowed-good last p e read may

  pub good-none : (last : ℕ) (bytes : List ℕ) → 8 + told_size bytes < length bytes → allowed (may_follow config unit last) (entry_in (payload_in bytes)) ≡ None → good_entry config unit last bytes ≡ None
  good-none last bytes long none =
      ap (λ (b : Bool). if b then allowed (may_follow config unit last) (entry_in (payload_in bytes)) else None) (lt-ltb (8 + told_size bytes) (length bytes) long) ∙ none

  pub good-short : (last : ℕ) (bytes : List ℕ) → length bytes ≤ 8 + told_size bytes → good_entry config unit last bytes ≡ None
  good-short last bytes short =
      ap (λ (b : Bool). if b then allowed (may_follow config unit last) (entry_in (payload_in bytes)) else None) (le-ltb (8 + told_size bytes) (length bytes) short)

  pub good-spelled : (last : ℕ) (p tail : List ℕ) (e : Entry) → Spells config unit last p e → 1 ≤ length tail → good_entry config unit last (framed p ++ tail) ≡ Some e
  good-spelled last p tail e spells some =
      let size = first-length p tail spells.0 in
      good-is last (framed p ++ tail) p e (omega (arith, size, length-append (framed p) tail, length-framed p)) (first-payload p tail spells.0) spells.1 spells.2

  -- ---- one step

  step : (n last place : ℕ) (bytes tail : List ℕ) (e : Entry) (size : ℕ) → good_entry config unit last bytes ≡ Some e → told_size bytes ≡ size → drop (8 + size) bytes ≡ tail
      → entries_from config unit (suc n) last place (open_gate ∷ bytes) ≡ with_first e (entries_from config unit n e.stamp (place + 9 + size) tail)
  step n last place bytes tail e size good counts left =
      ap (λ (o : Option Entry). and_later o (place + 1) (λ x. entries_from config unit n x.stamp (place + 9 + told_size bytes) (drop (8 + told_size bytes) bytes))) good
      ∙ ap (λ k. with_first e (entries_from config unit n e.stamp (place + 9 + k) (drop (8 + k) bytes))) counts
      ∙ ap (λ (l : List ℕ). with_first e (entries_from config unit n e.stamp (place + 9 + size) l)) left

  cut : (n last place : ℕ) (bytes : List ℕ) → good_entry config unit last bytes ≡ None → entries_from config unit (suc n) last place (open_gate ∷ bytes) ≡ Err (place + 1)
  cut n last place bytes none =
      ap (λ (o : Option Entry). and_later o (place + 1) (λ x. entries_from config unit n x.stamp (place + 9 + told_size bytes) (drop (8 + told_size bytes) bytes))) none

  ended : (n last place gate : ℕ) (rest : List ℕ) → gate ≢ open_gate → entries_from config unit (suc n) last place (gate ∷ rest) ≡ Ok []
  ended n last place gate rest shut =
      ap (λ (b : Bool). if b then and_later (good_entry config unit last rest) (place + 1) (λ e. entries_from config unit n e.stamp (place + 9 + told_size rest) (drop (8 + told_size rest) rest)) else Ok [])
      (ne_eqb gate open_gate shut)

  -- ---- all records

  walk : (n : ℕ) (ps : List (List ℕ)) (es : List Entry) (last place gate : ℕ) (rest : List ℕ) (r : Result (List Entry) ℕ) → AreSpelled config unit last ps es → length (records ps) + 1 ≤ n
      → ((m : ℕ) → entries_from config unit (suc m) (last_stamp last es) (place + length (records ps)) (gate ∷ rest) ≡ r)
      → entries_from config unit n last place (records ps ++ (gate ∷ rest)) ≡ with_all es r
  walk zero ps es last place gate rest r spelled fits ends = absurd (omega (arith, fits))
  walk (suc n) [] [] last place gate rest r spelled fits ends =
      let same : place + 0 ≡ place = omega arith in
      ap (λ k. entries_from config unit (suc n) last k (gate ∷ rest)) (sym same) ∙ ends n
  walk (suc n) [] (e ∷ es) last place gate rest r spelled fits ends = absurd spelled
  walk (suc n) (p ∷ ps) [] last place gate rest r spelled fits ends = absurd spelled
  walk (suc n) (p ∷ ps) (e ∷ es) last place gate rest r spelled fits ends =
      let tail = records ps ++ (gate ∷ rest) in
      let some : 1 ≤ length tail = omega (arith, length-append (records ps) (gate ∷ rest)) in
      let all : length (records (p ∷ ps)) ≡ 9 + length p + length (records ps) = omega (arith, length-append (framed p) (records ps), length-framed p) in
      let place_is : place + length (records (p ∷ ps)) ≡ place + 9 + length p + length (records ps) = omega (arith, all) in
      ap (λ (l : List ℕ). entries_from config unit (suc n) last place (open_gate ∷ l)) (append_assoc (framed p) (records ps) (gate ∷ rest))
      ∙ step n last place (framed p ++ tail) tail e (length p) (good-spelled last p tail e spelled.0 some) (first-length p tail spelled.0.0) (drop_at (framed p) tail (8 + length p) (length-framed p))
      ∙ ap (λ (x : Result (List Entry) ℕ). with_first e x)
      (walk n ps es e.stamp (place + 9 + length p) gate rest r spelled.1 (omega (arith, fits, all))
      (λ m. ap (λ k. entries_from config unit (suc m) (last_stamp e.stamp es) k (gate ∷ rest)) (sym place_is) ∙ ends m))

  -- ---- the front

  pub made-is : (front c : List ℕ) → is_unmade front c ≡ false → begins_open c ≡ true → bytes_eq (take (length front) c) front ≡ true
      → opened_behind config unit front c ≡ entries_from config unit (length c) 0 (length front) (drop (length front) c)
  made-is front c made is_open same =
      ap (λ (b : Bool). if b then Ok [] else if not (begins_open c) then Err 0 else if not (bytes_eq (take (length front) c) front) then Err 1 else entries_from config unit (length c) 0 (length front) (drop (length front) c)) made
      ∙ ap (λ (b : Bool). if not b then Err 0 else if not (bytes_eq (take (length front) c) front) then Err 1 else entries_from config unit (length c) 0 (length front) (drop (length front) c)) is_open
      ∙ ap (λ (b : Bool). if not b then Err 1 else entries_from config unit (length c) 0 (length front) (drop (length front) c)) same

  pub unmade-is : (front c : List ℕ) → is_unmade front c ≡ true → opened_behind config unit front c ≡ Ok []
  unmade-is front c unmade =
      ap (λ (b : Bool). if b then Ok [] else if not (begins_open c) then Err 0 else if not (bytes_eq (take (length front) c) front) then Err 1 else entries_from config unit (length c) 0 (length front) (drop (length front) c)) unmade

  pub shut-is : (front c : List ℕ) → is_unmade front c ≡ false → begins_open c ≡ false → opened_behind config unit front c ≡ Err 0
  shut-is front c made shut =
      ap (λ (b : Bool). if b then Ok [] else if not (begins_open c) then Err 0 else if not (bytes_eq (take (length front) c) front) then Err 1 else entries_from config unit (length c) 0 (length front) (drop (length front) c)) made
      ∙ ap (λ (b : Bool). if not b then Err 0 else if not (bytes_eq (take (length front) c) front) then Err 1 else entries_from config unit (length c) 0 (length front) (drop (length front) c)) shut

  pub other-is : (front c : List ℕ) → is_unmade front c ≡ false → begins_open c ≡ true → bytes_eq (take (length front) c) front ≡ false → opened_behind config unit front c ≡ Err 1
  other-is front c made is_open other =
      ap (λ (b : Bool). if b then Ok [] else if not (begins_open c) then Err 0 else if not (bytes_eq (take (length front) c) front) then Err 1 else entries_from config unit (length c) 0 (length front) (drop (length front) c)) made
      ∙ ap (λ (b : Bool). if not b then Err 0 else if not (bytes_eq (take (length front) c) front) then Err 1 else entries_from config unit (length c) 0 (length front) (drop (length front) c)) is_open
      ∙ ap (λ (b : Bool). if not b then Err 1 else entries_from config unit (length c) 0 (length front) (drop (length front) c)) other

  pub long-made : (front c : List ℕ) → length front < length c → begins_open c ≡ true → is_unmade front c ≡ false
  long-made front c long is_open =
      or_from (ltb (length c) (length front + 1)) (eqb (length c) (length front + 1) && not (begins_open c)) (le-ltb (length c) (length front + 1) (omega (arith, long)))
      (and_right (eqb (length c) (length front + 1)) (not (begins_open c)) (not_from_true (begins_open c) is_open))

  pub first-open : (mark c : List ℕ) → take (length (open_gate ∷ mark)) c ≡ open_gate ∷ mark → begins_open c ≡ true
  first-open mark [] same = absurd (omega (arith, ap length same))
  first-open mark (x ∷ xs) same = let first : x ≡ open_gate = cc same in eq-eqb x open_gate first

  pub front-is : (mark c : List ℕ) → take (length (open_gate ∷ mark)) c ≡ open_gate ∷ mark → length (open_gate ∷ mark) < length c
      → opened_behind config unit (open_gate ∷ mark) c ≡ entries_from config unit (length c) 0 (length (open_gate ∷ mark)) (drop (length (open_gate ∷ mark)) c)
  front-is mark c same long =
      let is_open = first-open mark c same in
      made-is (open_gate ∷ mark) c (long-made (open_gate ∷ mark) c long is_open) is_open ((bytes_eq-Decides (take (length (open_gate ∷ mark)) c) (open_gate ∷ mark)).1 same)

  -- ---- the whole file

  pub behind-front : (ps : List (List ℕ)) (es : List Entry) (gate : ℕ) (rest c : List ℕ) (r : Result (List Entry) ℕ) → AreSpelled config unit 0 ps es → c ≡ front_bytes config unit ++ records ps ++ (gate ∷ rest)
      → ((m : ℕ) → entries_from config unit (suc m) (last_stamp 0 es) (length (front_bytes config unit) + length (records ps)) (gate ∷ rest) ≡ r)
      → opened config unit c ≡ with_all es r
  behind-front ps es gate rest c r spelled is ends =
      let front = front_bytes config unit in
      let parts : c ≡ front ++ (records ps ++ (gate ∷ rest)) = is ∙ append_assoc front (records ps) (gate ∷ rest) in
      let long : length c ≡ length front + (length (records ps) + (1 + length rest)) = omega (arith, ap length parts, length-append front (records ps ++ (gate ∷ rest)), length-append (records ps) (gate ∷ rest)) in
      let begins : take (length front) c ≡ front = ap (λ (l : List ℕ). take (length front) l) parts ∙ take_at front (records ps ++ (gate ∷ rest)) (length front) refl in
      let behind : drop (length front) c ≡ records ps ++ (gate ∷ rest) = ap (λ (l : List ℕ). drop (length front) l) parts ∙ drop_at front (records ps ++ (gate ∷ rest)) (length front) refl in
      front-is (mark_bytes config unit) c begins (omega (arith, long))
      ∙ ap (λ (l : List ℕ). entries_from config unit (length c) 0 (length front) l) behind
      ∙ walk (length c) ps es 0 (length front) gate rest r spelled (omega (arith, long)) ends

  pub holds-opens : (ps : List (List ℕ)) (es : List Entry) (c : List ℕ) → AreSpelled config unit 0 ps es → Holds (front_bytes config unit) ps c → opened config unit c ≡ Ok es
  holds-opens ps es c spelled holds =
      behind-front ps es holds.gate holds.rest c (Ok []) spelled holds.is
      (λ m. ended m (last_stamp 0 es) (length (front_bytes config unit) + length (records ps)) holds.gate holds.rest holds.shut)
      ∙ with-all-ok es

  pub cut-is-bad : (ps : List (List ℕ)) (es : List Entry) (rest c : List ℕ) → AreSpelled config unit 0 ps es → c ≡ front_bytes config unit ++ records ps ++ (open_gate ∷ rest) → good_entry config unit (last_stamp 0 es) rest ≡ None
      → opened config unit c ≡ Err (length (front_bytes config unit) + length (records ps) + 1)
  cut-is-bad ps es rest c spelled is none =
      let place = length (front_bytes config unit) + length (records ps) in
      behind-front ps es open_gate rest c (Err (place + 1)) spelled is (λ m. cut m (last_stamp 0 es) place rest none)
      ∙ with-all-err es (place + 1)

  pub empty-opens : (c : List ℕ) → IsEmpty (mark_bytes config unit) c → opened config unit c ≡ Ok []
  empty-opens c (inl unmade) = unmade-is (front_bytes config unit) c unmade
  empty-opens c (inr holds) = holds-opens [] [] c tt holds
