-- What is read as an entry was spelled so
use Rattle.std.proofs.Common.{◌≡◌, ℕ, zero, suc, ◌+◌, ◌-◌, ◌^◌, ◌<◌, ◌≤◌, List, [], ◌∷◌, ◌++◌, length, take, drop, refl, ap, sym, ◌∙◌, subst, arith, true, false, Bool, take-add}
use Rattle.std.specs.Prelude.{nat_lt, ◌==◌, if◌then◌else◌, flat_map, All}
use Rattle.std.proofs.lemmas.Bool.{ltb-false, eqb-true}
use Rattle.std.proofs.lemmas.Bool.Decides.{nat_tests}
use Rattle.std.proofs.lemmas.List.{length-drop}
use Rattle.std.proofs.lemmas.List.Elements.{All-drop}
use Rattle.byteorder.specs.Endian.{big_from, big_bytes}
use Rattle.cm_base.specs.declared.parsed.Parsed.{Parsed}
use Rattle.cm_base.specs.declared.parsed.Parsed.TheVariants.{Whole, Short, Bad}
use Rattle.cm_base.specs.Fields.{field, AreBytes}
use Rattle.cm_base.proofs.PublicLaws.{bytes-part, field-fits, field-spelled, length-part}
use Rattle.recorder.specs.Cursor.{after, done, tested, number, some_bytes, repeated}
use Rattle.recorder.proofs.Chains.{whole-of}

-- what a reader that gives a value owes: the value has P with the bytes that it took
pub record Reads {A : Type 0} (P : A → List ℕ → Type 0) (read : List ℕ → Parsed A) : Type 0 where
  pub each : (bytes : List ℕ) (x : A) (used : ℕ) → AreBytes bytes → read bytes ≡ Whole x used → (used ≤ length bytes) × P x (take used bytes)

-- every number is allowed
abbrev pub any : ℕ → Bool
any n = true

-- a field and what is behind it
pub after-reads : {A B : Type 0} (read : List ℕ → Parsed A) (next : A → List ℕ → Parsed B) (P : A → List ℕ → Type 0) (Q : B → List ℕ → Type 0)
    → Reads P read → ((x : A) (t : List ℕ) → P x t → Reads (λ y u. Q y (t ++ u)) (next x)) → Reads Q (λ bytes. after (read bytes) bytes next)
after-reads {A} {B} read next P Q first second = record { each = λ bytes y used all e. go bytes y used all (read bytes) refl e }
  where
    go : (bytes : List ℕ) (y : B) (used : ℕ) → AreBytes bytes → (p : Parsed A) → read bytes ≡ p → after p bytes next ≡ Whole y used → (used ≤ length bytes) × Q y (take used bytes)
    go bytes y used all (Whole x n) f h =
        let one = first.each bytes x n all f in
        let m = whole-of n (next x (drop n bytes)) y used h in
        let two = (second x (take n bytes) one.1).each (drop n bytes) y m.0 (All-drop (λ b. b < 256) n bytes all) m.1 in
        let count : n + m.0 ≡ used = sym m.2 in
        let is : take n bytes ++ take m.0 (drop n bytes) ≡ take used bytes = sym (take-add n m.0 bytes) ∙ ap (λ k. take k bytes) count in
        (omega (arith, one.0, two.0, length-drop n bytes, count), subst (Q y) is two.1)
    go bytes y used all Short f h = cc
    go bytes y used all (Bad at) f h = cc

-- the last field
pub last-reads : {A B : Type 0} (read : List ℕ → Parsed A) (make : A → B) (P : A → List ℕ → Type 0) (Q : B → List ℕ → Type 0)
    → Reads P read → ((x : A) (t : List ℕ) → P x t → Q (make x) t) → Reads Q (λ bytes. after (read bytes) bytes (λ z rest. done (make z)))
last-reads {A} {B} read make P Q first to = record { each = λ bytes y used all e. go bytes y used all (read bytes) refl e }
  where
    go : (bytes : List ℕ) (y : B) (used : ℕ) → AreBytes bytes → (p : Parsed A) → read bytes ≡ p → after p bytes (λ z rest. done (make z)) ≡ Whole y used → (used ≤ length bytes) × Q y (take used bytes)
    go bytes y used all (Whole x n) f h =
        let one = first.each bytes x n all f in
        let same : make x ≡ y = cc in
        let count : n + 0 ≡ used = cc in
        let is : n ≡ used = omega (arith, count) in
        (omega (arith, one.0, count), subst (λ z. Q z (take used bytes)) same (subst (λ k. Q (make x) (take k bytes)) is (to x (take n bytes) one.1)))
    go bytes y used all Short f h = cc
    go bytes y used all (Bad at) f h = cc

pub done-reads : {A : Type 0} (x : A) (Q : A → List ℕ → Type 0) → Q x [] → Reads Q (λ bytes. done x)
done-reads {A} x Q has = record { each = go }
  where
    go : (bytes : List ℕ) (y : A) (used : ℕ) → AreBytes bytes → done x ≡ Whole y used → (used ≤ length bytes) × Q y (take used bytes)
    go bytes y used all e =
        let same : x ≡ y = cc in
        let count : 0 ≡ used = cc in
        (omega (arith, count), subst (λ z. Q z (take used bytes)) same (subst (λ k. Q x (take k bytes)) count has))

-- ---- numbers

-- a number that the test allows, and its bytes
pub record IsField (test : ℕ → Bool) (width n : ℕ) (t : List ℕ) : Type 0 where
  pub allowed : test n ≡ true
  pub fits : n < 256 ^ width
  pub is : t ≡ big_bytes width n

guard-whole : {A : Type 0} (n : ℕ) (a : List ℕ) (y : Parsed A) (x : A) (used : ℕ) → (if nat_lt (length a) n then Short else y) ≡ Whole x used → (n ≤ length a) × (y ≡ Whole x used)
guard-whole {A} n a y x used e = go (nat_lt (length a) n) refl e
  where
    go : (t : Bool) → nat_lt (length a) n ≡ t → (if t then Short else y) ≡ Whole x used → (n ≤ length a) × (y ≡ Whole x used)
    go true s k = cc
    go false s k = (ltb-false (length a) n s, k)

test-whole : (t : Bool) (m width n used : ℕ) → (if t then Whole m width else Bad 0) ≡ Whole n used → (t ≡ true) × (m ≡ n) × (width ≡ used)
test-whole true m width n used e = (refl, cc, cc)
test-whole false m width n used e = cc

tested-each : (test : ℕ → Bool) (width : ℕ) → 0 < width → (bytes : List ℕ) (n used : ℕ) → AreBytes bytes → tested test width bytes ≡ Whole n used → (used ≤ length bytes) × IsField test width n (take used bytes)
tested-each test width some bytes n used all e =
    let w : suc (width - 1) - 0 ≡ width = omega (arith, some) in
    let there = guard-whole width bytes (if test (field bytes 0 (width - 1)) then Whole (field bytes 0 (width - 1)) width else Bad 0) n used e in
    let found = test-whole (test (field bytes 0 (width - 1))) (field bytes 0 (width - 1)) width n used there.1 in
    let read : big_from 0 width bytes ≡ n = ap (λ k. big_from 0 k bytes) (sym w) ∙ found.1 in
    let small : n < 256 ^ width = subst (λ m. m < 256 ^ width) read (field-fits 0 width bytes all) in
    let text : take used bytes ≡ big_bytes width n = ap (λ k. take k bytes) (sym found.2) ∙ sym (field-spelled 0 width bytes all (omega (arith, there.0))) ∙ ap (big_bytes width) read in
    (omega (arith, there.0, found.2), record { allowed = ap test (sym found.1) ∙ found.0; fits = small; is = text })

pub tested-reads : (test : ℕ → Bool) (width : ℕ) → 0 < width → Reads (IsField test width) (tested test width)
tested-reads test width some = record { each = tested-each test width some }

pub number-reads : (width : ℕ) → 0 < width → Reads (IsField any width) (number width)
number-reads width some = tested-reads any width some

-- a byte that the test allows
pub record IsByte (test : ℕ → Bool) (n : ℕ) (t : List ℕ) : Type 0 where
  pub allowed : test n ≡ true
  pub fits : n < 256
  pub is : t ≡ n ∷ []

byte-each : (test : ℕ → Bool) (bytes : List ℕ) (n used : ℕ) → AreBytes bytes → tested test 1 bytes ≡ Whole n used → (used ≤ length bytes) × IsByte test n (take used bytes)
byte-each test [] n used all e = cc
byte-each test (b ∷ rest) n used all e =
    let there = guard-whole 1 (b ∷ rest) (if test (field (b ∷ rest) 0 0) then Whole (field (b ∷ rest) 0 0) 1 else Bad 0) n used e in
    let found = test-whole (test (field (b ∷ rest) 0 0)) (field (b ∷ rest) 0 0) 1 n used there.1 in
    let first : field (b ∷ rest) 0 0 ≡ b = omega arith in
    let same : b ≡ n = sym first ∙ found.1 in
    let low : b < 256 = all 0 b (omega arith) in
    let text : take used (b ∷ rest) ≡ n ∷ [] = ap (λ k. take k (b ∷ rest)) (sym found.2) ∙ ap (λ m. m ∷ []) same in
    (omega (arith, there.0, found.2), record { allowed = ap test (sym found.1) ∙ found.0; fits = omega (arith, low, same); is = text })

pub byte-reads : (test : ℕ → Bool) → Reads (IsByte test) (tested test 1)
byte-reads test = record { each = byte-each test }

-- bytes that nothing judges
pub record AreSome (n : ℕ) (x t : List ℕ) : Type 0 where
  pub is : t ≡ x
  pub count : length x ≡ n
  pub small : AreBytes x

bytes-each : (n : ℕ) (bytes x : List ℕ) (used : ℕ) → AreBytes bytes → some_bytes n bytes ≡ Whole x used → (used ≤ length bytes) × AreSome n x (take used bytes)
bytes-each n bytes x used all e =
    let there = guard-whole n bytes (Whole (take n bytes) n) x used e in
    let same : take n bytes ≡ x = (let h = there.1 in cc) in
    let count : n ≡ used = (let h = there.1 in cc) in (
      omega (arith, there.0, count),
      record {
        is = ap (λ k. take k bytes) (sym count) ∙ same;
        count = ap length (sym same) ∙ length-part 0 n bytes (omega (arith, there.0));
        small = subst AreBytes same (bytes-part 0 n bytes all);
      },
    )

pub bytes-reads : (n : ℕ) → Reads (AreSome n) (some_bytes n)
bytes-reads n = record { each = bytes-each n }

-- ---- the same field many times

pub record AreSpelt {A : Type 0} (Fits : A → Type 0) (spelling : A → List ℕ) (n : ℕ) (xs : List A) (t : List ℕ) : Type 0 where
  pub count : length xs ≡ n
  pub fit : All Fits xs
  pub is : t ≡ flat_map spelling xs

-- the value may be spelled, and these bytes spell it
abbrev pub IsSpelt : {A : Type 0} → (A → Type 0) → (A → List ℕ) → A → List ℕ → Type 0
IsSpelt {A} Fits spelling x t = Fits x × (t ≡ spelling x)

all-more : {A : Type 0} (Fits : A → Type 0) (x : A) (xs : List A) → Fits x → All Fits xs → All Fits (x ∷ xs)
all-more {A} Fits x xs fits all zero d h = fits
all-more {A} Fits x xs fits all (suc k) d h = all k d (omega arith)

pub repeated-reads : {A : Type 0} (Fits : A → Type 0) (spelling : A → List ℕ) (read : List ℕ → Parsed A) (n : ℕ) → Reads (IsSpelt Fits spelling) read
    → Reads (AreSpelt Fits spelling n) (repeated read n)
repeated-reads {A} Fits spelling read zero one = done-reads [] (AreSpelt Fits spelling 0) (record { count = refl; fit = λ k d h. absurd (omega arith); is = refl })
repeated-reads {A} Fits spelling read (suc n) one =
    after-reads read _ (IsSpelt Fits spelling) _ one (λ x t p. last-reads (repeated read n) (λ xs. x ∷ xs) (AreSpelt Fits spelling n) _ (repeated-reads Fits spelling read n one)
    (λ xs u q. record { count = ap suc q.count; fit = all-more Fits x xs p.0 q.fit; is = ap (λ l. l ++ u) p.1 ∙ ap (λ l. spelling x ++ l) q.is }))

-- ---- one of two readers, by a code

pub either-reads : {A : Type 0} (P : A → List ℕ → Type 0) (code k : ℕ) (read other : List ℕ → Parsed A) → k ≤ code → (code ≡ k → Reads P read) → (suc k ≤ code → Reads P other)
    → Reads P (λ bytes. if code == k then read bytes else other bytes)
either-reads {A} P code k read other low this more = go (code == k) refl
  where
    go : (t : Bool) → (code == k) ≡ t → Reads P (λ bytes. if t then read bytes else other bytes)
    go true e = this (eqb-true code k e)
    go false e = more (grind (arith, nat_tests))
