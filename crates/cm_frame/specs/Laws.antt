-- What reading and spelling owe each other
use Rattle.std.specs.Prelude.{◌≡◌, ℕ, ◌≤◌, List, ◌++◌, length, take}
use Rattle.cm_base.specs.declared.parsed.Parsed.{Parsed}
use Rattle.cm_base.specs.declared.parsed.Parsed.TheVariants.{Whole, Short}
use Rattle.cm_base.specs.Fields.{AreBytes}

-- what holds of a whole value and the number of bytes that spell it
abbrev pub IfWhole : {A : Type 0} → Parsed A → (A → ℕ → Type 0) → Type 0
IfWhole {A} (Whole x used) P = P x used
IfWhole {A} _ P = Unit {0}

-- what is spelled is read, whatever follows it
abbrev pub IsReadBack : {A : Type 0} → (A → Type 0) → (A → List ℕ) → (List ℕ → Parsed A) → Type 0
IsReadBack {A} Fits spelling read =
    (x : A) (rest : List ℕ) → Fits x → read (spelling x ++ rest) ≡ Whole x (length (spelling x))

-- what is read was spelled so, each byte of it
abbrev pub IsSpelledSo : {A : Type 0} → (A → Type 0) → (A → List ℕ) → (List ℕ → Parsed A) → Type 0
IsSpelledSo {A} Fits spelling read =
    (bytes : List ℕ) (x : A) (used : ℕ) → AreBytes bytes → read bytes ≡ Whole x used
    → Fits x × (used ≤ length bytes) × (take used bytes ≡ spelling x)

-- no spelling begins another, and no two values have one spelling
abbrev pub NoneBegins : {A : Type 0} → (A → Type 0) → (A → List ℕ) → Type 0
NoneBegins {A} Fits spelling =
    (x y : A) (rest more : List ℕ) → Fits x → Fits y → spelling x ++ rest ≡ spelling y ++ more → (x ≡ y) × (rest ≡ more)

-- what was judged stays judged so, whatever comes behind
abbrev pub IsJudged : {A : Type 0} → Parsed A → Type 0
IsJudged Short = ⊥
IsJudged _ = Unit {0}

abbrev pub StaysJudged : {A : Type 0} → (List ℕ → Parsed A) → Type 0
StaysJudged {A} read = (bytes more : List ℕ) → IsJudged (read bytes) → read (bytes ++ more) ≡ read bytes
