-- The words that ask for serving
use Rattle.std.specs.Prelude.{◌≡◌, ◌≢◌, ℕ, ◌≤◌, List, [], ◌∷◌, Some, slice_get, codes, decimal}

-- 1 to 256 sessions
abbrev pub AreSessions : ℕ → Type 0
AreSessions sessions = (1 ≤ sessions) × (sessions ≤ 256)

-- the word does not begin with `-`
abbrev pub IsPlain : List ℕ → Type 0
IsPlain word = slice_get word 0 ≢ Some 0x2d

-- this word, an address, and a number of sessions without a sign or a leading zero
pub record AreSessionWords (word : List ℕ) (words : List (List ℕ)) (sessions : ℕ) : Type 0 where
  pub address : List ℕ
  pub spelled : words ≡ word ∷ address ∷ decimal sessions ∷ []
  pub plain : IsPlain address
  pub few : AreSessions sessions

-- the same with a folder behind them, which has a name
pub record AreFolderWords (word : List ℕ) (words : List (List ℕ)) (sessions : ℕ) : Type 0 where
  pub address : List ℕ
  pub folder : List ℕ
  pub spelled : words ≡ word ∷ address ∷ decimal sessions ∷ folder ∷ []
  pub plain : IsPlain address × IsPlain folder
  pub named : folder ≢ []
  pub few : AreSessions sessions

-- `serve ADDRESS SESSIONS`
abbrev pub AreServeWords : List (List ℕ) → ℕ → Type 0
AreServeWords words sessions = AreSessionWords (codes "serve") words sessions

-- `serve ADDRESS SESSIONS FOLDER`
abbrev pub AreRecordWords : List (List ℕ) → ℕ → Type 0
AreRecordWords words sessions = AreFolderWords (codes "serve") words sessions

-- `store ADDRESS SESSIONS FOLDER`
abbrev pub AreStoreWords : List (List ℕ) → ℕ → Type 0
AreStoreWords words sessions = AreFolderWords (codes "store") words sessions

-- `manage ADDRESS FILE`
pub record AreManageWords (words : List (List ℕ)) : Type 0 where
  pub address : List ℕ
  pub file : List ℕ
  pub spelled : words ≡ codes "manage" ∷ address ∷ file ∷ []
  pub plain : IsPlain address × IsPlain file
  pub named : file ≢ []
