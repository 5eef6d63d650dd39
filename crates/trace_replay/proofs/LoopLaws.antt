-- What playing some bytes says of playing more
use Rattle.std.specs.Prelude.{◌≡◌, ℕ, ◌+◌, suc, List, [], ◌∷◌, ◌++◌, drop, true, ◌⊎◌, IsTrue, Option, Some, None}
use Rattle.std.specs.Io.KnownBytes.{Consumes, Appends}
use Rattle.cm_base.specs.Configuration.{Configuration}
use Rattle.cm_frame.specs.declared.item.TraceItem.{TraceItem}
use Rattle.cm_base.specs.declared.parsed.Parsed.TheVariants.{Whole}
use Rattle.cm_frame.specs.Reading.{read_item, read_header}
use Rattle.cmd_program.specs.Stepping.{Stepping}
use Rattle.trace_replay.specs.Items.{items_limit}
use Rattle.trace_replay.specs.ReplayState.{ReplayState, Shortage, after_item, item_fits, at_first}
use Rattle.trace_replay.specs.Played.{played, played_from, shortage_for, output_of}
use Rattle.trace_replay.specs.Shortages.{may_lack, is_allowed, met_want}
use Rattle.cm_base.specs.Outside.{IsBeginning}
use Rattle.trace_replay.specs.inner.Laws.{StandsAt}

-- the shortage of an item, where it has one
abbrev pub shortages_of : TraceItem → Shortage → List Shortage
shortages_of (TraceItem.Pump unit moment) shortage = []
shortages_of item shortage = shortage ∷ []

-- it begins so, when the header was read
abbrev pub BeginsSo : Stepping → Type 0
BeginsSo step = (buffered : List ℕ) (config : Configuration) (used : ℕ) → read_header buffered ≡ Whole config used
    → StandsAt step config buffered [] at_first items_limit used (drop used buffered)

-- more bytes come
abbrev pub GrowsSo : Stepping → Type 0
GrowsSo step = (config : Configuration) (pulled : List ℕ) (shortages : List Shortage) (s : ReplayState) (n place : ℕ) (buffered more : List ℕ)
    → StandsAt step config pulled shortages s n place buffered → StandsAt step config (pulled ++ more) shortages s n place (buffered ++ more)

-- an item of the buffer is played, with its shortage
abbrev pub StepsSo : Stepping → Type 0
StepsSo step = (config : Configuration) (pulled : List ℕ) (shortages : List Shortage) (s : ReplayState) (n place : ℕ) (buffered : List ℕ) (item : TraceItem) (used : ℕ) (shortage : Shortage)
    → StandsAt step config pulled shortages s (suc n) place buffered
    → read_item buffered ≡ Whole item used → item_fits config s item ≡ true → is_allowed step config s item (shortage_for item (shortage ∷ [])) ≡ true
    → StandsAt step config pulled (shortages ++ shortages_of item shortage) (after_item step config s item (shortage_for item (shortage ∷ []))) n (place + used) (drop used buffered)

-- what was output stays output
abbrev pub OutputGrows : Stepping → Type 0
OutputGrows step = (config : Configuration) (s : ReplayState) (n place : ℕ) (bytes : List ℕ) (shortages : List Shortage)
    → IsBeginning (output_of s) (output_of (played_from step config s n place bytes shortages).state)

-- what was pulled and written, and how things stand
pub record LoopStands (step : Stepping) (left rest taken given : Option (List ℕ)) (config : Configuration) (pulled : List ℕ) (shortages : List Shortage)
    (s : ReplayState) (n place : ℕ) (buffered : List ℕ) : Type 0 where
  pub consumed : Consumes left rest pulled
  pub stands : StandsAt step config pulled shortages s n place buffered
  pub written : Appends taken given (output_of s)

-- Where a shortage stands, a reply or a waiting command shows it.
abbrev pub ShortagesTell : Stepping → Type 0
ShortagesTell step = (bytes : List ℕ) (shortages : List Shortage) → may_lack step bytes shortages ≡ true
    → (played step bytes shortages ≡ played step bytes []) ⊎ IsTrue (met_want (played step bytes shortages).state)

-- the bytes that are left, where they are known
abbrev pub known : Option (List ℕ) → List ℕ
known None = []
known (Some bytes) = bytes
