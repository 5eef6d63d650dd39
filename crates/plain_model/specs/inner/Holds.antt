-- What the plain answers know of a past whose entries are within their limits
use Rattle.std.specs.Prelude.{◌≡◌, ℕ, ◌<◌, ◌≤◌, ◌^◌, List, [], ◌∷◌, length, map, Bool, true, false, Option, Some, None, IsTrue, ⊤}
use Rattle.lba_ranges.specs.declared.ranges.Range.{Range}
use Rattle.lba_ranges.specs.Denoted.{total, is_within}
use Rattle.lba_ranges.specs.HeldBlocks.{AllSized}
use Rattle.lba_ranges.specs.Writings.{Held, Writing}
use Rattle.cm_history.specs.declared.act.Act.{Act}
use Rattle.cm_history.specs.Deeds.{Deed, is_answered}
use Rattle.cm_history.specs.Operations.{Operation, written, list_of, operations, kept, operation_after, made_operation, makes_operation}
use Rattle.cm_history.specs.Tokens.{tokens}

-- each mapped block has so many bytes
abbrev pub AreSized : ℕ → (ℕ → Held) → Type 0
AreSized size held = (block : ℕ) (bytes : List ℕ) → held block ≡ Some bytes → length bytes ≡ size

abbrev pub AllWritingsSized : ℕ → List Writing → Type 0
AllWritingsSized size [] = ⊤
AllWritingsSized size (w ∷ ws) = ((bytes : List ℕ) → w.held ≡ Some bytes → length bytes ≡ size) × AllWritingsSized size ws

-- all that was written has so many bytes
abbrev pub IsSizedPast : ℕ → List Deed → Type 0
IsSizedPast size [] = ⊤
IsSizedPast size (d ∷ past) = AllWritingsSized size d.wrote × IsSizedPast size past

-- a token that a unit may make
pub record IsSoundToken (serial : ℕ) (ranges : List Range) : Type 0 where
  pub low : serial < 2 ^ 48
  pub few : total ranges ≤ 1_048_576
  pub numbers : IsTrue (is_within (2 ^ 64) ranges)

-- the token that the deed makes of this act is such a one
abbrev pub MadeSound : Deed → ℕ → Act → Type 0
MadeSound d serial (Act.Populate id timeout ranges) = is_answered d ≡ true → IsSoundToken serial ranges
MadeSound d serial _ = Unit {0}

-- the one, or none
abbrev pub listed : {X : Type 0} → Option X → List X
listed None = []
listed (Some x) = x ∷ []

-- an act whose operation counts few blocks
abbrev pub IsSoundAct : Act → Type 0
IsSoundAct (Act.Populate id timeout ranges) = total ranges ≤ 1_048_576
IsSoundAct (Act.Start id background ranges rod) = (length rod.items ≤ 1_048_576) × IsTrue (is_within (2 ^ 64) ranges)
IsSoundAct _ = Unit {0}

-- an operation that has written no more than its list
pub record IsSoundOperation (o : Operation) : Type 0 where
  pub act : IsSoundAct o.made.entry.act
  pub begun : length (written o) ≤ length (list_of o.made.entry.act)

abbrev pub AllSound : List Operation → Type 0
AllSound [] = ⊤
AllSound (o ∷ os) = IsSoundOperation o × AllSound os

-- the deed may follow the past: its token and the operations after it are sound
pub record MayFollow (past : List Deed) (d : Deed) : Type 0 where
  pub token : MadeSound d (length (tokens past)) d.entry.act
  pub served : AllSound (map (operation_after d) (operations past))
  pub recorded : AllSound (map (operation_after d) (kept past))
  pub made : makes_operation d ≡ true → IsSoundOperation (made_operation d)

-- an act that writes blocks
abbrev pub writes : Act → Bool
writes (Act.Write lba list) = true
writes (Act.Put lba list) = true
writes (Act.Unmap ranges) = true
writes (Act.Advance id) = true
writes Act.Pump = true
writes _ = false

-- the blocks of an act have its block length
abbrev pub IsSizedAct : Act → Type 0
IsSizedAct (Act.Write lba list) = AllSized list.block_length list.items
IsSizedAct (Act.Put lba list) = AllSized list.block_length list.items
IsSizedAct (Act.Start id background ranges rod) = AllSized rod.block_length rod.items
IsSizedAct _ = Unit {0}
