-- How a player stands for what was pulled and written.
use Rattle.std.specs.Prelude.{◌≡◌, ℕ, ◌+◌, ◌-◌, ◌*◌, ◌<◌, ◌≤◌, List, [], ◌++◌, length, Option, Some, None, Bool, true, false, ◌⊎◌}
use Rattle.std.specs.Io.KnownBytes.{Consumes, IsAtEnd}
use Rattle.cm_base.specs.Configuration.{Configuration}
use Rattle.cm_base.specs.declared.parsed.Parsed.TheVariants.{Whole, Short}
use Rattle.cm_frame.specs.Reading.{read_item}
use Rattle.cmd_program.specs.Judging.{step}
use Rattle.trace_replay.specs.declared.player.Player.{Player}
use Rattle.trace_replay.specs.declared.player.Found.{Found}
use Rattle.trace_replay.specs.Items.{BadRecord, items_limit}
use Rattle.trace_replay.specs.ReplayState.{ReplayState, Shortage}
use Rattle.trace_replay.specs.Played.{played_from, output_of, summary_of}
use Rattle.trace_replay.specs.inner.Laws.{StandsAt}
use Rattle.trace_replay.specs.inner.Machines.{IsStanding}
use Rattle.trace_replay.specs.inner.Writing.{IsWritten}

-- what was pulled and written, and how things stand, where `n` more items are allowed, the bytes of `input` were pulled
-- and not used, and those of `output` were not pushed
pub record IsLoopAt (left rest taken given : Option (List ℕ)) (config : Configuration) (s : ReplayState) (n place : ℕ) (input output : List ℕ) : Type 0 where
  pub pulled : List ℕ
  pub shortages : List Shortage
  pub consumed : Consumes left rest pulled
  pub stands : StandsAt step config pulled shortages s n place input
  pub written : IsWritten taken given output (output_of s)

-- nothing was counted beyond its limit
pub record AreFew (s : ReplayState) : Type 0 where
  pub items : s.items ≤ items_limit
  pub replies : length s.replies ≤ s.items
  pub bytes : length (output_of s) ≤ 8_388_618 * s.items

-- the items that are still allowed
abbrev pub left_of : Player → ℕ
left_of p = items_limit - p.summary.records

pub record IsAt (left rest taken given : Option (List ℕ)) (p : Player) : Type 0 where
  pub config : Configuration
  pub s : ReplayState
  pub loop : IsLoopAt left rest taken given config s (left_of p) p.place p.input p.output
  pub machine : IsStanding config s p.machine
  pub summary : p.summary ≡ summary_of s
  pub few : AreFew s
  pub place : p.place ≤ 1024 + 8_388_643 * s.items

-- it stands so for some input and output
abbrev pub IsPlayer : Player → Type 0
IsPlayer p = IsAt None None None None p

-- what is pulled ends between two items, or in one
pub record NeedsMore (n : ℕ) (input : List ℕ) : Type 0 where
  pub short : read_item input ≡ Short
  pub open_end : (input ≡ []) ⊎ (0 < n)

-- the item at the front may not stand there, whatever comes behind it
pub record EndsBad (config : Configuration) (s : ReplayState) (n place : ℕ) (input : List ℕ) : Type 0 where
  pub ends : (more : List ℕ) → played_from step config s n place (input ++ more) [] ≡ record { state = s; ending = BadRecord place }

-- all replies were pushed, and more was pulled or the input is at its end
pub record HasPulled (left rest taken given : Option (List ℕ)) (before : List ℕ) (p : Player) (more : Bool) : Type 0 where
  pub is : IsAt left rest taken given p
  pub flushed : p.output ≡ []
  pub ended : more ≡ false → IsAtEnd rest × (p.input ≡ before)

-- whether bytes wait, once more were pulled where none did
pub record HasMore (left rest taken given : Option (List ℕ)) (p : Player) (more : Bool) : Type 0 where
  pub is : IsAt left rest taken given p
  pub some : more ≡ true → 0 < length p.input
  pub none : more ≡ false → IsAtEnd rest × (p.input ≡ []) × (p.output ≡ [])

-- the item at the front, if it is whole
abbrev pub LooksAt : List ℕ → Option Found → Type 0
LooksAt input (Some found) = read_item input ≡ Whole found.item found.used
LooksAt input None = read_item input ≡ Short

-- an item stands at the front, or the input is at its end between two items
abbrev pub IsFound : Option (List ℕ) → Player → Option Found → Type 0
IsFound rest p (Some found) = read_item p.input ≡ Whole found.item found.used
IsFound rest p None = IsAtEnd rest × (p.input ≡ []) × (p.output ≡ [])

pub record HasFound (left rest taken given : Option (List ℕ)) (p : Player) (found : Option Found) : Type 0 where
  pub is : IsAt left rest taken given p
  pub found_so : IsFound rest p found

-- an item was played, or the input is at its end between two items
pub record HasTurned (left rest taken given : Option (List ℕ)) (p : Player) (more : Bool) : Type 0 where
  pub is : IsAt left rest taken given p
  pub ended : more ≡ false → IsAtEnd rest × (p.input ≡ []) × (p.output ≡ [])
