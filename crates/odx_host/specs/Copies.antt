-- What a copy has done in the history of the units behind its port
use Rattle.std.specs.Prelude.{◌≡◌, ℕ, ◌≤◌, List, [], length, map, flat_map, find, slice_get, Option, Some, None, Result, Ok, Err, Bool, true, false, ◌==◌, All, Contains, IsTrue}
use Rattle.lba_ranges.specs.declared.ranges.Range.{Range}
use Rattle.lba_ranges.specs.Denoted.{blocks_of}
use Rattle.lba_ranges.specs.Writings.{Held, Writing, is_written, paired}
use Rattle.cm_history.specs.declared.act.Act.{Act}
use Rattle.cm_history.specs.declared.act.Actor.{Actor}
use Rattle.cm_history.specs.declared.act.Entry.{Entry}
use Rattle.cm_history.specs.Blocks.{held}
use Rattle.cm_history.specs.History.{past_of}
use Rattle.cm_history.specs.Laws.{past_at, place_on, deed_at}
use Rattle.cm_history.specs.Operations.{Operation, operations, written}
use Rattle.cm_history.specs.Tokens.{is_populate}
use Rattle.copy_plan.specs.Jobs.{CopyJob}
use Rattle.odx_host.specs.declared.fault.Copied.{Copied}
use Rattle.odx_host.specs.declared.fault.CopyFault.{CopyFault}
use Rattle.odx_host.specs.Talk.{Talked}
use Rattle.odx_host.specs.Worlds.{World, Passed}

-- an entry, and its place in the history
pub record Placed : Type 0 where
  pub place : ℕ
  pub entry : Entry

abbrev pub is_start : Act → Bool
is_start (Act.Start id background ranges rod) = true
is_start _ = false

-- the ranges of a Populate and of a Start
abbrev pub ranges_of : Act → List Range
ranges_of (Act.Populate id timeout ranges) = ranges
ranges_of (Act.Start id background ranges rod) = ranges
ranges_of _ = []

-- the blocks that it names, in order
abbrev pub blocks_in : Placed → List ℕ
blocks_in d = blocks_of (ranges_of d.entry.act)

-- the blocks of a Populate as they stood then
abbrev pub rod_of : World → Placed → List Held
rod_of v d = map (held (past_at v.config d.entry.unit v.history d.place)) (blocks_in d)

-- the operation that began at a place of its unit
abbrev pub begins_at : ℕ → Operation → Bool
begins_at place o = o.made.place == place

abbrev pub written_if : Option Operation → List Writing
written_if None = []
written_if (Some o) = written o

-- all that the operation of a Start has written
abbrev pub written_of : World → Placed → List Writing
written_of v d = written_if (find (begins_at (place_on d.entry.unit v.history d.place)) (operations (past_of v.config d.entry.unit v.history)))

-- an entry that the nexus made on this unit, behind the first `n` of the history
pub record IsOwn (v : World) (n unit : ℕ) (d : Placed) : Type 0 where
  pub late : n ≤ d.place
  pub at : slice_get v.history d.place ≡ Some d.entry
  pub actor : d.entry.actor ≡ Actor.Nexus v.nexus
  pub on_unit : d.entry.unit ≡ unit

-- the entry serves an operation that one of these Starts began
pub record ServesOne (v : World) (starts : List Placed) (place : ℕ) (e : Entry) : Type 0 where
  pub start : Placed
  pub own : Contains starts start
  pub serves : (deed_at v.config v.history place e).served ≡ Some (place_on e.unit v.history start.place)

-- behind the first `n` entries each one that writes a block of `to` serves one of these operations
abbrev pub IsAlone : CopyJob → World → ℕ → List Placed → Type 0
IsAlone job v n starts = (place : ℕ) (e : Entry) (block : ℕ) → n ≤ place → slice_get v.history place ≡ Some e → e.unit ≡ job.target
    → Contains (blocks_of job.to) block → is_written (deed_at v.config v.history place e).wrote block ≡ true → ServesOne v starts place e

-- The copy was done. Its Populates named the blocks of `from`, in order. Its writes gave the blocks of `to`, in order, what
-- those held at the Populate of their part; and unless others wrote there since it began, that is held there.
pub record HasCopied (job : CopyJob) (copied : Copied) (w v : World) : Type 0 where
  pub populates : List Placed
  pub starts : List Placed
  pub populated : length populates ≡ copied.populates
  pub begun : length starts ≡ copied.writes
  pub at_source : All (λ (d : Placed). IsOwn v (length w.history) job.source d × IsTrue (is_populate d.entry.act)) populates
  pub at_target : All (λ (d : Placed). IsOwn v (length w.history) job.target d × IsTrue (is_start d.entry.act)) starts
  pub from : flat_map blocks_in populates ≡ blocks_of job.from
  pub written : flat_map (written_of v) starts ≡ paired (blocks_of job.to) (flat_map (rod_of v) populates)
  pub held : IsAlone job v (length w.history) starts → map (held (past_of v.config job.target v.history)) (blocks_of job.to) ≡ flat_map (rod_of v) populates

-- units that tell what they do never tell bad data
abbrev pub Copies : CopyJob → Result Copied CopyFault → World → World → Type 0
Copies job (Ok copied) w v = HasCopied job copied w v
Copies job (Err (CopyFault.BadData step)) w v = ⊥
Copies job (Err fault) w v = Unit {0}

-- In every world in which the port may have been, it is now in one to which these requests led, and there the copy is done.
abbrev pub LeadsDone : CopyJob → Result Copied CopyFault → (World → Type 0) → List Talked → (World → Type 0) → Type 0
LeadsDone job result Was talk Is = (w : World) → Was w → (v : World) × Is v × Passed w talk v × Copies job result w v
