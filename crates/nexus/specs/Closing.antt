-- A world that was closed
use Rattle.std.specs.Prelude.{◌≡◌, ◌≤◌, ℕ, ⊤, List, [], ◌∷◌, length, map, take, drop, Some, IfSome, true}
use Rattle.cm_base.specs.Units.{unit_of}
use Rattle.cm_history.specs.declared.act.Entry.{Entry}
use Rattle.cm_history.specs.Blocks.{mapped}
use Rattle.cm_history.specs.Folding.{live_in}
use Rattle.cm_history.specs.History.{past_of}
use Rattle.cm_history.specs.Record.{Record}
use Rattle.cm_history.specs.Members.{Each}
use Rattle.merged_history.specs.Merged.{merged}
use Rattle.merged_history.specs.Passes.{IsWhole}
use Rattle.merged_history.specs.Resumed.{IsResumed}
use Rattle.merged_history.specs.PassRules.{AreLonger}
use Rattle.recorder.specs.Recording.{FirstFits, with_more}
use Rattle.unit_gate.specs.declared.kin.RecorderFacts.{RecorderFacts}
use Rattle.unit_gate.specs.declared.kin.UnitKin.{UnitKin}
use Rattle.unit_gate.specs.declared.recorded_unit.ClosedUnit.{ClosedUnit}
use Rattle.nexus.specs.Worlds.{UnitGate}
use Rattle.nexus.specs.Roots.{RootView, AreAtMost}

-- the unit behind the gate has no recorder, nor were entries of it recorded before
pub record HasNoRecorder (gate : UnitGate) : Type 0 where
  pub kin : UnitKin
  pub has : gate.kin ≡ Some kin
  pub absent : kin.opening.absent ≡ true
  pub unfolded : kin.folded ≡ 0

-- no unit had an entry at the opening
abbrev pub AreNone : List ℕ → Type 0
AreNone openings = Each (λ n. n ≡ 0) openings

module _ {R : Type 0} (facts : R → RecorderFacts) (fits : R → Entry → Type 0) where
  -- What is left of a unit after this history: its later entries, of which the first may be recorded next, while the
  -- first ones were recorded; and the counts over the whole history.
  pub record IsLeftOf (kin : UnitKin) (history : List Entry) (left : ClosedUnit R) : Type 0 where
    pub few : left.folded ≤ length history
    -- without a recorder no entry is dropped
    pub unfolded : kin.opening.absent ≡ true → left.folded ≡ kin.folded
    pub kept : left.history.entries ≡ drop left.folded history
    pub absent : (facts left.recorder).absent ≡ kin.opening.absent
    pub front : (facts left.recorder).front ≡ kin.opening.front
    pub recorded : (facts left.recorder).recorded ≡ with_more kin.opening.recorded (take left.folded history)
    pub fits_next : FirstFits (fits left.recorder) left.history.entries
    pub steps : left.count.steps ≡ length history
    pub live : left.count.live ≡ live_in (past_of kin.config kin.unit history)
    pub mapped_is : left.count.mapped ≡ mapped (unit_of kin.config kin.unit) (past_of kin.config kin.unit history)

  -- what is left of the units behind the gates, each after its history
  abbrev pub AreLeftOf : List UnitGate → List (List Entry) → List (ClosedUnit R) → Type 0
  AreLeftOf [] [] [] = ⊤
  AreLeftOf (g ∷ gs) (h ∷ hs) (u ∷ us) = IfSome g.kin (λ kin. IsLeftOf kin h u) × AreLeftOf gs hs us
  AreLeftOf _ _ _ = ⊥

  abbrev pub marks_left : List (ClosedUnit R) → List (List ℕ)
  marks_left units = map (λ (u : ClosedUnit R). (facts u.recorder).faults ∷ u.folded ∷ u.late ∷ []) units

  abbrev pub kept_of : List (ClosedUnit R) → List (List Entry)
  kept_of units = map (λ (u : ClosedUnit R). u.history.entries) units

  -- The world is ended. The histories of its units, merged, are one legal history: its part on each unit is the unit's,
  -- and the entries of each actor in it are those of its joined passes, in the order of joining. Where units had entries
  -- at the opening, this is so of the later ones, and the history is legal but for the numbers of one actor's entries.
  pub record WasEnded (root : RootView) (units : List (ClosedUnit R)) : Type 0 where
    pub histories : List (List Entry)
    pub longer : AreLonger root.seen histories
    pub resumed : IsResumed root.config root.openings histories root.joined
    pub whole : AreNone root.openings → IsWhole root.config histories root.joined (merged histories)
    pub left : AreLeftOf root.gates histories units
    pub marks : AreAtMost root.marks (marks_left units)

  -- the world is closed: it is ended, and what its units have kept is merged
  pub record WasClosed (root : RootView) (units : List (ClosedUnit R)) (merged_kept : Record) : Type 0 where
    pub ended : WasEnded root units
    pub merged_is : merged_kept.entries ≡ merged (kept_of units)
    -- where no unit has a recorder, it is the merged history of all
    pub merged_whole : Each HasNoRecorder root.gates → merged_kept.entries ≡ merged ended.histories

-- want of memory: the root has seen the units' histories, and nothing else changed
pub record WasHandedBack (before after : RootView) : Type 0 where
  pub longer : AreLonger before.seen after.seen
  pub marks : AreAtMost before.marks after.marks
  pub root : after ≡ record before { seen = after.seen; marks = after.marks }
