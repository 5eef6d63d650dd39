use Rattle.std.proofs.Common.{◌≡◌, ◌++◌, take}
use Rattle.std.specs.Prelude.{flat_map}
use Rattle.copy_plan.specs.Spelling.{extent_bytes}
use Rattle.copy_plan.proofs.writing.append_extents.Given as goal

abbrev pub invariant-loop-extent : goal.invariant-loop-extent
invariant-loop-extent l = l.bytes ≡ l.initial.bytes ++ flat_map extent_bytes (take l.extent-index l.extents)
