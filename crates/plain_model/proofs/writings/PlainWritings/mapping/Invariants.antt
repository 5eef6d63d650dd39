use Rattle.std.proofs.Common.{◌≡◌, ◌≤◌, take}
use Rattle.std.specs.Prelude.{map}
use Rattle.plain_model.specs.inner.Amounts.{mapping}
use Rattle.plain_model.specs.inner.Writings.{writing_of}
use Rattle.plain_model.proofs.writings.PlainWritings.mapping.Given as goal

abbrev pub invariant-loop-writing : goal.invariant-loop-writing
invariant-loop-writing l = (l.mapping ≡ mapping (map writing_of (take l.writing-index l.writing-items))) × (l.mapping ≤ l.writing-index)
