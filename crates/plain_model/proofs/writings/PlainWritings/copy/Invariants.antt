use Rattle.std.proofs.Common.{◌≡◌, map, take}
use Rattle.plain_model.specs.inner.Writings.{writing_of}
use Rattle.plain_model.proofs.writings.PlainWritings.copy.Given as goal

abbrev pub invariant-loop-writing : goal.invariant-loop-writing
invariant-loop-writing l = l.copy ≡ map writing_of (take l.writing-index l.writing-items)
