use Rattle.std.proofs.Common.{◌≡◌, map, take, drop}
use Rattle.plain_model.specs.inner.Writings.{writing_of}
use Rattle.plain_model.proofs.writings.PlainWritings.part.Given as goal

abbrev pub invariant-loop-place : goal.invariant-loop-place
invariant-loop-place l = l.part ≡ take l.count (drop l.from (map writing_of (take l.place l.writing-items)))
