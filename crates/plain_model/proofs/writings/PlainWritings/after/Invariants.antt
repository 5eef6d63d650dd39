use Rattle.std.proofs.Common.{◌≡◌, map, take}
use Rattle.std.specs.Option.{option_copied}
use Rattle.lba_ranges.specs.Writings.{after}
use Rattle.plain_model.specs.inner.Writings.{writing_of}
use Rattle.plain_model.proofs.writings.PlainWritings.after.Given as goal

abbrev pub invariant-loop-writing : goal.invariant-loop-writing
invariant-loop-writing l =
    option_copied l.last ≡ after (map writing_of (take l.writing-index l.writing-items)) l.block (option_copied l.initial.last)
