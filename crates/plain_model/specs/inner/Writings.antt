-- A writing of the plain answers, as a writing
use Rattle.lba_ranges.specs.Writings.{Writing}
use Rattle.plain_model.specs.declared.writings.PlainWriting.{PlainWriting}

abbrev pub writing_of : PlainWriting → Writing
writing_of w = record { block = w.block; held = w.held }
